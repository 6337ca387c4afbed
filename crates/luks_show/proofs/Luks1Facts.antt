-- The lines of keyslots, one keyslot more.
use Rattle.std.proofs.Common.{◌≡◌, ℕ, ◌+◌, ◌<◌, List, [], ◌∷◌, ◌++◌, length, take, get_or, ap, ◌∙◌, sym, refl, append_assoc, append-nil, arith, codes}
use Rattle.std.proofs.lemmas.List.{length-take-le, take_more}
use Rattle.luks1_header.specs.declared.luks1.Luks1Slot.{Luks1Slot}
use Rattle.luks_show.specs.Luks1Lines.{slot_lines}
use Rattle.luks_show.specs.Texts.{line}

pub slot_lines_more : (listed : ℕ → Luks1Slot → List ℕ) (n : ℕ) (ss : List Luks1Slot) (s : Luks1Slot)
    → slot_lines listed n ss ++ listed (n + length ss) s ≡ slot_lines listed n (ss ++ s ∷ [])
slot_lines_more listed n [] s = ap (λ k. listed k s) (omega arith) ∙ sym (append-nil (listed n s))
slot_lines_more listed n (t ∷ ss) s =
    let count : n + length (t ∷ ss) ≡ (n + 1) + length ss = omega arith in
    append_assoc (listed n t) (slot_lines listed (n + 1) ss) (listed (n + length (t ∷ ss)) s)
    ∙ ap (λ k. listed n t ++ (slot_lines listed (n + 1) ss ++ listed k s)) count
    ∙ ap (λ l. listed n t ++ l) (slot_lines_more listed (n + 1) ss s)

-- after the text `front`
pub one_slot_more : (listed : ℕ → Luks1Slot → List ℕ) (front : List ℕ) (ss : List Luks1Slot) (n : ℕ) (d : Luks1Slot) → n < length ss
    → (front ++ slot_lines listed 0 (take n ss)) ++ listed n (get_or ss n d) ≡ front ++ slot_lines listed 0 (take (n + 1) ss)
one_slot_more listed front ss n d lt =
    let long : length (take n ss) ≡ n = length-take-le n ss (omega (arith, lt)) in
    let here : 0 + length (take n ss) ≡ n = omega (arith, long) in
    append_assoc front (slot_lines listed 0 (take n ss)) (listed n (get_or ss n d))
    ∙ ap (λ k. front ++ (slot_lines listed 0 (take n ss) ++ listed k (get_or ss n d))) (sym here)
    ∙ ap (λ l. front ++ l) (slot_lines_more listed 0 (take n ss) (get_or ss n d))
    ∙ ap (λ l. front ++ slot_lines listed 0 l) (sym (take_more ss n d lt))

-- the lines before the keyslots, piece by piece
pub joined : (u n m k h p : List ℕ) →
    line (codes "luks1") ++ (codes "uuid " ++ line (u ++ (line (codes "") ++ (codes "cipher " ++ (n ++ (codes "-" ++ (m ++ (codes " key-bytes " ++ (k ++ (line (codes "") ++ (codes "hash " ++ (h ++ (line (codes "") ++ (codes "payload " ++ p))))))))))))))
    ≡ line (codes "luks1") ++ (codes "uuid " ++ line u) ++ (codes "cipher " ++ n ++ codes "-" ++ m ++ codes " key-bytes " ++ line k) ++ (codes "hash " ++ line h) ++ (codes "payload " ++ line p)
joined u n m k h p = simp append_assoc refl
