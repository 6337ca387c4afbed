-- The values of keyslots, one keyslot more.
use Rattle.std.proofs.Common.{◌≡◌, ℕ, ◌+◌, ◌<◌, List, [], ◌∷◌, ◌++◌, length, take, get_or, ap, ◌∙◌, sym, arith}
use Rattle.std.proofs.lemmas.List.{length-take-le, take_more}
use Rattle.luks1_header.specs.declared.luks1.Luks1Common.{Luks1Common}
use Rattle.luks1_header.specs.declared.luks1.Luks1Slot.{Luks1Slot}
use Rattle.luks_show.specs.Luks1Value.{slot_value, slot_values}

slot_values_more : (c : Luks1Common) (n : ℕ) (ss : List Luks1Slot) (s : Luks1Slot)
    → slot_values c n ss ++ slot_value c (n + length ss) s ∷ [] ≡ slot_values c n (ss ++ s ∷ [])
slot_values_more c n [] s = ap (λ k. slot_value c k s ∷ []) (omega arith)
slot_values_more c n (t ∷ ss) s =
    let count : n + length (t ∷ ss) ≡ (n + 1) + length ss = omega arith in
    ap (λ k. slot_value c n t ∷ (slot_values c (n + 1) ss ++ slot_value c k s ∷ [])) count
    ∙ ap (λ l. slot_value c n t ∷ l) (slot_values_more c (n + 1) ss s)

pub one_slot_more : (c : Luks1Common) (ss : List Luks1Slot) (n : ℕ) (d : Luks1Slot) → n < length ss
    → slot_values c 0 (take n ss) ++ slot_value c n (get_or ss n d) ∷ [] ≡ slot_values c 0 (take (n + 1) ss)
one_slot_more c ss n d lt =
    let long : length (take n ss) ≡ n = length-take-le n ss (omega (arith, lt)) in
    let here : 0 + length (take n ss) ≡ n = omega (arith, long) in
    ap (λ k. slot_values c 0 (take n ss) ++ slot_value c k (get_or ss n d) ∷ []) (sym here)
    ∙ slot_values_more c 0 (take n ss) (get_or ss n d)
    ∙ ap (λ l. slot_values c 0 l) (sym (take_more ss n d lt))
