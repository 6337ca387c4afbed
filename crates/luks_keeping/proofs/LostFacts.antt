-- What is printed of the keyslots that are lost, one keyslot more.
use Rattle.std.proofs.Common.{◌≡◌, ℕ, ◌+◌, ◌<◌, List, [], ◌∷◌, ◌++◌, Bool, length, take, get_or, ap, ◌∙◌, sym, append_assoc, append-nil, arith}
use Rattle.std.proofs.lemmas.List.{length-take-le, take_more}
use Rattle.luks_keeping.specs.ComparisonTexts.{keyslot_line}
use Rattle.luks_keeping.specs.LostTexts.{lost_lines, lost_state}

-- a line behind the lines
lost_more : (n : ℕ) (bs : List Bool) (b : Bool) → lost_lines n bs ++ keyslot_line (n + length bs) (lost_state b) ≡ lost_lines n (bs ++ b ∷ [])
lost_more n [] b = ap (λ m. keyslot_line m (lost_state b)) (omega arith) ∙ sym (append-nil (keyslot_line n (lost_state b)))
lost_more n (c ∷ bs) b =
    let count : n + length (c ∷ bs) ≡ (n + 1) + length bs = omega arith in
    append_assoc (keyslot_line n (lost_state c)) (lost_lines (n + 1) bs) (keyslot_line (n + length (c ∷ bs)) (lost_state b))
    ∙ ap (λ m. keyslot_line n (lost_state c) ++ (lost_lines (n + 1) bs ++ keyslot_line m (lost_state b))) count
    ∙ ap (λ l. keyslot_line n (lost_state c) ++ l) (lost_more (n + 1) bs b)

-- the line of the next keyslot
pub one_lost_more : (bs : List Bool) (n : ℕ) (d : Bool) → n < length bs → lost_lines 0 (take n bs) ++ keyslot_line n (lost_state (get_or bs n d)) ≡ lost_lines 0 (take (n + 1) bs)
one_lost_more bs n d lt =
    let long : length (take n bs) ≡ n = length-take-le n bs (omega (arith, lt)) in
    let here : 0 + length (take n bs) ≡ n = omega (arith, long) in
    ap (λ m. lost_lines 0 (take n bs) ++ keyslot_line m (lost_state (get_or bs n d))) (sym here)
    ∙ lost_more 0 (take n bs) (get_or bs n d)
    ∙ ap (λ l. lost_lines 0 l) (sym (take_more bs n d lt))
