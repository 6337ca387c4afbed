-- What is said of the keyslots that restoring changes, one keyslot more.
use Rattle.std.proofs.Common.{◌≡◌, ℕ, ◌+◌, ◌<◌, List, [], ◌∷◌, ◌++◌, length, take, get_or, ap, ◌∙◌, sym, append_assoc, append-nil, arith}
use Rattle.std.proofs.lemmas.List.{length-take-le, take_more}
use Rattle.luks_keeping.specs.declared.comparison.Keeping.{Keeping}
use Rattle.luks_keeping_commands.specs.Differences.{difference_line, difference_lines}

-- behind those before it
lines_more : (volume : List ℕ) (n : ℕ) (ks : List Keeping) (k : Keeping)
    → difference_lines volume n ks ++ difference_line volume (n + length ks) k ≡ difference_lines volume n (ks ++ k ∷ [])
lines_more volume n [] k = ap (λ m. difference_line volume m k) (omega arith) ∙ sym (append-nil (difference_line volume n k))
lines_more volume n (j ∷ ks) k =
    let count : n + length (j ∷ ks) ≡ (n + 1) + length ks = omega arith in
    append_assoc (difference_line volume n j) (difference_lines volume (n + 1) ks) (difference_line volume (n + length (j ∷ ks)) k)
    ∙ ap (λ m. difference_line volume n j ++ (difference_lines volume (n + 1) ks ++ difference_line volume m k)) count
    ∙ ap (λ l. difference_line volume n j ++ l) (lines_more volume (n + 1) ks k)

-- the one of this number
pub one_line_more : (volume : List ℕ) (ks : List Keeping) (n : ℕ) (d : Keeping) → n < length ks
    → difference_lines volume 0 (take n ks) ++ difference_line volume n (get_or ks n d) ≡ difference_lines volume 0 (take (n + 1) ks)
one_line_more volume ks n d lt =
    let long : length (take n ks) ≡ n = length-take-le n ks (omega (arith, lt)) in
    let here : 0 + length (take n ks) ≡ n = omega (arith, long) in
    ap (λ m. difference_lines volume 0 (take n ks) ++ difference_line volume m (get_or ks n d)) (sym here)
    ∙ lines_more volume 0 (take n ks) (get_or ks n d)
    ∙ ap (λ l. difference_lines volume 0 l) (sym (take_more ks n d lt))
