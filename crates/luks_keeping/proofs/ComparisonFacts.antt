-- What is told and printed of the keyslots, one keyslot more.
use Rattle.std.proofs.Common.{◌≡◌, ◌⊎◌, ◌↔◌, inl, inr, ℕ, ◌+◌, ◌<◌, List, [], ◌∷◌, ◌++◌, true, false, IsTrue, length, take, get_or, zero, suc, ap, ◌∙◌, sym, refl, append_assoc, append-nil, arith}
use Rattle.std.proofs.lemmas.Bool.{and_from, and_left, and_parts, and_right, false≢true}
use Rattle.std.proofs.lemmas.List.{length-take-le, take_more}
use Rattle.luks_keeping.specs.ComparisonTexts.{are_alike, is_alike, is_current, keyslot_line, keyslot_lines, IsCurrent}
use Rattle.luks_keeping.specs.declared.comparison.Comparison.{Comparison}
use Rattle.luks_keeping.specs.declared.comparison.Keeping.{Keeping}
use Rattle.luks_keeping.specs.declared.comparison.Keeping.TheVariants.{Absent, Same}

-- ---- the lines

pub lines_more : (n : ℕ) (ks : List Keeping) (k : Keeping) → keyslot_lines n ks ++ keyslot_line (n + length ks) k ≡ keyslot_lines n (ks ++ k ∷ [])
lines_more n [] k = ap (λ m. keyslot_line m k) (omega arith) ∙ sym (append-nil (keyslot_line n k))
lines_more n (j ∷ ks) k =
    let count : n + length (j ∷ ks) ≡ (n + 1) + length ks = omega arith in
    append_assoc (keyslot_line n j) (keyslot_lines (n + 1) ks) (keyslot_line (n + length (j ∷ ks)) k)
    ∙ ap (λ m. keyslot_line n j ++ (keyslot_lines (n + 1) ks ++ keyslot_line m k)) count
    ∙ ap (λ l. keyslot_line n j ++ l) (lines_more (n + 1) ks k)

pub one_line_more : (ks : List Keeping) (n : ℕ) (d : Keeping) → n < length ks
    → keyslot_lines 0 (take n ks) ++ keyslot_line n (get_or ks n d) ≡ keyslot_lines 0 (take (n + 1) ks)
one_line_more ks n d lt =
    let long : length (take n ks) ≡ n = length-take-le n ks (omega (arith, lt)) in
    let here : 0 + length (take n ks) ≡ n = omega (arith, long) in
    ap (λ m. keyslot_lines 0 (take n ks) ++ keyslot_line m (get_or ks n d)) (sym here)
    ∙ lines_more 0 (take n ks) (get_or ks n d)
    ∙ ap (λ l. keyslot_lines 0 l) (sym (take_more ks n d lt))

-- ---- whether all are alike

pub alike_at : (ks : List Keeping) (n : ℕ) → are_alike ks ≡ true → n < length ks → is_alike (get_or ks n Absent) ≡ true
alike_at [] n all lt = (let no : ⊥ = omega (arith, lt) in absurd no)
alike_at (k ∷ ks) zero all lt = (and_parts (is_alike k) (are_alike ks) all).0
alike_at (k ∷ ks) (suc n) all lt = alike_at ks n (and_parts (is_alike k) (are_alike ks) all).1 (omega (arith, lt))

pub alike_of : (ks : List Keeping) → ((n : ℕ) → n < length ks → is_alike (get_or ks n Absent) ≡ true) → are_alike ks ≡ true
alike_of [] each = refl
alike_of (k ∷ ks) each = and_from (is_alike k) (are_alike ks) (each 0 (omega arith)) (alike_of ks (λ n lt. each (suc n) (omega (arith, lt))))

-- one that isn't
pub alike_fails : (ks : List Keeping) (n : ℕ) (d : Keeping) → n < length ks → is_alike (get_or ks n d) ≡ false → are_alike ks ≡ false
alike_fails [] n d lt off = (let no : ⊥ = omega (arith, lt) in absurd no)
alike_fails (k ∷ ks) zero d lt off = and_left (is_alike k) (are_alike ks) off
alike_fails (k ∷ ks) (suc n) d lt off = and_right (is_alike k) (are_alike ks) (alike_fails ks n d (omega (arith, lt)) off)

-- one more that is
alike_append : (ks : List Keeping) (k : Keeping) → are_alike ks ≡ true → is_alike k ≡ true → are_alike (ks ++ k ∷ []) ≡ true
alike_append [] k all is = and_from (is_alike k) true is refl
alike_append (j ∷ ks) k all is =
    let parts = and_parts (is_alike j) (are_alike ks) all in
    and_from (is_alike j) (are_alike (ks ++ k ∷ [])) parts.0 (alike_append ks k parts.1 is)

pub one_more_alike : (ks : List Keeping) (n : ℕ) (d : Keeping) → n < length ks → are_alike (take n ks) ≡ true → is_alike (get_or ks n d) ≡ true
    → are_alike (take (n + 1) ks) ≡ true
one_more_alike ks n d lt all is = ap are_alike (take_more ks n d lt) ∙ alike_append (take n ks) (get_or ks n d) all is

same_or_absent : (k : Keeping) → is_alike k ≡ true → (k ≡ Same) ⊎ (k ≡ Absent)
same_or_absent Absent is = inr refl
same_or_absent Same is = inl refl
same_or_absent other is = absurd (false≢true is)

alike_since : (k : Keeping) → (k ≡ Same) ⊎ (k ≡ Absent) → is_alike k ≡ true
alike_since k (inl e) = ap is_alike e
alike_since k (inr e) = ap is_alike e

pub current_each : (c : Comparison) → length c.keyslots ≡ 32 → IsTrue (is_current c) ↔ IsCurrent c
current_each c long = (
  λ all n low. same_or_absent (get_or c.keyslots n Absent) (alike_at c.keyslots n all (omega (arith, long, low))),
  λ each. alike_of c.keyslots (λ n lt. alike_since (get_or c.keyslots n Absent) (each n (omega (arith, long, lt)))),
)
