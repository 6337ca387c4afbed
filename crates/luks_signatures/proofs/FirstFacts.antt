-- The first of some rows is one.
use Rattle.std.proofs.Common.{◌≡◌, ℕ, List, [], ◌∷◌, ◌++◌, Option, Some, None, refl, sym, ap, ◌∙◌, subst}
use Rattle.luks_signatures.specs.Signatures.{Finds, HasNone, IsFirst, IsIn, Row}
use Rattle.luks_signatures.specs.declared.other_use.OtherUse.{OtherUse}

-- where none of the rows has its mark there, none of them is a row whose mark is
none-among : (v : List ℕ) (before after : List Row) (row : Row) → HasNone v (before ++ (row ∷ after)) → IsIn v row.mark → ⊥
none-among v [] after row none here = none.0 here
none-among v (r ∷ before) after row none here = none-among v before after row none.1 here

-- two rows that are both the first
one-first : (v : List ℕ) (before before' after after' : List Row) (row row' : Row) → before ++ (row ∷ after) ≡ before' ++ (row' ∷ after')
    → HasNone v before → HasNone v before' → IsIn v row.mark → IsIn v row'.mark → row ≡ row'
one-first v [] [] after after' row row' same none none' here here' = cc
one-first v [] (r ∷ before') after after' row row' same none none' here here' =
    let is : row ≡ r = cc in
    absurd (none'.0 (subst (λ (w : Row). IsIn v w.mark) is here))
one-first v (r ∷ before) [] after after' row row' same none none' here here' =
    let is : row' ≡ r = cc in
    absurd (none.0 (subst (λ (w : Row). IsIn v w.mark) is here'))
one-first v (r ∷ before) (r' ∷ before') after after' row row' same none none' here here' =
    let rest : before ++ (row ∷ after) ≡ before' ++ (row' ∷ after') = cc in
    one-first v before before' after after' row row' rest none.1 none'.1 here here'

pub finds-one : (rows : List Row) (v : List ℕ) (a b : Option OtherUse) → Finds rows v a → Finds rows v b → a ≡ b
finds-one rows v None None none none' = refl
finds-one rows v None (Some b) none first =
    absurd (none-among v first.before first.after first.row (subst (HasNone v) first.in_order none) first.is_in)
finds-one rows v (Some a) None first none =
    absurd (none-among v first.before first.after first.row (subst (HasNone v) first.in_order none) first.is_in)
finds-one rows v (Some a) (Some b) first first' =
    let one : first.row ≡ first'.row = one-first v first.before first'.before first.after first'.after first.row first'.row
    (sym first.in_order ∙ first'.in_order) first.none_before first'.none_before first.is_in first'.is_in in
    ap Some (sym first.shows_first ∙ ap (λ (r : Row). r.shows) one ∙ first'.shows_first)
