-- Rows of the program's table, one after another.
use Rattle.std.proofs.Common.{◌≡◌, ℕ, ◌+◌, ◌<◌, ◌≤◌, List, [], ◌∷◌, ◌++◌, Bool, true, false, length, take, drop, get_or, refl, sym, ap, ◌∙◌, arith, subst, IsTrue, add-one, suc, zero}
use Rattle.std.specs.Prelude.{map, ◌&&◌}
use Rattle.std.proofs.lemmas.List.{take-append-drop}
use Rattle.std.proofs.Math.Seq.{drop-cons}
use Rattle.luks_signatures.specs.Signatures.{HasNone, IsFirst, IsIn}
use Rattle.luks_signatures.specs.Views.{row_of}
use Rattle.luks_signatures.specs.declared.table.Row.{Row as TableRow}

-- one more row without its mark there
none_more_suc : (v : List ℕ) (rows : List TableRow) (i : ℕ) (d : TableRow) → i < length rows → HasNone v (map row_of (take i rows))
    → (IsIn v (row_of (get_or rows i d)).mark → ⊥) → HasNone v (map row_of (take (suc i) rows))
none_more_suc v [] i d below none here = absurd (omega (arith, below))
none_more_suc v (r ∷ rows) zero d below none here = (here, tt)
none_more_suc v (r ∷ rows) (suc i) d below none here = (none.0, none_more_suc v rows i d (omega (arith, below)) none.1 here)

pub none_more : (v : List ℕ) (rows : List TableRow) (i : ℕ) (d : TableRow) → i < length rows → HasNone v (map row_of (take i rows))
    → (IsIn v (row_of (get_or rows i d)).mark → ⊥) → HasNone v (map row_of (take (i + 1) rows))
none_more v rows i d below none here = rw (add-one i) (none_more_suc v rows i d below none here)

-- a row among the others
row_among : (rows : List TableRow) (i : ℕ) (d : TableRow) → i < length rows
    → map row_of rows ≡ map row_of (take i rows) ++ (row_of (get_or rows i d) ∷ map row_of (drop (suc i) rows))
row_among [] i d below = absurd (omega (arith, below))
row_among (r ∷ rows) zero d below = refl
row_among (r ∷ rows) (suc i) d below = ap (λ rs. row_of r ∷ rs) (row_among rows i d (omega (arith, below)))

-- it is the first where none of those before has its mark there
pub first_found : (v : List ℕ) (rows : List TableRow) (i : ℕ) (d : TableRow) → i < length rows → HasNone v (map row_of (take i rows))
    → IsIn v (row_of (get_or rows i d)).mark → IsFirst (map row_of rows) v (get_or rows i d).shows
first_found v rows i d below none here = record {
  before = map row_of (take i rows);
  row = row_of (get_or rows i d);
  after = map row_of (drop (suc i) rows);
  in_order = row_among rows i d below;
  none_before = none;
  is_in = here;
  shows_first = refl;
}
