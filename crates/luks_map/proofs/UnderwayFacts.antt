-- The rows of objects, one number more.
use Rattle.std.proofs.Common.{◌≡◌, ℕ, ◌+◌, ◌≤◌, List, [], ◌∷◌, ◌++◌, Option, Some, None, length, refl, ap, ap₂, ◌∙◌, append_assoc, arith, add-one, length-append}
use Rattle.luks_map.specs.declared.row.Row.{Row}
use Rattle.luks_map.specs.UnderwayRows.{row_list, rows_below}

pub rows_none : (row : ℕ → Option Row) → rows_below row 0 ≡ []
unfolding rows_below
rows_none row = refl

rows_more : (row : ℕ → Option Row) (n : ℕ) → rows_below row n ++ row_list (row n) ≡ rows_below row (n + 1)
unfolding rows_below
rows_more row n = rw (add-one n) refl

-- behind the rows `front`
pub next_row : (front rows new : List Row) (row : ℕ → Option Row) (n : ℕ) (o : Option Row) → rows ≡ front ++ rows_below row n → o ≡ row n
    → new ≡ rows ++ row_list o → new ≡ front ++ rows_below row (n + 1)
next_row front rows new row n o before this is =
    is ∙ ap₂ (λ l r. l ++ row_list r) before this ∙ append_assoc front (rows_below row n) (row_list (row n)) ∙ ap (λ l. front ++ l) (rows_more row n)

row_list_length : (o : Option Row) → length (row_list o) ≤ 1
row_list_length None = omega arith
row_list_length (Some r) = omega arith

pub one_longer : (rows new : List Row) (o : Option Row) → new ≡ rows ++ row_list o → length new ≤ length rows + 1
one_longer rows new o is =
    let same : length new ≡ length (rows ++ row_list o) = ap length is in
    let sum : length (rows ++ row_list o) ≡ length rows + length (row_list o) = length-append rows (row_list o) in
    let most = row_list_length o in
    omega (arith, same, sum, most)
