-- Rows in the order of a sort.
use Rattle.std.proofs.Common.{◌≡◌, ℕ, ◌≤◌, arith, false}
use Rattle.std.proofs.lemmas.Grind.{common_steps}
use Rattle.std.specs.Ordering.{is_lt, nat_cmp, ordering_then}
use Rattle.luks_area.specs.First.{NotAfter}
use Rattle.luks_map.specs.declared.row.Row.{Row}
use Rattle.luks_map.specs.Rows.{place, rank, row_key}

-- what isn't less by place and then by rank stands not after
pub not_after : (r s : Row) → is_lt (ordering_then (nat_cmp (place s) (place r)) (nat_cmp (rank s) (rank r))) ≡ false → NotAfter (row_key r) (row_key s)
not_after r s h = by (place r) (place s) (rank r) (rank s) h
  where
    by : (p q m n : ℕ) → is_lt (ordering_then (nat_cmp q p) (nat_cmp n m)) ≡ false → (p ≤ q) × (p ≡ q → (m ≤ n) × (m ≡ n → Unit {0}))
    by p q m n g = grind (arith, common_steps)
