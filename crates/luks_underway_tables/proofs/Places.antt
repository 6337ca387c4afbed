-- Sectors and lines of the segments below one.
use Rattle.std.proofs.Common.{◌≡◌, ℕ, ◌+◌, [], ◌++◌, refl, add-one}
use Rattle.serde_json.specs.Data.{Data}
use Rattle.luks_underway_tables.specs.Table.{part_listed, parts_below, place_below, sectors_at}

pub place_none : (end : ℕ) (j : Data) → place_below end j 0 ≡ 0
unfolding place_below
place_none end j = refl

pub place_more : (end : ℕ) (j : Data) (n : ℕ) → place_below end j n + sectors_at end j n ≡ place_below end j (n + 1)
unfolding place_below
place_more end j n = rw (add-one n) refl

pub parts_none : (end : ℕ) (j : Data) → parts_below end j 0 ≡ []
unfolding parts_below
parts_none end j = refl

pub parts_more : (end : ℕ) (j : Data) (n : ℕ) → parts_below end j n ++ part_listed end j n (place_below end j n) ≡ parts_below end j (n + 1)
unfolding parts_below
parts_more end j n = rw (add-one n) refl
