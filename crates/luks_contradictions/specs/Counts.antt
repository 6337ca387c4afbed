-- How many there are.
use Rattle.std.specs.Prelude.{ℕ, zero, suc, List, Bool, if◌then◌else◌}
use Rattle.serde_json.specs.Data.{Data}
use Rattle.luks_underway.specs.Sides.{is_named}

-- how many numbers below `n` the test holds of
abbrev pub count_below : (ℕ → Bool) → ℕ → ℕ
count_below test zero = zero
count_below test (suc n) = if test n then suc (count_below test n) else count_below test n

-- how many of the digests 0 to 31 have the name of the object in their array
abbrev pub digests_of : Data → List ℕ → ℕ → ℕ
digests_of j list n = count_below (is_named j list n) 32
