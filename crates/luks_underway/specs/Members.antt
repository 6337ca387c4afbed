-- Values of members that are in metadata in the midst of something alone (LUKS2 On-Disk Format 1.1.3, 3.2.3 and 4.10; where it is silent, cryptsetup 2.6).
use Rattle.std.specs.Prelude.{ℕ, List, [], ◌∷◌, Bool, ◌&&◌, ◌==◌, ◌%◌, nat_lt, Option, option_and_then}
use Rattle.std.specs.List.{list_any}
use Rattle.serde_json.specs.Data.{Data}
use Rattle.luks_rules.specs.Reading.{number_in, decimal_in, kept}

-- the powers of two from 512 to 2147483648
abbrev pub units : List ℕ
units = 512 ∷ 1024 ∷ 2048 ∷ 4096 ∷ 8192 ∷ 16384 ∷ 32768 ∷ 65536 ∷ 131072 ∷ 262144 ∷ 524288 ∷ 1048576 ∷ 2097152 ∷ 4194304 ∷ 8388608 ∷ 16777216
    ∷ 33554432 ∷ 67108864 ∷ 134217728 ∷ 268435456 ∷ 536870912 ∷ 1073741824 ∷ 2147483648 ∷ []

-- the size of a unit of which a checksum is taken
abbrev pub is_unit : ℕ → Bool
is_unit n = list_any (λ unit. unit == n) units

abbrev pub unit_in : Option Data → Option ℕ
unit_in v = option_and_then (kept is_unit) (number_in 512 2147483648 v)

-- by how many bytes data moves: whole sectors, one at least
abbrev pub is_shift : ℕ → Bool
is_shift n = nat_lt 0 n && n % 512 == 0

abbrev pub shift_in : Option Data → Option ℕ
shift_in v = option_and_then (kept is_shift) (decimal_in v)

-- a decimal text for a number above 0
abbrev pub positive_in : Option Data → Option ℕ
positive_in v = option_and_then (kept (λ n. nat_lt 0 n)) (decimal_in v)
