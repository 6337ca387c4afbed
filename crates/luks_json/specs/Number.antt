-- The names of keyslots, segments, digests and tokens.
use Rattle.std.specs.Prelude.{ℕ, ◌+◌, ◌-◌, ◌*◌, ◌/◌, ◌%◌, ◌==◌, ◌&&◌, ◌||◌, nat_lt, nat_le, cond, Bool, List, [], ◌∷◌, Option, Some, None, is_some, if◌then◌else◌}

-- the digits of a number below 100
abbrev pub number_text : ℕ → List ℕ
number_text n = cond (nat_lt n 10) ((48 + n) ∷ []) ((48 + n / 10) ∷ (48 + n % 10) ∷ [])

abbrev pub is_digit : ℕ → Bool
is_digit c = nat_le 48 c && nat_le c 57

-- "10" to "31"
abbrev pub are_two : ℕ → ℕ → Bool
are_two a b = (nat_le 49 a && nat_le a 50 && is_digit b) || (a == 51 && nat_le 48 b && nat_le b 49)

-- LUKS2 1.1, section 3.1: objects are named by the decimal digits of a number, which is below 32, without leading zeros.
abbrev pub number_of : List ℕ → Option ℕ
number_of [] = None
number_of (a ∷ []) = if is_digit a then Some (a - 48) else None
number_of (a ∷ b ∷ []) =
    if are_two a b then Some (10 * (a - 48) + (b - 48)) else None
number_of (a ∷ b ∷ c ∷ rest) = None

abbrev pub is_name : List ℕ → Bool
is_name text = is_some (number_of text)
