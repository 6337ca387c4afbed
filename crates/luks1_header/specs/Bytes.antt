-- Fields of a header: the bytes at a place, and what they say. Numbers are big-endian.
use Rattle.std.specs.Prelude.{◌≡◌, ℕ, List, Bool, true, ◌==◌, ◌&&◌, ◌||◌, ◌<◌, length, slice_index, if◌then◌else◌, nat_le}
use Rattle.byteorder.specs.Endian.{big_number}
use Rattle.luks_area.specs.Ranges.{part}
use Rattle.luks_area.specs.Text.{text_of, is_plain}

-- the number in the l bytes of v at the place o
abbrev pub number_at : List ℕ → ℕ → ℕ → ℕ
number_at v o l = big_number l (part v o l)

-- the text in the l bytes of v at the place o
abbrev pub text_at : List ℕ → ℕ → ℕ → List ℕ
text_at v o l = text_of (part v o l)

-- the text there holds only bytes from 0x20 to 0x7E
abbrev pub HoldsText : List ℕ → ℕ → ℕ → Type 0
HoldsText v o l = is_plain (text_at v o l) ≡ true

-- the byte is a hexadecimal digit of either letter case
abbrev pub is_hexadecimal : ℕ → Bool
is_hexadecimal c =
    (nat_le 0x30 c && nat_le c 0x39) || (nat_le 0x61 c && nat_le c 0x66) || (nat_le 0x41 c && nat_le c 0x46)

-- the hyphens of a uuid's text are at these places (RFC 9562, 4)
abbrev pub is_hyphen_place : ℕ → Bool
is_hyphen_place k = (k == 8) || (k == 13) || (k == 18) || (k == 23)

-- the byte may be at the place k of a uuid's text
abbrev pub is_uuid_byte : ℕ → ℕ → Bool
is_uuid_byte k c = if is_hyphen_place k then c == 0x2D else is_hexadecimal c

-- the text is that of a uuid: 32 hexadecimal digits with hyphens at the places 8, 13, 18 and 23
pub record IsUuid (text : List ℕ) : Type 0 where
  pub long : length text ≡ 36
  pub digits : (k : ℕ) → k < 36 → is_uuid_byte k (slice_index text k) ≡ true
