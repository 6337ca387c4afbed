-- The uuid of a new volume: random, of version 4 (RFC 9562, 5.4), its text in lower case (RFC 9562,
-- 4).
use Rattle.std.specs.Prelude.{ℕ, ◌+◌, ◌%◌, List, slice_index, slice_set}
use Rattle.uuid.specs.Text.{hyphenated_text, lower}

-- the four high bits of byte 6 are the version, 0100, and the two high bits of byte 8 the variant,
-- 10; all other bits are as they were
abbrev pub version_4 : List ℕ → List ℕ
version_4 random =
    slice_set (slice_set random 8 (slice_index random 8 % 0x40 + 0x80))
    6 (slice_index random 6 % 0x10 + 0x40)

-- the text, 36 bytes
abbrev pub uuid_text : List ℕ → List ℕ
uuid_text random = hyphenated_text lower (version_4 random)
