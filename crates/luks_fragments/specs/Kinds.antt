-- When an object is a keyslot, a digest or a segment.
use Rattle.std.specs.Prelude.{◌≡◌, ℕ, ◌+◌, ◌*◌, ◌≤◌, List, codes, length, Some, true}
use Rattle.serde_json.specs.Data.{Data}
use Rattle.luks_area.specs.Text.{is_plain}
use Rattle.luks_rules.specs.Accepted.{IsMeta}
use Rattle.luks_rules.specs.Faults.{member_at, object_at}
use Rattle.luks_rules.specs.Reading.{decimal_in}
use Rattle.luks_rules.specs.declared.table.Member.TheVariants.{Offset, Size}
use Rattle.luks_rules.specs.declared.table.Outer.TheVariants.{Area}
use Rattle.luks_rules.specs.declared.table.Section.TheVariants.{Keyslots}
use Rattle.luks_fragments.specs.Made.{area_of, made_text, region_start}
use Rattle.luks_fragments.specs.declared.kinds.Kind.{Kind}
use Rattle.luks_fragments.specs.declared.kinds.Kind.TheVariants as kind

-- ---- the frame: a keyslot, a digest and a segment that are sound, of which one is exchanged

abbrev pub some_keyslot : List ℕ
some_keyslot = codes "{\"type\":\"luks2\",\"key_size\":64,\"af\":{\"type\":\"luks1\",\"stripes\":4000,\"hash\":\"sha256\"},\"area\":{\"type\":\"raw\",\"offset\":\"32768\",\"size\":\"258048\",\"encryption\":\"aes-xts-plain64\",\"key_size\":64},\"kdf\":{\"type\":\"pbkdf2\",\"hash\":\"sha256\",\"iterations\":1000,\"salt\":\"AAAA\"}}"

abbrev pub some_digest : List ℕ
some_digest = codes "{\"type\":\"pbkdf2\",\"hash\":\"sha256\",\"iterations\":1000,\"salt\":\"AAAA\",\"digest\":\"AAAAAAAAAAAAAAAAAAAAAAAAAAAA\"}"

abbrev pub some_segment : List ℕ
some_segment = codes "{\"type\":\"crypt\",\"offset\":\"16777216\",\"size\":\"dynamic\",\"iv_tweak\":\"0\",\"encryption\":\"aes-xts-plain64\",\"sector_size\":512}"

-- the region of key areas is as large as it may be said
abbrev pub widest : ℕ
widest = 18446744073709551615

-- the metadata with the object in that place
abbrev pub framed : Kind → List ℕ → List ℕ
framed kind.Keyslot object = made_text widest 0 0 object some_digest some_segment
framed kind.Digest object = made_text widest 0 0 some_keyslot object some_segment
framed kind.Segment object = made_text widest 0 0 some_keyslot some_digest object

-- ---- kinds

-- what is looked at closer: it has no fewer bytes than any of the three, and each is printable
pub record IsLikely (object : List ℕ) : Type 0 where
  pub long : 32 ≤ length object
  pub plain : is_plain object ≡ true

-- the metadata of the frame with the object is accepted
pub record IsAcceptedAs (k : Kind) (object : List ℕ) : Type 0 where
  pub value : Data
  pub is : IsMeta (area_of (framed k object)) value

pub record HasKind (object : List ℕ) (k : Kind) : Type 0 where
  pub likely : IsLikely object
  pub accepted : IsAcceptedAs k object

-- ---- the size of the region that a keyslot needs

-- the least number of blocks of 4096 bytes behind the header in which the key area of keyslot 0 lies
pub record HasRegion (value : Data) (bytes : ℕ) : Type 0 where
  pub keyslot : Data
  pub is : object_at value Keyslots 0 ≡ Some keyslot
  pub start : ℕ
  pub begins : decimal_in (member_at keyslot Area Offset) ≡ Some start
  pub size : ℕ
  pub sized : decimal_in (member_at keyslot Area Size) ≡ Some size
  pub blocks : ℕ
  pub of_blocks : bytes ≡ 4096 * blocks
  pub enough : start + size ≤ region_start + bytes
  pub least : (fewer : ℕ) → start + size ≤ region_start + 4096 * fewer → blocks ≤ fewer

pub record NeedsRegion (object : List ℕ) (bytes : ℕ) : Type 0 where
  pub value : Data
  pub accepted : IsMeta (area_of (framed kind.Keyslot object)) value
  pub region : HasRegion value bytes
