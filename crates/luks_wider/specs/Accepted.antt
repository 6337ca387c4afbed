-- When the metadata of a JSON area is accepted by the wider reading, said of its value. If nothing is under way that is said by `luks_rules` alone.
use Rattle.std.specs.Prelude.{◌≡◌, ◌⊎◌, ℕ, ◌+◌, ◌*◌, ◌≤◌, List, codes, length, true, false, Some}
use Rattle.serde_json.specs.Data.{Data, Items}
use Rattle.serde_json.specs.Written.{has_float}
use Rattle.luks_area.specs.Sectors.{rounded_to_sectors}
use Rattle.luks_json.specs.Arrays.{all_there, has_repeat}
use Rattle.luks_rules.specs.declared.table.Section.{Section}
use Rattle.luks_rules.specs.declared.table.Section.TheVariants.{Config, Digests, Keyslots, Segments, Tokens}
use Rattle.luks_rules.specs.declared.table.Outer.TheVariants as outer
use Rattle.luks_rules.specs.Accepted.{HasNames, HasObject, IsMeta, IsRead}
use Rattle.luks_rules.specs.Faults.{is_section, section_at}
use Rattle.luks_rules.specs.MetaFault.{Json}
use Rattle.luks_rules.specs.Reading.{number_in, decimal_in}
use Rattle.luks_rules.specs.Sizes.{inside_at, json_size, keyslots_size, region_start}
use Rattle.luks_rules.specs.Table.{config_rows, digest_rows, keyslot_rows, token_rows}
use Rattle.luks_contradictions.specs.Consistent.{IsConsistent}
use Rattle.luks_contradictions.specs.Counts.{digests_of}
use Rattle.luks_underway.specs.Kinds.{is_hot, is_reencrypt, IsUnderWay, needs_digest}
use Rattle.luks_underway.specs.Requirements.{are_requirements}
use Rattle.luks_underway.specs.Segments.{IsWideSegment}
use Rattle.luks_underway.specs.Slots.{IsWideKeyslot}

-- each name in an array is that of an object that is there, and is in it once; a keyslot with a key is of one digest, the one that says what is
-- under way of one at most; a segment that is encrypted is of one, and the part in hand of one or two
pub record WideResolves (j : Data) : Type 0 where
  pub there : (s target : Section) (list : Items) → HasNames j s target list → all_there (section_at j target) list ≡ true
  pub once : (s target : Section) (list : Items) → HasNames j s target list → has_repeat list ≡ false
  pub keyslots : (n : ℕ) (d : Data) → HasObject j Keyslots n d → is_reencrypt d ≡ false → digests_of j (codes "keyslots") n ≡ 1
  pub reencryption : (n : ℕ) (d : Data) → HasObject j Keyslots n d → is_reencrypt d ≡ true → digests_of j (codes "keyslots") n ≤ 1
  pub segments : (n : ℕ) (d : Data) → HasObject j Segments n d → needs_digest d ≡ true → is_hot d ≡ false → digests_of j (codes "segments") n ≡ 1
  pub hot : (n : ℕ) (d : Data) → HasObject j Segments n d → needs_digest d ≡ true → is_hot d ≡ true
      → (digests_of j (codes "segments") n ≡ 1) ⊎ (digests_of j (codes "segments") n ≡ 2)

-- a value in an area of `len` bytes whose members meet the rules of what is under way, whose names resolve, and whose key areas are large enough and lie
-- in their region
pub record IsWideRules (len : ℕ) (j : Data) : Type 0 where
  pub whole : has_float j ≡ false
  pub sections : (s : Section) → is_section s (section_at j s) ≡ true
  pub config : (d : Data) → section_at j Config ≡ Some d → IsRead config_rows d
  pub requirements : are_requirements j ≡ true
  pub keyslots : (n : ℕ) (d : Data) → HasObject j Keyslots n d → IsWideKeyslot d
  pub segments : (n : ℕ) (d : Data) → HasObject j Segments n d → IsWideSegment d
  pub digests : (n : ℕ) (d : Data) → HasObject j Digests n d → IsRead digest_rows d
  pub tokens : (n : ℕ) (d : Data) → HasObject j Tokens n d → IsRead token_rows d
  pub resolves : WideResolves j
  pub sized : json_size j ≡ Some len
  pub large : (n : ℕ) (d : Data) (key stripes size : ℕ) → HasObject j Keyslots n d → IsRead keyslot_rows d
      → number_in 1 128 (inside_at outer.Top (codes "key_size") d) ≡ Some key
      → number_in 1 4294967295 (inside_at outer.Af (codes "stripes") d) ≡ Some stripes
      → decimal_in (inside_at outer.Area (codes "size") d) ≡ Some size
      → rounded_to_sectors (key * stripes) ≤ size
  pub within : (n : ℕ) (d : Data) (bytes start size : ℕ) → HasObject j Keyslots n d
      → keyslots_size j ≡ Some bytes
      → decimal_in (inside_at outer.Area (codes "offset") d) ≡ Some start
      → decimal_in (inside_at outer.Area (codes "size") d) ≡ Some size
      → (region_start len ≤ start) × (start + size ≤ region_start len + bytes)

-- the area holds a value that does
pub record IsWideArea (area : List ℕ) (j : Data) : Type 0 where
  pub json : Json area j
  pub rules : IsWideRules (length area) j

-- a value that does in an area of some length
pub record IsWideAccepted (j : Data) : Type 0 where
  pub len : ℕ
  pub rules : IsWideRules len j

-- something is under way in it, it meets the rules of that, and what is under way doesn't contradict itself
pub record IsWideContent (len : ℕ) (j : Data) : Type 0 where
  pub under_way : IsUnderWay j
  pub rules : IsWideRules len j
  pub consistent : IsConsistent j

-- the area holds a value that meets the rules of what is under way, and doesn't contradict itself
pub record IsUnderWayArea (area : List ℕ) (j : Data) : Type 0 where
  pub json : Json area j
  pub rules : IsWideRules (length area) j
  pub consistent : IsConsistent j

-- the metadata of the area is accepted by the wider reading, with the value
pub data IsWide (area : List ℕ) (j : Data) : Type 0 where
  narrow : IsMeta area j → IsWide area j
  under_way : Json area j → IsWideContent (length area) j → IsWide area j
