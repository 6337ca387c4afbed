-- The metadata of a new volume meets every rule, and what it says.
use Rattle.std.proofs.Common.{◌≡◌, ℕ, ◌+◌, ◌*◌, ◌<◌, ◌≤◌, ◌^◌, true, false, List, Some, None, option_map, option_and_then, is_some, bytes_eq, codes, refl, sym, ap, subst, ◌∙◌, inl, inr, arith}
use Rattle.std.proofs.lemmas.Bool.{false≢true, cases_eq, leb-true}
use Rattle.std.specs.Fmt.{decimal, digits}
use Rattle.serde_json.specs.Data.{Data, number, unsigned, string, array, object, Items, no_items, item, Members, no_members, member, depth}
use Rattle.serde_json.specs.Find.{get, as_array}
use Rattle.luks_area.specs.Sectors.{rounded_to_sectors}
use Rattle.luks_json.specs.Arrays.{all_there, has_repeat}
use Rattle.luks_json.specs.Number.{number_text}
use Rattle.luks_json.proofs.Decimals.{decimal_told}
use Rattle.luks_rules.specs.declared.table.Section.{Section}
use Rattle.luks_rules.specs.declared.table.Section.TheVariants.{Config, Digests, Segments}
use Rattle.luks_rules.specs.declared.table.Row.{Row}
use Rattle.luks_rules.specs.Accepted.{HasNames, HasObject, IsRead}
use Rattle.luks_rules.specs.Faults.{is_section, section_at, value_at}
use Rattle.luks_rules.specs.Held.{IsHeld}
use Rattle.luks_rules.specs.Reading.{decimal_in, is_sector_size, kept, number_of, whole}
use Rattle.luks_rules.specs.Sizes.{region_start}
use Rattle.luks_rules.specs.Table.{config_rows, digest_rows, segment_rows, rows_of}
use Rattle.luks_making.specs.Conditions.{Between, CanFormat, FitsSlot, FitsVolume, IsRoom}
use Rattle.luks_making.specs.Formatted.{VolumeMembers, digest_value, first_slot, formatted, segment_value, sole, sole_name}
use Rattle.luks_making.specs.Keyslots.{base64_text, number_member, slot_value, text_member}
use Rattle.luks_making.specs.NewVolumes.{SaysDigest, SaysSegment, SaysVolume}
use Rattle.luks_making.specs.With.{with_slot}
use Rattle.luks_making.proofs.AdditionFacts.{held_with}
use Rattle.luks_making.proofs.MemberFacts.{no_some, seek, some_same}
use Rattle.luks_making.proofs.NameFacts.{texts_differ}
use Rattle.luks_making.proofs.ReadingFacts.{below_32, bytes_are, bytes_read, decimal_is, decimal_read, number_is, number_read}
use Rattle.luks_making.proofs.RoomFacts.{says_members}
use Rattle.luks_making.proofs.RowFacts.{NamesRow, digest_row, none_among, of_segments, of_slots, rows_read}

-- ---- a map with one object

-- an object of another number isn't in it
pub none_else : (d : Data) (n : ℕ) → (n ≡ 0 → ⊥) → get (number_text n) (sole d) ≡ None
none_else d n other =
    let off : bytes_eq (number_text n) (codes "0") ≡ false = texts_differ n 0 other in
    seek (number_text n) (codes "0") d no_members ∙ rw off refl

-- what is found in it is its object
only_zero : (d e : Data) (n : ℕ) → get (number_text n) (sole d) ≡ Some e → (n ≡ 0) × (d ≡ e)
only_zero d e n found = elim (cases_eq n 0) [
  | inl same ↦ (same, some_same d e (rw same at found))
  | inr other ↦ absurd (no_some e (sym (none_else d n other) ∙ found))
]

-- ---- decimal literals

json_digits : codes "12288" ≡ decimal 12288
unfolding digits
json_digits = refl

keyslots_digits : codes "16744448" ≡ decimal 16744448
unfolding digits
keyslots_digits = refl

zero_digits : codes "0" ≡ decimal 0
unfolding digits
zero_digits = refl

fits_64 : (n : ℕ) → n ≤ 16777216 → n < 2 ^ 64
fits_64 n h = omega (arith, h)

literal_is : (t : List ℕ) (n : ℕ) → n ≤ 16777216 → t ≡ decimal n → decimal_in (Some (string t)) ≡ Some n
literal_is t n h same = decimal_told t n (record { fits = fits_64 n h; digits = same })

literal_read : (t : List ℕ) (n : ℕ) → n ≤ 16777216 → t ≡ decimal n → is_some (option_map whole (decimal_in (Some (string t)))) ≡ true
literal_read t n h same = rw (literal_is t n h same) refl

-- ---- the size of a sector

sector_size_is : (n : ℕ) → is_sector_size n ≡ true → option_and_then (kept is_sector_size) (number_of (Some (number (unsigned n)))) ≡ Some n
sector_size_is n is = rw is refl

sector_size_read : (n : ℕ) → is_sector_size n ≡ true → is_some (option_map whole (option_and_then (kept is_sector_size) (number_of (Some (number (unsigned n)))))) ≡ true
sector_size_read n is = rw is refl

-- ---- the value's form

-- the digest of a new volume with the names of keyslots
abbrev pub digest_with : VolumeMembers → Items → Data
digest_with v names = object (
    text_member (codes "digest") (base64_text v.digest) (
    text_member (codes "hash") v.hash (
    number_member (codes "iterations") v.iterations (
    member (codes "keyslots") (array names) (
    text_member (codes "salt") (base64_text v.digest_salt) (
    member (codes "segments") sole_name (
    text_member (codes "type") (codes "pbkdf2") no_members)))))))

-- the configuration with the text of a region's size
abbrev config_with : List ℕ → Data
config_with t = object (text_member (codes "json_size") (codes "12288") (text_member (codes "keyslots_size") t no_members))

abbrev shape_by : VolumeMembers → List ℕ → Items → Members → Data
shape_by v t names slots = object (
    member (codes "config") (config_with t) (
    member (codes "digests") (sole (digest_with v names)) (
    member (codes "keyslots") (object slots) (
    member (codes "segments") (sole (segment_value v)) (
    member (codes "tokens") (object no_members) no_members)))))

-- a new volume with a region of so many bytes, these names and keyslots
abbrev pub shape : VolumeMembers → ℕ → Items → Members → Data
shape v size = shape_by v (decimal size)

-- ---- a new volume without a keyslot meets every rule

module _ (v : VolumeMembers) (fits : FitsVolume v) (can : CanFormat v) where
  iterations : Between 1 4294967295 v.iterations
  iterations = below_32 v.iterations can.iterations fits.iterations

  digest_is_read : IsRead digest_rows (digest_with v no_items)
  digest_is_read =
      rows_read digest_rows (digest_with v no_items) refl (λ _. bytes_read 20 64 v.digest (omega arith) fits.digest can.digest) (λ _. refl) (λ _. number_read 1 4294967295 v.iterations iterations)
      (λ _. refl) (λ _. bytes_read 1 128 v.digest_salt (omega arith) fits.digest_salt can.digest_salt) (λ _. refl) (λ _. refl)

  segment_is_read : IsRead segment_rows (segment_value v)
  segment_is_read =
      rows_read segment_rows (segment_value v) refl (λ _. refl) (λ _. literal_read (codes "0") 0 (omega arith) zero_digits) (λ _. decimal_read v.segment_offset fits.segment_offset)
      (λ _. sector_size_read v.sector_size can.sector_size) (λ _. refl) (λ _. refl)

  module _ (size : ℕ) (small : size < 2 ^ 64) where
    abbrev bare : Data
    bare = shape v size no_items no_members

    config_read : IsRead config_rows (config_with (decimal size))
    config_read = rows_read config_rows (config_with (decimal size)) refl (λ _. literal_read (codes "12288") 12288 (omega arith) json_digits) (λ _. decimal_read size small)

    digest_at : (n : ℕ) (d : Data) → HasObject bare Digests n d → (n ≡ 0) × (digest_with v no_items ≡ d)
    digest_at n d o = only_zero (digest_with v no_items) d n o.is

    segment_at : (n : ℕ) (d : Data) → HasObject bare Segments n d → (n ≡ 0) × (segment_value v ≡ d)
    segment_at n d o = only_zero (segment_value v) d n o.is

    objects_made : (k : Section) (n : ℕ) (d : Data) → HasObject bare k n d → IsRead (rows_of k) d
    objects_made Config n d o = absurd (false≢true o.numbered)
    objects_made Digests n d o = rw (← (digest_at n d o).1) digest_is_read
    objects_made Segments n d o = rw (← (segment_at n d o).1) segment_is_read
    objects_made k n d o = absurd (no_some d o.is)

    sections_made : (k : Section) → is_section k (section_at bare k) ≡ true
    sections_made Config = refl
    sections_made k = refl

    -- ---- the arrays of names

    resolved_by : (target : Section) (list : Items) (r : Row) → NamesRow r target → option_and_then as_array (value_at (digest_with v no_items) r) ≡ Some list
        → (all_there (section_at bare target) list ≡ true) × (has_repeat list ≡ false)
    resolved_by target list r (of_slots e s) is = let none : no_items ≡ list = some_same no_items list (rw e at is) in rw (s, ← none) (refl, refl)
    resolved_by target list r (of_segments e s) is = let one : item (string (codes "0")) no_items ≡ list = some_same _ list (rw e at is) in rw (s, ← one) (refl, refl)

    resolved : (k target : Section) (list : Items) → HasNames bare k target list → (all_there (section_at bare target) list ≡ true) × (has_repeat list ≡ false)
    resolved Config target list n = absurd (false≢true n.held.numbered)
    resolved Digests target list n = resolved_by target list n.row (digest_row n.row target n.listed n.speaks) (rw (← (digest_at n.number n.object n.held).1) at n.is)
    resolved Segments target list n = absurd (none_among (rows_of Segments) n.row target refl n.listed n.speaks)
    resolved k target list n = absurd (no_some n.object n.held.is)

    -- the value meets every rule
    pub held_bare : IsHeld 12288 (shape v size no_items no_members)
    held_bare = record {
      nests = leb-true (depth bare) 127 refl;
      content = record {
        whole = refl;
        sections = sections_made;
        config = λ d e. rw (← some_same (config_with (decimal size)) d e) config_read;
        objects = objects_made;
        resolves = record {
          there = λ k target list n. (resolved k target list n).0;
          once = λ k target list n. (resolved k target list n).1;
          keyslots = λ n d o. absurd (no_some d o.is);
          segments = λ n d o crypt. rw (segment_at n d o).0 refl;
        };
        sized = literal_is (codes "12288") 12288 (omega arith) json_digits;
        large = λ n d key stripes bytes o. absurd (no_some d o.is);
        within = λ n d bytes start long o. absurd (no_some d o.is);
      };
    }

  -- ---- and with its keyslot

  slot_fits : FitsSlot (first_slot v)
  slot_fits = record {
    key_size = record { from = omega arith; to = omega arith };
    stripes = record { from = omega arith; to = omega arith };
    offset = fits_64 32768 (omega arith);
    size = fits_64 258048 (omega arith);
    area_key_size = record { from = omega arith; to = omega arith };
    derivation = iterations;
    salt = record { are_bytes = fits.slot_salt; long = can.slot_salt };
  }

  room : IsRoom 12288 0 0 (first_slot v) (shape v 16744448 no_items no_members) (digest_with v no_items)
  room = record {
    number = record { small = omega arith; free = refl };
    unnamed = refl;
    digest = record { numbered = refl; named = omega arith; is = refl };
    fits = slot_fits;
    large = leb-true (rounded_to_sectors (64 * 4000)) 258048 refl;
    within = λ bytes is.
        let same : 16744448 ≡ bytes = some_same 16744448 bytes (sym (decimal_is 16744448 (fits_64 16744448 (omega arith))) ∙ is) in
        rw (← same) (leb-true (region_start 12288) 32768 refl, leb-true (32768 + 258048) (region_start 12288 + 16744448) refl);
  }

  formatted_is : formatted v ≡ with_slot 0 0 (first_slot v) (shape v 16744448 no_items no_members)
  formatted_is = ap (λ t. with_slot 0 0 (first_slot v) (shape_by v t no_items no_members)) keyslots_digits

  pub held_made : IsHeld 12288 (formatted v)
  held_made =
      subst (λ x. IsHeld 12288 x) (sym formatted_is)
      (held_with 12288 0 0 (first_slot v) (shape v 16744448 no_items no_members) (digest_with v no_items) (held_bare 16744448 (fits_64 16744448 (omega arith))) room)

  -- ---- what it says

  says_digest : SaysDigest v (digest_value v)
  says_digest = record {
    kind = refl;
    hash = refl;
    iterations = number_is 1 4294967295 v.iterations iterations;
    salt = bytes_are 1 128 v.digest_salt (omega arith) fits.digest_salt can.digest_salt;
    stored = bytes_are 20 64 v.digest (omega arith) fits.digest can.digest;
  }

  says_segment : SaysSegment v (segment_value v)
  says_segment = record {
    kind = refl;
    encryption = refl;
    iv_tweak = literal_is (codes "0") 0 (omega arith) zero_digits;
    offset = decimal_is v.segment_offset fits.segment_offset;
    sector_size = sector_size_is v.sector_size can.sector_size;
    size = refl;
  }

  small : 0 < 32
  small = omega arith

  pub says_volume : SaysVolume v (formatted v)
  says_volume = record {
    keyslot = refl;
    slot_says = says_members (first_slot v) slot_fits;
    digest = refl;
    digest_says = says_digest;
    names = record { named = small; keyslot = refl; numbered = small; object = digest_value v; is = refl; lists = refl };
    segment = refl;
    segment_says = says_segment;
    region = literal_is (codes "16744448") 16744448 (omega arith) keyslots_digits;
    no_keyslot = λ n other. none_else (slot_value (first_slot v)) n other;
    no_digest = λ n other. none_else (digest_value v) n other;
    no_segment = λ n other. none_else (segment_value v) n other;
    no_token = λ n. refl;
  }
