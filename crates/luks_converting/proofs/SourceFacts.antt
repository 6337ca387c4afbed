-- What the header of a LUKS1 volume says has the ranges that its metadata needs.
use Rattle.std.proofs.Common.{◌≡◌, ℕ, ◌+◌, ◌*◌, ◌<◌, ◌≤◌, ◌++◌, List, [], length, Bool, true, false, codes, Some, None, refl, sym, ap, subst, ◌∙◌, arith, inl, inr, length-append, get_or}
use Rattle.std.specs.Prelude.{◌==◌, ◌&&◌, nat_lt, not, take, if◌then◌else◌}
use Rattle.std.proofs.lemmas.Bool.{and_parts, cases_lt, eqb-true, lt-ltb, ltb-true}
use Rattle.std.proofs.lemmas.List.{get_or_past, length-take}
use Rattle.std.specs.List.{prefix_len}
use Rattle.base64.specs.GeneralPurpose.{IsBytes}
use Rattle.byteorder.specs.Numbers.{big_from-lt}
use Rattle.luks_area.specs.Ranges.{part}
use Rattle.luks_area.proofs.RangeFacts.{get_or-part, length-part, length-part_inside}
use Rattle.luks_area.specs.Sectors.{rounded_to_sectors}
use Rattle.luks1_header.specs.Bytes.{number_at, text_at}
use Rattle.luks1_header.specs.Header1.{active_word, disabled_word, enabled_word, word_of as word_of_state, entry, key_bytes_of, IsEntry, IsLuks1}
use Rattle.luks1_header.specs.declared.luks1.Luks1.{Luks1}
use Rattle.luks1_header.specs.declared.luks1.Luks1Slot.{Luks1Slot}
use Rattle.luks1_header.specs.declared.luks1.SlotState.TheVariants.{Disabled, Enabled}
use Rattle.luks_making.specs.Conversions.{CanConvert, FitsSource, FitsSourceSlot, IsUsable}
use Rattle.luks_making.specs.Converted.{SourceSlotMembers}
use Rattle.luks_converting.specs.Source.{enabled_slot, encryption_of, header_members, is_enabled, slot_members, source_size, source_start, HasRoom, IsSource}

pub some_same : {A : Type 0} (x y : A) → Some x ≡ Some y → x ≡ y
some_same x y e = cc

pub no_some : {A : Type 0} (y : A) → None ≡ Some y → ⊥
no_some y e = cc

-- ---- bytes and numbers

-- a part of bytes is bytes
pub part_bytes : (v : List ℕ) (at len : ℕ) → IsBytes v → IsBytes (part v at len)
part_bytes v at len bytes = λ i. elim (cases_lt i len) [
  | inl lt ↦ (let is = get_or-part v at len i lt in subst (λ n. n < 256) (sym is) (bytes (at + i)))
  | inr past ↦ (
      let long = length-part v at len in
      let none = get_or_past (part v at len) i 0 (omega (arith, long, past)) in
      subst (λ n. n < 256) (sym none) (omega arith))
]

-- a number of four bytes
pub number_small : (v : List ℕ) (at : ℕ) → IsBytes v → number_at v at 4 < 4294967296
number_small v at bytes = big_from-lt 0 4 (part v at 4) (part_bytes v at 4 bytes)

take_short : (n : ℕ) (xs : List ℕ) → length (take n xs) ≤ length xs
take_short n xs = let front = length-take n xs in omega (arith, front)

-- a text is no longer than its field
pub text_short : (v : List ℕ) (at len : ℕ) → length (text_at v at len) ≤ len
text_short v at len =
    let long = length-part v at len in
    let front : length (text_at v at len) ≤ length (part v at len) = take_short (prefix_len (λ c. not (c == 0)) (part v at len)) (part v at len) in
    omega (arith, long, front)

-- two texts joined by a hyphen
joined_length : (a b : List ℕ) → length (a ++ codes "-" ++ b) ≡ length a + (1 + length b)
joined_length a b = simp length-append (omega arith)

-- ---- enabled keyslots

pub low_of : (h : List ℕ) (n : ℕ) → is_enabled h n ≡ true → n < 8
low_of h n on = ltb-true n 8 (and_parts (nat_lt n 8) (active_word (entry h n) == enabled_word) on).0

pub word_of : (h : List ℕ) (n : ℕ) → is_enabled h n ≡ true → active_word (entry h n) ≡ enabled_word
word_of h n on = eqb-true (active_word (entry h n)) enabled_word (and_parts (nat_lt n 8) (active_word (entry h n) == enabled_word) on).1

pub slot_there : (h : List ℕ) (n : ℕ) → is_enabled h n ≡ true → enabled_slot h n ≡ Some (slot_members (entry h n))
slot_there h n on = rw on refl

pub slot_absent : (h : List ℕ) (n : ℕ) → is_enabled h n ≡ false → enabled_slot h n ≡ None
slot_absent h n off = rw off refl

from_test : (b : Bool) (x s : SourceSlotMembers) → (if b then Some x else None) ≡ Some s → (b ≡ true) × (x ≡ s)
from_test true x s e = (refl, some_same x s e)
from_test false x s e = absurd (no_some s e)

pub slot_is : (h : List ℕ) (n : ℕ) (s : SourceSlotMembers) → enabled_slot h n ≡ Some s → (is_enabled h n ≡ true) × (slot_members (entry h n) ≡ s)
slot_is h n s e = from_test (is_enabled h n) (slot_members (entry h n)) s e

-- ---- what a keyslot that was read says of its entry

both_on : (p q : Bool) → p ≡ true → q ≡ true → (p && q) ≡ true
both_on p q first second = rw (first, second) refl

second_off : (p q : Bool) → q ≡ false → (p && q) ≡ false
second_off true q off = off
second_off false q off = refl

module _ (h : List ℕ) (n : ℕ) (s : Luks1Slot) (low : n < 8) (is : IsEntry (entry h n) s) where
  pub enabled_of : s.state ≡ Enabled → is_enabled h n ≡ true
  enabled_of on =
      let word : active_word (entry h n) ≡ enabled_word = is.fields.state ∙ ap word_of_state on in
      both_on (nat_lt n 8) (active_word (entry h n) == enabled_word) (lt-ltb n 8 low) (rw word refl)

  pub disabled_of : s.state ≡ Disabled → is_enabled h n ≡ false
  disabled_of off =
      let word : active_word (entry h n) ≡ disabled_word = is.fields.state ∙ ap word_of_state off in
      second_off (nat_lt n 8) (active_word (entry h n) == enabled_word) (rw word refl)

-- the same of the fields of a whole header
module _ (h : List ℕ) (d : Luks1) (n : ℕ) (any : Luks1Slot) (is : IsLuks1 h d) (low : n < 8) where
  pub enabled_read : (get_or d.slots n any).state ≡ Enabled → is_enabled h n ≡ true
  enabled_read on = enabled_of h n (get_or d.slots n any) low (is.slots.each n any low) on

  pub disabled_read : (get_or d.slots n any).state ≡ Disabled → is_enabled h n ≡ false
  disabled_read off = disabled_of h n (get_or d.slots n any) low (is.slots.each n any low) off

  pub source_size_read : rounded_to_sectors (d.common.key_bytes * (get_or d.slots n any).stripes) ≡ source_size h n
  source_size_read =
      ap (λ k. rounded_to_sectors (k * (get_or d.slots n any).stripes)) (sym is.common.fields.key_bytes)
      ∙ ap (λ k. rounded_to_sectors (key_bytes_of h * k)) (sym (is.slots.each n any low).fields.stripes)

  pub source_start_read : (get_or d.slots n any).key_material_offset * 512 ≡ source_start h n
  source_start_read = ap (λ k. k * 512) (sym (is.slots.each n any low).fields.key_material_offset)

-- ---- the conditions of converted metadata

module _ (h : List ℕ) (is : IsSource h) where
  entry_long : (n : ℕ) → n < 8 → length (entry h n) ≡ 48
  entry_long n low = let long = is.long in length-part_inside h (208 + 48 * n) 48 (omega (arith, long, low))

  entry_bytes : (n : ℕ) → IsBytes (entry h n)
  entry_bytes n = part_bytes h (208 + 48 * n) 48 is.are_bytes

  slot_fits : (n : ℕ) → n < 8 → FitsSourceSlot (slot_members (entry h n))
  slot_fits n low =
      let long = entry_long n low in
      record {
        iterations = number_small (entry h n) 4 (entry_bytes n);
        salt = record { are_bytes = part_bytes (entry h n) 8 32 (entry_bytes n); long = length-part_inside (entry h n) 8 32 (omega (arith, long)) };
        stripes = number_small (entry h n) 44 (entry_bytes n);
      }

  pub fits : FitsSource (header_members h)
  fits =
      let long = is.long in
      let payload = number_small h 104 is.are_bytes in
      record {
        digest_iterations = number_small h 164 is.are_bytes;
        digest_salt = record { are_bytes = part_bytes h 132 32 is.are_bytes; long = length-part_inside h 132 32 (omega (arith, long)) };
        digest = record { are_bytes = part_bytes h 112 20 is.are_bytes; long = length-part_inside h 112 20 (omega (arith, long)) };
        payload_offset = omega (arith, payload);
        slots = λ n s low there. (let found = slot_is h n s there in subst FitsSourceSlot found.1 (slot_fits n low));
      }

  slot_usable : (n : ℕ) → is_enabled h n ≡ true → IsUsable (slot_members (entry h n))
  slot_usable n on =
      let any : Luks1Slot = record { state = Disabled; iterations = 0; salt = []; key_material_offset = 0; stripes = 0 } in
      let own = is.fields.1.slots.each n any (low_of h n on) in
      record { iterations = own.iterated (word_of h n on); stripes = own.striped }

  encryption_short : length (encryption_of h) ≤ 65
  encryption_short =
      let name = text_short h 8 32 in
      let mode = text_short h 40 32 in
      let whole : length (encryption_of h) ≡ length (text_at h 8 32) + (1 + length (text_at h 40 32)) = joined_length (text_at h 8 32) (text_at h 40 32) in
      omega (arith, name, mode, whole)

  pub can : CanConvert (header_members h)
  can =
      let common = is.fields.1.common in
      record {
        hash = text_short h 72 32;
        encryption = encryption_short;
        key_bytes = record { from = common.key_at_least; to = common.key_at_most };
        digest_iterations = common.digest_iterated;
        slots = λ n s low there. (let found = slot_is h n s there in subst IsUsable found.1 (slot_usable n found.0));
        room = is.room;
      }

-- a header that was read, whose new areas have room, can be converted
pub source_of : (h : List ℕ) (d : Luks1) → IsBytes h → length h ≡ 592 → IsLuks1 h d → HasRoom h → IsSource h
source_of h d are_bytes long fields room = record { are_bytes = are_bytes; long = long; fields = (d, fields); room = room }
