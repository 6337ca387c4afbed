-- The LUKS1 header of a new volume is a header, whose areas fit.
use Rattle.std.proofs.Common.{◌≡◌, ◌≢◌, ◌==◌, ℕ, ◌+◌, ◌*◌, ◌-◌, ◌/◌, ◌<◌, ◌≤◌, nat_lt, List, slice_index_or, true, false, inl, inr, arith, lit<, refl, sym, ap, ◌∙◌, subst}
use Rattle.std.proofs.lemmas.Bool.{cases_Bool, eqb-true, ltb-false, ltb-true}
use Rattle.luks_area.specs.Area.{Fit, IsInside, LiesIn}
use Rattle.luks_area.specs.Sectors.{rounded_to_sectors}
use Rattle.luks_area.specs.Text.{is_plain, text_of}
use Rattle.luks_area.specs.declared.area.Area.{Area}
use Rattle.luks_area.specs.declared.area.AreaName.{AreaName}
use Rattle.luks_area.specs.declared.area.AreaName.TheVariants.{Head1, Head2, Slot, Segment}
use Rattle.luks1_header.specs.Bytes.{number_at, HoldsText, IsUuid}
use Rattle.luks1_header.specs.Header1.{enabled_word, entry, entry_stripes, key_bytes_of, mk_digest_iterations_of, word_of, field_at, field_len, HoldsCommon, HoldsEntry, IsCommon, IsEntry, IsLuks1}
use Rattle.luks1_header.specs.Written.{common_text, IsWhole, WritesLuks1}
use Rattle.luks1_header.specs.declared.fault.TextField.{TextField}
use Rattle.luks1_header.specs.declared.fault.TextField.TheVariants as field
use Rattle.luks1_header.specs.declared.luks1.Luks1.{Luks1}
use Rattle.luks1_header.specs.declared.luks1.Luks1Slot.{Luks1Slot}
use Rattle.luks_reading.specs.Layout1.{Luks1Area}
use Rattle.luks_reading.specs.declared.format.Format.{Format}
use Rattle.luks2_header.proofs.UuidFacts as Uuid
use Rattle.luks_formatting.specs.NewHeader1.{free_slot, material_sector, new_slot, payload_sector, IsNewHeader1}
use Rattle.luks_formatting.specs.Encrypting.{block_bytes, used_bytes}
use Rattle.luks_formatting.specs.Given.{first_sector, uuid_of, IsSound1}
use Rattle.luks_formatting.specs.declared.given.Given.{Given}
use Rattle.luks_formatting.proofs.EncryptingFacts.{mode_plain, mode_whole, sizes, step_apart, step_most, AreSizes}
use Rattle.luks_formatting.proofs.GivenFacts.{placed1, uuid_is}
use Rattle.luks_formatting.proofs.NewPlanFacts.{name_plain, name_whole}

-- the first key area has no other before it
no_step : (s : ℕ) → 8 + 0 * s ≡ 8
no_step s = omega arith

-- what every keyslot of a new volume says
slot_stripes : (k : ℕ) (format : Format) (random : List ℕ) (n : ℕ) → (new_slot k format random n).stripes ≡ 4000
slot_stripes k format random n = elim (cases_Bool (n == 0)) [ inl first ↦ rw first refl | inr free ↦ rw free refl ]

slot_sector : (k : ℕ) (format : Format) (random : List ℕ) (n : ℕ) → (new_slot k format random n).key_material_offset ≡ material_sector k n
slot_sector k format random n = elim (cases_Bool (n == 0)) [
  | inl first ↦ rw first (let none : n ≡ 0 = eqb-true n 0 first in ap (material_sector k) (sym none))
  | inr free ↦ rw free refl
]

slot_iterations : (k : ℕ) (format : Format) (random : List ℕ) (n : ℕ) → 1 ≤ format.iterations
    → word_of (new_slot k format random n).state ≡ enabled_word → 1 ≤ (new_slot k format random n).iterations
slot_iterations k format random n some on = elim (cases_Bool (n == 0)) [
  | inl first ↦ rw first some
  | inr free ↦ (let other : 0x0000DEAD ≡ 0x00AC71F3 = rw free at on in absurd (omega (arith, other)))
]

module _ (given : Given) (format : Format) (random h : List ℕ) (d : Luks1) (new : IsNewHeader1 given format random d) (put : WritesLuks1 h d) (own : IsUuid (uuid_of given random)) where
  whole : (t : TextField) → IsWhole (common_text d.common t)
  whole t = let W : List ℕ → Type 0 = λ text. text_of text ≡ text in elim t as (λ u. IsWhole (common_text d.common u)) [
    | field.CipherName ↦ subst W (sym new.common.cipher_name) refl
    | field.CipherMode ↦ subst W (sym new.common.cipher_mode) (mode_whole given.cipher)
    | field.HashSpec ↦ subst W (sym new.common.hash_spec) (name_whole format.hash)
    | field.Uuid ↦ subst W (sym new.common.uuid) (Uuid.whole (uuid_of given random) own)
  ]

  pub fields : HoldsCommon h d.common
  fields = put.common.fields whole

  plain : (t : TextField) → HoldsText h (field_at t) (field_len t)
  plain t = let P : List ℕ → Type 0 = λ text. is_plain text ≡ true in elim t as (λ u. HoldsText h (field_at u) (field_len u)) [
    | field.CipherName ↦ subst P (sym (fields.cipher_name ∙ new.common.cipher_name)) refl
    | field.CipherMode ↦ subst P (sym (fields.cipher_mode ∙ new.common.cipher_mode)) (mode_plain given.cipher)
    | field.HashSpec ↦ subst P (sym (fields.hash_spec ∙ new.common.hash_spec)) (name_plain format.hash)
    | field.Uuid ↦ subst P (sym (fields.uuid ∙ new.common.uuid)) (Uuid.plain (uuid_of given random) own)
  ]

  pub common : 1 ≤ format.iterations → AreSizes given.key_bytes → IsCommon h d.common
  common some sized =
      let low = sized.low in
      let high = sized.high in
      let key : key_bytes_of h ≡ given.key_bytes = fields.key_bytes ∙ new.common.key_bytes in
      let turns : mk_digest_iterations_of h ≡ format.iterations = fields.mk_digest_iterations ∙ new.common.mk_digest_iterations in
      record {
        magic = put.common.magic;
        version = put.common.version;
        fields = fields;
        texts = plain;
        uuid = subst IsUuid (sym (fields.uuid ∙ new.common.uuid)) own;
        key_at_least = omega (arith, key, low);
        key_at_most = omega (arith, key, high);
        digest_iterated = omega (arith, turns, some);
      }

  -- the entry of a keyslot says what a new one says
  pub holds : (n : ℕ) → n < 8 → HoldsEntry (entry h n) (new_slot given.key_bytes format random n)
  holds n lt = subst (HoldsEntry (entry h n)) (new.slots n (free_slot 0 0) lt) (put.slots n (free_slot 0 0) lt).fields

  entry_is : 1 ≤ format.iterations → (n : ℕ) (s : Luks1Slot) → n < 8 → IsEntry (entry h n) (slice_index_or d.slots n s)
  entry_is some n s lt =
      let is : HoldsEntry (entry h n) (new_slot given.key_bytes format random n) = holds n lt in
      let stripes : entry_stripes (entry h n) ≡ 4000 = is.stripes ∙ slot_stripes given.key_bytes format random n in
      record {
        fields = (put.slots n s lt).fields;
        striped = omega (arith, stripes);
        iterated = λ on. (let turns = slot_iterations given.key_bytes format random n some (sym is.state ∙ on) in let same = is.iterations in omega (arith, turns, same));
      }

  pub header : 1 ≤ format.iterations → AreSizes given.key_bytes → IsLuks1 h d
  header some sized = record {
    long = (let long = put.long in omega (arith, long));
    common = common some sized;
    slots = record { eight = new.eight; each = entry_is some };
  }

  pub stripes_at : (n : ℕ) → n < 8 → entry_stripes (entry h n) ≡ 4000
  stripes_at n lt = (holds n lt).stripes ∙ slot_stripes given.key_bytes format random n

  pub key_size : number_at h 108 4 ≡ given.key_bytes
  key_size = fields.key_bytes ∙ new.common.key_bytes

  -- where the areas lie
  pub slot_start : (n : ℕ) → n < 8 → number_at (entry h n) 40 4 ≡ material_sector given.key_bytes n
  slot_start n lt = (holds n lt).key_material_offset ∙ slot_sector given.key_bytes format random n

  pub first_start : number_at (entry h 0) 40 4 ≡ 8
  first_start = slot_start 0 (lit< tt) ∙ no_step (block_bytes given.key_bytes / 512)

  pub slot_len : (n : ℕ) → n < 8 → rounded_to_sectors (number_at h 108 4 * entry_stripes (entry h n)) ≡ used_bytes given.key_bytes
  slot_len n lt = ap (λ k. rounded_to_sectors (k * entry_stripes (entry h n))) key_size ∙ ap (λ s. rounded_to_sectors (given.key_bytes * s)) (stripes_at n lt)

  segment_start : number_at h 104 4 ≡ payload_sector given
  segment_start = fields.payload_offset ∙ new.common.payload_offset

-- where they lie, of key areas of u bytes in steps of s sectors
abbrev Bounds : ℕ → ℕ → ℕ → AreaName → Area → Type 0
Bounds s u total Head1 a = (a.start ≡ 0) × (a.len ≡ 592)
Bounds s u total Head2 a = ⊥
Bounds s u total (Slot n) a = (n < 8) × (a.start ≡ (8 + n * s) * 512) × (a.len ≡ u)
Bounds s u total (Segment n) a = (n ≡ 0) × ((8 + 7 * s) * 512 + u ≤ a.start) × (a.start ≤ total) × (a.len ≡ total - a.start)

module _ (s u total : ℕ) (fits : u ≤ s * 512) (room : (8 + 7 * s) * 512 + u ≤ 2097152) (large : 2097152 ≤ total) where
  bounds_inside : (n : AreaName) (a : Area) → Bounds s u total n a → IsInside a total
  bounds_inside Head1 a at = let start = at.0 in let len = at.1 in omega (arith, start, len, large)
  bounds_inside Head2 a at = absurd at
  bounds_inside (Slot n) a at = let most = step_most s n at.0 in let start = at.1 in let len = at.2 in omega (arith, most, start, len, room, large)
  bounds_inside (Segment n) a at = let start = at.2 in let len = at.3 in omega (arith, start, len)

  -- of two key areas one ends where the other begins, or before
  slots_apart : (m n : ℕ) (a b : Area) → Bounds s u total (Slot m) a → Bounds s u total (Slot n) b → m ≢ n → (p : ℕ) → LiesIn p a → LiesIn p b → ⊥
  slots_apart m n a b x y differ p here there =
      let first = x.1 in
      let first_len = x.2 in
      let second = y.1 in
      let second_len = y.2 in
      let low = here.0 in
      let high = here.1 in
      let from = there.0 in
      let to = there.1 in
      elim (cases_Bool (nat_lt m n)) [
        | inl before ↦ (let apart = step_apart s u m n fits (ltb-true m n before) in absurd (omega (arith, apart, first, first_len, second, second_len, low, high, from, to)))
        | inr behind ↦ (
            let least : n ≤ m = ltb-false m n behind in
            let apart = step_apart s u n m fits (omega (arith, least, differ)) in
            absurd (omega (arith, apart, first, first_len, second, second_len, low, high, from, to)))
      ]

  bounds_apart : (m n : AreaName) (a b : Area) → Bounds s u total m a → Bounds s u total n b → m ≢ n → (p : ℕ) → LiesIn p a → LiesIn p b → ⊥
  bounds_apart Head2 n a b x y other p here there = absurd x
  bounds_apart Head1 Head1 a b x y other p here there = other refl
  bounds_apart Head1 Head2 a b x y other p here there = absurd y
  bounds_apart Head1 (Slot n) a b x y other p here there =
      let f = x.0 in let l = x.1 in let t = y.1 in let high = here.1 in let low = there.0 in absurd (omega (arith, f, l, t, high, low))
  bounds_apart Head1 (Segment n) a b x y other p here there =
      let f = x.0 in let l = x.1 in let t = y.1 in let high = here.1 in let low = there.0 in absurd (omega (arith, f, l, t, high, low))
  bounds_apart (Slot m) Head1 a b x y other p here there =
      let f = y.0 in let l = y.1 in let t = x.1 in let high = there.1 in let low = here.0 in absurd (omega (arith, f, l, t, high, low))
  bounds_apart (Slot m) Head2 a b x y other p here there = absurd y
  bounds_apart (Slot m) (Slot n) a b x y other p here there = slots_apart m n a b x y (λ e. other (ap Slot e)) p here there
  bounds_apart (Slot m) (Segment n) a b x y other p here there =
      let most = step_most s m x.0 in
      let f = x.1 in let l = x.2 in let t = y.1 in let high = here.1 in let low = there.0 in absurd (omega (arith, most, f, l, t, high, low))
  bounds_apart (Segment m) Head1 a b x y other p here there =
      let f = y.0 in let l = y.1 in let t = x.1 in let high = there.1 in let low = here.0 in absurd (omega (arith, f, l, t, high, low))
  bounds_apart (Segment m) Head2 a b x y other p here there = absurd y
  bounds_apart (Segment m) (Slot n) a b x y other p here there =
      let most = step_most s n y.0 in
      let f = y.1 in let l = y.2 in let t = x.1 in let high = there.1 in let low = here.0 in absurd (omega (arith, most, f, l, t, high, low))
  bounds_apart (Segment m) (Segment n) a b x y other p here there = other (ap Segment (x.0 ∙ sym y.0))

module _ (given : Given) (format : Format) (random h : List ℕ) (d : Luks1) (new : IsNewHeader1 given format random d) (put : WritesLuks1 h d) (total : ℕ)
    (sound : IsSound1 given total) (large : 2097152 ≤ total) where
  own : IsUuid (uuid_of given random)
  own = uuid_is given random sound.uuid

  -- how many sectors a key area and what is free behind it take, and how many bytes its own
  abbrev step : ℕ
  step = block_bytes given.key_bytes / 512

  abbrev long : ℕ
  long = used_bytes given.key_bytes

  high : given.key_bytes ≤ 64
  high = (sizes given.cipher given.key_bytes sound.takes).high

  fits : long ≤ step * 512
  fits = omega arith

  room : (8 + 7 * step) * 512 + long ≤ 2097152
  room = (let most = high in omega (arith, most))

  -- the last key area ends where the first sector is at which a payload may begin
  behind : (8 + 7 * step) * 512 + long ≡ 512 * first_sector false given.key_bytes
  behind = omega arith

  bounds : (n : AreaName) (a : Area) → Luks1Area h given.payload total n a → Bounds step long total n a
  bounds Head1 a at = at
  bounds Head2 a at = at
  bounds (Slot n) a at = (at.0, at.1 ∙ ap (λ s. s * 512) (slot_start given format random h d new put own n at.0), at.2 ∙ slot_len given format random h d new put own n at.0)
  bounds (Segment n) a at =
      let there = placed1 given total sound large at.1 in
      let start : a.start ≡ payload_sector given * 512 = at.2 ∙ ap (λ s. s * 512) (segment_start given format random h d new put own) in
      let low = there.low in
      let inside = there.inside in
      let first = behind in
      (at.0, omega (arith, start, low, first), omega (arith, start, inside), at.3)

  pub fit : Fit (Luks1Area h given.payload total) total
  fit = record {
    inside = λ n a at. bounds_inside step long total fits room large n a (bounds n a at);
    disjoint = λ m n a b x y other. bounds_apart step long total fits room large m n a b (bounds m a x) (bounds n b y) other;
  }
