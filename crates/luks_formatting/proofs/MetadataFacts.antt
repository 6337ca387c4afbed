-- What the metadata of a new volume says.
use Rattle.std.proofs.Common.{◌≡◌, ◌≤◌, ◌<◌, ℕ, ◌+◌, ◌*◌, ◌-◌, ◌^◌, List, length, codes, true, false, Option, Some, None, arith, refl, sym, subst, ◌∙◌, lit≤, lit<, inl, inr}
use Rattle.std.specs.Prelude.{◌||◌, decimal, nat_lt, IfSome}
use Rattle.std.specs.Fmt.{digits}
use Rattle.std.proofs.lemmas.Bool.{cases_eq, leb-true, ltb-false}
use Rattle.std.proofs.lemmas.Bool.Decides.{nat_tests}
use Rattle.serde_json.specs.Data.{Data as Value, object, no_items, no_members, member}
use Rattle.serde_json.specs.Find.{get}
use Rattle.luks_area.proofs.RangeFacts.{length-part_inside}
use Rattle.luks_json.specs.Number.{number_text}
use Rattle.luks_json.proofs.Decimals.{decimal_told}
use Rattle.luks_kdf.specs.Names.{digest_size_of, each_at_least, each_at_most}
use Rattle.luks_kdf.specs.declared.hash_name.HashName.{HashName}
use Rattle.luks_rules.specs.Faults.{object_at}
use Rattle.luks_rules.specs.Reading.{is_sector_size}
use Rattle.luks_rules.specs.Held.{IsHeld}
use Rattle.luks_rules.specs.Sizes.{keyslots_size, region_start}
use Rattle.luks_rules.specs.declared.table.Section.TheVariants.{Digests, Keyslots, Segments}
use Rattle.luks_making.specs.Conditions.{Between, CanFormat, FitsCosts as FitsArgon2, FitsDerivation, FitsSlot, FitsVolume, IsRoom}
use Rattle.luks_making.specs.Formatted.{VolumeMembers, digest_value, formatted, segment_value, sole}
use Rattle.luks_making.specs.Keyslots.{Deriving, slot_value, text_member}
use Rattle.luks_making.specs.With.{with_slot}
use Rattle.luks_making.specs.Without.{without_slot}
use Rattle.luks_making.specs.declared.derivation.Argon2Costs.{Argon2Costs}
use Rattle.luks_making.proofs.AdditionFacts.{held_with}
use Rattle.luks_making.proofs.NewVolumeFacts.{digest_with, held_bare, none_else, shape}
use Rattle.luks_making.proofs.ReadingFacts.{decimal_is}
use Rattle.luks_formatting.specs.declared.given.Given.{Given}
use Rattle.luks_reading.specs.declared.format.Format.{Format}
use Rattle.luks_making.specs.declared.derivation.NewDerivation.{NewDerivation}
use Rattle.luks_making.specs.declared.derivation.NewDerivation.TheVariants as by
use Rattle.luks_making.specs.Derivations.{costs_beyond, FitsCosts, FitsNewDerivation, IsMakeable}
use Rattle.luks_formatting.specs.Encrypting.{block_bytes}
use Rattle.luks_formatting.proofs.EncryptingFacts.{block_most, used_inside, AreSizes}
use Rattle.luks_formatting.specs.Deriving.{slot_derivation}
use Rattle.luks_formatting.specs.NewHeader2.{first_slot_by, formatted_by, new_members}
use Rattle.luks_formatting.specs.NewPlan.{key_digest}
use Rattle.luks_formatting.specs.RandomBytes.{digest_salt, slot_place2, slot_salt}

digest_sizes : (hash : HashName) → Between 20 64 (digest_size_of hash)
digest_sizes hash = record { from = each_at_least 20 digest_size_of refl hash; to = each_at_most 64 digest_size_of refl hash }

pub digest_short : (hash : HashName) → digest_size_of hash ≤ 64
digest_short = each_at_most 64 digest_size_of refl

pub length-digest_salt : (k : ℕ) (random : List ℕ) → 208 + k ≤ length random → length (digest_salt k random) ≡ 32
length-digest_salt k random long = length-part_inside random (16 + k) 32 (omega (arith, long))

pub length-slot_salt : (k : ℕ) (random : List ℕ) → 208 + k ≤ length random → length (slot_salt (slot_place2 k) random) ≡ 32
length-slot_salt k random long = length-part_inside random (176 + k) 32 (omega (arith, long))

-- what is said may be there
pub can_format : (given : Given) (format : Format) (random : List ℕ) → is_sector_size given.sector_size ≡ true → 1 ≤ format.iterations → 208 + given.key_bytes ≤ length random
    → length (key_digest given format random (digest_size_of format.hash)) ≡ digest_size_of format.hash → CanFormat (new_members given format random)
can_format given format random size some long digest =
    let first = length-digest_salt given.key_bytes random long in
    let slot = length-slot_salt given.key_bytes random long in
    let sizes = digest_sizes format.hash in
    let low = sizes.from in
    let high = sizes.to in
    record {
      iterations = some;
      digest_salt = record { from = omega (arith, first); to = omega (arith, first) };
      digest = record { from = omega (arith, digest, low); to = omega (arith, digest, high) };
      slot_salt = record { from = omega (arith, slot); to = omega (arith, slot) };
      sector_size = size;
    }

-- ---- members by their values

pub some_same : {A : Type 0} (x y : A) → Some x ≡ Some y → x ≡ y
some_same x y e = cc

pub no_some : {A : Type 0} (y : A) → None ≡ Some y → ⊥
no_some y e = cc

keyslots_literal : codes "16744448" ≡ decimal 16744448
unfolding digits
keyslots_literal = refl

pub keyslots_say : (k : ℕ) (own : Deriving) (v : VolumeMembers) → keyslots_size (formatted_by k own v) ≡ Some 16744448
keyslots_say k own v = decimal_told (codes "16744448") 16744448 (record { fits = lit< tt; digits = keyslots_literal })

-- what is found in a map with one object is that object
only_zero : (d e : Value) (n : ℕ) → get (number_text n) (sole d) ≡ Some e → (n ≡ 0) × (d ≡ e)
only_zero d e n found = elim (cases_eq n 0) [
  | inl same ↦ (same, some_same d e (rw same at found))
  | inr other ↦ absurd (no_some e (sym (none_else d n other) ∙ found))
]

-- ---- the objects

module _ (k : ℕ) (own : Deriving) (v : VolumeMembers) where
  pub slot_at : (n : ℕ) (d : Value) → object_at (formatted_by k own v) Keyslots n ≡ Some d → (n ≡ 0) × (slot_value (first_slot_by k own v) ≡ d)
  slot_at n d is = only_zero (slot_value (first_slot_by k own v)) d n is

  pub digest_at : (n : ℕ) (d : Value) → object_at (formatted_by k own v) Digests n ≡ Some d → (n ≡ 0) × (digest_value v ≡ d)
  digest_at n d is = only_zero (digest_value v) d n is

  pub segment_at : (n : ℕ) (d : Value) → object_at (formatted_by k own v) Segments n ≡ Some d → (n ≡ 0) × (segment_value v ≡ d)
  segment_at n d is = only_zero (segment_value v) d n is

-- the members of keyslot 0 are in their ranges
pub slot_fits : (k : ℕ) → AreSizes k → (own : Deriving) (v : VolumeMembers) → FitsVolume v → CanFormat v → FitsDerivation own → FitsSlot (first_slot_by k own v)
slot_fits k sized own v fits can fits_own =
    let low = sized.low in
    let high = sized.high in
    let most = block_most k high in
    record {
      key_size = record { from = omega (arith, low); to = omega (arith, high) };
      stripes = record { from = lit≤ tt; to = lit≤ tt };
      offset = lit< tt;
      size = omega (arith, most);
      area_key_size = record { from = omega (arith, low); to = omega (arith, high) };
      derivation = fits_own;
      salt = record { are_bytes = fits.slot_salt; long = can.slot_salt };
    }

-- ---- the numbers of the derivation

below_32 : (n : ℕ) → 1 ≤ n → n < 2 ^ 32 → Between 1 4294967295 n
below_32 n some low = record { from = some; to = omega (arith, low) }

some_lane : (allowed m c : ℕ) → (nat_lt allowed m || nat_lt m (8 * c) || nat_lt c 1 || nat_lt (2 ^ 24 - 1) c) ≡ false → 1 ≤ c
some_lane allowed m c ok = grind (arith, nat_tests)

some_memory : (allowed m c : ℕ) → (nat_lt allowed m || nat_lt m (8 * c) || nat_lt c 1 || nat_lt (2 ^ 24 - 1) c) ≡ false → 1 ≤ m
some_memory allowed m c ok = grind (arith, nat_tests)

-- Argon2 has a pass, a lane, and 8 KiB of memory for it
costs_fit : (allowed : ℕ) (costs : Argon2Costs) → nat_lt costs.time 1 ≡ false → costs_beyond allowed costs ≡ false → FitsCosts costs → FitsArgon2 costs
costs_fit allowed costs few ok fits =
    let pass : 1 ≤ costs.time = ltb-false costs.time 1 few in
    let lane = some_lane allowed costs.memory costs.cpus ok in
    let memory = some_memory allowed costs.memory costs.cpus ok in
    record { time = below_32 costs.time pass fits.0; memory = below_32 costs.memory memory fits.1; cpus = below_32 costs.cpus lane fits.2 }

pub derivation_fits : (format : Format) (allowed : ℕ) (chosen : Option NewDerivation) → 1 ≤ format.iterations → format.iterations < 2 ^ 32 → IfSome chosen (IsMakeable allowed)
    → IfSome chosen FitsNewDerivation → FitsDerivation (slot_derivation format chosen)
derivation_fits format allowed None some low can fits = below_32 format.iterations some low
derivation_fits format allowed (Some (by.Pbkdf2 n)) some low can fits =
    let high : 1000 ≤ n = ltb-false n 1000 can.turns in
    below_32 n (omega (arith, high)) fits
derivation_fits format allowed (Some (by.Argon2i costs)) some low can fits = costs_fit allowed costs can.turns can.within fits
derivation_fits format allowed (Some (by.Argon2id costs)) some low can fits = costs_fit allowed costs can.turns can.within fits

-- ---- the metadata meets every rule

-- the area lies in the region
in_region : (n : ℕ) → n ≤ 258048 → 32768 + n ≤ region_start 12288 + 16744448
in_region n most = omega (arith, most)

-- with the text of the region's size
abbrev with_region : ℕ → Deriving → VolumeMembers → List ℕ → Value
with_region k own v t = object (
    member (codes "config") (object (text_member (codes "json_size") (codes "12288") (text_member (codes "keyslots_size") t no_members))) (
    member (codes "digests") (sole (digest_value v)) (
    member (codes "keyslots") (sole (slot_value (first_slot_by k own v))) (
    member (codes "segments") (sole (segment_value v)) (
    member (codes "tokens") (object no_members) no_members)))))

module _ (k : ℕ) (sized : AreSizes k) (own : Deriving) (v : VolumeMembers) (fits : FitsVolume v) (can : CanFormat v) (fits_own : FitsDerivation own) where
  -- the keyslot has room in a new volume without one
  room : IsRoom 12288 0 0 (first_slot_by k own v) (shape v 16744448 no_items no_members) (digest_with v no_items)
  room = record {
    number = record { small = lit< tt; free = refl };
    unnamed = refl;
    digest = record { numbered = refl; named = lit< tt; is = refl };
    fits = slot_fits k sized own v fits can fits_own;
    large = used_inside k;
    within = λ bytes is.
        let same : 16744448 ≡ bytes = some_same 16744448 bytes (sym (decimal_is 16744448 (lit< tt)) ∙ is) in
        let most = block_most k sized.high in
        rw (← same) (leb-true (region_start 12288) 32768 refl, in_region (block_bytes k) most);
  }

  pub held_by : IsHeld 12288 (formatted_by k own v)
  held_by =
      let held : IsHeld 12288 (with_slot 0 0 (first_slot_by k own v) (shape v 16744448 no_items no_members)) =
      held_with 12288 0 0 (first_slot_by k own v) (shape v 16744448 no_items no_members) (digest_with v no_items) (held_bare v fits can 16744448 (lit< tt)) room in
      subst (λ t. IsHeld 12288 (with_region k own v t)) (sym keyslots_literal) held

-- what is made by putting keyslot 0 in anew
pub made_anew : (k : ℕ) (own : Deriving) (v : VolumeMembers) → with_slot 0 0 (first_slot_by k own v) (without_slot 0 (formatted v)) ≡ formatted_by k own v
made_anew k own v = refl
