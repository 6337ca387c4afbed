-- The metadata of a converted volume meets every rule, and what it says.
use Rattle.std.proofs.Common.{◌+◌, ◌≡◌, ℕ, zero, suc, ◌*◌, ◌^◌, ◌<◌, ◌≤◌, ◌⊎◌, List, [], ◌∷◌, ◌++◌, map, false, Option, None, Some, is_some, option_map, refl, sym, ap, ◌∙◌, arith, inl, inr, lit<, lit≤}
use Rattle.std.specs.List.{filter}
use Rattle.std.proofs.lemmas.Bool.{cases_eq}
use Rattle.std.proofs.lemmas.List.{append-nil}
use Rattle.std.proofs.lemmas.List.Elements.{filter-append}
use Rattle.serde_json.specs.Data.{Data, array, Items, no_items, Members, no_members, put}
use Rattle.luks_json.specs.Arrays.{has_text}
use Rattle.luks_json.specs.Number.{number_text}
use Rattle.luks_json.specs.Values.{item_texts}
use Rattle.luks_rules.specs.declared.table.Section.TheVariants.{Keyslots}
use Rattle.luks_rules.specs.Faults.{object_at}
use Rattle.luks_rules.specs.Held.{IsHeld}
use Rattle.luks_rules.specs.Sizes.{keyslots_size}
use Rattle.luks_making.specs.Changing.{add_text}
use Rattle.luks_making.specs.Conditions.{CanFormat, FitsSlot, FitsVolume, IsRoom}
use Rattle.luks_making.specs.Conversions.{CanConvert, FitsSource, SaysSource, slot_numbers}
use Rattle.luks_making.specs.Converted.{SourceMembers, SourceSlotMembers, area_size, area_start, converted, converted_below, converted_slot, region_size, volume_like, with_enabled, with_region}
use Rattle.luks_making.specs.Formatted.{VolumeMembers, formatted, segment_value}
use Rattle.luks_making.specs.Keyslots.{SlotMembers, slot_value}
use Rattle.luks_making.specs.Naming.{IsDigestOf}
use Rattle.luks_making.specs.NewVolumes.{SaysDigest, SaysVolume}
use Rattle.luks_making.specs.TextLengths.{items_bound, members_bound}
use Rattle.luks_making.specs.Unchanged.{GainsSlot}
use Rattle.luks_making.specs.With.{with_slot}
use Rattle.luks_making.specs.Without.{without_slot}
use Rattle.luks_making.proofs.AdditionFacts.{held_with, slot_gained}
use Rattle.luks_making.proofs.LengthFacts.{name_short, names_more, slot_most, slots_more}
use Rattle.luks_making.proofs.MemberFacts.{no_some, some_same}
use Rattle.luks_making.proofs.NameFacts.{added_text, others_added, texts_differ}
use Rattle.luks_making.proofs.NewAreaFacts.{end_by_last, end_within, holds_sectors, region_holds, region_short, start_from}
use Rattle.luks_making.proofs.NewVolumeFacts.{digest_with, held_bare, none_else, says_volume, shape}
use Rattle.luks_making.proofs.ReadingFacts.{below_32, decimal_is}
use Rattle.luks_making.proofs.RoomFacts.{says_members}

-- ---- the value's form

-- without a keyslot
pub base_shape : (u : VolumeMembers) (size : ℕ) → with_region size (without_slot 0 (formatted u)) ≡ shape u size no_items no_members
base_shape u size = refl

-- with one more
pub one_more : (u : VolumeMembers) (size : ℕ) (names : Items) (slots : Members) (n : ℕ) (s : SlotMembers)
    → with_slot n 0 s (shape u size names slots) ≡ shape u size (add_text (number_text n) names) (put (number_text n) (slot_value s) slots)
one_more u size names slots n s = refl

-- ---- the steps

pub below_none : (v : SourceMembers) → converted_below v 0 ≡ with_region (region_size v) (without_slot 0 (formatted (volume_like v)))
unfolding converted_below
below_none v = refl

pub below_more : (v : SourceMembers) (n : ℕ) (s : SourceSlotMembers) → v.slot n ≡ Some s → converted_below v (suc n) ≡ with_slot n 0 (converted_slot v n s) (converted_below v n)
unfolding converted_below
below_more v n s is = ap (λ o. with_enabled v n o (converted_below v n)) is

pub below_same : (v : SourceMembers) (n : ℕ) → v.slot n ≡ None → converted_below v (suc n) ≡ converted_below v n
unfolding converted_below
below_same v n is = ap (λ o. with_enabled v n o (converted_below v n)) is

-- ---- the numbers in order

abbrev numbers_below : ℕ → List ℕ
numbers_below zero = []
numbers_below (suc n) = numbers_below n ++ n ∷ []

abbrev pub enabled : SourceMembers → ℕ → List ℕ
enabled v n = filter (λ k. is_some (v.slot k)) (numbers_below n)

all_numbers : (v : SourceMembers) → enabled v 8 ≡ filter (λ k. is_some (v.slot k)) slot_numbers
all_numbers v = refl

last_named : (n : ℕ) (ns : List ℕ) → map number_text (ns ++ n ∷ []) ≡ map number_text ns ++ number_text n ∷ []
last_named n [] = refl
last_named n (i ∷ ns) = ap (λ ts. number_text i ∷ ts) (last_named n ns)

enabled_more : (v : SourceMembers) (n : ℕ) (s : SourceSlotMembers) → v.slot n ≡ Some s → enabled v (suc n) ≡ enabled v n ++ n ∷ []
enabled_more v n s is =
    let one : filter (λ k. is_some (v.slot k)) (n ∷ []) ≡ n ∷ [] = rw is refl in
    filter-append (λ k. is_some (v.slot k)) (numbers_below n) (n ∷ []) ∙ ap (λ ks. enabled v n ++ ks) one

enabled_same : (v : SourceMembers) (n : ℕ) → v.slot n ≡ None → enabled v (suc n) ≡ enabled v n
enabled_same v n is =
    let none : filter (λ k. is_some (v.slot k)) (n ∷ []) ≡ [] = rw is refl in
    filter-append (λ k. is_some (v.slot k)) (numbers_below n) (n ∷ []) ∙ ap (λ ks. enabled v n ++ ks) none ∙ append-nil (enabled v n)

-- ---- a new volume without a keyslot

module _ (v : SourceMembers) (fits : FitsSource v) (can : CanConvert v) where
  abbrev u : VolumeMembers
  u = volume_like v

  fits_volume : FitsVolume u
  fits_volume = record {
    iterations = fits.digest_iterations;
    segment_offset = fits.payload_offset;
    digest_salt = fits.digest_salt.are_bytes;
    digest = fits.digest.are_bytes;
    slot_salt = fits.digest_salt.are_bytes;
    sector_size = omega arith;
  }

  can_format : CanFormat u
  can_format =
      let salt = fits.digest_salt.long in
      let digest = fits.digest.long in
      record {
        iterations = can.digest_iterations;
        digest_salt = record { from = omega (arith, salt); to = omega (arith, salt) };
        digest = record { from = omega (arith, digest); to = omega (arith, digest) };
        slot_salt = record { from = omega (arith, salt); to = omega (arith, salt) };
        sector_size = refl;
      }

  -- the members of a keyslot are such as their rows read
  short : (n : ℕ) → n ≤ 16777216 → n < 2 ^ 64
  short n h = omega (arith, h)

  pub slot_fits : (n : ℕ) (s : SourceSlotMembers) → n < 8 → v.slot n ≡ Some s → FitsSlot (converted_slot v n s)
  slot_fits n s low is =
      let end = end_within v n s low is can.room in
      let own = fits.slots n s low is in
      let usable = can.slots n s low is in
      let salt = own.salt.long in
      record {
        key_size = can.key_bytes;
        stripes = below_32 s.stripes usable.stripes own.stripes;
        offset = short (area_start v n) (omega (arith, end));
        size = short (area_size v s) (omega (arith, end));
        area_key_size = can.key_bytes;
        derivation = below_32 s.iterations usable.iterations own.iterations;
        salt = record { are_bytes = own.salt.are_bytes; long = record { from = omega (arith, salt); to = omega (arith, salt) } };
      }

  -- ---- the keyslots so far

  -- of the keyslots below `n` the metadata has those that are enabled, each named by digest 0
  pub record Holds (n : ℕ) (j : Data) : Type 0 where
    pub names : Items
    pub slots : Members
    pub is : j ≡ shape u (region_size v) names slots
    pub names_most : items_bound names ≤ 1 + 4 * n
    pub slots_most : members_bound slots ≤ 1 + 1296 * n
    pub lists : item_texts names ≡ Some (map number_text (enabled v n))
    pub unnamed : (m : ℕ) → n ≤ m → has_text (number_text m) names ≡ false
    pub held : IsHeld 12288 j
    pub absent : (m : ℕ) → ((n ≤ m) ⊎ (v.slot m ≡ None)) → object_at j Keyslots m ≡ None
    pub there : (m : ℕ) (s : SourceSlotMembers) → m < n → v.slot m ≡ Some s → object_at j Keyslots m ≡ Some (slot_value (converted_slot v m s))
    pub named : (m : ℕ) (s : SourceSlotMembers) → m < n → v.slot m ≡ Some s → IsDigestOf j m 0

  region_64 : region_size v < 2 ^ 64
  region_64 = let most = region_short v in omega (arith, most)

  none_yet : Holds zero (with_region (region_size v) (without_slot 0 (formatted u)))
  none_yet = record {
    names = no_items;
    slots = no_members;
    is = base_shape u (region_size v);
    names_most = lit≤ tt;
    slots_most = lit≤ tt;
    lists = refl;
    unnamed = λ m low. refl;
    held = held_bare u fits_volume can_format (region_size v) region_64;
    absent = λ m o. refl;
    there = λ m s low on. absurd (omega (arith, low));
    named = λ m s low on. absurd (omega (arith, low));
  }

  -- a number that isn't enabled is passed over
  passed : (n : ℕ) (j : Data) → v.slot n ≡ None → Holds n j → Holds (suc n) j
  passed n j off x = record {
    names = x.names;
    slots = x.slots;
    is = x.is;
    names_most = (let most = x.names_most in omega (arith, most));
    slots_most = (let most = x.slots_most in omega (arith, most));
    lists = x.lists ∙ ap (λ ks. Some (map number_text ks)) (sym (enabled_same v n off));
    unnamed = λ m low. x.unnamed m (omega (arith, low));
    held = x.held;
    absent = λ m o. elim o [
      | inl high ↦ x.absent m (inl (omega (arith, high)))
      | inr dis ↦ x.absent m (inr dis)
    ];
    there = λ m s low on. elim (cases_eq m n) [
      | inl same ↦ absurd (no_some s (sym off ∙ ap v.slot (sym same) ∙ on))
      | inr other ↦ x.there m s (omega (arith, low, other)) on
    ];
    named = λ m s low on. elim (cases_eq m n) [
      | inl same ↦ absurd (no_some s (sym off ∙ ap v.slot (sym same) ∙ on))
      | inr other ↦ x.named m s (omega (arith, low, other)) on
    ];
  }

  room : (n : ℕ) (s : SourceSlotMembers) (j : Data) → n < 8 → v.slot n ≡ Some s → (x : Holds n j) → IsRoom 12288 n 0 (converted_slot v n s) j (digest_with u x.names)
  room n s j low on x = record {
    number = record { small = omega (arith, low); free = x.absent n (inl (omega arith)) };
    unnamed = rw (x.is, x.unnamed n (omega arith)) refl;
    digest = record { numbered = refl; named = lit< tt; is = rw x.is refl };
    fits = slot_fits n s low on;
    large = holds_sectors (v.key_bytes * s.stripes);
    within = λ bytes is.
        let same : region_size v ≡ bytes = some_same (region_size v) bytes (sym (decimal_is (region_size v) region_64) ∙ ap keyslots_size (sym x.is) ∙ is) in
        let end = end_by_last v n s low on in
        let last = region_holds v can.room in
        let from = start_from v n in
        (omega (arith, from), rw (← same) (omega (arith, end, last)));
  }

  -- an enabled one is added
  added : (n : ℕ) (s : SourceSlotMembers) (j : Data) → n < 8 → v.slot n ≡ Some s → Holds n j → Holds (suc n) (with_slot n 0 (converted_slot v n s) j)
  added n s j low on x =
      let made : SlotMembers = converted_slot v n s in
      let has_room = room n s j low on x in
      let name = name_short n low in
      let one = slot_most v fits can n s low on in
      let names = x.names_most in
      let slots = x.slots_most in
      let more = names_more (number_text n) x.names in
      let put_more = slots_more (number_text n) (slot_value (converted_slot v n s)) x.slots in
      let gains : GainsSlot n 0 (converted_slot v n s) j (with_slot n 0 (converted_slot v n s) j) = slot_gained 12288 n 0 (converted_slot v n s) j (digest_with u x.names) x.held.content has_room in
      record {
        names = add_text (number_text n) x.names;
        slots = put (number_text n) (slot_value (converted_slot v n s)) x.slots;
        is = ap (with_slot n 0 (converted_slot v n s)) x.is ∙ one_more u (region_size v) x.names x.slots n (converted_slot v n s);
        names_most = omega (arith, name, names, more);
        slots_most = omega (arith, name, one, slots, put_more);
        lists = added_text (number_text n) (Some (array x.names)) ∙ ap (option_map (λ ts. ts ++ number_text n ∷ [])) x.lists
            ∙ ap Some (sym (ap (map number_text) (enabled_more v n s on) ∙ last_named n (enabled v n)));
        unnamed = λ m high. others_added (number_text n) (number_text m) (Some (array x.names)) (texts_differ n m (λ e. absurd (omega (arith, e, high)))) ∙ x.unnamed m (omega (arith, high));
        held = held_with 12288 n 0 (converted_slot v n s) j (digest_with u x.names) x.held has_room;
        absent = λ m o. elim o [
          | inl high ↦ gains.rest.keyslots m (λ e. absurd (omega (arith, e, high))) ∙ x.absent m (inl (omega (arith, high)))
          | inr dis ↦ gains.rest.keyslots m (λ e. no_some s (sym dis ∙ ap v.slot e ∙ on)) ∙ x.absent m (inr dis)
        ];
        there = λ m t below is. elim (cases_eq m n) [
          | inl same ↦ (
              let own : s ≡ t = some_same s t (sym on ∙ ap v.slot (sym same) ∙ is) in
              rw (same, ← own) gains.there)
          | inr other ↦ gains.rest.keyslots m other ∙ x.there m t (omega (arith, below, other)) is
        ];
        named = λ m t below is. elim (cases_eq m n) [
          | inl same ↦ rw same gains.names
          | inr other ↦ (gains.rest.naming m 0 other).0 (x.named m t (omega (arith, below, other)) is)
        ];
      }

  by_state : (n : ℕ) (o : Option SourceSlotMembers) (j : Data) → v.slot n ≡ o → n < 8 → Holds n j → Holds (suc n) (with_enabled v n o j)
  by_state n (Some s) j is low x = added n s j low is x
  by_state n None j is low x = passed n j is x

  holds : (n : ℕ) → n ≤ 8 → Holds n (converted_below v n)
  unfolding converted_below
  holds zero low = none_yet
  holds (suc n) low = by_state n (v.slot n) (converted_below v n) refl (omega (arith, low)) (holds n (omega (arith, low)))

  -- ---- the whole value

  pub all : Holds 8 (converted v)
  all = holds 8 (omega arith)

  pub held_converted : IsHeld 12288 (converted v)
  held_converted = all.held

  like_new : SaysVolume u (formatted u)
  like_new = says_volume u fits_volume can_format

  says_digest : (names : Items) → SaysDigest u (digest_with u names)
  says_digest names = record {
    kind = refl;
    hash = refl;
    iterations = like_new.digest_says.iterations;
    salt = like_new.digest_says.salt;
    stored = like_new.digest_says.stored;
  }

  pub says_source : SaysSource v (converted v)
  says_source = record {
    keyslot = λ n s low on. all.there n s low on;
    slot_says = λ n s low on. says_members (converted_slot v n s) (slot_fits n s low on);
    no_keyslot = all.absent;
    names = λ n s low on. all.named n s low on;
    digest = digest_with u all.names;
    digest_at = rw all.is refl;
    digest_says = says_digest all.names;
    lists = all.lists ∙ ap (λ ks. Some (map number_text ks)) (all_numbers v);
    no_digest = λ n other. rw all.is (none_else (digest_with u all.names) n other);
    segment = rw all.is refl;
    segment_says = like_new.segment_says;
    no_segment = λ n other. rw all.is (none_else (segment_value u) n other);
    no_token = λ n. rw all.is refl;
    region = rw all.is (decimal_is (region_size v) region_64);
  }
