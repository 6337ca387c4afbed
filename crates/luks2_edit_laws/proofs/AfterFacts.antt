-- What an edit that was completed keeps of a LUKS2 volume.
use Rattle.std.proofs.Common.{◌≡◌, ◌≢◌, ℕ, ◌+◌, ◌-◌, ◌*◌, ◌<◌, ◌≤◌, ◌^◌, List, length, replicate, codes, true, false, Option, Some, None, option_and_then, is_some, inl, inr, refl, sym, ap, subst, ◌∙◌, arith}
use Rattle.std.specs.Prelude.{IfSome, IsSomeAnd, MatchOption, ⊤}
use Rattle.std.proofs.lemmas.Bool.{cases_eq, cases_lt, false_from_ne_true}
use Rattle.std.proofs.lemmas.Option.{same_Some}
use Rattle.base64.specs.GeneralPurpose.{IsBytes}
use Rattle.serde_json.specs.Data.{Data as Value}
use Rattle.serde_json.specs.Find.{get}
use Rattle.serde_json.specs.View.{view}
use Rattle.luks_area.specs.declared.area.Area.{Area}
use Rattle.luks_area.specs.declared.area.AreaName.TheVariants as name
use Rattle.luks_area.specs.Ranges.{part}
use Rattle.luks2_header.specs.Header2.{hdr_size, header_at, IsUuidField}
use Rattle.luks2_header.specs.Selection.{luks2, Chosen}
use Rattle.luks2_header.specs.declared.selection.Copies.TheVariants.{InStep}
use Rattle.luks2_header.proofs.CopyFacts.{listed_at_least}
use Rattle.luks_rules.specs.declared.table.Section.TheVariants.{Keyslots}
use Rattle.luks_rules.specs.Faults.{object_at}
use Rattle.luks_rules.specs.declared.fault.MetaFault.{MetaFault}
use Rattle.luks_rules.specs.Held.{IsHeld}
use Rattle.luks_rules.specs.Reading.{decimal_in}
use Rattle.luks_making.specs.Amended.{with_priority, with_token, without_token}
use Rattle.luks_making.specs.Changed.{changed_slot}
use Rattle.luks_making.specs.Conditions.{CanSeal, FitsDerivation, FitsNew, FitsSlot, IsFree, IsRoom}
use Rattle.luks_making.specs.Derivations.{asked_beyond, asked_few_turns, FitsAsked, FitsNewDerivation, IsPositive, IsPositiveOr}
use Rattle.luks_making.specs.declared.derivation.AskedDerivation.{AskedDerivation}
use Rattle.luks_making.specs.declared.derivation.NewDerivation.{NewDerivation}
use Rattle.luks_making.specs.Keyslots.{derivation_by, slot_value, IsDerivedOr, NewMembers, SlotMembers}
use Rattle.luks_making.specs.Naming.{HasUniqueDigests}
use Rattle.luks_making.specs.Unchanged.{ChangesSlot, GainsSlot, SaysMembers}
use Rattle.luks_making.specs.Without.{without_slot}
use Rattle.luks_making.specs.declared.amended.Change.TheVariants as changes
use Rattle.luks_making.specs.declared.amended.Priority.{Priority}
use Rattle.luks_making.proofs.AdditionFacts.{held_with, slot_gained}
use Rattle.luks_making.proofs.AmendFacts.{held_prior, held_without_token, priority_set, token_added, token_lost}
use Rattle.luks_making.proofs.FreeNumberFacts.{unnamed_free}
use Rattle.luks_making.proofs.KdfFacts.{chosen_fits, unrefused_positive}
use Rattle.luks_making.proofs.ChangeFacts.{held_changed, slot_renewed}
use Rattle.luks_making.proofs.RemovalFacts.{held_left, slot_lost}
use Rattle.luks_making.proofs.RoomFacts.{gained_added, held_added, room as has_room, says_members}
use Rattle.luks_slot.specs.declared.allowed.Allowed.{Allowed}
use Rattle.luks_reading.specs.declared.report.Data.{Data}
use Rattle.luks_reading.specs.Checked.{AreaOf, WellFormed}
use Rattle.luks_reading.specs.Layout2.{slot_number}
use Rattle.luks_edit.specs.declared.edit.Edit.{Edit}
use Rattle.luks_edit.specs.declared.deed.Sealed.{Sealed}
use Rattle.luks_edit.specs.declared.edit.Edit.TheVariants.{Add, AddByKey, Change, Remove, Erase, Repair, Label, Uuid, Amend}
use Rattle.luks_edit.specs.declared.edit.Opener.{Opener}
use Rattle.luks_edit.specs.declared.edit.Opener.TheVariants as opener
use Rattle.luks_edit.specs.Asked.{again_by, allowed_for, chosen_or, Loses, opener_at, sealed_by, uuid_by}
use Rattle.luks_edit.specs.NewUuids.{uuid_need}
use Rattle.luks_edit.specs.declared.edit_fault.EditFault.TheVariants.{Argon2, BadToken, BadUuid, Iterations, NoFreeSlot, RandomLength, SlotTaken}
use Rattle.luks_edit.specs.Kept.{IsShut, Keeps}
use Rattle.luks2_edit_laws.specs.declared.like.Like.{Like}
use Rattle.luks2_edit_laws.specs.declared.like.Like.TheVariants.{Keyslot, Digest}
use Rattle.luks2_edit_laws.specs.Edited.{keyslot_salt, members_of, After2, Gives2, HasAdded, HasChanged, HasNewToken, HasRangedDerivation, HasRanges, IsEdited, IsMadeIn, IsSealedBy, NamedKeyslots2}
use Rattle.luks2_edit_laws.specs.Likes.{digest_by, fresh_members, ForLike, HasStripesLike, IsAddedLike, IsLike, slot_by}
use Rattle.luks2_edit_laws.specs.Metadata.{HasMetadata, IsNewKeyslot}
use Rattle.luks2_edit_laws.specs.Places.{key_areas_end, IsNewArea}
use Rattle.luks2_edit_laws.specs.Refused.{HasNoNumber, IsFaultyWith, IsNumberTaken, IsUnrefused2, NeedsLike}
use Rattle.luks2_edit_laws.proofs.AmendFacts.{amended_metadata}
use Rattle.luks2_edit_laws.proofs.CopyFacts.{both_chosen}
use Rattle.luks2_edit_laws.proofs.ErasedFacts.{erased_metadata, none_opens, removed_shut}
use Rattle.luks2_edit_laws.proofs.KeptFacts.{all_kept, says_itself, KeepsMetadata}
use Rattle.luks2_edit_laws.proofs.LikeFacts.{model_by_key, IsModel}
use Rattle.luks2_edit_laws.proofs.SoundCopyFacts.{copy_sound}
use Rattle.luks2_edit_laws.proofs.MetadataFacts.{lost_metadata, placed_metadata}
use Rattle.luks2_edit_laws.proofs.PlaceFacts.{left_bytes}
use Rattle.luks2_edit_laws.proofs.SealFacts.{can_seal, enough_random, fits_new, holds_stripes, in_region, none_of, opened_there, opened_plan, part_bytes, salt_length, under}
use Rattle.luks2_edit_laws.proofs.UniqueFacts.{unique_digests}
use Rattle.luks2_edit_laws.proofs.ValuedFacts.{valued_held}
use Rattle.luks2_edit_laws.proofs.UuidFacts.{uuid_stays}
use Rattle.luks2_edit_laws.proofs.VolumeFacts.{areas_are, copy_of, layout_of, HasCopy, IsLayout}

-- what an edit is given has the ranges of its types
pub has_ranges : (v : List ℕ) (e : Edit) (random : List ℕ) {size : ℕ} → length v ≡ size → size < 2 ^ 64 → HasRangedDerivation e → IsBytes random → HasRanges v e random
has_ranges v e random long fits derivation random_bytes = record { size = omega (arith, long, fits); derivation = derivation; random_bytes = random_bytes }

-- a keyslot that loses its area is named
pub lost_is_named : (v : List ℕ) (e : Edit) (n : ℕ) → Loses e n → NamedKeyslots2 v e n
lost_is_named v (Add by_ old new to iterations d) n lost = absurd lost
lost_is_named v (AddByKey key new to iterations d) n lost = absurd lost
lost_is_named v (Change slot old new iterations d) n lost = lost
lost_is_named v (Remove slot by_ passphrase) n lost = lost
lost_is_named v Erase n lost = tt
lost_is_named v Repair n lost = absurd lost
lost_is_named v (Label text subsystem) n lost = absurd lost
lost_is_named v (Uuid uuid) n lost = absurd lost
lost_is_named v (Amend c) n lost = absurd lost

-- metadata keeps itself
pub same_metadata : (h total : ℕ) (payload : Data) (named : ℕ → Type 0) (j k : Value) → k ≡ j → IsLayout h total payload j → KeepsMetadata h total payload named j k
same_metadata h total payload named j k same old =
    let itself : KeepsMetadata h total payload named j j = record { layout = old; segments = refl; slots = λ m lt free. says_itself j m } in
    subst (KeepsMetadata h total payload named j) (sym same) itself

without_metadata : (h total : ℕ) (payload : Data) (named : ℕ → Type 0) (n : ℕ) (j k : Value) → named n → k ≡ without_slot n j
    → IsLayout h total payload j → KeepsMetadata h total payload named j k
without_metadata h total payload named n j k is same old =
    let without : KeepsMetadata h total payload named j (without_slot n j) =
    lost_metadata n j (without_slot n j) (slot_lost n j).rest h total payload named is (held_left (h - 4096) n j old.held) old (slot_lost n j).gone in
    subst (KeepsMetadata h total payload named j) (sym same) without

-- so does metadata with a priority, without a token, and with one that leaves it without a fault
prioritized_metadata : (h total : ℕ) (payload : Data) (named : ℕ → Type 0) (n : ℕ) (priority : Priority) (j k : Value) → named n → k ≡ with_priority n priority j
    → IsLayout h total payload j → KeepsMetadata h total payload named j k
prioritized_metadata h total payload named n priority j k is same old =
    let new : Value = with_priority n priority j in
    let kept : KeepsMetadata h total payload named j new =
    amended_metadata (Some n) None j new (priority_set (h - 4096) n priority j old.held).rest h total payload named
    (λ m same_. subst named (same_Some n m same_) is) (held_prior (h - 4096) n priority j old.held) old in
    subst (KeepsMetadata h total payload named j) (sym same) kept

without_token_metadata : (h total : ℕ) (payload : Data) (named : ℕ → Type 0) (n : ℕ) (j k : Value) → k ≡ without_token n j
    → IsLayout h total payload j → KeepsMetadata h total payload named j k
without_token_metadata h total payload named n j k same old =
    let kept : KeepsMetadata h total payload named j (without_token n j) =
    amended_metadata None (Some n) j (without_token n j) (token_lost n j).rest h total payload named (λ m none. absurd (cc)) (held_without_token (h - 4096) n j old.held) old in
    subst (KeepsMetadata h total payload named j) (sym same) kept

with_token_metadata : (h total : ℕ) (payload : Data) (named : ℕ → Type 0) (j k : Value) (to : Option ℕ) (token : Value) → HasNewToken to token j k
    → ((f : MetaFault) → IsFaultyWith (h - 4096) j to token f → ⊥) → IsLayout h total payload j → KeepsMetadata h total payload named j k
with_token_metadata h total payload named j k to token new good old =
    let made : Value = with_token new.number token j in
    let held : IsHeld (h - 4096) made = valued_held (h - 4096) made (λ f bad. good f (record { number = new.number; is_new = new.is_new; fault = bad })) in
    let kept : KeepsMetadata h total payload named j made =
    amended_metadata None (Some new.number) j made (token_added (h - 4096) new.number token j old.held).rest h total payload named (λ m none. absurd (cc)) held old in
    subst (KeepsMetadata h total payload named j) (sym new.is) kept

-- ---- what no refusal means

-- the keyslot that is to be made is free
new_free : (j : Value) (to : Option ℕ) (n : ℕ) → (IsNumberTaken j to → ⊥) → (HasNoNumber j to → ⊥) → IsNewKeyslot j to n → IsFree j n
new_free j (Some t) n taken none is = elim (cases_lt t 32) [
  | inl lt ↦ (
      let free : IsFree j t = record { small = lt; free = none_of (object_at j Keyslots t) (λ d there. taken (lt, ap is_some there)) } in
      subst (IsFree j) (sym is) free)
  | inr past ↦ absurd (none past)
]
new_free j None n taken none is = is.free

-- there are as many random bytes as a keyslot takes
need_met : (j : Value) (like : Like) (random : List ℕ) (key stripes : ℕ) → HasStripesLike j like key stripes
    → ((need : ℕ) → NeedsLike j need like → length random ≢ need → ⊥) → 160 ≤ length random
need_met j like random key stripes slot met =
    let need : ℕ = 64 + 64 + 32 + (stripes - 1) * key in
    let needs : NeedsLike j need like = record { key_bytes = key; stripes = stripes; slot = slot; count = refl } in
    elim (cases_eq (length random) need) [
      | inl same ↦ (let enough : 160 ≤ need = enough_random j like need needs in omega (arith, same, enough))
      | inr other ↦ absurd (met need needs other)
    ]

-- the derivation that an edit asks for
abbrev pub asking : ℕ → Option NewDerivation → AskedDerivation
asking n d = record { iterations = n; chosen = d }

-- what no refusal says of an edit that seals a keyslot that is made like this one
pub record IsReady (allowed : Allowed) (v : List ℕ) (j : Value) (like : Like) (asked : AskedDerivation) (random : List ℕ) : Type 0 where
  pub model : IsModel j like
  pub turns : asked_few_turns asked ≡ false
  pub within : asked_beyond allowed.memory asked ≡ false
  pub ranged : FitsAsked asked
  pub small : length v < 2 ^ 64
  pub random_bytes : IsBytes random
  pub met : (need : ℕ) → NeedsLike j need like → length random ≢ need → ⊥

-- each edit that seals a keyslot is ready
pub ready_by : (v : List ℕ) (o : ℕ) (payload : Data) (e : Edit) (random : List ℕ) (j : Value) → HasMetadata v o j → HasRanges v e random → IsUnrefused2 v payload e random
    → (s : Sealed) → sealed_by e ≡ Some s → (like : Like) → IsLike j (opener_at s.place) like → IsModel j like
    → IsReady (allowed_for (opener_at s.place) s.passphrase.now) v j like s.derivation random
ready_by v o payload e random j m ranges free s seals like is model = record {
  model = model;
  turns = false_from_ne_true _ (λ few. free.none Iterations (subst (λ x. IsSomeAnd x (λ s. asked_few_turns s.derivation ≡ true)) (sym seals) few));
  within = false_from_ne_true _ (λ beyond. free.none Argon2
      (subst (λ x. IsSomeAnd x (λ s. asked_beyond (allowed_for (opener_at s.place) s.passphrase.now).memory s.derivation ≡ true)) (sym seals) beyond));
  ranged = subst (λ x. IfSome x (λ s. FitsAsked s.derivation)) seals ranges.derivation;
  small = ranges.size;
  random_bytes = ranges.random_bytes;
  met = λ need needs other. free.none RandomLength (record {
    place = o;
    value = j;
    metadata = m;
    is = record {
      need = need;
      is = subst (λ x. MatchOption x (need ≡ 64 + 64 + uuid_need (uuid_by e)) (λ s. ForLike j (opener_at s.place) (NeedsLike j need))) (sym seals) (record { like = like; is_like = is; has = needs });
      other = other;
    };
  });
}

-- what is at least 16384 is at least 4096
above : {g h : ℕ} → g ≡ h → 16384 ≤ g → 4096 ≤ h
above same least = omega (arith, same, least)

-- ---- a keyslot that is made

-- what is new of them
pub new_offset : (to : ℕ) (like : Like) (f : NewMembers) (j k : Value) (is : IsAddedLike to like f j k) → (slot_by to like f j k is).offset ≡ f.offset
new_offset to (Keyslot n) f j k is = is.made.offset
new_offset to (Digest number key_bytes) f j k is = refl

pub new_size : (to : ℕ) (like : Like) (f : NewMembers) (j k : Value) (is : IsAddedLike to like f j k) → (slot_by to like f j k is).size ≡ f.size
new_size to (Keyslot n) f j k is = is.made.size
new_size to (Digest number key_bytes) f j k is = refl

pub new_salt : (to : ℕ) (like : Like) (f : NewMembers) (j k : Value) (is : IsAddedLike to like f j k) → (slot_by to like f j k is).salt ≡ f.salt
new_salt to (Keyslot n) f j k is = is.made.salt
new_salt to (Digest number key_bytes) f j k is = refl

pub new_derivation : (to : ℕ) (like : Like) (f : NewMembers) (j k : Value) (is : IsAddedLike to like f j k) (c : NewDerivation) → f.derivation.chosen ≡ Some c
    → (slot_by to like f j k is).derivation ≡ derivation_by (slot_by to like f j k is).splitter_hash c
new_derivation to (Keyslot n) f j k is c chosen =
    subst (λ x. IsDerivedOr is.from f.derivation.iterations is.slot.splitter_hash x is.slot.derivation) chosen is.made.derivation
new_derivation to (Digest number key_bytes) f j k is c chosen = ap (λ x. derivation_by (codes "sha256") (chosen_or f.derivation.iterations x)) chosen

-- the derivation of one like that of a new volume fits
pub fresh_fits : (hash : List ℕ) (n : ℕ) (chosen : Option NewDerivation) → n < 2 ^ 32 → IfSome chosen FitsNewDerivation → IsPositiveOr n chosen
    → FitsDerivation (derivation_by hash (chosen_or n chosen))
fresh_fits hash n None small fits one = chosen_fits hash n (chosen_or n None) small one
fresh_fits hash n (Some c) small fits one = chosen_fits hash n c fits one

module _ (allowed : Allowed) (v : List ℕ) (o h : ℕ) (payload : Data) (random : List ℕ) (j k : Value) (before : HasCopy v o h j)
    (layout : IsLayout h (length v) payload j) (like : Like) (asked : AskedDerivation) (ready : IsReady allowed v j like asked random) where
  head_size : 4096 ≤ h
  head_size =
      let least : 16384 ≤ hdr_size (header_at v o) = listed_at_least (hdr_size (header_at v o)) (copy_sound v o before.copies before.chosen).form.listed in
      let size : hdr_size (header_at v o) ≡ h = before.size in
      above size least

  salt_is : (area : Area) → IsNewArea h (length v) payload j like area → length (keyslot_salt random) ≡ 32
  salt_is area place = salt_length random (need_met j like random place.key_bytes place.stripes place.slot ready.met)

  positive : IsPositive asked
  positive = unrefused_positive allowed.memory asked.iterations asked.chosen ready.turns ready.within

  -- the new salt is long enough for Argon2
  pub long_salt : (area : Area) → IsNewArea h (length v) payload j like area → 8 ≤ length (keyslot_salt random)
  long_salt area place =
      let long : length (keyslot_salt random) ≡ 32 = salt_is area place in
      omega (arith, long)

  fits : (area : Area) → IsNewArea h (length v) payload j like area → FitsNew (members_of asked (keyslot_salt random) area)
  fits area place = fits_new h (length v) payload j like area place asked (keyslot_salt random) ready.small ready.ranged (part_bytes random 128 32 ready.random_bytes)

-- what the metadata has gained, and what the new keyslot says
pub record Gained (h n digest : ℕ) (slot : SlotMembers) (j k : Value) : Type 0 where
  pub gains : GainsSlot n digest slot j k
  pub says : SaysMembers slot (slot_value slot)
  pub held : IsHeld (h - 4096) k

-- of a keyslot that is made like one that is there
module _ (allowed : Allowed) (v : List ℕ) (o h : ℕ) (payload : Data) (random : List ℕ) (j k : Value) (before : HasCopy v o h j)
    (layout : IsLayout h (length v) payload j) (n : ℕ) (asked : AskedDerivation) (ready : IsReady allowed v j (Keyslot n) asked random) where
  seals : (area : Area) → IsNewArea h (length v) payload j (Keyslot n) area → CanSeal (h - 4096) j n (members_of asked (keyslot_salt random) area)
  seals area place =
      can_seal h (length v) payload j n area place asked (keyslot_salt random) (head_size allowed v o h payload random j k before layout (Keyslot n) asked ready) ready.model
      (positive allowed v o h payload random j k before layout (Keyslot n) asked ready) (salt_is allowed v o h payload random j k before layout (Keyslot n) asked ready area place)

  gained_like : (to : ℕ) (area : Area) (place : IsNewArea h (length v) payload j (Keyslot n) area) → IsFree j to
      → (a : IsAddedLike to (Keyslot n) (members_of asked (keyslot_salt random) area) j k) → Gained h to a.digest a.slot j k
  gained_like to area place free a =
      let f : NewMembers = members_of asked (keyslot_salt random) area in
      let once : HasUniqueDigests j = unique_digests before.holds.text j before.holds.reads in
      let seal : CanSeal (h - 4096) j n f = seals area place in
      let fit : FitsNew f = fits allowed v o h payload random j k before layout (Keyslot n) asked ready area place in
      let room : IsRoom (h - 4096) to a.digest a.slot j a.names.object = has_room (h - 4096) to n f j k layout.held.content once free seal fit a in
      record {
        gains = gained_added (h - 4096) to n f j k layout.held once free seal fit a;
        says = says_members a.slot room.fits;
        held = held_added (h - 4096) to n f j k layout.held once free seal fit a;
      }

  -- the keyslot that is changed
  pub changed_changes : (a : HasChanged h (length v) payload n asked (keyslot_salt random) j k)
      → ChangesSlot n (members_of asked (keyslot_salt random) a.area) j k
  changed_changes a =
      let c : ChangesSlot n (members_of asked (keyslot_salt random) a.area) j (changed_slot n (members_of asked (keyslot_salt random) a.area) j) =
      slot_renewed (h - 4096) n (members_of asked (keyslot_salt random) a.area) j layout.held.content (seals a.area a.place)
      (fits allowed v o h payload random j k before layout (Keyslot n) asked ready a.area a.place) in
      subst (ChangesSlot n (members_of asked (keyslot_salt random) a.area) j) (sym a.is) c

  -- the metadata with a keyslot that was sealed again
  changed_metadata : (named : ℕ → Type 0) → (a : HasChanged h (length v) payload n asked (keyslot_salt random) j k) → named n
      → KeepsMetadata h (length v) payload named j k
  changed_metadata named a is =
      let f : NewMembers = members_of asked (keyslot_salt random) a.area in
      let new : Value = changed_slot n f j in
      let seal : CanSeal (h - 4096) j n f = seals a.area a.place in
      let fit : FitsNew f = fits allowed v o h payload random j k before layout (Keyslot n) asked ready a.area a.place in
      let c : ChangesSlot n f j new = slot_renewed (h - 4096) n f j layout.held.content seal fit in
      let start : slot_number new n (codes "offset") ≡ Some a.area.start =
      ap (λ d. decimal_in (option_and_then (get (codes "offset")) (option_and_then (get (codes "area")) d))) c.is ∙ c.says.offset in
      let len : slot_number new n (codes "size") ≡ Some a.area.len =
      ap (λ d. decimal_in (option_and_then (get (codes "size")) (option_and_then (get (codes "area")) d))) c.is ∙ c.says.size in
      let keeps : KeepsMetadata h (length v) payload named j new =
      placed_metadata n j new c.rest h (length v) payload (2 * h) (key_areas_end h (length v) a.place.region) a.area (c.there.named, start, len) a.place.gap.gap
      (under h (length v) payload j (Keyslot n) a.area a.place) named is (held_changed (h - 4096) n f j layout.held seal fit) layout in
      subst (KeepsMetadata h (length v) payload named j) (sym a.is) keeps

-- of one like that of a new volume
module _ (allowed : Allowed) (v : List ℕ) (o h : ℕ) (payload : Data) (random : List ℕ) (j k : Value) (before : HasCopy v o h j)
    (layout : IsLayout h (length v) payload j) (number key_bytes : ℕ) (asked : AskedDerivation) (ready : IsReady allowed v j (Digest number key_bytes) asked random) where
  fresh_slot : (area : Area) (place : IsNewArea h (length v) payload j (Digest number key_bytes) area) → FitsSlot (fresh_members key_bytes (members_of asked (keyslot_salt random) area))
  fresh_slot area place =
      let fit : FitsNew (members_of asked (keyslot_salt random) area) = fits allowed v o h payload random j k before layout (Digest number key_bytes) asked ready area place in
      let long : length (keyslot_salt random) ≡ 32 = salt_is allowed v o h payload random j k before layout (Digest number key_bytes) asked ready area place in
      record {
        key_size = ready.model.long;
        stripes = record { from = omega arith; to = omega arith };
        offset = fit.offset;
        size = fit.size;
        area_key_size = record { from = omega arith; to = omega arith };
        derivation = fresh_fits (codes "sha256") asked.iterations asked.chosen ready.ranged.iterations ready.ranged.chosen
            (positive allowed v o h payload random j k before layout (Digest number key_bytes) asked ready);
        salt = record { are_bytes = fit.salt; long = record { from = omega (arith, long); to = omega (arith, long) } };
      }

  -- there is room for it
  pub fresh_room : (to : ℕ) (area : Area) (place : IsNewArea h (length v) payload j (Digest number key_bytes) area) → IsFree j to
      → IsRoom (h - 4096) to number (fresh_members key_bytes (members_of asked (keyslot_salt random) area)) j ready.model.object
  fresh_room to area place free = record {
    number = free;
    unnamed = unnamed_free (h - 4096) to j layout.held.content free.free (unique_digests before.holds.text j before.holds.reads);
    digest = ready.model.there;
    fits = fresh_slot area place;
    large = holds_stripes h (length v) payload j (Digest number key_bytes) area place key_bytes 4000 (sym place.slot.0) (sym place.slot.1);
    within = in_region h (length v) payload j (Digest number key_bytes) area place (head_size allowed v o h payload random j k before layout (Digest number key_bytes) asked ready);
  }

  gained_fresh : (to : ℕ) (area : Area) (place : IsNewArea h (length v) payload j (Digest number key_bytes) area) → IsFree j to
      → IsAddedLike to (Digest number key_bytes) (members_of asked (keyslot_salt random) area) j k
      → Gained h to number (fresh_members key_bytes (members_of asked (keyslot_salt random) area)) j k
  gained_fresh to area place free a =
      let s : SlotMembers = fresh_members key_bytes (members_of asked (keyslot_salt random) area) in
      let room : IsRoom (h - 4096) to number s j ready.model.object = fresh_room to area place free in
      record {
        gains = subst (GainsSlot to number s j) (sym a) (slot_gained (h - 4096) to number s j ready.model.object layout.held.content room);
        says = says_members s room.fits;
        held = subst (IsHeld (h - 4096)) (sym a) (held_with (h - 4096) to number s j ready.model.object layout.held room);
      }

-- of each
gained_by : (allowed : Allowed) (v : List ℕ) (o h : ℕ) (payload : Data) (random : List ℕ) (j k : Value) → HasCopy v o h j → IsLayout h (length v) payload j
    → (like : Like) (asked : AskedDerivation) → IsReady allowed v j like asked random → (to : ℕ) (area : Area) → IsNewArea h (length v) payload j like area → IsFree j to
    → (a : IsAddedLike to like (members_of asked (keyslot_salt random) area) j k)
    → Gained h to (digest_by to like (members_of asked (keyslot_salt random) area) j k a) (slot_by to like (members_of asked (keyslot_salt random) area) j k a) j k
gained_by allowed v o h payload random j k before layout (Keyslot n) asked ready to area place free a =
    gained_like allowed v o h payload random j k before layout n asked ready to area place free a
gained_by allowed v o h payload random j k before layout (Digest number key_bytes) asked ready to area place free a =
    gained_fresh allowed v o h payload random j k before layout number key_bytes asked ready to area place free a

module _ (allowed : Allowed) (v : List ℕ) (o h : ℕ) (payload : Data) (random : List ℕ) (j k : Value) (before : HasCopy v o h j)
    (layout : IsLayout h (length v) payload j) (like : Like) (asked : AskedDerivation) (ready : IsReady allowed v j like asked random)
    (to : Option ℕ) (taken : IsNumberTaken j to → ⊥) (none : HasNoNumber j to → ⊥) (a : HasAdded h (length v) payload to asked (keyslot_salt random) j k like) where
  abbrev pub made_digest : ℕ
  made_digest = digest_by a.slot like (members_of asked (keyslot_salt random) a.area) j k a.is

  abbrev pub made_slot : SlotMembers
  made_slot = slot_by a.slot like (members_of asked (keyslot_salt random) a.area) j k a.is

  -- what an addition gains
  pub added_gained : Gained h a.slot made_digest made_slot j k
  added_gained = gained_by allowed v o h payload random j k before layout like asked ready a.slot a.area a.place (new_free j to a.slot taken none a.is_new) a.is

  -- the metadata with the new keyslot
  added_metadata : (named : ℕ → Type 0) → named a.slot → KeepsMetadata h (length v) payload named j k
  added_metadata named is =
      let f : NewMembers = members_of asked (keyslot_salt random) a.area in
      let free : IsFree j a.slot = new_free j to a.slot taken none a.is_new in
      let g : Gained h a.slot made_digest made_slot j k = added_gained in
      let start : slot_number k a.slot (codes "offset") ≡ Some a.area.start =
      ap (λ d. decimal_in (option_and_then (get (codes "offset")) (option_and_then (get (codes "area")) d))) g.gains.there ∙ g.says.offset ∙ ap Some (new_offset a.slot like f j k a.is) in
      let len : slot_number k a.slot (codes "size") ≡ Some a.area.len =
      ap (λ d. decimal_in (option_and_then (get (codes "size")) (option_and_then (get (codes "area")) d))) g.gains.there ∙ g.says.size ∙ ap Some (new_size a.slot like f j k a.is) in
      placed_metadata a.slot j k g.gains.rest h (length v) payload (2 * h) (key_areas_end h (length v) a.place.region) a.area (free.small, start, len) a.place.gap.gap
      (under h (length v) payload j like a.area a.place) named is g.held layout

-- ---- the metadata after an edit

-- what opens gave a key
abbrev pub WasOpened : List ℕ → Edit → Type 0
WasOpened v e = IfSome (sealed_by e) (λ s. (key : List ℕ) × Gives2 (allowed_for (opener_at s.place) s.passphrase.now) v (opener_at s.place) key)

pub was_opened : (v : List ℕ) (e : Edit) (random : List ℕ) (j : Value) (w : List ℕ) (k : Value) → IsSealedBy v e random j w k → WasOpened v e
was_opened v (Add by_ old new to iterations d) random j w k sealed = (sealed.key, sealed.opened)
was_opened v (AddByKey key new to iterations d) random j w k sealed = (sealed.key, sealed.opened)
was_opened v (Change slot old new iterations d) random j w k sealed = (sealed.key, sealed.opened)
was_opened v (Remove slot by_ passphrase) random j w k sealed = tt
was_opened v Erase random j w k sealed = tt
was_opened v Repair random j w k sealed = tt
was_opened v (Label text subsystem) random j w k sealed = tt
was_opened v (Uuid uuid) random j w k sealed = tt
was_opened v (Amend c) random j w k sealed = tt

-- so what a new keyslot is made like is there
pub model_by : (allowed : Allowed) (v : List ℕ) (o : ℕ) (j : Value) (opener_ : Opener) (key : List ℕ) (like : Like) → HasMetadata v o j → Gives2 allowed v opener_ key → IsLike j opener_ like
    → IsModel j like
model_by allowed v o j (opener.Keyslot slot secret) key like m opened is =
    subst (IsModel j) (sym is) (opened_there allowed v o j slot (opened_plan secret.kind allowed v o j slot secret.bytes.now key m opened))
model_by allowed v o j (opener.Key own) key like m opened is = model_by_key own.allowed.older j own.bytes.now like is

pub edited_metadata : (v : List ℕ) (o : ℕ) (payload : Data) (e : Edit) (random : List ℕ) (j k : Value)
    → HasMetadata v o j → HasCopy v o (hdr_size (header_at v o)) j → HasRanges v e random → IsUnrefused2 v payload e random → WasOpened v e
    → IsEdited (hdr_size (header_at v o)) (length v) payload e (keyslot_salt random) j k
    → IsLayout (hdr_size (header_at v o)) (length v) payload j
    → KeepsMetadata (hdr_size (header_at v o)) (length v) payload (NamedKeyslots2 v e) j k
edited_metadata v o payload (Add by_ old new to iterations d) random j k m before ranges free sealed is layout =
    let opener_ : Opener = opener.Keyslot by_ old in
    let model : IsModel j is.like = model_by (allowed_for opener_ new.now) v o j opener_ sealed.0 is.like m sealed.1 is.is_like in
    added_metadata (allowed_for opener_ new.now) v o (hdr_size (header_at v o)) payload random j k before layout is.like (asking iterations d)
    (ready_by v o payload (Add by_ old new to iterations d) random j m ranges free _ refl is.like is.is_like model) to
    (λ taken. free.none SlotTaken (record { place = o; value = j; metadata = m; is = taken }))
    (λ none. free.none NoFreeSlot (record { place = o; value = j; metadata = m; is = none }))
    is.has (λ n. IsMadeIn v to n) (record { place = o; value = j; metadata = m; is_new = is.has.is_new })
edited_metadata v o payload (AddByKey key new to iterations d) random j k m before ranges free sealed is layout =
    let opener_ : Opener = opener.Key key in
    let model : IsModel j is.like = model_by (allowed_for opener_ new.now) v o j opener_ sealed.0 is.like m sealed.1 is.is_like in
    added_metadata (allowed_for opener_ new.now) v o (hdr_size (header_at v o)) payload random j k before layout is.like (asking iterations (Some (chosen_or iterations d)))
    (ready_by v o payload (AddByKey key new to iterations d) random j m ranges free _ refl is.like is.is_like model) to
    (λ taken. free.none SlotTaken (record { place = o; value = j; metadata = m; is = taken }))
    (λ none. free.none NoFreeSlot (record { place = o; value = j; metadata = m; is = none }))
    is.has (λ n. IsMadeIn v to n) (record { place = o; value = j; metadata = m; is_new = is.has.is_new })
edited_metadata v o payload (Change slot old new iterations d) random j k m before ranges free sealed is layout =
    let opener_ : Opener = opener.Keyslot slot old in
    let model : IsModel j (Keyslot slot) = model_by (allowed_for opener_ new.now) v o j opener_ sealed.0 (Keyslot slot) m sealed.1 refl in
    changed_metadata (allowed_for opener_ new.now) v o (hdr_size (header_at v o)) payload random j k before layout slot (asking iterations d)
    (ready_by v o payload (Change slot old new iterations d) random j m ranges free _ refl (Keyslot slot) refl model) (λ n. n ≡ slot) is refl
edited_metadata v o payload (Remove slot by_ passphrase) random j k m before ranges free sealed is layout =
    without_metadata (hdr_size (header_at v o)) (length v) payload (λ n. n ≡ slot) slot j k refl is layout
edited_metadata v o payload Erase random j k m before ranges free sealed is layout =
    erased_metadata (hdr_size (header_at v o)) (length v) payload (λ n. ⊤) j k (λ n. tt) is layout
edited_metadata v o payload Repair random j k m before ranges free sealed is layout =
    same_metadata (hdr_size (header_at v o)) (length v) payload (λ n. ⊥) j k is layout
edited_metadata v o payload (Label text subsystem) random j k m before ranges free sealed is layout =
    same_metadata (hdr_size (header_at v o)) (length v) payload (λ n. ⊥) j k is layout
edited_metadata v o payload (Uuid uuid) random j k m before ranges free sealed is layout =
    same_metadata (hdr_size (header_at v o)) (length v) payload (λ n. ⊥) j k is layout
edited_metadata v o payload (Amend (changes.Priority slot priority)) random j k m before ranges free sealed is layout =
    prioritized_metadata (hdr_size (header_at v o)) (length v) payload (λ n. n ≡ slot) slot priority j k refl is layout
edited_metadata v o payload (Amend (changes.AddToken to token)) random j k m before ranges free sealed is layout =
    with_token_metadata (hdr_size (header_at v o)) (length v) payload (λ n. ⊥) j k to (view token.now) is
    (λ f bad. free.none (BadToken f) (record { place = o; value = j; metadata = m; is = bad })) layout
edited_metadata v o payload (Amend (changes.RemoveToken number)) random j k m before ranges free sealed is layout =
    without_token_metadata (hdr_size (header_at v o)) (length v) payload (λ n. ⊥) number j k is layout

module _
    (v : List ℕ) (payload : Data) (e : Edit) (random w : List ℕ) (well : WellFormed v payload)
    (ranges : HasRanges v e random) (free : IsUnrefused2 v payload e random) (a : After2 v payload e random w)
  where
    pub before : HasCopy v a.place (hdr_size (header_at v a.place)) a.value
    before = copy_of v payload a.place a.value a.metadata well

    pub now_chosen : Chosen w (luks2 0 InStep)
    now_chosen =
        let long : 592 ≤ length v = a.metadata.chosen.0.long in
        let same : length w ≡ length v = a.rest.length_same in
        both_chosen v w a.place e random a.new (omega (arith, long, same)) a.first.renewed a.second.renewed

    pub after : HasCopy w 0 (hdr_size (header_at v a.place)) a.new
    after = record {
      copies = InStep;
      chosen = now_chosen;
      size = a.first.renewed.size;
      uuid = subst IsUuidField (sym a.first.renewed.uuid) (uuid_stays e random _ (free.none BadUuid) (copy_of v payload a.place a.value a.metadata well).uuid);
      holds = a.first.renewed.json.json;
    }

    pub layout : IsLayout (hdr_size (header_at v a.place)) (length v) payload a.value
    layout = layout_of v payload a.place a.value a.metadata well

    -- all that an edit promises
    pub after_keeps : Keeps payload (NamedKeyslots2 v e) v w
    after_keeps =
        let h : ℕ = hdr_size (header_at v a.place) in
        all_kept v w payload a.place 0 h a.value a.new (NamedKeyslots2 v e) before after a.rest.length_same layout
        (edited_metadata v a.place payload e random a.value a.new a.metadata before ranges free (was_opened v e random a.value w a.new a.sealed) a.edited layout)
        (λ n b x. left_bytes v w h (length v) payload a.value e layout.fit a.rest (name.Segment n) b tt x)
        (λ m unnamed b x. left_bytes v w h (length v) payload a.value e layout.fit a.rest (name.Slot m) b (λ lost. unnamed (lost_is_named v e m lost)) x)

-- the area that a keyslot loses is zeros
pub lost_zeros : (v : List ℕ) (payload : Data) (e : Edit) (random w : List ℕ) (n : ℕ) (a : Area) → WellFormed v payload
    → After2 v payload e random w → Loses e n → AreaOf v payload (name.Slot n) a → part w a.start a.len ≡ replicate a.len 0
lost_zeros v payload e random w n a well after_ lost is =
    after_.wiped n lost a
    (areas_are v payload after_.place (hdr_size (header_at v after_.place)) after_.value
    (copy_of v payload after_.place after_.value after_.metadata well) (name.Slot n) a is)

-- a keyslot that isn't sealed again opens no more
pub lost_shut : (v : List ℕ) (payload : Data) (e : Edit) (random w : List ℕ) (n : ℕ) → WellFormed v payload → HasRanges v e random → IsUnrefused2 v payload e random
    → After2 v payload e random w → again_by e ≡ None → Loses e n → IsShut w n
lost_shut v payload (Add by_ old new to iterations d) random w n well ranges free a once lost = absurd lost
lost_shut v payload (AddByKey key new to iterations d) random w n well ranges free a once lost = absurd lost
lost_shut v payload (Change slot old new iterations d) random w n well ranges free a once lost = absurd (cc)
lost_shut v payload (Remove slot by_ passphrase) random w n well ranges free a once lost =
    removed_shut w 0 (hdr_size (header_at v a.place)) a.value a.new slot (after v payload (Remove slot by_ passphrase) random w well ranges free a) a.edited n lost
lost_shut v payload Erase random w n well ranges free a once lost =
    none_opens w 0 (hdr_size (header_at v a.place)) a.value a.new (after v payload Erase random w well ranges free a) a.edited n
lost_shut v payload Repair random w n well ranges free a once lost = absurd lost
lost_shut v payload (Label text subsystem) random w n well ranges free a once lost = absurd lost
lost_shut v payload (Uuid uuid) random w n well ranges free a once lost = absurd lost
lost_shut v payload (Amend c) random w n well ranges free a once lost = absurd lost
