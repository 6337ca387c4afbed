-- What holds of a LUKS1 volume after an edit that nothing refused, done or ended by the device.
use Rattle.std.proofs.Common.{◌≡◌, ℕ, ◌<◌, ◌≤◌, ◌⊎◌, List, length, true, replicate, take, drop, subst, refl, sym, ap, ◌∙◌, arith, inl, inr, Option, Some, None}
use Rattle.std.proofs.lemmas.Bool.{cases_lt, cases_eq, false_from_ne_true, ltb-false}
use Rattle.std.proofs.lemmas.Option.{same_Some}
use Rattle.std.specs.Prelude.{IfSome, IsSomeAnd}
use Rattle.luks_area.specs.declared.area.Area.{Area}
use Rattle.luks_area.specs.declared.area.AreaName.TheVariants.{Slot}
use Rattle.luks_area.specs.Ranges.{part, SameBut}
use Rattle.luks_area.proofs.RangeFacts.{same_but-same, same_but-equal, same_but-then, same_but-wider}
use Rattle.luks1_header.specs.Faults.{HasUnknownState, LacksIterations}
use Rattle.luks1_header.specs.Header1.{active_word, disabled_word, enabled_word, entry, entry_key_material_offset, entry_stripes, header_text}
use Rattle.luks1_header.specs.declared.fault.HeadFault.TheVariants as head
use Rattle.luks1_header.specs.declared.fault.IterationsOf.TheVariants as of
use Rattle.luks1_header.specs.declared.fault.TextField.TheVariants as field
use Rattle.luks2_header.specs.Selection.{luks1, Chosen}
use Rattle.luks_making.specs.Derivations.{few_turns_or, takes_memory}
use Rattle.luks_making.specs.declared.derivation.NewDerivation.{NewDerivation}
use Rattle.luks_making.specs.declared.derivation.NewDerivation.TheVariants.{Pbkdf2, Argon2i, Argon2id}
use Rattle.luks_slot.specs.declared.allowed.Allowed.{Allowed}
use Rattle.luks_slot.specs.Allowance.{without_memory}
use Rattle.luks_reading.specs.declared.report.Data.{Data}
use Rattle.luks_reading.specs.Answer.{AnswerWithin, opens}
use Rattle.luks_reading.specs.Checked.{AreaOf, WellFormed}
use Rattle.luks_reading.specs.Layout1.{Luks1Area}
use Rattle.luks_edit.specs.declared.edit.Edit.{Edit}
use Rattle.luks_edit.specs.declared.edit.Edit.TheVariants.{Add, AddByKey, Change, Remove, Erase, Repair, Label, Uuid, Amend}
use Rattle.luks_edit.specs.declared.edit.Opener.{Opener}
use Rattle.luks_edit.specs.declared.edit.Opener.TheVariants.{Keyslot, Key}
use Rattle.luks_edit.specs.Asked.{allowed_of, chosen_or, Loses, uuid_by}
use Rattle.luks_edit.specs.declared.edit_fault.EditFault.TheVariants as fault
use Rattle.luks_edit.specs.Kept.{Keeps}
use Rattle.luks_edit.specs.NewUuids.{new_uuid_text}
use Rattle.luks_edit.specs.declared.new_uuid.NewUuid.{NewUuid}
use Rattle.luks1_edits.specs.Edited.{After1, AreRemoved, Gives1, HoldsKey, IsFreed, IsInUse, IsLeastFree, IsMade, IsNewKeyslot, IsTouched1, IsWiped, iterations_or, NamedKeyslots1, Opens1, OpensAfter1}
use Rattle.luks1_edits.specs.Kept.{AreKeyslots, ChangesKeyslots, HasSameCommon, HasUuid, IsEither, IsFitFor, KeepsEntries, KeepsOthers}
use Rattle.luks1_edits.specs.Leftovers.{AnswersOrUuid, FaultsUuidAlone, IsHalfErased, IsSealedFirst, IsTorn1, IsUntorn, IsUuidUntorn, Leftover1, OpensEither1}
use Rattle.luks1_edits.specs.Places.{area_len, area_start, IsOfKeyslots, IsOfUuid}
use Rattle.luks1_edits.specs.Refused.{IsUnrefused1}
use Rattle.luks1_edits.proofs.AnswerFacts.{gives_moves}
use Rattle.luks1_edits.proofs.HeaderFacts.{entry_is, header_clear, len_is, start_is, uuids_common, volume_of, well_uuid}
use Rattle.luks1_edits.proofs.KeptFacts.{either_decided, front, keeps_entries, keeps_others, kept_common, luks1_after, luks1_area_of, same_keyslot, stays_well_formed}
use Rattle.luks1_edits.proofs.KeyFacts.{gives_once, planned_of}
use Rattle.luks1_edits.proofs.MadeKeyslotFacts.{IsMadeFrom, IsPlanned, made_opens}
use Rattle.luks1_edits.proofs.UuidFacts.{set_text, set_uuid, uuid_answers, uuid_chosen, uuid_faults, uuid_others, uuid_well}

-- ---- what no refusal means

in_use_or_not : (v : List ℕ) (n : ℕ) → IsInUse v n ⊎ (IsInUse v n → ⊥)
in_use_or_not v n = elim (cases_lt n 8) [
  | inl lt ↦ elim (cases_eq (active_word (entry v n)) enabled_word) [
    | inl on ↦ inl (lt, on)
    | inr off ↦ inr (λ on. off on.1)
  ]
  | inr past ↦ inr (λ on. let lt = on.0 in omega (arith, lt, past))
]

in_use : (v : List ℕ) (n : ℕ) → ((IsInUse v n → ⊥) → ⊥) → IsInUse v n
in_use v n not = elim (in_use_or_not v n) [ inl is ↦ is | inr isnt ↦ absurd (not isnt) ]

at_most_seven : (n : ℕ) → (7 < n → ⊥) → n < 8
at_most_seven n not = elim (cases_lt 7 n) [ inl over ↦ absurd (not over) | inr under ↦ omega (arith, under) ]

-- PBKDF2 that isn't refused has enough iterations
pub enough : (n : ℕ) (d : Option NewDerivation) → (few_turns_or n d ≡ true → ⊥) → (takes_memory d ≡ true → ⊥) → 1000 ≤ iterations_or n d
enough n None few argon2 = ltb-false n 1000 (false_from_ne_true _ few)
enough n (Some (Pbkdf2 iterations)) few argon2 = ltb-false iterations 1000 (false_from_ne_true _ few)
enough n (Some (Argon2i costs)) few argon2 = absurd (argon2 refl)
enough n (Some (Argon2id costs)) few argon2 = absurd (argon2 refl)

-- the keyslots that an edit names are LUKS1's
pub named_numbered : (v : List ℕ) (payload : Data) (e : Edit) (r : List ℕ) → IsUnrefused1 v payload e r → (n : ℕ) → NamedKeyslots1 v e n → n < 8
named_numbered v payload (Add by_ old new (Some t) iterations d) r free n is =
    let low = at_most_seven t (λ over. free.none fault.NoFreeSlot over) in omega (arith, is, low)
named_numbered v payload (AddByKey key new (Some t) iterations d) r free n is =
    let low = at_most_seven t (λ over. free.none fault.NoFreeSlot over) in omega (arith, is, low)
named_numbered v payload (Add by_ old new None iterations d) r free n is = is.free.0
named_numbered v payload (AddByKey key new None iterations d) r free n is = is.free.0
named_numbered v payload (Change slot old new iterations d) r free n is =
    let used = in_use v slot (λ not. free.none fault.NoSuchSlot (record { slot = slot; wanted = refl; unused = not })) in
    let low = used.0 in
    elim is [ inl same ↦ omega (arith, same, low) | inr least ↦ least.free.0 ]
named_numbered v payload Erase r free n is = is
named_numbered v payload (Remove slot by_ passphrase) r free n is =
    let used = in_use v slot (λ not. free.none fault.NoSuchSlot (record { slot = slot; wanted = inr refl; unused = not })) in
    let low = used.0 in
    omega (arith, is, low)
named_numbered v payload Repair r free n is = absurd is
named_numbered v payload (Label text subsystem) r free n is = absurd is
named_numbered v payload (Uuid uuid) r free n is = absurd is
named_numbered v payload (Amend c) r free n is = absurd is

-- ---- entries

freed_fits : (old new : List ℕ) → IsFreed old new → IsFitFor old new
freed_fits old new x = record {
  stated = λ none. none.1 x.disabled;
  offset = x.offset;
  stripes = x.stripes;
  iterated = λ bad. let two : disabled_word ≡ enabled_word = sym x.disabled ∙ bad.0 in omega (arith, two);
}

made_fits : (old new : List ℕ) (iterations : ℕ) (salt : List ℕ) → 1000 ≤ iterations → IsMade old new iterations salt → IsFitFor old new
made_fits old new iterations salt many x = record {
  stated = λ none. none.0 x.enabled;
  offset = x.offset;
  stripes = x.stripes;
  iterated = λ bad. let zero = bad.1 in let turns = x.iterations_are in omega (arith, zero, turns, many);
}

either_keyslots : (a b : ℕ) → a < 8 → b < 8 → AreKeyslots (IsEither a b)
either_keyslots a b lta ltb = record { numbered = λ n is. elim is [ inl x ↦ omega (arith, x, lta) | inr x ↦ omega (arith, x, ltb) ] }

-- all are
all_keyslots : AreKeyslots (λ n. n < 8)
all_keyslots = record { numbered = λ n is. is }

all_decided : (n : ℕ) → n < 8 ⊎ (n < 8 → ⊥)
all_decided n = elim (cases_lt n 8) [ inl lt ↦ inl lt | inr past ↦ inr (λ lt. omega (arith, lt, past)) ]

-- ---- sets of keyslots

keeps_wider : (payload : Data) (S T : ℕ → Type 0) (v w : List ℕ) → ((n : ℕ) → S n → T n) → KeepsOthers payload S v w → KeepsOthers payload T v w
keeps_wider payload S T v w wider x = record {
  size = x.size;
  segments = x.segments;
  slots = λ n not. x.slots n (λ s. not (wider n s));
}

places_wider : (S T : ℕ → Type 0) (v w : List ℕ) → ((n : ℕ) → S n → T n) → SameBut (IsOfKeyslots v S) v w → SameBut (IsOfKeyslots v T) v w
places_wider S T v w wider same = same_but-wider (λ p x. record { keyslot = x.keyslot; is_named = wider x.keyslot x.is_named; of = x.of }) same

-- of one keyslot, twice
pub one_named : (named : ℕ → Type 0) (slot : ℕ) → named slot → (n : ℕ) → IsEither slot slot n → named n
one_named named slot is n either = let one : n ≡ slot = elim either [ inl y ↦ y | inr y ↦ y ] in subst named (sym one) is

pub two_named : (named : ℕ → Type 0) (a b : ℕ) → named a → named b → (n : ℕ) → IsEither a b n → named n
two_named named a b is_a is_b n either = elim either [ inl y ↦ subst named (sym y) is_a | inr y ↦ subst named (sym y) is_b ]

-- while a keyslot was made, no byte of another one changed
half_made_rest : {v p key random w : List ℕ} {n iterations : ℕ} → IsSealedFirst v n iterations p key random w → SameBut (IsOfKeyslots v (IsEither n n)) v w
half_made_rest {n = n} (inl same) = same_but-wider (λ q at. record { keyslot = n; is_named = inl refl; of = inr at }) same
half_made_rest {n = n} (inr x) = same_but-then x.made.rest (same_but-wider (λ q at. record { keyslot = n; is_named = inl refl; of = inl at }) x.rest)

-- the least free keyslot is one
least_free_once : (v : List ℕ) (a b : ℕ) → IsLeastFree v a → IsLeastFree v b → a ≡ b
least_free_once v a b x y = let low = x.least b y.free in let high = y.least a x.free in omega (arith, low, high)

pub new_once : (v : List ℕ) (to : Option ℕ) (a b : ℕ) → IsNewKeyslot v to a → IsNewKeyslot v to b → a ≡ b
new_once v (Some t) a b x y = x ∙ sym y
new_once v None a b x y = least_free_once v a b x y

-- ---- what an edit leaves

pub record Leaves (payload : Data) (named : ℕ → Type 0) (v w : List ℕ) : Type 0 where
  pub chosen : Chosen w luks1
  pub well : WellFormed w payload
  pub others : KeepsOthers payload named v w

-- a place that is touched where a uuid is set is of the uuid's field
of_uuid : (o : Option NewUuid) (p : ℕ) → IsSomeAnd o (λ uuid. IsOfUuid p) → IsOfUuid p
of_uuid None p x = absurd x
of_uuid (Some uuid) p x = x

-- what of a volume changed in keyslots that the edit names changed in what it touches
touched : (v : List ℕ) (e : Edit) (w : List ℕ) → SameBut (IsOfKeyslots v (NamedKeyslots1 v e)) v w → SameBut (IsTouched1 v e) v w
touched v e w same = same_but-wider (λ p x. inl x) same

module _ (payload : Data) (v : List ℕ) (chosen : Chosen v luks1) (well : WellFormed v payload) where
  changes : (a b : ℕ) (w : List ℕ) → a < 8 → b < 8 → SameBut (IsOfKeyslots v (IsEither a b)) v w → ChangesKeyslots payload (IsEither a b) v w
  changes a b w lta ltb rest = record { keyslots = either_keyslots a b lta ltb; chosen = chosen; well = well; rest = same_but-wider (λ p x. inl x) rest }

  both_leave : (named : ℕ → Type 0) (a b : ℕ) (w : List ℕ) → a < 8 → b < 8 → SameBut (IsOfKeyslots v (IsEither a b)) v w
      → IsFitFor (entry v a) (entry w a) → IsFitFor (entry v b) (entry w b) → named a → named b → Leaves payload named v w
  both_leave named a b w lta ltb rest fits_a fits_b is_a is_b =
      let x = changes a b w lta ltb rest in
      let common = kept_common v payload (volume_of v payload chosen well).fit w (IsEither a b) (either_keyslots a b lta ltb) rest in
      record {
        chosen = luks1_after payload (IsEither a b) v w x;
        well = stays_well_formed payload (IsEither a b) v w x
            (two_named (λ n. IsFitFor (entry v n) (entry w n)) a b fits_a fits_b) (either_decided a b) common;
        others = keeps_wider payload (IsEither a b) named v w (two_named named a b is_a is_b) (keeps_others payload (IsEither a b) v w x common);
      }

  pub changes_of : (named : ℕ → Type 0) (w : List ℕ) → AreKeyslots named → SameBut (IsOfKeyslots v named) v w → ChangesKeyslots payload named v w
  changes_of named w keyslots rest = record { keyslots = keyslots; chosen = chosen; well = well; rest = same_but-wider (λ p x. inl x) rest }

  -- where all of them were removed
  all_leave : (w : List ℕ) → AreRemoved 8 v w → Leaves payload (λ n. n < 8) v w
  all_leave w x =
      let c = changes_of (λ n. n < 8) w all_keyslots x.rest in
      let common = kept_common v payload (volume_of v payload chosen well).fit w (λ n. n < 8) all_keyslots x.rest in
      record {
        chosen = luks1_after payload (λ n. n < 8) v w c;
        well = stays_well_formed payload (λ n. n < 8) v w c (λ n is. freed_fits (entry v n) (entry w n) (x.freed n is)) all_decided common;
        others = keeps_others payload (λ n. n < 8) v w c common;
      }

  pub nothing_left : (named : ℕ → Type 0) (w : List ℕ) → w ≡ v → Leaves payload named v w
  nothing_left named w same =
      let none : AreKeyslots (λ n. ⊥) = record { numbered = λ n is. absurd is } in
      let kept = same_but-same (IsOfKeyslots v (λ n. ⊥)) v in
      let x : ChangesKeyslots payload (λ n. ⊥) v v = record { keyslots = none; chosen = chosen; well = well; rest = same_but-wider (λ p y. inl y) kept } in
      subst (λ u. Leaves payload named v u) (sym same) (record {
        chosen = chosen;
        well = well;
        others = keeps_wider payload (λ n. ⊥) named v v (λ n is. absurd is)
            (keeps_others payload (λ n. ⊥) v v x (kept_common v payload (volume_of v payload chosen well).fit v (λ n. ⊥) none kept));
      })

  -- after an edit that is done
  pub leaves : (e : Edit) (r w : List ℕ) → IsUnrefused1 v payload e r → After1 v e r w → Leaves payload (NamedKeyslots1 v e) v w
  leaves (Add by_ old new to iterations d) r w free x =
      let lt : x.slot < 8 = named_numbered v payload (Add by_ old new to iterations d) r free x.slot x.is_new in
      let fits = made_fits (entry v x.slot) (entry w x.slot) (iterations_or iterations d) (take 32 r) (enough iterations d (λ few. free.none fault.Iterations few) (λ argon2. free.none fault.Argon2 argon2)) x.made in
      both_leave (IsNewKeyslot v to) x.slot x.slot w lt lt x.rest fits fits x.is_new x.is_new
  leaves (AddByKey key new to iterations d) r w free x =
      let lt : x.slot < 8 = named_numbered v payload (AddByKey key new to iterations d) r free x.slot x.is_new in
      let fits = made_fits (entry v x.slot) (entry w x.slot) (iterations_or iterations (Some (chosen_or iterations d))) (take 32 r) (enough iterations (Some (chosen_or iterations d)) (λ few. free.none fault.Iterations few) (λ argon2. free.none fault.Argon2 argon2)) x.made in
      both_leave (IsNewKeyslot v to) x.slot x.slot w lt lt x.rest fits fits x.is_new x.is_new
  leaves (Change slot old new iterations d) r w free x =
      let used : slot < 8 = named_numbered v payload (Change slot old new iterations d) r free slot (inl refl) in
      both_leave (NamedKeyslots1 v (Change slot old new iterations d)) slot x.fresh w used x.is_free.free.0 x.rest
      (freed_fits (entry v slot) (entry w slot) x.freed)
      (made_fits (entry v x.fresh) (entry w x.fresh) (iterations_or iterations d) (take 32 r) (enough iterations d (λ few. free.none fault.Iterations few) (λ argon2. free.none fault.Argon2 argon2)) x.made)
      (inl refl) (inr x.is_free)
  leaves Erase r w free x = all_leave w x
  leaves (Remove slot by_ passphrase) r w free x =
      let used : slot < 8 = named_numbered v payload (Remove slot by_ passphrase) r free slot refl in
      let fits = freed_fits (entry v slot) (entry w slot) x.freed in
      both_leave (λ n. n ≡ slot) slot slot w used used x.rest fits fits refl refl
  leaves Repair r w free x = nothing_left (λ n. ⊥) w x.1
  leaves (Label text subsystem) r w free x = nothing_left (λ n. ⊥) w x.1
  leaves (Uuid uuid) r w free x =
      let new : HasUuid w = set_uuid uuid v r w (λ bad. free.none fault.BadUuid bad) x.1 in
      record {
        chosen = uuid_chosen payload v chosen well w x.1.rest;
        well = uuid_well payload v chosen well w x.1.rest new;
        others = uuid_others payload v chosen well w x.1.rest new;
      }
  leaves (Amend c) r w free x = nothing_left (λ n. ⊥) w x.1

  -- no byte changed except of what it touches
  pub after_rest : (e : Edit) (r w : List ℕ) → After1 v e r w → SameBut (IsTouched1 v e) v w
  after_rest (Add by_ old new to iterations d) r w x =
      touched v (Add by_ old new to iterations d) w (places_wider (IsEither x.slot x.slot) (IsNewKeyslot v to) v w (one_named (IsNewKeyslot v to) x.slot x.is_new) x.rest)
  after_rest (AddByKey key new to iterations d) r w x =
      touched v (AddByKey key new to iterations d) w (places_wider (IsEither x.slot x.slot) (IsNewKeyslot v to) v w (one_named (IsNewKeyslot v to) x.slot x.is_new) x.rest)
  after_rest (Change slot old new iterations d) r w x =
      let named : ℕ → Type 0 = NamedKeyslots1 v (Change slot old new iterations d) in
      touched v (Change slot old new iterations d) w (places_wider (IsEither slot x.fresh) named v w (two_named named slot x.fresh (inl refl) (inr x.is_free)) x.rest)
  after_rest Erase r w x = touched v Erase w x.rest
  after_rest (Remove slot by_ passphrase) r w x =
      touched v (Remove slot by_ passphrase) w (places_wider (IsEither slot slot) (λ n. n ≡ slot) v w (one_named (λ n. n ≡ slot) slot refl) x.rest)
  after_rest Repair r w x = same_but-equal (IsTouched1 v Repair) x.1
  after_rest (Label text subsystem) r w x = same_but-equal (IsTouched1 v (Label text subsystem)) x.1
  after_rest (Uuid uuid) r w x = same_but-wider (λ p at. inr at) x.1.rest
  after_rest (Amend c) r w x = same_but-equal (IsTouched1 v (Amend c)) x.1

  pub keeps : (e : Edit) (r w : List ℕ) → IsUnrefused1 v payload e r → After1 v e r w → Keeps payload (NamedKeyslots1 v e) v w
  keeps e r w free x = let left = leaves e r w free x in record { size = left.others.size; well = left.well; segments = left.others.segments; slots = left.others.slots }

  -- ---- what opens

  -- a keyslot that was made opens to each key that the opener gave, whatever is allowed
  made_to : (o : Opener) (allowed : Allowed) (fresh iterations : ℕ) (salt new key other random w : List ℕ) → fresh < 8 → 1000 ≤ iterations
      → (a b : ℕ) → a < 8 → b < 8 → SameBut (IsOfKeyslots v (IsEither a b)) v w
      → IsMade (entry v fresh) (entry w fresh) iterations salt → HoldsKey w fresh new key random
      → Opens1 v o key → Gives1 allowed v o (Some other) → AnswerWithin allowed w fresh new (opens other)
  made_to o allowed fresh iterations salt new key other random w lt many a b lta ltb rest made holds opened again =
      let same = same_Some key other (gives_once v chosen (without_memory (allowed_of o).older) allowed o (Some key) (Some other) opened again) in
      let x : IsMadeFrom allowed payload v fresh iterations salt new key random w = record {
        chosen = chosen;
        well = well;
        length_same = rest.length_same;
        common = kept_common v payload (volume_of v payload chosen well).fit w (IsEither a b) (either_keyslots a b lta ltb) rest;
        opened = subst (λ k. IsPlanned allowed.older v k) (sym same) (planned_of v chosen allowed o other again);
        numbered = lt;
        iterated = omega (arith, many);
        made = made;
        holds = holds;
      } in
      subst (λ k. AnswerWithin allowed w fresh new (opens k)) same (made_opens allowed payload v fresh iterations salt new key random w x)

  pub opens_after : (e : Edit) (r w : List ℕ) → IsUnrefused1 v payload e r → After1 v e r w → OpensAfter1 v e w
  opens_after (Add by_ old new to iterations d) r w free x = λ allowed n key is opened.
      let lt : x.slot < 8 = named_numbered v payload (Add by_ old new to iterations d) r free x.slot x.is_new in
      subst (λ k. AnswerWithin allowed w k new.now (opens key)) (new_once v to x.slot n x.is_new is)
      (made_to (Keyslot by_ old) allowed x.slot (iterations_or iterations d) (take 32 r) new.now x.key key (drop 32 r) w lt (enough iterations d (λ few. free.none fault.Iterations few) (λ argon2. free.none fault.Argon2 argon2))
      x.slot x.slot lt lt x.rest x.made x.holds x.opened opened)
  opens_after (AddByKey key new to iterations d) r w free x = λ allowed n own is opened.
      let lt : x.slot < 8 = named_numbered v payload (AddByKey key new to iterations d) r free x.slot x.is_new in
      subst (λ k. AnswerWithin allowed w k new.now (opens own)) (new_once v to x.slot n x.is_new is)
      (made_to (Key key) allowed x.slot (iterations_or iterations (Some (chosen_or iterations d))) (take 32 r) new.now x.key own (drop 32 r) w lt (enough iterations (Some (chosen_or iterations d)) (λ few. free.none fault.Iterations few) (λ argon2. free.none fault.Argon2 argon2))
      x.slot x.slot lt lt x.rest x.made x.holds x.opened opened)
  opens_after (Change slot old new iterations d) r w free x = λ allowed n key is opened.
      let used : slot < 8 = named_numbered v payload (Change slot old new iterations d) r free slot (inl refl) in
      subst (λ k. AnswerWithin allowed w k new.now (opens key)) (least_free_once v x.fresh n x.is_free is)
      (made_to (Keyslot slot old) allowed x.fresh (iterations_or iterations d) (take 32 r) new.now x.key key (drop 32 r) w x.is_free.free.0 (enough iterations d (λ few. free.none fault.Iterations few) (λ argon2. free.none fault.Argon2 argon2))
      slot x.fresh used x.is_free.free.0 x.rest x.made x.holds x.opened opened)
  opens_after Erase r w free x = tt
  opens_after (Remove slot by_ passphrase) r w free x = tt
  opens_after Repair r w free x = tt
  opens_after (Label text subsystem) r w free x = tt
  opens_after (Uuid uuid) r w free x = tt
  opens_after (Amend c) r w free x = tt

  -- ---- after a device's failure

  opens_either : (e : Edit) (r w : List ℕ) → IsUnrefused1 v payload e r → IsTorn1 v e r w → OpensEither1 v e w
  opens_either (Add by_ old new to iterations d) r w free x = tt
  opens_either (AddByKey key new to iterations d) r w free x = tt
  opens_either (Change slot old new iterations d) r w free (inl x) = λ allowed key opened.
      let used = in_use v slot (λ not. free.none fault.NoSuchSlot (record { slot = slot; wanted = refl; unused = not })) in
      let lt : x.slot < 8 = x.is_new.free.0 in
      let other : IsEither x.slot x.slot slot → ⊥ = λ either.
      let one : slot ≡ x.slot = elim either [ inl y ↦ y | inr y ↦ y ] in
      let two : enabled_word ≡ disabled_word = sym used.1 ∙ ap (λ k. active_word (entry v k)) one ∙ x.is_new.free.1 in
      omega (arith, two) in
      inl (gives_moves old.kind allowed slot v w old.bytes.now (Some key) chosen
      (same_keyslot v payload (volume_of v payload chosen well).fit w (IsEither x.slot x.slot) (either_keyslots x.slot x.slot lt lt) (half_made_rest x.order) slot other) opened)
  opens_either (Change slot old new iterations d) r w free (inr x) = λ allowed key opened.
      let used : slot < 8 = named_numbered v payload (Change slot old new iterations d) r free slot (inl refl) in
      inr (
        x.fresh,
        (
          x.is_free,
          made_to (Keyslot slot old) allowed x.fresh (iterations_or iterations d) (take 32 r) new.now x.key key (drop 32 r) w x.is_free.free.0 (enough iterations d (λ few. free.none fault.Iterations few) (λ argon2. free.none fault.Argon2 argon2))
              slot x.fresh used x.is_free.free.0 x.rest x.made x.holds x.opened opened,
        ),
      )
  opens_either Erase r w free x = tt
  opens_either (Remove slot by_ passphrase) r w free x = tt
  opens_either Repair r w free x = tt
  opens_either (Label text subsystem) r w free x = tt
  opens_either (Uuid uuid) r w free x = tt
  opens_either (Amend c) r w free x = tt

  same_opens : (e : Edit) → OpensEither1 v e v
  same_opens (Add by_ old new to iterations d) = tt
  same_opens (AddByKey key new to iterations d) = tt
  same_opens (Change slot old new iterations d) = λ allowed key opened. inl opened
  same_opens Erase = tt
  same_opens (Remove slot by_ passphrase) = tt
  same_opens Repair = tt
  same_opens (Label text subsystem) = tt
  same_opens (Uuid uuid) = tt
  same_opens (Amend c) = tt

  pub leftover_opens : (e : Edit) (r w : List ℕ) → Leftover1 v payload e r w → OpensEither1 v e w
  leftover_opens e r w (inl same) = subst (λ u. OpensEither1 v e u) (sym same) (same_opens e)
  leftover_opens e r w (inr x) = opens_either e r w x.0 x.1

  -- while all of them were removed
  all_torn : (w : List ℕ) → IsHalfErased v w → SameBut (IsOfKeyslots v (λ n. n < 8)) v w
  all_torn w x = let lt = x.numbered in places_wider (λ n. n ≤ x.slot) (λ n. n < 8) v w (λ n le. omega (arith, le, lt)) x.rest

  torn_rest : (e : Edit) (r w : List ℕ) → IsTorn1 v e r w → SameBut (IsTouched1 v e) v w
  torn_rest (Add by_ old new to iterations d) r w x =
      touched v (Add by_ old new to iterations d) w (places_wider (IsEither x.slot x.slot) (IsNewKeyslot v to) v w (one_named (IsNewKeyslot v to) x.slot x.is_new) (half_made_rest x.order))
  torn_rest (AddByKey key new to iterations d) r w x =
      touched v (AddByKey key new to iterations d) w (places_wider (IsEither x.slot x.slot) (IsNewKeyslot v to) v w (one_named (IsNewKeyslot v to) x.slot x.is_new) (half_made_rest x.order))
  torn_rest (Change slot old new iterations d) r w (inl x) =
      let named : ℕ → Type 0 = NamedKeyslots1 v (Change slot old new iterations d) in
      touched v (Change slot old new iterations d) w (places_wider (IsEither x.slot x.slot) named v w (one_named named x.slot (inr x.is_new)) (half_made_rest x.order))
  torn_rest (Change slot old new iterations d) r w (inr x) =
      let named : ℕ → Type 0 = NamedKeyslots1 v (Change slot old new iterations d) in
      touched v (Change slot old new iterations d) w (places_wider (IsEither slot x.fresh) named v w (two_named named slot x.fresh (inl refl) (inr x.is_free)) x.rest)
  torn_rest Erase r w x = touched v Erase w (all_torn w x)
  torn_rest (Remove slot by_ passphrase) r w x =
      touched v (Remove slot by_ passphrase) w (places_wider (IsEither slot slot) (λ n. n ≡ slot) v w (one_named (λ n. n ≡ slot) slot refl) x.rest)
  torn_rest Repair r w x = absurd x
  torn_rest (Label text subsystem) r w x = absurd x
  torn_rest (Uuid uuid) r w x = same_but-wider (λ p at. inr at) x
  torn_rest (Amend c) r w x = absurd x

  pub leftover_rest : (e : Edit) (r w : List ℕ) → Leftover1 v payload e r w → SameBut (IsTouched1 v e) v w
  leftover_rest e r w (inl same) = same_but-equal (IsTouched1 v e) same
  leftover_rest e r w (inr x) = torn_rest e r w x.1

  torn_changes : (e : Edit) (r w : List ℕ) → IsUnrefused1 v payload e r → IsTorn1 v e r w → ChangesKeyslots payload (NamedKeyslots1 v e) v w
  torn_changes e r w free x = record {
    keyslots = record { numbered = named_numbered v payload e r free };
    chosen = chosen;
    well = well;
    rest = same_but-wider (λ p y. elim y [ inl z ↦ inl z | inr z ↦ inr (of_uuid (uuid_by e) p z) ]) (torn_rest e r w x);
  }

  -- whatever the uuid's field holds
  pub leftover_entries : (e : Edit) (r w : List ℕ) → Leftover1 v payload e r w → KeepsEntries payload (NamedKeyslots1 v e) v w
  leftover_entries e r w (inl same) = let left = (nothing_left (NamedKeyslots1 v e) w same).others in
      record { size = left.size; segments = left.segments; slots = λ n not. (let x = left.slots n not in record { area = x.area; entry = x.entry }) }
  leftover_entries e r w (inr x) = keeps_entries payload (NamedKeyslots1 v e) v w (torn_changes e r w x.0 x.1)

  -- where it holds a uuid, or wasn't written, it has the same faults
  common_by : (named : ℕ → Type 0) (o : Option NewUuid) (w : List ℕ) → ChangesKeyslots payload named v w
      → SameBut (λ p. IsOfKeyslots v named p ⊎ IsSomeAnd o (λ uuid. IsOfUuid p)) v w → IfSome o (λ uuid. HasUuid w) → HasSameCommon v w
  common_by named None w x rest untorn =
      kept_common v payload (volume_of v payload chosen well).fit w named x.keyslots (same_but-wider (λ p y. elim y [ inl z ↦ z | inr z ↦ absurd z ]) rest)
  common_by named (Some uuid) w x rest untorn = uuids_common v w (front payload named v w x) (well_uuid v payload chosen well) untorn

  pub leftover_keeps : (e : Edit) (r w : List ℕ) → Leftover1 v payload e r w → IsUuidUntorn e w → KeepsOthers payload (NamedKeyslots1 v e) v w
  leftover_keeps e r w (inl same) untorn = (nothing_left (NamedKeyslots1 v e) w same).others
  leftover_keeps e r w (inr x) untorn =
      let changed = torn_changes e r w x.0 x.1 in
      keeps_others payload (NamedKeyslots1 v e) v w changed (common_by (NamedKeyslots1 v e) (uuid_by e) w changed (torn_rest e r w x.1) untorn)

  -- ---- where the uuid's field was torn

  left_uuid : (uuid : NewUuid) (r w : List ℕ) → Leftover1 v payload (Uuid uuid) r w → SameBut IsOfUuid v w
  left_uuid uuid r w (inl same) = same_but-equal IsOfUuid same
  left_uuid uuid r w (inr x) = x.1

  pub leftover_faults : (e : Edit) (r w : List ℕ) → Leftover1 v payload e r w → FaultsUuidAlone payload e w
  leftover_faults (Uuid uuid) r w left = uuid_faults payload v chosen well w (left_uuid uuid r w left)
  leftover_faults e r w left = tt

  pub leftover_answers : (e : Edit) (r w : List ℕ) → Leftover1 v payload e r w → AnswersOrUuid v e w
  leftover_answers (Uuid uuid) r w left = uuid_answers payload v chosen well w (left_uuid uuid r w left)
  leftover_answers e r w left = tt

  -- ---- where no entry was torn

  -- an entry that isn't torn is fit for use
  untorn_fits : (w : List ℕ) (n : ℕ) → n < 8 → IsUntorn v w n → IsFitFor (entry v n) (entry w n)
  untorn_fits w n lt (inl same) =
      let clear = header_clear v payload chosen well in
      let here : entry (part v 0 592) n ≡ entry w n = entry_is v n lt ∙ sym same in
      record {
        stated = λ none. clear (head.SlotState n) (lt, subst HasUnknownState (sym here) none);
        offset = ap entry_key_material_offset same;
        stripes = ap entry_stripes same;
        iterated = λ none. clear (head.Iterations (of.Slot n)) (lt, subst LacksIterations (sym here) none);
      }
  untorn_fits w n lt (inr fits) = fits

  -- so the volume is accepted still
  untorn_well : (e : Edit) (r w : List ℕ) → IsUnrefused1 v payload e r → IsTorn1 v e r w → ((n : ℕ) → NamedKeyslots1 v e n → IsUntorn v w n) → IsUuidUntorn e w → WellFormed w payload
  untorn_well (Add by_ old new to iterations d) r w free x untorn uuids =
      let lt : x.slot < 8 = named_numbered v payload (Add by_ old new to iterations d) r free x.slot x.is_new in
      let fits = untorn_fits w x.slot lt (untorn x.slot x.is_new) in
      (both_leave (IsNewKeyslot v to) x.slot x.slot w lt lt (half_made_rest x.order) fits fits x.is_new x.is_new).well
  untorn_well (AddByKey key new to iterations d) r w free x untorn uuids =
      let lt : x.slot < 8 = named_numbered v payload (AddByKey key new to iterations d) r free x.slot x.is_new in
      let fits = untorn_fits w x.slot lt (untorn x.slot x.is_new) in
      (both_leave (IsNewKeyslot v to) x.slot x.slot w lt lt (half_made_rest x.order) fits fits x.is_new x.is_new).well
  untorn_well (Change slot old new iterations d) r w free (inl x) untorn uuids =
      let lt : x.slot < 8 = x.is_new.free.0 in
      let fits = untorn_fits w x.slot lt (untorn x.slot (inr x.is_new)) in
      (both_leave (NamedKeyslots1 v (Change slot old new iterations d)) x.slot x.slot w lt lt (half_made_rest x.order) fits fits (inr x.is_new) (inr x.is_new)).well
  untorn_well (Change slot old new iterations d) r w free (inr x) untorn uuids =
      let used : slot < 8 = named_numbered v payload (Change slot old new iterations d) r free slot (inl refl) in
      let lt : x.fresh < 8 = x.is_free.free.0 in
      (both_leave (NamedKeyslots1 v (Change slot old new iterations d)) slot x.fresh w used lt x.rest
      (untorn_fits w slot used (untorn slot (inl refl))) (untorn_fits w x.fresh lt (untorn x.fresh (inr x.is_free))) (inl refl) (inr x.is_free)).well
  untorn_well Erase r w free x untorn uuids =
      let rest = all_torn w x in
      stays_well_formed payload (λ n. n < 8) v w (changes_of (λ n. n < 8) w all_keyslots rest) (λ n lt. untorn_fits w n lt (untorn n lt)) all_decided
      (kept_common v payload (volume_of v payload chosen well).fit w (λ n. n < 8) all_keyslots rest)
  untorn_well (Remove slot by_ passphrase) r w free x untorn uuids =
      let used : slot < 8 = named_numbered v payload (Remove slot by_ passphrase) r free slot refl in
      let fits = untorn_fits w slot used (untorn slot refl) in
      (both_leave (λ n. n ≡ slot) slot slot w used used x.rest fits fits refl refl).well
  untorn_well Repair r w free x untorn uuids = absurd x
  untorn_well (Label text subsystem) r w free x untorn uuids = absurd x
  untorn_well (Uuid uuid) r w free x untorn uuids = uuid_well payload v chosen well w x uuids
  untorn_well (Amend c) r w free x untorn uuids = absurd x

  pub leftover_accepted : (e : Edit) (r w : List ℕ) → Leftover1 v payload e r w → ((n : ℕ) → NamedKeyslots1 v e n → IsUntorn v w n) → IsUuidUntorn e w
      → Keeps payload (NamedKeyslots1 v e) v w
  leftover_accepted e r w left untorn uuid =
      let others = leftover_keeps e r w left uuid in
      let still : WellFormed w payload = elim left [ inl same ↦ subst (λ u. WellFormed u payload) (sym same) well | inr x ↦ untorn_well e r w x.0 x.1 untorn uuid ] in
      record { size = others.size; well = still; segments = others.segments; slots = others.slots }

  -- ---- the area of a keyslot that was removed

  wiped_area : (n : ℕ) (w : List ℕ) (a : Area) → IsWiped v n w → AreaOf v payload (Slot n) a → part w a.start a.len ≡ replicate a.len 0
  wiped_area n w a zeros has =
      let is : Luks1Area (part v 0 592) payload (length v) (Slot n) a = luks1_area_of v payload (Slot n) a chosen has in
      let start : a.start ≡ area_start v n = is.1 ∙ start_is v n is.0 in
      let len : a.len ≡ area_len v n = is.2 ∙ len_is v n is.0 in
      subst (λ s. part w s a.len ≡ replicate a.len 0) (sym start) (subst (λ l. part w (area_start v n) l ≡ replicate l 0) (sym len) zeros)

  pub removed_area : (e : Edit) (r w : List ℕ) (n : ℕ) (a : Area) → After1 v e r w → Loses e n → AreaOf v payload (Slot n) a → part w a.start a.len ≡ replicate a.len 0
  removed_area (Add by_ old new to iterations d) r w n a x is has = absurd is
  removed_area (AddByKey key new to iterations d) r w n a x is has = absurd is
  removed_area (Change slot old new iterations d) r w n a x is has = wiped_area n w a (subst (λ k. IsWiped v k w) (sym is) x.wiped) has
  removed_area Erase r w n a x is has = wiped_area n w a (x.wiped n (luks1_area_of v payload (Slot n) a chosen has).0) has
  removed_area (Remove slot by_ passphrase) r w n a x is has = wiped_area n w a (subst (λ k. IsWiped v k w) (sym is) x.wiped) has
  removed_area Repair r w n a x is has = absurd is
  removed_area (Label text subsystem) r w n a x is has = absurd is
  removed_area (Uuid uuid) r w n a x is has = absurd is
  removed_area (Amend c) r w n a x is has = absurd is

-- ---- the uuid that was set

pub sets_text : (v : List ℕ) (payload : Data) (e : Edit) (r w : List ℕ) (uuid : NewUuid) → IsUnrefused1 v payload e r → After1 v e r w → uuid_by e ≡ Some uuid
    → header_text w field.Uuid ≡ new_uuid_text uuid r
sets_text v payload (Uuid given) r w uuid free x is =
    subst (λ u. header_text w field.Uuid ≡ new_uuid_text u r) (same_Some given uuid is) (set_text given v r w (λ bad. free.none fault.BadUuid bad) x.1)
sets_text v payload e r w uuid free x is = absurd (cc)

pub sets_uuid : (v : List ℕ) (payload : Data) (e : Edit) (r w : List ℕ) (uuid : NewUuid) → IsUnrefused1 v payload e r → After1 v e r w → uuid_by e ≡ Some uuid → HasUuid w
sets_uuid v payload (Uuid given) r w uuid free x is = set_uuid given v r w (λ bad. free.none fault.BadUuid bad) x.1
sets_uuid v payload e r w uuid free x is = absurd (cc)
