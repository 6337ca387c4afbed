-- What is known of a keyslot that an edit makes or seals again, where nothing refused the edit.
use Rattle.std.proofs.Common.{◌≡◌, ℕ, ◌+◌, ◌-◌, ◌*◌, ◌<◌, ◌≤◌, ◌^◌, min, List, length, get_or, Bool, true, false, codes, Option, Some, None, inl, inr, refl, sym, ap, subst, ◌∙◌, arith}
use Rattle.std.proofs.lemmas.Bool.{cases_lt}
use Rattle.std.proofs.lemmas.List.{get_or_past}
use Rattle.base64.specs.GeneralPurpose.{IsBytes}
use Rattle.serde_json.specs.Data.{Data as Value}
use Rattle.luks_area.specs.declared.area.Area.{Area}
use Rattle.luks_area.proofs.RangeFacts.{get_or-part, length-part}
use Rattle.luks_area.specs.Ranges.{part}
use Rattle.luks_area.specs.Sectors.{rounded_to_sectors}
use Rattle.luks2_header.specs.Selection.{luks2}
use Rattle.luks2_header.proofs.ChoiceFacts.{choices_agree}
use Rattle.luks_rules.specs.declared.table.Outer.TheVariants as outer
use Rattle.luks_rules.specs.declared.table.Section.TheVariants.{Keyslots}
use Rattle.luks_rules.specs.Faults.{object_at}
use Rattle.luks_rules.specs.Reading.{number_in}
use Rattle.luks_rules.specs.Sizes.{inside_at}
use Rattle.luks_rules.proofs.AreaFaults.{one_value}
use Rattle.luks_making.specs.Conditions.{CanSeal, FitsNew, IsInRegion, IsThere}
use Rattle.luks_making.specs.Derivations.{FitsAsked, IsPositive}
use Rattle.luks_making.specs.declared.derivation.AskedDerivation.{AskedDerivation}
use Rattle.luks_slot.specs.declared.allowed.Allowed.{Allowed}
use Rattle.luks_slot.specs.declared.fault.SlotFault.TheVariants.{Argon2}
use Rattle.luks_slot.specs.declared.plan.SlotPlan.{SlotPlan}
use Rattle.luks_slot.specs.Opening.{meets_digest}
use Rattle.luks_edit.specs.declared.edit.SecretKind.{SecretKind}
use Rattle.luks_edit.specs.Secrets.{AnswersTo}
use Rattle.luks_edit.proofs.SecretFacts.{given_meets}
use Rattle.luks_slot.specs.Refusal.{first_refusal, is_argon2_refused, slot_refusal_within}
use Rattle.luks_reading.specs.declared.open_fault.OpenFault.TheVariants as opening
use Rattle.luks_reading.specs.declared.report.Data.{Data}
use Rattle.luks_reading.specs.Answer.{HasPlanAs, IsRefusalAsWithin, opens}
use Rattle.luks_reading.specs.Header.{json_at}
use Rattle.luks_reading.specs.Plans.{HasLuks2Plan, IsLuks2Plan}
use Rattle.luks2_edit_laws.specs.declared.like.Like.{Like}
use Rattle.luks2_edit_laws.specs.declared.like.Like.TheVariants.{Keyslot}
use Rattle.luks2_edit_laws.specs.Edited.{keyslot_salt, members_of}
use Rattle.luks2_edit_laws.specs.Metadata.{HasMetadata}
use Rattle.luks2_edit_laws.specs.Places.{IsNewArea}
use Rattle.luks2_edit_laws.specs.Refused.{NeedsLike}
use Rattle.luks2_edit_laws.proofs.MetadataFacts.{some_same}
use Rattle.luks2_edit_laws.proofs.PlaceFacts.{sectors_in_blocks}

-- ---- random bytes

-- a part of bytes is bytes
pub part_bytes : (v : List ℕ) (at len : ℕ) → IsBytes v → IsBytes (part v at len)
part_bytes v at len bytes = λ i. elim (cases_lt i len) [
  | inl lt ↦ (let is : get_or (part v at len) i 0 ≡ get_or v (at + i) 0 = get_or-part v at len i lt in subst (λ n. n < 256) (sym is) (bytes (at + i)))
  | inr past ↦ (
      let long : length (part v at len) ≡ min len (length v - at) = length-part v at len in
      let none : get_or (part v at len) i 0 ≡ 0 = get_or_past (part v at len) i 0 (omega (arith, long, past)) in
      subst (λ n. n < 256) (sym none) (omega arith))
]

-- the salt of a keyslot has 32 bytes where there are as many random bytes as the edit takes
pub salt_length : (random : List ℕ) → 160 ≤ length random → length (keyslot_salt random) ≡ 32
salt_length random enough = let long : length (part random 128 32) ≡ min 32 (length random - 128) = length-part random 128 32 in omega (arith, long, enough)

-- ---- the keyslot that was opened

-- the keyslot that a secret opened, by the metadata that count
pub record IsOpened (allowed : Allowed) (v : List ℕ) (o : ℕ) (j : Value) (n : ℕ) : Type 0 where
  pub numbered : n < 32
  pub plan : SlotPlan
  pub object : Value
  pub there : object_at j Keyslots n ≡ Some object
  pub is : IsLuks2Plan j n object plan
  pub refused : slot_refusal_within allowed plan ≡ None

-- where a plan isn't refused, so isn't its derivation
pub allowed_derivation : (allowed : Allowed) (plan : SlotPlan) → slot_refusal_within allowed plan ≡ None → (b : Bool) → is_argon2_refused allowed.memory plan.derivation ≡ b → b ≡ false
allowed_derivation allowed plan none false is = refl
allowed_derivation allowed plan none true is =
    let some : slot_refusal_within allowed plan ≡ Some Argon2 = ap (λ test. first_refusal test allowed.older plan) is in
    absurd (let both : Some Argon2 ≡ None = sym some ∙ none in cc)

-- what is no value is none
pub none_of : {A : Type 0} (o : Option A) → ((a : A) → o ≡ Some a → ⊥) → o ≡ None
none_of None h = refl
none_of (Some a) h = absurd (h a refl)

-- a keyslot that was opened has a plan that isn't refused
pub opened_plan : (kind : SecretKind) (allowed : Allowed) (v : List ℕ) (o : ℕ) (j : Value) (n : ℕ) (p key : List ℕ) → HasMetadata v o j → AnswersTo kind allowed v n p (opens key) → IsOpened allowed v o j n
opened_plan kind allowed v o j n p key m a =
    let choice = choices_agree v a.choice (luks2 o m.copies) a.chosen m.chosen in
    let is : HasLuks2Plan (json_at v o) n a.plan = subst (λ c. HasPlanAs v n c a.plan) choice a.is in
    let same : is.value ≡ j = one_value (json_at v o) is.value j is.holds m.holds in
    record {
      numbered = is.numbered;
      plan = a.plan;
      object = is.object;
      there = rw same at is.there;
      is = rw same at is.is;
      refused = none_of (slot_refusal_within allowed a.plan) (λ f refused.
          a.unrefused (opening.Slot f) (subst (λ c. IsRefusalAsWithin allowed v n c (opening.Slot f)) (sym choice) (record { plan = a.plan; is = is; refused = refused })));
    }

-- its key meets the digest
pub opened_meets : (kind : SecretKind) (allowed : Allowed) (v : List ℕ) (o : ℕ) (j : Value) (n : ℕ) (p key : List ℕ) (m : HasMetadata v o j) (a : AnswersTo kind allowed v n p (opens key))
    → meets_digest (opened_plan kind allowed v o j n p key m a).plan.digest key ≡ true
unfolding opened_plan
opened_meets kind allowed v o j n p key m a = given_meets kind a.plan (part v a.plan.area.start a.plan.area.len) p key a.key

-- it is there
pub opened_there : (allowed : Allowed) (v : List ℕ) (o : ℕ) (j : Value) (n : ℕ) → IsOpened allowed v o j n → IsThere j n
opened_there allowed v o j n x = record {
  object = x.object;
  there = record { numbered = refl; named = x.numbered; is = x.there };
}

-- ---- a new area

module _ (h total : ℕ) (payload : Data) (j : Value) (like : Like) (area : Area) (new : IsNewArea h total payload j like area) where
  -- it lies in the region
  pub in_region : 4096 ≤ h → IsInRegion (h - 4096) j area.start area.len
  in_region head = λ bytes says.
      (let region : new.region ≡ bytes = some_same new.region bytes (sym new.region_is ∙ says) in
      let from : 2 * h ≤ area.start = new.gap.gap.from in
      let to : area.start + area.len ≤ min (2 * h + new.region) total = new.gap.gap.to in
      (omega (arith, head, from), omega (arith, head, region, to)))

  -- what is new of the keyslot has the ranges of its types
  pub fits_new : (asked : AskedDerivation) (salt : List ℕ) → total < 2 ^ 64 → FitsAsked asked → IsBytes salt → FitsNew (members_of asked salt area)
  fits_new asked salt small ranged bytes =
      let to : area.start + area.len ≤ min (2 * h + new.region) total = new.gap.gap.to in
      record { derivation = ranged; salt = bytes; offset = omega (arith, to, small); size = omega (arith, to, small) }

  -- it lies inside the volume
  pub under : min (2 * h + new.region) total ≤ total
  under = omega arith

  -- it holds the stripes
  pub holds_stripes : (key stripes : ℕ) → key ≡ new.key_bytes → stripes ≡ new.stripes → rounded_to_sectors (key * stripes) ≤ area.len
  holds_stripes key stripes key_is stripes_is = rw (key_is, stripes_is, new.len) (sectors_in_blocks (new.key_bytes * new.stripes))

-- what is new of a keyslot that is made like one that is there suits it
module _ (h total : ℕ) (payload : Data) (j : Value) (n : ℕ) (area : Area) (new : IsNewArea h total payload j (Keyslot n) area) where
  object_same : (slot : IsThere j n) → slot.object ≡ new.slot.object
  object_same slot = some_same slot.object new.slot.object (sym slot.there.is ∙ new.slot.there.is)

  large : (slot : IsThere j n) (key stripes : ℕ)
      → number_in 1 128 (inside_at outer.Top (codes "key_size") slot.object) ≡ Some key
      → number_in 1 4294967295 (inside_at outer.Af (codes "stripes") slot.object) ≡ Some stripes
      → rounded_to_sectors (key * stripes) ≤ area.len
  large slot key stripes k s =
      let same : slot.object ≡ new.slot.object = object_same slot in
      let key_is : key ≡ new.key_bytes = some_same key new.key_bytes (sym (rw same at k) ∙ new.slot.key_bytes_are) in
      let stripes_is : stripes ≡ new.stripes = some_same stripes new.stripes (sym (rw same at s) ∙ new.slot.stripes_are) in
      holds_stripes h total payload j (Keyslot n) area new key stripes key_is stripes_is

  pub can_seal : (asked : AskedDerivation) (salt : List ℕ) → 4096 ≤ h → IsThere j n → IsPositive asked → length salt ≡ 32
      → CanSeal (h - 4096) j n (members_of asked salt area)
  can_seal asked salt head slot turns long = record {
    slot = slot;
    derivation = turns;
    salt = record { from = omega (arith, long); to = omega (arith, long) };
    large = large slot;
    within = in_region h total payload j (Keyslot n) area new head;
  }

-- as many random bytes as a keyslot takes are enough for its salt
pub enough_random : (j : Value) (like : Like) (k : ℕ) → NeedsLike j k like → 160 ≤ k
enough_random j like k x = let count : k ≡ 64 + 64 + 32 + (x.stripes - 1) * x.key_bytes = x.count in omega (arith, count)
