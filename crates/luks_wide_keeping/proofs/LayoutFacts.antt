-- The first fault of a layout, and where there is none.
use Rattle.std.proofs.Common.{◌≡◌, ◌↔◌, ℕ, ◌+◌, ◌*◌, ◌^◌, ◌<◌, ◌≤◌, codes, Bool, IsTrue, not, Option, Some, None, IfSome, IsNone, Result, Ok, Err, IfErr, OnOk, option_and_then, arith, refl, sym, ap, subst, ◌∙◌, inl, inr, true, false}
use Rattle.std.proofs.lemmas.Bool.{cases_lt, false≢true}
use Rattle.serde_json.specs.Find.{get}
use Rattle.serde_json.specs.Data.{Data as Value}
use Rattle.luks_area.specs.First.{NotAfter, IsLeast}
use Rattle.luks_area.specs.declared.area.Area.{Area}
use Rattle.luks_area.specs.declared.area.AreaFault.TheVariants.{Outside}
use Rattle.luks_area.specs.declared.area.AreaName.TheVariants.{Head2, Slot, Segment}
use Rattle.luks_rules.specs.declared.fault.MetaFault.TheVariants.{Region}
use Rattle.luks_rules.specs.declared.table.Section.TheVariants.{Keyslots, Segments}
use Rattle.luks_rules.specs.Reading.{decimal_in}
use Rattle.luks_rules.specs.Sizes.{keyslots_size}
use Rattle.luks_meta.specs.Objects.{IsConfig, IsMissing, IsObject}
use Rattle.luks_meta.specs.Says.{TellsKeyslot}
use Rattle.luks_meta.specs.declared.configuration.Config.{Config}
use Rattle.luks_meta.specs.declared.keyslots.Keyslot.{Keyslot}
use Rattle.luks_reading.specs.Layout2.{segment_offset}
use Rattle.luks_keeping.proofs.SlotFacts.{no_slot}
use Rattle.luks_underway.specs.Reencryptions.{TellsReencryption}
use Rattle.luks_underway.specs.Segments.{TellsWideSegment}
use Rattle.luks_underway.specs.Slots.{TellsWideKeyslot}
use Rattle.luks_underway.specs.declared.reencryption.Reencryption.{Reencryption}
use Rattle.luks_underway.specs.declared.segments.WideSegment.{WideSegment}
use Rattle.luks_underway.specs.declared.slots.WideKeyslot.{WideKeyslot}
use Rattle.luks_underway.specs.declared.slots.WideKeyslot.TheVariants.{Luks2, Reencrypt}
use Rattle.luks_wider.specs.Underways.{content}
use Rattle.luks_wide_reading.specs.declared.copy.UnderwayCopy.{UnderwayCopy}
use Rattle.luks_reading.specs.Checked.{check_key}
use Rattle.luks_reading.specs.declared.check_fault.CheckFault.{CheckFault}
use Rattle.luks_reading.specs.declared.check_fault.CheckFault.TheVariants as check
use Rattle.luks_reading.specs.declared.report.Data.{Data}
use Rattle.luks_reading.specs.declared.report.Data.TheVariants.{Elsewhere, Here}
use Rattle.luks_reading.proofs.Luks2AreaFacts.{luks2_area-unique}
use Rattle.luks_wide_keeping.specs.Layout.{HasKeyArea, IsLayoutFault, IsSegmentBelow, IsSlotPast}
use Rattle.luks_wide_keeping.specs.Whole.{IsBelow, IsFirstOf, IsKnownSize, IsWholeSize}

-- a keyslot has one area
pub one_area : (j : Value) (n : ℕ) (a b : Area) → HasKeyArea j n a → HasKeyArea j n b → a ≡ b
one_area j n a b x y = luks2_area-unique j 0 Elsewhere 0 (Slot n) a b x y

-- it ends behind the device where that area does
pub past_of : (j : Value) (total n : ℕ) (a : Area) → HasKeyArea j n a → IsSlotPast j total n → total < a.start + a.len
past_of j total n a is x = subst (λ (b : Area). total < b.start + b.len) (one_area j n x.area a x.is is) x.past

-- and where it isn't inside
pub past_is : (j : Value) (total n : ℕ) (a : Area) (inside : Bool) → HasKeyArea j n a → (IsTrue inside ↔ (a.start + a.len ≤ total)) → IsTrue (not inside) ↔ IsSlotPast j total n
past_is j total n a true is told = (
  λ e. absurd (false≢true e),
  λ x. (let past = past_of j total n a is x in let within = told.0 refl in absurd (omega (arith, past, within))),
)
past_is j total n a false is told = (
  λ e. record {
    area = a;
    is = is;
    past = elim (cases_lt total (a.start + a.len)) [
      | inl past ↦ past
      | inr within ↦ absurd (false≢true (told.1 within))
    ];
  },
  λ x. refl,
)

-- ---- what the records tell

-- the area of a keyslot that keeps a key
pub luks2_area : (j : Value) (n : ℕ) (k : WideKeyslot) (slot : Keyslot) → n < 32 → IsObject TellsWideKeyslot j Keyslots n k → k ≡ Luks2 slot
    → HasKeyArea j n (record { start = slot.area.offset; len = slot.area.size })
luks2_area j n k slot low x is =
    let told : TellsKeyslot x.object slot = subst (TellsWideKeyslot x.object) is x.tells_members in (
      low,
      ap (λ o. decimal_in (option_and_then (get (codes "offset")) (option_and_then (get (codes "area")) o))) x.is ∙ told.4.3,
      ap (λ o. decimal_in (option_and_then (get (codes "size")) (option_and_then (get (codes "area")) o))) x.is ∙ told.4.4,
    )

-- and of the one that keeps what is under way
pub reencrypt_area : (j : Value) (n : ℕ) (k : WideKeyslot) (slot : Reencryption) → n < 32 → IsObject TellsWideKeyslot j Keyslots n k → k ≡ Reencrypt slot
    → HasKeyArea j n (record { start = slot.area.offset; len = slot.area.size })
reencrypt_area j n k slot low x is =
    let told : TellsReencryption x.object slot = subst (TellsWideKeyslot x.object) is x.tells_members in (
      low,
      ap (λ o. decimal_in (option_and_then (get (codes "offset")) (option_and_then (get (codes "area")) o))) x.is ∙ told.5.0,
      ap (λ o. decimal_in (option_and_then (get (codes "size")) (option_and_then (get (codes "area")) o))) x.is ∙ told.5.1,
    )

-- no object, no area
pub no_area : (j : Value) (n : ℕ) (a : Area) → IsMissing j Keyslots n → HasKeyArea j n a → ⊥
no_area j n a gone is = no_slot j n a (gone is.0) is

-- where a segment begins
pub segment_begins : (j : Value) (n : ℕ) (k : WideSegment) → (x : IsObject TellsWideSegment j Segments n k) → segment_offset j n ≡ Some k.offset
segment_begins j n k x = ap (λ o. decimal_in (option_and_then (get (codes "offset")) o)) x.is ∙ x.tells_members.offset

some_number : (a b : ℕ) → Some a ≡ Some b → a ≡ b
some_number a b e = cc

-- the region that is told
pub region_told : (j : Value) (k : Config) → IsConfig j k → keyslots_size j ≡ Some k.keyslots_size
region_told j k x = ap (λ o. decimal_in (option_and_then (get (codes "keyslots_size")) o)) x.is ∙ x.tells_members.1

-- the size that is known
pub known_size : (c : UnderwayCopy) (k : Config) (o : Option ℕ) → IsConfig (content c.meta) k → IfSome o (λ all. all ≡ 2 * c.header.hdr_size + k.keyslots_size)
    → (IsNone o → 2 ^ 64 ≤ 2 * c.header.hdr_size + k.keyslots_size) → IsKnownSize c o
known_size c k (Some size) told some none = record { region = k.keyslots_size; says = region_told (content c.meta) k told; is = some }
known_size c k None told some none =
    (2 * c.header.hdr_size + k.keyslots_size, (record { region = k.keyslots_size; says = region_told (content c.meta) k told; is = refl }, none refl))

module _ (c : UnderwayCopy) (n : ℕ) (size : Option ℕ) (known : IsKnownSize c size) where
  below_whole : (m : ℕ) → IsWholeSize c m → (offset region : ℕ) → keyslots_size (content c.meta) ≡ Some region → offset < 2 * c.header.hdr_size + region → offset < m
  below_whole m x offset region says below = (let same = some_number x.region region (sym x.says ∙ says) in let is = x.is in omega (arith, same, is, below))

  -- before a known end, or before any that a device has
  pub is_below : (offset region : ℕ) (o : Option ℕ) → IsKnownSize c o → keyslots_size (content c.meta) ≡ Some region → offset < 2 * c.header.hdr_size + region → IsBelow offset o
  is_below offset region (Some m) x says below = below_whole m x offset region says below
  is_below offset region None x says below = tt

  pub below_end : (offset : ℕ) (o : Option ℕ) → IsKnownSize c o → offset < 2 ^ 64 → IsBelow offset o → (region : ℕ) × ((keyslots_size (content c.meta) ≡ Some region) × (offset < 2 * c.header.hdr_size + region))
  below_end offset (Some m) x fits below = (x.region, (x.says, (let is = x.is in omega (arith, is, below))))
  below_end offset None x fits below = (x.1.0.region, (x.1.0.says, (let is = x.1.0.is in let long = x.1.1 in omega (arith, is, long, fits))))

  some_object : (a b : Value) → Some a ≡ Some b → a ≡ b
  some_object a b e = cc

  -- a segment that is there, and by which data is read
  module _ (k : WideSegment) (x : IsObject TellsWideSegment (content c.meta) Segments n k) (low : n < 32) (fits : k.offset < 2 ^ 64) (used : k.flags.backup ≡ false) where
    there : (b : Bool) → (IsTrue b ↔ IsBelow k.offset size) → IsTrue b → IsSegmentBelow c.header.hdr_size (content c.meta) n
    there b told on =
        let end = below_end k.offset size known fits (told.0 on) in
        record {
          numbered = low;
          object = x.object;
          is = x.is;
          in_use = sym x.tells_members.flags.kept_back ∙ used;
          offset = k.offset;
          begins = segment_begins (content c.meta) n k x;
          region = end.0;
          says = end.1.0;
          below = end.1.1;
        }

    back : (b : Bool) → (IsTrue b ↔ IsBelow k.offset size) → IsSegmentBelow c.header.hdr_size (content c.meta) n → IsTrue b
    back b told y =
        let offset : y.offset ≡ k.offset = some_number y.offset k.offset (sym y.begins ∙ segment_begins (content c.meta) n k x) in
        told.1 (is_below k.offset y.region size known y.says (subst (λ (o : ℕ). o < 2 * c.header.hdr_size + y.region) offset y.below))

    pub segment_is : (b : Bool) → (IsTrue b ↔ IsBelow k.offset size) → (IsTrue b → IsSegmentBelow c.header.hdr_size (content c.meta) n) × (IsSegmentBelow c.header.hdr_size (content c.meta) n → IsTrue b)
    segment_is b told = (there b told, back b told)

-- no segment, none below
pub no_segment : (bytes : ℕ) (j : Value) (n : ℕ) → IsMissing j Segments n → IsSegmentBelow bytes j n → ⊥
no_segment bytes j n gone x = (let none = gone x.numbered in let some = x.is in absurd (cc))

-- with the data elsewhere none is in the way
pub elsewhere : (bytes : ℕ) (j : Value) → Elsewhere ≡ Here → (n : ℕ) → IsSegmentBelow bytes j n → ⊥
elsewhere bytes j e n x = (let no : Elsewhere ≡ Here = e in cc)

-- both copies have no room
pub no_room : (bytes total : ℕ) (b : Bool) → (IsTrue b ↔ (2 * bytes ≤ total)) → b ≡ false → total < 2 * bytes
no_room bytes total b told off = elim (cases_lt total (2 * bytes)) [
  | inl short ↦ short
  | inr room ↦ absurd (false≢true (sym off ∙ told.1 room))
]

-- ---- the least of a kind

-- the least of a kind comes before each of it
not_before : (is : ℕ → Type 0) (n m : ℕ) → IsFirstOf is n → is m → n ≤ m
not_before is n m first x = elim (cases_lt m n) [
  | inl less ↦ absurd (first.2 m less x)
  | inr more ↦ more
]

module _ (bytes : ℕ) (j : Value) (payload : Data) (total : ℕ) where
  pub least_segment : (n : ℕ) → payload ≡ Here → IsFirstOf (IsSegmentBelow bytes j) n
      → IsLeast check_key (IsLayoutFault bytes j payload total) (check.Meta (Region (Segment n)))
  least_segment n here first = ((here, first.1), after)
    where
      after : (g : CheckFault) → IsLayoutFault bytes j payload total g → NotAfter (check_key (check.Meta (Region (Segment n)))) (check_key g)
      after (check.Meta (Region (Segment m))) is =
          let le = not_before (IsSegmentBelow bytes j) n m first is.1 in
          (omega arith, λ _. (omega arith, λ _. (omega arith, λ _. (le, λ _. tt))))
      after (check.Area g) is = (omega arith, λ e. absurd (omega (arith, e)))
      after other is = absurd is

  pub least_head : (payload ≡ Here → (n : ℕ) → IsSegmentBelow bytes j n → ⊥) → total < 2 * bytes
      → IsLeast check_key (IsLayoutFault bytes j payload total) (check.Area (Outside Head2))
  least_head none short = (short, after)
    where
      after : (g : CheckFault) → IsLayoutFault bytes j payload total g → NotAfter (check_key (check.Area (Outside Head2))) (check_key g)
      after (check.Meta (Region (Segment m))) is = absurd (none is.0 m is.1)
      after (check.Area (Outside Head2)) is = (omega arith, λ _. (omega arith, λ _. (omega arith, λ _. (omega arith, λ _. tt))))
      after (check.Area (Outside (Slot m))) is = (omega arith, λ _. (omega arith, λ _. (omega arith, λ e. absurd (omega (arith, e)))))
      after other is = absurd is

  pub least_slot : (n : ℕ) → (payload ≡ Here → (m : ℕ) → IsSegmentBelow bytes j m → ⊥) → 2 * bytes ≤ total → IsFirstOf (IsSlotPast j total) n
      → IsLeast check_key (IsLayoutFault bytes j payload total) (check.Area (Outside (Slot n)))
  least_slot n none room first = (first.1, after)
    where
      after : (g : CheckFault) → IsLayoutFault bytes j payload total g → NotAfter (check_key (check.Area (Outside (Slot n)))) (check_key g)
      after (check.Meta (Region (Segment m))) is = absurd (none is.0 m is.1)
      after (check.Area (Outside Head2)) is = absurd (omega (arith, is, room))
      after (check.Area (Outside (Slot m))) is =
          let le = not_before (IsSlotPast j total) n m first is in
          (omega arith, λ _. (omega arith, λ _. (omega arith, λ _. (le, λ _. tt))))
      after other is = absurd is

  pub no_fault : (payload ≡ Here → (n : ℕ) → IsSegmentBelow bytes j n → ⊥) → 2 * bytes ≤ total → ((n : ℕ) → IsSlotPast j total n → ⊥)
      → (f : CheckFault) → IsLayoutFault bytes j payload total f → ⊥
  no_fault none room inside (check.Meta (Region (Segment n))) is = none is.0 n is.1
  no_fault none room inside (check.Area (Outside Head2)) is = omega (arith, is, room)
  no_fault none room inside (check.Area (Outside (Slot n))) is = inside n is
  no_fault none room inside other is = is

  -- ---- with the data here, where no segment begins below

  past_segments : (payload ≡ Here → (n : ℕ) → IsSegmentBelow bytes j n → ⊥) → (f : CheckFault) → IsLayoutFault bytes j payload total f → IsLayoutFault bytes j Elsewhere total f
  past_segments none (check.Meta (Region (Segment n))) is = absurd (none is.0 n is.1)
  past_segments none (check.Area (Outside Head2)) is = is
  past_segments none (check.Area (Outside (Slot n))) is = is
  past_segments none other is = absurd is

  any_payload : (f : CheckFault) → IsLayoutFault bytes j Elsewhere total f → IsLayoutFault bytes j payload total f
  any_payload (check.Meta (Region (Segment n))) is = (let no : Elsewhere ≡ Here = is.0 in absurd (cc))
  any_payload (check.Area (Outside Head2)) is = is
  any_payload (check.Area (Outside (Slot n))) is = is
  any_payload other is = absurd is

  pub least_here : (payload ≡ Here → (n : ℕ) → IsSegmentBelow bytes j n → ⊥) → (r : Result Unit CheckFault) → IfErr r (IsLeast check_key (IsLayoutFault bytes j Elsewhere total))
      → IfErr r (IsLeast check_key (IsLayoutFault bytes j payload total))
  least_here none (Ok x) least = tt
  least_here none (Err f) least = (any_payload f least.0, λ g y. least.1 g (past_segments none g y))

  pub fits_here : (payload ≡ Here → (n : ℕ) → IsSegmentBelow bytes j n → ⊥) → (r : Result Unit CheckFault) → OnOk r ((f : CheckFault) → IsLayoutFault bytes j Elsewhere total f → ⊥)
      → OnOk r ((f : CheckFault) → IsLayoutFault bytes j payload total f → ⊥)
  fits_here none (Ok x) clear = λ f y. clear f (past_segments none f y)
  fits_here none (Err f) clear = tt
