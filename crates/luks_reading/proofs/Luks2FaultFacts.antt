-- A judged LUKS2 volume: the segments' place, the areas, and the first fault.
use Rattle.std.proofs.Common.{◌≡◌, ℕ, ◌+◌, ◌≤◌, ◌<◌, List, length, codes, Bool, true, false, nat_lt, Option, None, Some, IfSome, IsNone, MatchOption, refl, sym, ap, ◌∙◌, subst, arith, ◌⊎◌, inl, inr}
use Rattle.std.specs.Option.{option_map_or}
use Rattle.std.proofs.lemmas.Bool.{ltb-true, ltb-false, cases_lt}
use Rattle.serde_json.specs.Data.{Data as Value}
use Rattle.luks_area.specs.declared.area.AreaFault.{AreaFault}
use Rattle.luks_area.specs.declared.area.AreaName.TheVariants.{Head1, Head2, Slot, Segment}
use Rattle.luks_area.specs.declared.areas.Entry.{Entry}
use Rattle.luks_area.specs.Area.{IsAreaFault, area_key}
use Rattle.luks_area.specs.First.{NotAfter, IsLeast}
use Rattle.luks2_header.specs.Header2.{hdr_size}
use Rattle.luks_rules.specs.declared.fault.MetaFault.{MetaFault}
use Rattle.luks_rules.specs.declared.fault.MetaFault.TheVariants as meta
use Rattle.luks_rules.specs.declared.table.Outer.TheVariants as outer
use Rattle.luks_rules.specs.declared.table.Section.TheVariants.{Segments}
use Rattle.luks_rules.proofs.AreaFaults.{one_value}
use Rattle.luks_meta.specs.declared.meta.Meta.{Meta as Meta2}
use Rattle.luks_meta.specs.Content.{area_len, content}
use Rattle.luks_meta.specs.Faults.{object_at}
use Rattle.luks_meta.specs.MetaFault.{Json, IsMetaFault, meta_key}
use Rattle.luks_meta.specs.Reading.{decimal_in}
use Rattle.luks_meta.specs.Sizes.{has_segment_below, inside_at, is_below, keyslots_size, of_both, region_start, IsFirst}
use Rattle.luks_reading.specs.declared.check_fault.CheckFault.{CheckFault}
use Rattle.luks_reading.specs.declared.check_fault.CheckFault.TheVariants.{Head, Meta, Area, Memory}
use Rattle.luks_reading.specs.declared.report.Data.{Data}
use Rattle.luks_reading.specs.declared.report.Data.TheVariants.{Here}
use Rattle.luks_reading.specs.Checked.{check_key, HasLuks2Area, HasSegmentBelow, HoldsMeta, IsFirstBelow, IsLuks2MetaFault, IsLuks2Fault, IsLuks2Faultless, SegmentsFollow}
use Rattle.luks_reading.specs.Layout2.{Luks2Area}
use Rattle.luks_reading.specs.Listing.{Lists}

-- ---- segments and the region of key areas

held : {A : Type 0} → (f : A → Bool) (o : Option A) → option_map_or f o false ≡ true → (x : A) × ((o ≡ Some x) × (f x ≡ true))
held f None h = absurd (cc)
held f (Some x) h = (x, (refl, h))

begins_below : (len : ℕ) (j d : Value) (n bytes start : ℕ) → object_at j Segments n ≡ Some d → keyslots_size j ≡ Some bytes
    → decimal_in (inside_at outer.Top (codes "offset") d) ≡ Some start
    → has_segment_below len j n ≡ nat_lt start (region_start len + bytes)
begins_below len j d n bytes start is region offset =
    ap (λ o. option_map_or (is_below len (keyslots_size j)) o false) is
    ∙ ap (λ r. of_both r (decimal_in (inside_at outer.Top (codes "offset") d)) (λ b s. nat_lt s (region_start len + b))) region
    ∙ ap (λ o. of_both (Some bytes) o (λ b s. nat_lt s (region_start len + b))) offset

pub segments_follow : (len : ℕ) (j : Value) → ((n : ℕ) → n < 32 → has_segment_below len j n ≡ false) → SegmentsFollow len j
segments_follow len j none = record {
  each = λ n d bytes start is region offset.
      ltb-false start (region_start len + bytes) (sym (begins_below len j d n bytes start is.is region offset) ∙ none n is.named);
}

pub segment_breaks : (len : ℕ) (j : Value) (n : ℕ) → n < 32 → has_segment_below len j n ≡ true → SegmentsFollow len j → ⊥
segment_breaks len j n lt below follow =
    let one = held (is_below len (keyslots_size j)) (object_at j Segments n) below in
    let two = held (λ b. option_map_or (λ s. nat_lt s (region_start len + b)) (decimal_in (inside_at outer.Top (codes "offset") one.0)) false) (keyslots_size j) one.1.1 in
    let three = held (λ s. nat_lt s (region_start len + two.0)) (decimal_in (inside_at outer.Top (codes "offset") one.0)) two.1.1 in
    let before : three.0 < region_start len + two.0 = ltb-true three.0 (region_start len + two.0) three.1.1 in
    let after = follow.each n one.0 two.0 three.0 (record { numbered = refl; named = lt; is = one.1.0 }) two.1.0 three.1.0 in
    omega (arith, before, after)

-- ---- areas

pub lists_value : (b json : List ℕ) (payload : Data) (total size : ℕ) (j : Value) (es : List Entry) → hdr_size b ≡ size → Json json j
    → Lists es (Luks2Area j size payload total) → Lists es (HasLuks2Area b json payload total)
lists_value b json payload total size j es sized holds lists = record {
  only = λ n a g. record { value = j; holds = holds; area = subst (λ h. Luks2Area j h payload total n a) (sym sized) (lists.only n a g) };
  all = λ n a g. lists.all n a (subst (λ h. Luks2Area j h payload total n a) sized
      (subst (λ i. Luks2Area i (hdr_size b) payload total n a) (one_value json g.value j g.holds holds) g.area));
}

-- ---- the first fault

-- a fault of the metadata of the copy is one of the JSON area, or a segment's
pub meta_cases : (json : List ℕ) (payload : Data) (f : MetaFault) → IsLuks2MetaFault json payload f
    → IsMetaFault json f ⊎ ((n : ℕ) × ((f ≡ meta.Region (Segment n)) × HasSegmentBelow json payload n))
meta_cases json payload (meta.Region (Segment n)) is = inr (n, (refl, is))
meta_cases json payload other is = inl is

pub least_area2 : (b json : List ℕ) (payload : Data) (total : ℕ) (j : Value) (f : AreaFault) → IsLuks2Faultless b json
    → Json json j → (payload ≡ Here → SegmentsFollow (length json) j)
    → IsLeast area_key (IsAreaFault (HasLuks2Area b json payload total) total) f → IsLeast check_key (IsLuks2Fault b json payload total) (Area f)
least_area2 b json payload total j f faultless holds follow least = (least.0, after)
  where
    no_segment : (n : ℕ) → HasSegmentBelow json payload n → ⊥
    no_segment n is = segment_breaks (length json) j n is.numbered
        (subst (λ i. has_segment_below (length json) i n ≡ true) (one_value json is.value j is.holds holds) is.below) (follow is.here)

    after : (g : CheckFault) → IsLuks2Fault b json payload total g → NotAfter (check_key (Area f)) (check_key g)
    after (Head g) is = absurd (faultless.uuid g is)
    after (Meta g) is = elim (meta_cases json payload g is) [
      | inl own ↦ absurd (faultless.metadata g own)
      | inr other ↦ absurd (no_segment other.0 other.1.1)
    ]
    after (Area g) is = (omega arith, λ _. least.1 g is)
    after other is = absurd is

pub least_segment : (b json : List ℕ) (payload : Data) (total : ℕ) (j : Value) (n : ℕ) → IsLuks2Faultless b json
    → Json json j → IsFirstBelow json payload j n
    → IsLeast check_key (IsLuks2Fault b json payload total) (Meta (meta.Region (Segment n)))
least_segment b json payload total j n faultless holds first =
    (record { value = j; holds = holds; here = first.here; numbered = first.numbered; below = first.below }, after)
  where
    not_before : (m : ℕ) → HasSegmentBelow json payload m → n ≤ m
    not_before m is = elim (cases_lt m n) [
      | inl less ↦
          let below : has_segment_below (length json) j m ≡ true =
          subst (λ i. has_segment_below (length json) i m ≡ true) (one_value json is.value j is.holds holds) is.below in
          let not_below : has_segment_below (length json) j m ≡ false = first.first m less in
          absurd (cc)
      | inr more ↦ more
    ]

    after_segment : (m : ℕ) → n ≤ m → NotAfter (check_key (Meta (meta.Region (Segment n)))) (check_key (Meta (meta.Region (Segment m))))
    after_segment m le = (omega arith, λ _. (omega arith, λ _. (omega arith, λ _. (le, λ _. tt))))

    after : (g : CheckFault) → IsLuks2Fault b json payload total g → NotAfter (check_key (Meta (meta.Region (Segment n)))) (check_key g)
    after (Head g) is = absurd (faultless.uuid g is)
    after (Meta g) is = elim (meta_cases json payload g is) [
      | inl own ↦ absurd (faultless.metadata g own)
      | inr other ↦ subst (λ k. NotAfter (check_key (Meta (meta.Region (Segment n)))) (check_key (Meta k))) (sym other.1.0)
          (after_segment other.0 (not_before other.0 other.1.1))
    ]
    after (Area g) is = (omega arith, λ e. absurd (omega (arith, e)))
    after other is = absurd is

-- a fault of the metadata comes before that of any segment
pub before_segment : (json : List ℕ) (f : MetaFault) (n : ℕ) → IsMetaFault json f → NotAfter (meta_key f) (meta_key (meta.Region (Segment n)))
before_segment json (meta.Region Head1) n is = absurd is.fault
before_segment json (meta.Region Head2) n is = absurd is.fault
before_segment json (meta.Region (Slot m)) n is = (omega arith, λ _. (omega arith, λ e. absurd (omega (arith, e))))
before_segment json (meta.Region (Segment m)) n is = absurd is.fault
before_segment json meta.Memory n is = absurd is
before_segment json other n is = (omega arith, λ e. absurd (omega (arith, e)))

pub to_luks2_fault : (json : List ℕ) (payload : Data) (f : MetaFault) → IsMetaFault json f → IsLuks2MetaFault json payload f
to_luks2_fault json payload (meta.Region (Segment m)) is = absurd is.fault
to_luks2_fault json payload other is = is

-- ---- what the metadata that was read tells of the region

pub region_some : (json : List ℕ) (payload : Data) (m : Meta2) (o : Option ℕ) → HoldsMeta json m → payload ≡ Here
    → MatchOption o ((n : ℕ) → n < 32 → has_segment_below (area_len m) (content m) n ≡ false) (λ n. IsFirst (has_segment_below (area_len m) (content m)) n)
    → IfSome o (IsFirstBelow json payload (content m))
region_some json payload m None holds here told = tt
region_some json payload m (Some n) holds here told = record {
  here = here;
  numbered = told.below;
  below = subst (λ l. has_segment_below l (content m) n ≡ true) holds.len told.holds;
  first = λ k lt. subst (λ l. has_segment_below l (content m) k ≡ false) holds.len (told.first k lt);
}

pub region_none : (json : List ℕ) (m : Meta2) (o : Option ℕ) → HoldsMeta json m
    → MatchOption o ((n : ℕ) → n < 32 → has_segment_below (area_len m) (content m) n ≡ false) (λ n. IsFirst (has_segment_below (area_len m) (content m)) n)
    → IsNone o → SegmentsFollow (length json) (content m)
region_none json m None holds told is = subst (λ l. SegmentsFollow l (content m)) holds.len (segments_follow (area_len m) (content m) told)
region_none json m (Some n) holds told is = absurd (cc)
