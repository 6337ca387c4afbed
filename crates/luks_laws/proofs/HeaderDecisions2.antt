-- A copy of the LUKS2 header has a fault or none, and so has a volume with one.
use Rattle.std.proofs.Common.{◌≡◌, ◌⊎◌, ℕ, ◌-◌, ◌<◌, true, List, [], ◌∷◌, ◌++◌, length, map, codes, Option, Some, None, refl, sym, ap, subst, ◌∙◌, inl, inr}
use Rattle.serde_json.specs.Data.{Data as Value}
use Rattle.serde_json.specs.Written.{has_float}
use Rattle.arrayvec.specs.declared.array_string.ArrayString.{ArrayString}
use Rattle.luks_area.specs.declared.area.Area.{Area as TheArea}
use Rattle.luks_area.specs.declared.area.AreaName.{AreaName}
use Rattle.luks_area.specs.declared.area.AreaName.TheVariants.{Head1, Head2, Segment, Slot}
use Rattle.luks_area.specs.Text.{is_plain, text_of}
use Rattle.luks1_header.specs.declared.fault.HeadFault.{HeadFault}
use Rattle.luks1_header.specs.declared.fault.HeadFault.TheVariants as head
use Rattle.luks1_header.specs.declared.fault.TextField.TheVariants as field
use Rattle.luks1_header.specs.Faults.{head_key}
use Rattle.luks2_header.specs.Header2.{hdr_size, IsUuidFault, uuid_field}
use Rattle.luks_json.specs.AreaText.{IsBadJson, Json, JsonText}
use Rattle.luks_rules.specs.declared.fault.MetaFault.{MetaFault}
use Rattle.luks_rules.specs.declared.fault.MetaFault.TheVariants as meta
use Rattle.luks_rules.specs.Faults.{Among}
use Rattle.luks_rules.specs.MetaFault.{HasDataFault, IsDataFault, IsMetaFault, meta_key}
use Rattle.luks_rules.specs.Reading.{dynamic, Field, whole}
use Rattle.luks_rules.specs.Valued.{IsValueFault}
use Rattle.luks_rules.specs.Sizes.{has_other_size, has_segment_below, has_slot_outside, has_small_area}
use Rattle.luks_reading.specs.declared.check_fault.CheckFault.{CheckFault}
use Rattle.luks_reading.specs.declared.check_fault.CheckFault.TheVariants as check
use Rattle.luks_reading.specs.declared.report.Data.{Data}
use Rattle.luks_reading.specs.declared.report.Data.TheVariants.{Elsewhere, Here}
use Rattle.luks_reading.specs.Checked.{check_key, HasLuks2Area, HasSegmentBelow, IsLuks2Fault, IsLuks2MetaFault}
use Rattle.luks_reading.specs.Layout2.{HasExtent, Luks2Area, segment_extent, segment_offset, slot_number}
use Rattle.luks_laws.proofs.AreaDecisions.{among_areas, area_candidates, area_fault_decided}
use Rattle.luks_laws.proofs.DecidedFacts.{alike_decided, among_each, among_left, among_map, among_right, both_decided, carry_least, Decided, each, LeastOrNone, least_or_none, least_or_none_by_key, less_decided, none_some, not_decided, option_there, some_same, three_decided, true_decided}
use Rattle.luks_laws.proofs.HeaderDecisions1.{same_area, uuid_decided}
use Rattle.luks_laws.proofs.PlaceDecisions2.{all_paths, among_places, path_fault_decided, path_of}

-- ---- the uuid

uuid_fault_decided : (text : List ℕ) (f : HeadFault) → Decided (IsUuidFault text f)
uuid_fault_decided text (head.Text field.Uuid) = not_decided _ (true_decided (is_plain (text_of text)))
uuid_fault_decided text (head.Text field.CipherName) = inr (λ bad. bad)
uuid_fault_decided text (head.Text field.CipherMode) = inr (λ bad. bad)
uuid_fault_decided text (head.Text field.HashSpec) = inr (λ bad. bad)
uuid_fault_decided text head.Uuid = not_decided _ (uuid_decided (text_of text))
uuid_fault_decided text head.TooShort = inr (λ bad. bad)
uuid_fault_decided text head.NotLuks = inr (λ bad. bad)
uuid_fault_decided text head.Version = inr (λ bad. bad)
uuid_fault_decided text head.NoSoundCopy = inr (λ bad. bad)
uuid_fault_decided text (head.SlotState n) = inr (λ bad. bad)
uuid_fault_decided text head.KeyBytes = inr (λ bad. bad)
uuid_fault_decided text (head.Stripes n) = inr (λ bad. bad)
uuid_fault_decided text (head.Iterations o) = inr (λ bad. bad)
uuid_fault_decided text head.Device = inr (λ bad. bad)
uuid_fault_decided text head.Memory = inr (λ bad. bad)

uuid_faults : List HeadFault
uuid_faults = head.Text field.Uuid ∷ head.Uuid ∷ []

among_uuids : (text : List ℕ) (f : HeadFault) → IsUuidFault text f → Among f uuid_faults
unfolding uuid_faults
among_uuids text (head.Text field.Uuid) bad = inl refl
among_uuids text (head.Text field.CipherName) bad = absurd bad
among_uuids text (head.Text field.CipherMode) bad = absurd bad
among_uuids text (head.Text field.HashSpec) bad = absurd bad
among_uuids text head.Uuid bad = inr (inl refl)
among_uuids text head.TooShort bad = absurd bad
among_uuids text head.NotLuks bad = absurd bad
among_uuids text head.Version bad = absurd bad
among_uuids text head.NoSoundCopy bad = absurd bad
among_uuids text (head.SlotState n) bad = absurd bad
among_uuids text head.KeyBytes bad = absurd bad
among_uuids text (head.Stripes n) bad = absurd bad
among_uuids text (head.Iterations o) bad = absurd bad
among_uuids text head.Device bad = absurd bad
among_uuids text head.Memory bad = absurd bad

-- the uuid's text has a first fault or none
pub uuid_fault_or_none : (text : List ℕ) → LeastOrNone HeadFault head_key (IsUuidFault text)
uuid_fault_or_none text = least_or_none HeadFault head_key (IsUuidFault text) (uuid_fault_decided text) uuid_faults (among_uuids text)

-- ---- a value

pub data_fault_decided : (len : ℕ) (j : Value) (f : MetaFault) → Decided (IsDataFault len j f)
data_fault_decided len j meta.JsonArea = inr (λ bad. bad)
data_fault_decided len j meta.BadJson = inr (λ bad. bad)
data_fault_decided len j meta.NotWhole = true_decided (has_float j)
data_fault_decided len j (meta.Shape path) = path_fault_decided _ path.bytes _
    (λ s n r at bad is. record { place = record { section = s; number = n; row = r }; faulty = record { place = at; fault = bad }; is = is })
    (λ x. record { section = x.place.section; number = x.place.number; row = x.place.row; place = x.faulty.place; is = (x.faulty.fault, x.is) })
data_fault_decided len j (meta.Kind path) = path_fault_decided _ path.bytes _
    (λ s n r at bad is. record { place = record { section = s; number = n; row = r }; faulty = record { place = at; fault = bad }; is = is })
    (λ x. record { section = x.place.section; number = x.place.number; row = x.place.row; place = x.faulty.place; is = (x.faulty.fault, x.is) })
data_fault_decided len j (meta.NoSuchName path) = path_fault_decided _ path.bytes _
    (λ s n r at bad is. record { place = record { section = s; number = n; row = r }; faulty = record { place = at; fault = bad }; is = is })
    (λ x. record { section = x.place.section; number = x.place.number; row = x.place.row; place = x.faulty.place; is = (x.faulty.fault, x.is) })
data_fault_decided len j (meta.Assigned path) = path_fault_decided _ path.bytes _
    (λ s n r at bad is. record { place = record { section = s; number = n; row = r }; faulty = record { place = at; fault = bad }; is = is })
    (λ x. record { section = x.place.section; number = x.place.number; row = x.place.row; place = x.faulty.place; is = (x.faulty.fault, x.is) })
data_fault_decided len j meta.Sizes = true_decided (has_other_size len j)
data_fault_decided len j (meta.AreaTooSmall n) = both_decided _ _ (less_decided n 32) (true_decided (has_small_area j n))
data_fault_decided len j (meta.Region Head1) = inr (λ bad. bad)
data_fault_decided len j (meta.Region Head2) = inr (λ bad. bad)
data_fault_decided len j (meta.Region (Slot n)) = both_decided _ _ (less_decided n 32) (true_decided (has_slot_outside len j n))
data_fault_decided len j (meta.Region (Segment n)) = inr (λ bad. bad)
data_fault_decided len j meta.Memory = inr (λ bad. bad)

here_decided : (payload : Data) → Decided (payload ≡ Here)
here_decided Here = inl refl
here_decided Elsewhere = inr (λ e. cc)

-- the length that an extent says
find_length : (total start : ℕ) (o : Option Field) → ((len : ℕ) × HasExtent total start len o) ⊎ ((len : ℕ) → HasExtent total start len o → ⊥)
find_length total start (Some dynamic) = inl (total - start, refl)
find_length total start (Some (whole size)) = inl (size, refl)
find_length total start None = inr (λ len x. x)
find_length total start o = inr (λ len x. x)

one_length : (total start : ℕ) (o : Option Field) (a b : ℕ) → HasExtent total start a o → HasExtent total start b o → a ≡ b
one_length total start (Some dynamic) a b x y = x ∙ sym y
one_length total start (Some (whole size)) a b x y = x ∙ sym y
one_length total start None a b x y = absurd x
one_length total start o a b x y = absurd x

module _ (j : Value) (h : ℕ) (payload : Data) (total : ℕ) where
  find_slot : (n : ℕ) → n < 32 → ((a : TheArea) × Luks2Area j h payload total (Slot n) a) ⊎ ((a : TheArea) → Luks2Area j h payload total (Slot n) a → ⊥)
  find_slot n low = elim (option_there (slot_number j n (codes "offset"))) [
    | inl start ↦ elim (option_there (slot_number j n (codes "size"))) [
      | inl size ↦ inl (record { start = start.0; len = size.0 }, (low, start.1, size.1))
      | inr none ↦ inr (λ a x. none_some _ _ none x.2)
    ]
    | inr none ↦ inr (λ a x. none_some _ _ none x.1)
  ]

  find_segment : (n : ℕ) → n < 32 → payload ≡ Here → ((a : TheArea) × Luks2Area j h payload total (Segment n) a) ⊎ ((a : TheArea) → Luks2Area j h payload total (Segment n) a → ⊥)
  find_segment n low here = elim (option_there (segment_offset j n)) [
    | inl start ↦ elim (find_length total start.0 (segment_extent j n)) [
      | inl size ↦ inl (record { start = start.0; len = size.0 }, (low, here, start.1, size.1))
      | inr none ↦ inr (λ a x. none a.len (subst (λ s. HasExtent total s a.len (segment_extent j n)) (some_same _ a.start start.0 x.2 start.1) x.3))
    ]
    | inr none ↦ inr (λ a x. none_some _ _ none x.2)
  ]

  find_area : (n : AreaName) → ((a : TheArea) × Luks2Area j h payload total n a) ⊎ ((a : TheArea) → Luks2Area j h payload total n a → ⊥)
  find_area Head1 = inl (record { start = 0; len = h }, (refl, refl))
  find_area Head2 = inl (record { start = h; len = h }, (refl, refl))
  find_area (Slot n) = elim (less_decided n 32) [ inl low ↦ find_slot n low | inr high ↦ inr (λ a x. high x.0) ]
  find_area (Segment n) = elim (both_decided _ _ (less_decided n 32) (here_decided payload)) [
    | inl x ↦ find_segment n x.0 x.1
    | inr other ↦ inr (λ a x. other (x.0, x.1))
  ]

  one_area : (n : AreaName) (a b : TheArea) → Luks2Area j h payload total n a → Luks2Area j h payload total n b → a ≡ b
  one_area Head1 a b x y = same_area a b (x.0 ∙ sym y.0) (x.1 ∙ sym y.1)
  one_area Head2 a b x y = same_area a b (x.0 ∙ sym y.0) (x.1 ∙ sym y.1)
  one_area (Slot n) a b x y = same_area a b (some_same _ a.start b.start x.1 y.1) (some_same _ a.len b.len x.2 y.2)
  one_area (Segment n) a b x y =
      let starts : a.start ≡ b.start = some_same _ a.start b.start x.2 y.2 in
      same_area a b starts (one_length total b.start (segment_extent j n) a.len b.len (subst (λ s. HasExtent total s a.len (segment_extent j n)) starts x.3) y.3)

names : List AreaName
names = Head1 ∷ Head2 ∷ (each Slot 32 ++ each Segment 32)

among_names : (j : Value) (h : ℕ) (payload : Data) (total : ℕ) (n : AreaName) (a : TheArea) → Luks2Area j h payload total n a → Among n names
unfolding names
among_names j h payload total Head1 a x = inl refl
among_names j h payload total Head2 a x = inr (inl refl)
among_names j h payload total (Slot n) a x = inr (inr (among_left (Slot n) (each Slot 32) (each Segment 32) (among_each Slot 32 n x.0)))
among_names j h payload total (Segment n) a x = inr (inr (among_right (Segment n) (each Slot 32) (each Segment 32) (among_each Segment 32 n x.0)))

-- ---- the faults that may stand, by their keys

abbrev array : List ℕ → ArrayString 32
array path = record { bytes = path; spare = [] }

whole_faults : List MetaFault
whole_faults = meta.JsonArea ∷ meta.BadJson ∷ meta.NotWhole ∷ meta.Sizes ∷ []

at_paths : (ArrayString 32 → MetaFault) → List MetaFault
at_paths f = map (λ path. f (array path)) all_paths

small_areas : List MetaFault
small_areas = each meta.AreaTooSmall 32

slot_regions : List MetaFault
slot_regions = each (λ n. meta.Region (Slot n)) 32

segment_regions : List MetaFault
segment_regions = each (λ n. meta.Region (Segment n)) 32

at_names : List MetaFault
at_names = small_areas ++ (slot_regions ++ segment_regions)

pub meta_candidates : List MetaFault
meta_candidates = whole_faults ++ (at_names ++ (at_paths meta.Shape ++ (at_paths meta.Kind ++ (at_paths meta.NoSuchName ++ at_paths meta.Assigned))))

among_whole : (f : MetaFault) → Among f whole_faults → Among f meta_candidates
unfolding meta_candidates
among_whole f at = among_left f whole_faults _ at

among_at_names : (f : MetaFault) → Among f at_names → Among f meta_candidates
unfolding meta_candidates
among_at_names f at = among_right f whole_faults _ (among_left f at_names _ at)

among_at_paths : (g : ArrayString 32 → MetaFault) (path : List ℕ) → Among path all_paths → Among (g (array path)) (at_paths g)
unfolding at_paths
among_at_paths g path at = among_map (λ p. g (array p)) path all_paths at

among_shapes : (f : MetaFault) → Among f (at_paths meta.Shape) → Among f meta_candidates
unfolding meta_candidates
among_shapes f at = among_right f whole_faults _ (among_right f at_names _ (among_left f (at_paths meta.Shape) _ at))

among_kinds : (f : MetaFault) → Among f (at_paths meta.Kind) → Among f meta_candidates
unfolding meta_candidates
among_kinds f at = among_right f whole_faults _ (among_right f at_names _ (among_right f (at_paths meta.Shape) _ (among_left f (at_paths meta.Kind) _ at)))

among_no_names : (f : MetaFault) → Among f (at_paths meta.NoSuchName) → Among f meta_candidates
unfolding meta_candidates
among_no_names f at = among_right f whole_faults _
    (among_right f at_names _ (among_right f (at_paths meta.Shape) _ (among_right f (at_paths meta.Kind) _ (among_left f (at_paths meta.NoSuchName) (at_paths meta.Assigned) at))))

among_assigned : (f : MetaFault) → Among f (at_paths meta.Assigned) → Among f meta_candidates
unfolding meta_candidates
among_assigned f at = among_right f whole_faults _
    (among_right f at_names _ (among_right f (at_paths meta.Shape) _ (among_right f (at_paths meta.Kind) _ (among_right f (at_paths meta.NoSuchName) (at_paths meta.Assigned) at))))

among_small_areas : (n : ℕ) → n < 32 → Among (meta.AreaTooSmall n) small_areas
unfolding small_areas
among_small_areas n low = among_each meta.AreaTooSmall 32 n low

among_slots : (n : ℕ) → n < 32 → Among (meta.Region (Slot n)) slot_regions
unfolding slot_regions
among_slots n low = among_each (λ k. meta.Region (Slot k)) 32 n low

among_segments : (n : ℕ) → n < 32 → Among (meta.Region (Segment n)) segment_regions
unfolding segment_regions
among_segments n low = among_each (λ k. meta.Region (Segment k)) 32 n low

among_too_small : (n : ℕ) → n < 32 → Among (meta.AreaTooSmall n) meta_candidates
unfolding at_names
among_too_small n low = among_at_names (meta.AreaTooSmall n) (among_left (meta.AreaTooSmall n) small_areas (slot_regions ++ segment_regions) (among_small_areas n low))

among_slot_regions : (n : ℕ) → n < 32 → Among (meta.Region (Slot n)) meta_candidates
unfolding at_names
among_slot_regions n low = among_at_names (meta.Region (Slot n)) (among_right (meta.Region (Slot n)) small_areas (slot_regions ++ segment_regions)
    (among_left (meta.Region (Slot n)) slot_regions segment_regions (among_slots n low)))

among_segment_regions : (n : ℕ) → n < 32 → Among (meta.Region (Segment n)) meta_candidates
unfolding at_names
among_segment_regions n low = among_at_names (meta.Region (Segment n)) (among_right (meta.Region (Segment n)) small_areas (slot_regions ++ segment_regions)
    (among_right (meta.Region (Segment n)) slot_regions segment_regions (among_segments n low)))

-- ---- a value that is made

-- of a fault of it a candidate with the same key is one
abbrev HasValueCandidate : ℕ → Value → MetaFault → Type 0
HasValueCandidate len j f = (g : MetaFault) × Among g meta_candidates × IsValueFault len j g × (meta_key g ≡ meta_key f)

pub known_value : (len : ℕ) (j : Value) (f : MetaFault) → IsValueFault len j f → HasValueCandidate len j f
unfolding whole_faults
known_value len j meta.JsonArea bad = absurd bad
known_value len j meta.BadJson bad = (meta.BadJson, among_whole _ (inr (inl refl)), bad, refl)
known_value len j meta.NotWhole bad = (meta.NotWhole, among_whole _ (inr (inr (inl refl))), bad, refl)
known_value len j (meta.Shape path) bad =
    let p = bad.place in (
      meta.Shape (array (path_of p.section p.number p.row)),
      among_shapes _ (among_at_paths meta.Shape _ (among_places p.section p.number p.row bad.faulty.place)),
      record { place = p; faulty = bad.faulty; is = refl },
      ap (λ k. 4 ∷ k) (sym bad.is),
    )
known_value len j (meta.Kind path) bad =
    let p = bad.place in (
      meta.Kind (array (path_of p.section p.number p.row)),
      among_kinds _ (among_at_paths meta.Kind _ (among_places p.section p.number p.row bad.faulty.place)),
      record { place = p; faulty = bad.faulty; is = refl },
      ap (λ k. 5 ∷ k) (sym bad.is),
    )
known_value len j (meta.NoSuchName path) bad =
    let p = bad.place in (
      meta.NoSuchName (array (path_of p.section p.number p.row)),
      among_no_names _ (among_at_paths meta.NoSuchName _ (among_places p.section p.number p.row bad.faulty.place)),
      record { place = p; faulty = bad.faulty; is = refl },
      ap (λ k. 6 ∷ k) (sym bad.is),
    )
known_value len j (meta.Assigned path) bad =
    let p = bad.place in (
      meta.Assigned (array (path_of p.section p.number p.row)),
      among_assigned _ (among_at_paths meta.Assigned _ (among_places p.section p.number p.row bad.faulty.place)),
      record { place = p; faulty = bad.faulty; is = refl },
      ap (λ k. 7 ∷ k) (sym bad.is),
    )
known_value len j meta.Sizes bad = (meta.Sizes, among_whole _ (inr (inr (inr (inl refl)))), bad, refl)
known_value len j (meta.AreaTooSmall n) bad = (meta.AreaTooSmall n, among_too_small n bad.0, bad, refl)
known_value len j (meta.Region Head1) bad = absurd bad
known_value len j (meta.Region Head2) bad = absurd bad
known_value len j (meta.Region (Slot n)) bad = (meta.Region (Slot n), among_slot_regions n bad.0, bad, refl)
known_value len j (meta.Region (Segment n)) bad = absurd bad
known_value len j meta.Memory bad = absurd bad

-- ---- a JSON area

module _ (kinds : (json : List ℕ) → ((j : Value) × Json json j) ⊎ IsBadJson json ⊎ ((text : List ℕ) → JsonText json text → ⊥))
    (good : (json : List ℕ) (j : Value) → Json json j → IsBadJson json → ⊥)
    (one : (json : List ℕ) (i j : Value) → Json json i → Json json j → i ≡ j) where
  find_value : (json : List ℕ) → ((j : Value) × Json json j) ⊎ ((j : Value) → Json json j → ⊥)
  find_value json = by_kind (kinds json)
    where
      by_kind : ((j : Value) × Json json j) ⊎ IsBadJson json ⊎ ((text : List ℕ) → JsonText json text → ⊥) → ((j : Value) × Json json j) ⊎ ((j : Value) → Json json j → ⊥)
      by_kind (inl value) = inl value
      by_kind (inr (inl bad)) = inr (λ j holds. good json j holds bad)
      by_kind (inr (inr none)) = inr (λ j holds. none holds.text holds.placed)

  no_text_decided : (json : List ℕ) → Decided ((text : List ℕ) → JsonText json text → ⊥)
  no_text_decided json = by_kind (kinds json)
    where
      by_kind : ((j : Value) × Json json j) ⊎ IsBadJson json ⊎ ((text : List ℕ) → JsonText json text → ⊥) → Decided ((text : List ℕ) → JsonText json text → ⊥)
      by_kind (inl value) = inr (λ none. none value.1.text value.1.placed)
      by_kind (inr (inl bad)) = inr (λ none. none bad.text bad.placed)
      by_kind (inr (inr none)) = inl none

  bad_json_decided : (json : List ℕ) → Decided (IsBadJson json)
  bad_json_decided json = by_kind (kinds json)
    where
      by_kind : ((j : Value) × Json json j) ⊎ IsBadJson json ⊎ ((text : List ℕ) → JsonText json text → ⊥) → Decided (IsBadJson json)
      by_kind (inl value) = inr (λ bad. good json value.0 value.1 bad)
      by_kind (inr (inl bad)) = inl bad
      by_kind (inr (inr none)) = inr (λ bad. none bad.text bad.placed)

  has_data_fault_decided : (json : List ℕ) (f : MetaFault) → Decided (HasDataFault json f)
  has_data_fault_decided json f = elim (find_value json) [
    | inl v ↦ alike_decided (IsDataFault (length json) v.0 f) (HasDataFault json f) (λ bad. record { value = v.0; json = v.1; fault = bad })
        (λ x. subst (λ i. IsDataFault (length json) i f) (one json x.value v.0 x.json v.1) x.fault) (data_fault_decided (length json) v.0 f)
    | inr none ↦ inr (λ x. none x.value x.json)
  ]

  segment_below_decided : (json : List ℕ) (payload : Data) (n : ℕ) → Decided (HasSegmentBelow json payload n)
  segment_below_decided json payload n = elim (find_value json) [
    | inl v ↦ alike_decided ((payload ≡ Here) × (n < 32) × (has_segment_below (length json) v.0 n ≡ true)) (HasSegmentBelow json payload n)
        (λ x. record { value = v.0; holds = v.1; here = x.0; numbered = x.1; below = x.2 })
        (λ x. (x.here, x.numbered, subst (λ i. has_segment_below (length json) i n ≡ true) (one json x.value v.0 x.holds v.1) x.below))
        (three_decided _ _ _ (here_decided payload) (less_decided n 32) (true_decided (has_segment_below (length json) v.0 n)))
    | inr none ↦ inr (λ x. none x.value x.holds)
  ]

  meta_fault_decided : (json : List ℕ) (payload : Data) (f : MetaFault) → Decided (IsLuks2MetaFault json payload f)
  meta_fault_decided json payload meta.JsonArea = no_text_decided json
  meta_fault_decided json payload meta.BadJson = bad_json_decided json
  meta_fault_decided json payload meta.NotWhole = has_data_fault_decided json meta.NotWhole
  meta_fault_decided json payload (meta.Shape path) = has_data_fault_decided json (meta.Shape path)
  meta_fault_decided json payload (meta.Kind path) = has_data_fault_decided json (meta.Kind path)
  meta_fault_decided json payload (meta.NoSuchName path) = has_data_fault_decided json (meta.NoSuchName path)
  meta_fault_decided json payload (meta.Assigned path) = has_data_fault_decided json (meta.Assigned path)
  meta_fault_decided json payload meta.Sizes = has_data_fault_decided json meta.Sizes
  meta_fault_decided json payload (meta.AreaTooSmall n) = has_data_fault_decided json (meta.AreaTooSmall n)
  meta_fault_decided json payload (meta.Region Head1) = has_data_fault_decided json (meta.Region Head1)
  meta_fault_decided json payload (meta.Region Head2) = has_data_fault_decided json (meta.Region Head2)
  meta_fault_decided json payload (meta.Region (Slot n)) = has_data_fault_decided json (meta.Region (Slot n))
  meta_fault_decided json payload (meta.Region (Segment n)) = segment_below_decided json payload n
  meta_fault_decided json payload meta.Memory = inr (λ bad. bad)

  -- a candidate stands with the same key
  abbrev HasCandidate : List ℕ → Data → MetaFault → Type 0
  HasCandidate json payload f = (g : MetaFault) × Among g meta_candidates × IsLuks2MetaFault json payload g × (meta_key g ≡ meta_key f)

  known_meta : (json : List ℕ) (payload : Data) (f : MetaFault) → IsLuks2MetaFault json payload f → HasCandidate json payload f
  unfolding whole_faults
  known_meta json payload meta.JsonArea bad = (meta.JsonArea, among_whole _ (inl refl), bad, refl)
  known_meta json payload meta.BadJson bad = (meta.BadJson, among_whole _ (inr (inl refl)), bad, refl)
  known_meta json payload meta.NotWhole bad = (meta.NotWhole, among_whole _ (inr (inr (inl refl))), bad, refl)
  known_meta json payload (meta.Shape path) bad =
      let p = bad.fault.place in (
        meta.Shape (array (path_of p.section p.number p.row)),
        among_shapes _ (among_at_paths meta.Shape _ (among_places p.section p.number p.row bad.fault.faulty.place)),
        record { value = bad.value; json = bad.json; fault = record { place = p; faulty = bad.fault.faulty; is = refl } },
        ap (λ k. 4 ∷ k) (sym bad.fault.is),
      )
  known_meta json payload (meta.Kind path) bad =
      let p = bad.fault.place in (
        meta.Kind (array (path_of p.section p.number p.row)),
        among_kinds _ (among_at_paths meta.Kind _ (among_places p.section p.number p.row bad.fault.faulty.place)),
        record { value = bad.value; json = bad.json; fault = record { place = p; faulty = bad.fault.faulty; is = refl } },
        ap (λ k. 5 ∷ k) (sym bad.fault.is),
      )
  known_meta json payload (meta.NoSuchName path) bad =
      let p = bad.fault.place in (
        meta.NoSuchName (array (path_of p.section p.number p.row)),
        among_no_names _ (among_at_paths meta.NoSuchName _ (among_places p.section p.number p.row bad.fault.faulty.place)),
        record { value = bad.value; json = bad.json; fault = record { place = p; faulty = bad.fault.faulty; is = refl } },
        ap (λ k. 6 ∷ k) (sym bad.fault.is),
      )
  known_meta json payload (meta.Assigned path) bad =
      let p = bad.fault.place in (
        meta.Assigned (array (path_of p.section p.number p.row)),
        among_assigned _ (among_at_paths meta.Assigned _ (among_places p.section p.number p.row bad.fault.faulty.place)),
        record { value = bad.value; json = bad.json; fault = record { place = p; faulty = bad.fault.faulty; is = refl } },
        ap (λ k. 7 ∷ k) (sym bad.fault.is),
      )
  known_meta json payload meta.Sizes bad = (meta.Sizes, among_whole _ (inr (inr (inr (inl refl)))), bad, refl)
  known_meta json payload (meta.AreaTooSmall n) bad = (meta.AreaTooSmall n, among_too_small n bad.fault.0, bad, refl)
  known_meta json payload (meta.Region Head1) bad = absurd bad.fault
  known_meta json payload (meta.Region Head2) bad = absurd bad.fault
  known_meta json payload (meta.Region (Slot n)) bad = (meta.Region (Slot n), among_slot_regions n bad.fault.0, bad, refl)
  known_meta json payload (meta.Region (Segment n)) bad = (meta.Region (Segment n), among_segment_regions n bad.numbered, bad, refl)
  known_meta json payload meta.Memory bad = absurd bad

  -- without the payload the faults of the JSON area are those of the metadata
  to_own_fault : (json : List ℕ) (f : MetaFault) → IsLuks2MetaFault json Elsewhere f → IsMetaFault json f
  to_own_fault json (meta.Region (Segment n)) bad = let e = bad.here in absurd (cc)
  to_own_fault json f bad = bad

  of_own_fault : (json : List ℕ) (f : MetaFault) → IsMetaFault json f → IsLuks2MetaFault json Elsewhere f
  of_own_fault json (meta.Region (Segment n)) bad = absurd bad.fault
  of_own_fault json f bad = bad

  -- a JSON area has a first fault or none
  pub meta_fault_or_none : (json : List ℕ) → LeastOrNone MetaFault meta_key (IsMetaFault json)
  meta_fault_or_none json = carry_least MetaFault meta_key (IsLuks2MetaFault json Elsewhere) (IsMetaFault json) (to_own_fault json) (of_own_fault json)
      (least_or_none_by_key MetaFault meta_key (IsLuks2MetaFault json Elsewhere) (meta_fault_decided json Elsewhere) meta_candidates (known_meta json Elsewhere))

  -- ---- the volume

  module _ (b json : List ℕ) (payload : Data) (total : ℕ) where
    find_named : (n : AreaName) → ((a : TheArea) × HasLuks2Area b json payload total n a) ⊎ ((a : TheArea) → HasLuks2Area b json payload total n a → ⊥)
    find_named n = elim (find_value json) [
      | inl v ↦ elim (find_area v.0 (hdr_size b) payload total n) [
        | inl found ↦ inl (found.0, record { value = v.0; holds = v.1; area = found.1 })
        | inr none ↦ inr (λ a x. none a (subst (λ i. Luks2Area i (hdr_size b) payload total n a) (one json x.value v.0 x.holds v.1) x.area))
      ]
      | inr none ↦ inr (λ a x. none x.value x.holds)
    ]

    one_named : (n : AreaName) (a c : TheArea) → HasLuks2Area b json payload total n a → HasLuks2Area b json payload total n c → a ≡ c
    one_named n a c x y = one_area x.value (hdr_size b) payload total n a c x.area
        (subst (λ i. Luks2Area i (hdr_size b) payload total n c) (one json y.value x.value y.holds x.holds) y.area)

    luks2_fault_decided : (f : CheckFault) → Decided (IsLuks2Fault b json payload total f)
    luks2_fault_decided (check.Head f) = uuid_fault_decided (uuid_field b) f
    luks2_fault_decided (check.Meta f) = meta_fault_decided json payload f
    luks2_fault_decided (check.Area f) = area_fault_decided (HasLuks2Area b json payload total) total find_named one_named f
    luks2_fault_decided check.Device = inr (λ bad. bad)
    luks2_fault_decided check.Memory = inr (λ bad. bad)

    check_candidates : List CheckFault
    check_candidates = map check.Head uuid_faults ++ (map check.Meta meta_candidates ++ map check.Area (area_candidates names))

    known_check : (f : CheckFault) → IsLuks2Fault b json payload total f
        → (g : CheckFault) × Among g check_candidates × IsLuks2Fault b json payload total g × (check_key g ≡ check_key f)
    unfolding check_candidates
    known_check (check.Head f) bad = (check.Head f, among_left _ (map check.Head uuid_faults) _ (among_map check.Head f uuid_faults (among_uuids (uuid_field b) f bad)), bad, refl)
    known_check (check.Meta f) bad =
        let x = known_meta json payload f bad in (
          check.Meta x.0,
          among_right _ (map check.Head uuid_faults) _ (among_left _ (map check.Meta meta_candidates) (map check.Area (area_candidates names)) (among_map check.Meta x.0 meta_candidates x.1)),
          x.2,
          ap (λ k. 2 ∷ k) x.3,
        )
    known_check (check.Area f) bad = (
      check.Area f,
      among_right _ (map check.Head uuid_faults) _ (among_right _ (map check.Meta meta_candidates) (map check.Area (area_candidates names))
          (among_map check.Area f (area_candidates names)
          (among_areas (HasLuks2Area b json payload total) total names (λ n a x. among_names x.value (hdr_size b) payload total n a x.area) f bad))),
      bad,
      refl,
    )
    known_check check.Device bad = absurd bad
    known_check check.Memory bad = absurd bad

    pub luks2_least_or_none : LeastOrNone CheckFault check_key (IsLuks2Fault b json payload total)
    luks2_least_or_none = least_or_none_by_key CheckFault check_key (IsLuks2Fault b json payload total) luks2_fault_decided check_candidates known_check
