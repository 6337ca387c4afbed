-- A volume is well formed exactly where it has no fault, and what it is sure of then.
use Rattle.std.proofs.Common.{◌≡◌, ℕ, List, length, true, subst, sym, inl, inr}
use Rattle.std.specs.Prelude.{◌↔◌}
use Rattle.std.proofs.lemmas.Bool.{false_from_ne_true}
use Rattle.serde_json.specs.Data.{Data as Value}
use Rattle.luks_area.specs.declared.area.Area.{Area as TheArea}
use Rattle.luks_area.specs.declared.area.AreaName.{AreaName}
use Rattle.luks_area.specs.declared.area.AreaName.TheVariants.{Segment}
use Rattle.luks_area.specs.declared.areas.Entry.{Entry}
use Rattle.luks_area.specs.Area.{Fit}
use Rattle.luks_area.specs.Ranges.{part}
use Rattle.luks1_header.specs.declared.fault.HeadFault.{HeadFault}
use Rattle.luks1_header.specs.declared.fault.HeadFault.TheVariants as head
use Rattle.luks1_header.specs.declared.luks1.Luks1.{Luks1}
use Rattle.luks1_header.specs.Faults.{IsLuks1Fault as IsLuks1HeadFault}
use Rattle.luks1_header.specs.Header1.{IsLuks1}
use Rattle.luks2_header.specs.declared.selection.Copies.{Copies}
use Rattle.luks2_header.specs.Header2.{header_at, hdr_size, uuid_field, IsUuidField, IsUuidFault}
use Rattle.luks2_header.specs.Selection.{Choice, luks1, luks2, nothing, Chosen}
use Rattle.luks_rules.specs.declared.fault.MetaFault.{MetaFault}
use Rattle.luks_rules.specs.declared.fault.MetaFault.TheVariants as meta
use Rattle.luks_meta.specs.Accepted.{IsMeta}
use Rattle.luks_meta.specs.MetaFault.{Json, IsMetaFault}
use Rattle.luks_meta.specs.Sizes.{has_segment_below}
use Rattle.luks_reading.specs.declared.check_fault.CheckFault.{CheckFault}
use Rattle.luks_reading.specs.declared.check_fault.CheckFault.TheVariants.{Head, Meta, Area}
use Rattle.luks_reading.specs.declared.report.Data.{Data}
use Rattle.luks_reading.specs.Checked.{IsLuks1Volume, IsLuks1Fault, IsLuks2Layout, IsLuks2Volume, IsLuks2Fault, HasLuks2Area, HasSegmentBelow, WellFormedAs, HasAreaAs, IsFaultAs, WellFormed, AreaOf, IsFault}
use Rattle.luks_reading.specs.Header.{json_at}
use Rattle.luks_reading.specs.FitsAndResolves.{HoldsNames, FitsAndResolves}
use Rattle.luks_reading.specs.Layout1.{Luks1Area}
use Rattle.luks_reading.specs.Layout2.{Luks2Area}
use Rattle.luks_reading.specs.Listing.{Lists}
use Rattle.luks_reading.proofs.CheckFacts.{lists_as}
use Rattle.luks_reading.proofs.FittingAreas.{fit-no_fault}
use Rattle.luks_reading.proofs.Luks2FaultFacts.{meta_cases, segment_breaks, segments_follow, to_luks2_fault}
use Rattle.luks_reading.proofs.ListedAreaFacts.{no_area_fault}

-- a set of areas fits where a larger one does
fit_within : (few many : AreaName → TheArea → Type 0) (total : ℕ) → ((n : AreaName) (a : TheArea) → few n a → many n a) → Fit many total → Fit few total
fit_within few many total into fit = record {
  inside = λ n a g. fit.inside n a (into n a g);
  disjoint = λ m n a b gm gn. fit.disjoint m n a b (into m a gm) (into n b gn);
}

-- ---- LUKS1

luks1_formed : (h : List ℕ) (payload : Data) (total : ℕ) → ((f : HeadFault) → IsLuks1HeadFault h f → ⊥) ↔ ((d : Luks1) × IsLuks1 h d)
    → ((f : CheckFault) → IsLuks1Fault h payload total f → ⊥) → IsLuks1Volume h payload total
luks1_formed h payload total header none = record {
  header = header.0 (λ f. none (Head f));
  fit = fit-no_fault (Luks1Area h payload total) total (λ f. none (Area f));
}

luks1_sound : (h : List ℕ) (payload : Data) (total : ℕ) → ((f : HeadFault) → IsLuks1HeadFault h f → ⊥) ↔ ((d : Luks1) × IsLuks1 h d)
    → IsLuks1Volume h payload total → (f : CheckFault) → IsLuks1Fault h payload total f → ⊥
luks1_sound h payload total header well (Head f) is = header.1 well.header f is
luks1_sound h payload total header well (Area f) is = no_area_fault (Luks1Area h payload total) total f well.fit is
luks1_sound h payload total header well other is = is

-- ---- LUKS2

luks2_formed : (b json : List ℕ) (payload : Data) (total : ℕ)
    → ((f : HeadFault) → IsUuidFault (uuid_field b) f → ⊥) ↔ IsUuidField (uuid_field b)
    → ((f : MetaFault) → IsMetaFault json f → ⊥) ↔ ((j : Value) × IsMeta json j)
    → ((f : CheckFault) → IsLuks2Fault b json payload total f → ⊥) → IsLuks2Volume b json payload total
luks2_formed b json payload total uuid metadata none = record {
  uuid = uuid.0 (λ f. none (Head f));
  layout = (
    accepted.0,
    record {
      metadata = accepted.1;
      segments = λ here. segments_follow (length json) accepted.0
          (λ n lt. false_from_ne_true (has_segment_below (length json) accepted.0 n)
          (λ below. none (Meta (meta.Region (Segment n))) (record { value = accepted.0; holds = accepted.1.json; here = here; numbered = lt; below = below })));
      fit = fit_within (Luks2Area accepted.0 (hdr_size b) payload total) (HasLuks2Area b json payload total) total
          (λ n a g. record { value = accepted.0; holds = accepted.1.json; area = g })
          (fit-no_fault (HasLuks2Area b json payload total) total (λ f. none (Area f)));
    },
  );
}
  where
    accepted : (j : Value) × IsMeta json j
    accepted = metadata.0 (λ f is. none (Meta f) (to_luks2_fault json payload f is))

luks2_fit : (b json : List ℕ) (payload : Data) (total : ℕ) (j : Value) → ((i k : Value) → Json json i → Json json k → i ≡ k)
    → IsLuks2Layout b json payload total j → Fit (HasLuks2Area b json payload total) total
luks2_fit b json payload total j one layout = fit_within (HasLuks2Area b json payload total) (Luks2Area j (hdr_size b) payload total) total
    (λ n a g. subst (λ i. Luks2Area i (hdr_size b) payload total n a) (one g.value j g.holds layout.metadata.json) g.area) layout.fit

luks2_sound : (b json : List ℕ) (payload : Data) (total : ℕ)
    → ((f : HeadFault) → IsUuidFault (uuid_field b) f → ⊥) ↔ IsUuidField (uuid_field b)
    → ((f : MetaFault) → IsMetaFault json f → ⊥) ↔ ((j : Value) × IsMeta json j)
    → ((i k : Value) → Json json i → Json json k → i ≡ k)
    → IsLuks2Volume b json payload total → (f : CheckFault) → IsLuks2Fault b json payload total f → ⊥
luks2_sound b json payload total uuid metadata one well (Head f) is = uuid.1 well.uuid f is
luks2_sound b json payload total uuid metadata one well (Meta f) is = elim (meta_cases json payload f is) [
  | inl own ↦ metadata.1 (well.layout.0, well.layout.1.metadata) f own
  | inr other ↦ below other.0 other.1.1
]
  where
    below : (n : ℕ) → HasSegmentBelow json payload n → ⊥
    below n has = segment_breaks (length json) well.layout.0 n has.numbered
        (subst (λ i. has_segment_below (length json) i n ≡ true) (one has.value well.layout.0 has.holds well.layout.1.metadata.json) has.below)
        (well.layout.1.segments has.here)
luks2_sound b json payload total uuid metadata one well (Area f) is =
    no_area_fault (HasLuks2Area b json payload total) total f (luks2_fit b json payload total well.layout.0 one well.layout.1) is
luks2_sound b json payload total uuid metadata one well other is = is

-- ---- any volume, by the laws of its parts

module _
    (header : (h : List ℕ) → ((f : HeadFault) → IsLuks1HeadFault h f → ⊥) ↔ ((d : Luks1) × IsLuks1 h d))
    (uuid : (field_ : List ℕ) → ((f : HeadFault) → IsUuidFault field_ f → ⊥) ↔ IsUuidField field_)
    (metadata : (json : List ℕ) → ((f : MetaFault) → IsMetaFault json f → ⊥) ↔ ((j : Value) × IsMeta json j))
  where
    formed_as : (v : List ℕ) (payload : Data) (c : Choice) → Chosen v c → ((f : CheckFault) → IsFaultAs v payload c f → ⊥) → WellFormedAs v payload c
    formed_as v payload luks1 chosen none = luks1_formed (part v 0 592) payload (length v) (header (part v 0 592)) none
    formed_as v payload (luks2 o copies) chosen none =
        luks2_formed (header_at v o) (json_at v o) payload (length v) (uuid (uuid_field (header_at v o))) (metadata (json_at v o)) none
    formed_as v payload nothing chosen none = none (Head head.NoSoundCopy) chosen

    pub formed_without : ((v : List ℕ) → (c : Choice) × Chosen v c)
        → (v : List ℕ) (payload : Data) → ((f : CheckFault) → IsFault v payload f → ⊥) → WellFormed v payload
    formed_without some v payload none = record {
      choice = (some v).0;
      chosen = (some v).1;
      formed = formed_as v payload (some v).0 (some v).1 (λ f is. none f (record { choice = (some v).0; chosen = (some v).1; fault = is }));
    }

    sound_as : ((json : List ℕ) (i k : Value) → Json json i → Json json k → i ≡ k)
        → (v : List ℕ) (payload : Data) (c : Choice) → WellFormedAs v payload c → (f : CheckFault) → IsFaultAs v payload c f → ⊥
    sound_as one v payload luks1 well f is = luks1_sound (part v 0 592) payload (length v) (header (part v 0 592)) well f is
    sound_as one v payload (luks2 o copies) well f is =
        luks2_sound (header_at v o) (json_at v o) payload (length v) (uuid (uuid_field (header_at v o))) (metadata (json_at v o)) (one (json_at v o)) well f is
    sound_as one v payload nothing well f is = well

    pub formed_sound : ((json : List ℕ) (i k : Value) → Json json i → Json json k → i ≡ k)
        → ((v : List ℕ) (c d : Choice) → Chosen v c → Chosen v d → c ≡ d)
        → (v : List ℕ) (payload : Data) → WellFormed v payload → (f : CheckFault) → IsFault v payload f → ⊥
    formed_sound one only v payload well f is =
        sound_as one v payload well.choice well.formed f
        (subst (λ c. IsFaultAs v payload c f) (only v is.choice well.choice is.chosen well.chosen) is.fault)

-- ---- what a well formed volume is sure of

fit_as : ((json : List ℕ) (i k : Value) → Json json i → Json json k → i ≡ k)
    → (v : List ℕ) (payload : Data) (c : Choice) → WellFormedAs v payload c → Fit (HasAreaAs v payload c) (length v)
fit_as one v payload luks1 well = well.fit
fit_as one v payload (luks2 o copies) well = luks2_fit (header_at v o) (json_at v o) payload (length v) well.layout.0 (one (json_at v o)) well.layout.1
fit_as one v payload nothing well = absurd well

names_as : (v : List ℕ) (payload : Data) (o : ℕ) (copies : Copies) → WellFormedAs v payload (luks2 o copies) → HoldsNames (json_at v o)
names_as v payload o copies well = record {
  value = well.layout.0;
  holds = well.layout.1.metadata.json;
  resolves = well.layout.1.metadata.content.resolves;
}

pub fits_and_resolves : ((json : List ℕ) (i k : Value) → Json json i → Json json k → i ≡ k)
    → ((v : List ℕ) (c d : Choice) → Chosen v c → Chosen v d → c ≡ d)
    → (v : List ℕ) (payload : Data) → WellFormed v payload → FitsAndResolves v payload
fits_and_resolves one only v payload well = record {
  fit = fit_within (AreaOf v payload) (HasAreaAs v payload well.choice) (length v)
      (λ n a g. subst (λ c. HasAreaAs v payload c n a) (only v g.choice well.choice g.chosen well.chosen) g.area)
      (fit_as one v payload well.choice well.formed);
  names = λ o copies chosen. names_as v payload o copies
      (subst (WellFormedAs v payload) (only v well.choice (luks2 o copies) well.chosen chosen) well.formed);
}

-- ---- from what was judged of a LUKS1 header to the volume

pub luks1_areas_are : (v : List ℕ) (payload : Data) (h : List ℕ) (total : ℕ) (es : List Entry) → Chosen v luks1 → h ≡ part v 0 592 → length v ≡ total
    → Lists es (Luks1Area h payload total) → Lists es (AreaOf v payload)
luks1_areas_are v payload h total es chosen begins size lists =
    lists_as v payload luks1 es chosen
    (subst (λ t. Lists es (Luks1Area (part v 0 592) payload t)) (sym size) (subst (λ b. Lists es (Luks1Area b payload total)) begins lists))
