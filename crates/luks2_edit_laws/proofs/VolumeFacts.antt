-- When a volume with a copy that counts is well formed, said of its metadata and of numbers alone.
use Rattle.std.proofs.Common.{◌≡◌, ℕ, ◌+◌, ◌-◌, ◌≤◌, List, length, Bool, true, false, refl, sym, ap, subst, ◌∙◌, arith}
use Rattle.std.proofs.lemmas.Bool.{true≢false}
use Rattle.serde_json.specs.Data.{Data as Value}
use Rattle.serde_json.proofs.Nesting.{depth-read}
use Rattle.luks_area.specs.declared.area.Area.{Area}
use Rattle.luks_area.specs.declared.area.AreaName.{AreaName}
use Rattle.luks_area.specs.Area.{Fit}
use Rattle.luks_area.proofs.RangeFacts.{length-part_inside}
use Rattle.luks2_header.specs.declared.selection.Copies.{Copies}
use Rattle.luks2_header.specs.Header2.{header_at, hdr_size, uuid_field, IsUuidField}
use Rattle.luks2_header.specs.Selection.{Choice, luks1, luks2, nothing, Chosen}
use Rattle.luks2_header.proofs.CopyFacts.{listed_at_least}
use Rattle.luks2_header.proofs.ChoiceFacts.{choices_agree}
use Rattle.luks_rules.specs.declared.fault.MetaFault.{MetaFault}
use Rattle.luks_rules.specs.Accepted.{IsContent, IsMeta}
use Rattle.luks_rules.specs.Held.{IsHeld}
use Rattle.luks_rules.specs.MetaFault.{Json, IsMetaFault}
use Rattle.luks_rules.proofs.AreaFaults.{one_value}
use Rattle.luks_rules.proofs.Deciding.{metadata_faultless}
use Rattle.luks_reading.specs.declared.report.Data.{Data}
use Rattle.luks_reading.specs.declared.report.Data.TheVariants.{Here}
use Rattle.luks_reading.specs.Checked.{AreaOf, HasAreaAs, IsLuks2Layout, IsLuks2Volume, SegmentsFollow, WellFormed, WellFormedAs}
use Rattle.luks_reading.specs.Header.{json_at}
use Rattle.luks_reading.specs.Layout2.{Luks2Area}
use Rattle.luks2_edit_laws.specs.Metadata.{HasMetadata}
use Rattle.luks2_edit_laws.proofs.SoundCopyFacts.{copy_sound}

-- the metadata `j` makes a well formed volume of `total` bytes with copies of `h` bytes
pub record IsLayout (h total : ℕ) (payload : Data) (j : Value) : Type 0 where
  pub held : IsHeld (h - 4096) j
  pub segments : payload ≡ Here → SegmentsFollow (h - 4096) j
  pub fit : Fit (Luks2Area j h payload total) total

-- the volume `v` has a copy of `h` bytes that counts at the place `o`, with a uuid and the metadata `j`
pub record HasCopy (v : List ℕ) (o h : ℕ) (j : Value) : Type 0 where
  pub copies : Copies
  pub chosen : Chosen v (luks2 o copies)
  pub size : hdr_size (header_at v o) ≡ h
  pub uuid : IsUuidField (uuid_field (header_at v o))
  pub holds : Json (json_at v o) j

-- the place of the copy that is chosen
place_of : Choice → ℕ
place_of luks1 = 0
place_of (luks2 o copies) = o
place_of nothing = 0

is_luks1 : Choice → Bool
is_luks1 luks1 = true
is_luks1 (luks2 o copies) = false
is_luks1 nothing = false

-- one copy counts
pub one_place : (v : List ℕ) (o q : ℕ) (b c : Copies) → Chosen v (luks2 o b) → Chosen v (luks2 q c) → q ≡ o
unfolding place_of
one_place v o q b c x y = ap place_of (choices_agree v (luks2 q c) (luks2 o b) y x)

-- and no LUKS1 header beside it
pub no_luks1 : (v : List ℕ) (o : ℕ) (b : Copies) → Chosen v (luks2 o b) → Chosen v luks1 → ⊥
unfolding is_luks1
no_luks1 v o b x y = true≢false (ap is_luks1 (choices_agree v luks1 (luks2 o b) y x))

-- and holds one value
pub one_metadata : (v : List ℕ) (o q : ℕ) (b c : Copies) (j i : Value) → Chosen v (luks2 o b) → Json (json_at v o) j
    → Chosen v (luks2 q c) → Json (json_at v q) i → i ≡ j
one_metadata v o q b c j i x holds y says =
    one_value (json_at v o) i j (subst (λ n. Json (json_at v n) i) (one_place v o q b c x y) says) holds

json_length : (v : List ℕ) (o : ℕ) (copies : Copies) → Chosen v (luks2 o copies) → length (json_at v o) ≡ hdr_size (header_at v o) - 4096
json_length v o copies chosen =
    let sound = copy_sound v o copies chosen in
    let least : 16384 ≤ hdr_size (header_at v o) = listed_at_least (hdr_size (header_at v o)) sound.form.listed in
    let inside : o + hdr_size (header_at v o) ≤ length v = sound.form.inside in
    length-part_inside v (o + 4096) (hdr_size (header_at v o) - 4096) (omega (arith, least, inside))

copy_length : (v : List ℕ) (o h : ℕ) (j : Value) (c : HasCopy v o h j) → length (json_at v o) ≡ h - 4096
copy_length v o h j c = json_length v o c.copies c.chosen ∙ ap (λ n. n - 4096) c.size

-- what the copy holds is accepted
pub copy_meta : (v : List ℕ) (o h : ℕ) (j : Value) → HasCopy v o h j → IsHeld (h - 4096) j → IsMeta (json_at v o) j
copy_meta v o h j c held = record { json = c.holds; content = subst (λ n. IsContent n j) (sym (copy_length v o h j c)) held.content }

-- so it has no fault
pub copy_faultless : (v : List ℕ) (o h : ℕ) (j : Value) → HasCopy v o h j → IsHeld (h - 4096) j → (f : MetaFault) → IsMetaFault (json_at v o) f → ⊥
copy_faultless v o h j c held = (metadata_faultless (json_at v o)).1 (j, copy_meta v o h j c held)

-- a copy with a layout makes a volume well formed
pub formed : (v : List ℕ) (payload : Data) (o h : ℕ) (j : Value) → HasCopy v o h j → IsLayout h (length v) payload j → WellFormed v payload
formed v payload o h j c layout =
    let len : length (json_at v o) ≡ h - 4096 = copy_length v o h j c in
    record {
      choice = luks2 o c.copies;
      chosen = c.chosen;
      formed = record {
        uuid = c.uuid;
        layout = (
          j,
          record {
            metadata = copy_meta v o h j c layout.held;
            segments = λ here. subst (λ n. SegmentsFollow n j) (sym len) (layout.segments here);
            fit = subst (λ n. Fit (Luks2Area j n payload (length v)) (length v)) (sym c.size) layout.fit;
          },
        );
      };
    }

luks2_layout : (v : List ℕ) (payload : Data) (o : ℕ) (copies : Copies) (j : Value) → Chosen v (luks2 o copies) → Json (json_at v o) j
    → IsLuks2Volume (header_at v o) (json_at v o) payload (length v) → IsLayout (hdr_size (header_at v o)) (length v) payload j
luks2_layout v payload o copies j chosen holds well =
    let same : well.layout.0 ≡ j = one_value (json_at v o) well.layout.0 j well.layout.1.metadata.json holds in
    let layout : IsLuks2Layout (header_at v o) (json_at v o) payload (length v) j =
    subst (λ k. IsLuks2Layout (header_at v o) (json_at v o) payload (length v) k) same well.layout.1 in
    let len : length (json_at v o) ≡ hdr_size (header_at v o) - 4096 = json_length v o copies chosen in
    record {
      held = record { nests = depth-read holds.text j holds.reads; content = subst (λ n. IsContent n j) len layout.metadata.content };
      segments = λ here. subst (λ n. SegmentsFollow n j) len (layout.segments here);
      fit = layout.fit;
    }

well_formed_as : (v : List ℕ) (payload : Data) (c : Choice) → Chosen v c → WellFormed v payload → WellFormedAs v payload c
well_formed_as v payload c chosen well = subst (λ b. WellFormedAs v payload b) (choices_agree v well.choice c well.chosen chosen) well.formed

-- a well formed volume has a copy with a layout
pub layout_of : (v : List ℕ) (payload : Data) (o : ℕ) (j : Value) → HasMetadata v o j → WellFormed v payload
    → IsLayout (hdr_size (header_at v o)) (length v) payload j
layout_of v payload o j m well =
    luks2_layout v payload o m.copies j m.chosen m.holds (well_formed_as v payload (luks2 o m.copies) m.chosen well)

pub copy_of : (v : List ℕ) (payload : Data) (o : ℕ) (j : Value) → HasMetadata v o j → WellFormed v payload
    → HasCopy v o (hdr_size (header_at v o)) j
copy_of v payload o j m well = record {
  copies = m.copies;
  chosen = m.chosen;
  size = refl;
  uuid = (well_formed_as v payload (luks2 o m.copies) m.chosen well).uuid;
  holds = m.holds;
}

-- the areas of the volume are those of its metadata
pub areas_are : (v : List ℕ) (payload : Data) (o h : ℕ) (j : Value) → HasCopy v o h j → (n : AreaName) (a : Area)
    → AreaOf v payload n a → Luks2Area j h payload (length v) n a
areas_are v payload o h j c n a x =
    let is = subst (λ b. HasAreaAs v payload b n a) (choices_agree v x.choice (luks2 o c.copies) x.chosen c.chosen) x.area in
    let same : is.value ≡ j = one_value (json_at v o) is.value j is.holds c.holds in
    subst (λ k. Luks2Area k h payload (length v) n a) same (subst (λ g. Luks2Area is.value g payload (length v) n a) c.size is.area)

pub areas_back : (v : List ℕ) (payload : Data) (o h : ℕ) (j : Value) → HasCopy v o h j → (n : AreaName) (a : Area)
    → Luks2Area j h payload (length v) n a → AreaOf v payload n a
areas_back v payload o h j c n a x = record {
  choice = luks2 o c.copies;
  chosen = c.chosen;
  area = record { value = j; holds = c.holds; area = subst (λ g. Luks2Area j g payload (length v) n a) (sym c.size) x };
}
