-- Whether a volume is in the midst of a reencryption, by what was read of its metadata.
use Rattle.std.proofs.Common.{◌≡◌, ◌↔◌, ◌⊎◌, ℕ, ◌<◌, ◌≤◌, List, Bool, true, false, Option, Some, None, IsNone, IsTrue, IfOk, IfErr, IfSome, ◌+◌, ◌-◌, Result, Ok, Err, length, refl, sym, subst, ◌∙◌, inl, inr, arith, ap}
use Rattle.std.proofs.lemmas.Bool.{false≢true}
use Rattle.serde_json.specs.Data.{Data as Value}
use Rattle.luks_area.specs.Ranges.{part}
use Rattle.luks2_header.proofs.ChoiceFacts.{choices_agree}
use Rattle.luks2_header.specs.Selection.{luks1, luks2, nothing, Chosen, IsSelected}
use Rattle.luks2_header.specs.declared.bin2.Bin2.{Bin2}
use Rattle.luks2_header.specs.declared.selection.Copies.{Copies}
use Rattle.luks2_header.specs.declared.selection.Selected.TheVariants.{V2}
use Rattle.luks_json.proofs.AreaKinds.{not_bad}
use Rattle.luks_json.specs.AreaText.{IsBadJson, Json, JsonText}
use Rattle.luks_rules.proofs.AreaFaults.{one_value}
use Rattle.luks_reading.specs.Header.{json_at}
use Rattle.luks_commands.specs.declared.standing.Bar.{Bar}
use Rattle.luks_commands.specs.declared.standing.Bar.TheVariants as bar
use Rattle.luks_commands.specs.declared.reencrypting.JsonPlace.{JsonPlace}
use Rattle.luks_commands.specs.Reencrypting.{counts, is_reencrypting_slot, lost, requires_reencryption, FindsMetadata, HasReencryptingSlot, IsFromOutside, IsMetadataArea, IsReencryptingLuks2, IsReencryptingArea, IsReencryptingValue, IsUntoldMetadata}

-- ---- the value

-- by its requirements alone, where no keyslot is of that type
pub required_value : (j : Value) (has : Bool) → has ≡ false → (IsTrue has ↔ HasReencryptingSlot j) → (asks : Bool) → asks ≡ requires_reencryption j
    → IsTrue asks ↔ IsReencryptingValue j
required_value j has lacks slot asks same = (λ q. inr (sym same ∙ q), from)
  where
    from : IsReencryptingValue j → IsTrue asks
    from (inl x) = absurd (false≢true (sym lacks ∙ slot.1 x))
    from (inr x) = same ∙ x

-- a keyslot is, or none of the 32
pub has_slot : (j : Value) (n : ℕ) → n < 32 → is_reencrypting_slot j n ≡ true → IsTrue true ↔ HasReencryptingSlot j
has_slot j n lt is = (λ q. (n, lt, is), λ x. refl)

pub no_slot : (j : Value) (end : ℕ) → 32 ≤ end → ((k : ℕ) → k < end → is_reencrypting_slot j k ≡ true → ⊥) → IsTrue false ↔ HasReencryptingSlot j
no_slot j end least none = (λ q. absurd (false≢true q), λ x. absurd (none x.0 (omega (arith, x.1, least)) x.2))

-- ---- the area

-- by its value
pub area_by : (area : List ℕ) (j : Value) → Json area j → (b : Bool) → (IsTrue b ↔ IsReencryptingValue j) → IsTrue b ↔ IsReencryptingArea area
area_by area j held b told = (
  λ q. record { value = j; held = held; is = told.0 q },
  λ x. told.1 (subst IsReencryptingValue (one_value area x.value j x.held held) x.is),
)

-- without a text, or without a value
pub no_text : (area : List ℕ) → ((text : List ℕ) → JsonText area text → ⊥) → IsTrue false ↔ IsReencryptingArea area
no_text area none = (λ q. absurd (false≢true q), λ x. absurd (none x.held.text x.held.placed))

pub no_value : (area : List ℕ) → IsBadJson area → IsTrue false ↔ IsReencryptingArea area
no_value area bad = (λ q. absurd (false≢true q), λ x. absurd (not_bad area x.value x.held bad))

-- ---- the volume

-- its metadata has one area
pub one_area : (v a b : List ℕ) → IsMetadataArea v a → IsMetadataArea v b → a ≡ b
one_area v a b (counts p c one is) (counts q d two same) =
    let e : luks2 p c ≡ luks2 q d = choices_agree v (luks2 p c) (luks2 q d) one two in
    is ∙ (ap (json_at v) (let x : p ≡ q = cc in x) ∙ sym same)
one_area v a b (counts p c one is) (lost two long same) =
    let e : luks2 p c ≡ nothing = choices_agree v (luks2 p c) nothing one two in
    absurd (let x : luks2 p c ≡ nothing = e in cc)
one_area v a b (lost one long is) (counts q d two same) =
    let e : nothing ≡ luks2 q d = choices_agree v nothing (luks2 q d) one two in
    absurd (let x : nothing ≡ luks2 q d = e in cc)
one_area v a b (lost one long is) (lost two longer same) = is ∙ sym same

-- by that area
pub volume_by : (v area : List ℕ) → IsMetadataArea v area → (b : Bool) → (IsTrue b ↔ IsReencryptingArea area) → IsTrue b ↔ IsReencryptingLuks2 v
volume_by v area is b told = (
  λ q. record { area = area; is_area = is; is = told.0 q },
  λ x. told.1 (subst IsReencryptingArea (one_area v x.area area x.is_area is) x.is),
)

-- without one
pub no_area : (v : List ℕ) → ((area : List ℕ) → IsMetadataArea v area → ⊥) → IsTrue false ↔ IsReencryptingLuks2 v
no_area v none = (λ q. absurd (false≢true q), λ x. absurd (none x.area x.is_area))

-- LUKS1 has none, and neither has a short volume
pub luks1_lacks : (v : List ℕ) → Chosen v luks1 → (area : List ℕ) → IsMetadataArea v area → ⊥
luks1_lacks v one area (counts p c two is) =
    let e : luks1 ≡ luks2 p c = choices_agree v luks1 (luks2 p c) one two in
    cc
luks1_lacks v one area (lost two long is) =
    let e : luks1 ≡ nothing = choices_agree v luks1 nothing one two in
    cc

pub short_lacks : (v : List ℕ) (total : ℕ) → length v ≡ total → total < 16384 → Chosen v nothing → (area : List ℕ) → IsMetadataArea v area → ⊥
short_lacks v total same short one area (counts p c two is) =
    let e : nothing ≡ luks2 p c = choices_agree v nothing (luks2 p c) one two in
    cc
short_lacks v total same short one area (lost two long is) = omega (arith, same, short, long)

-- by the copy that was selected, or where none was
pub found_by : (v : List ℕ) (h : Bin2) (copies : Copies) → IsSelected v (V2 h copies) → IsMetadataArea v (part v (h.hdr_offset + 4096) (h.hdr_size - 4096))
found_by v h copies is = counts h.hdr_offset copies is.0 (ap (λ (n : ℕ). part v (h.hdr_offset + 4096) (n - 4096)) (sym is.1.hdr_size))

abbrev StandsFirst : ℕ → JsonPlace → Type 0
StandsFirst total place = (place.start ≡ 4096) × (place.len ≡ 12288) × (16384 ≤ total)

pub lost_within : (size total : ℕ) (found : Option JsonPlace) → total ≡ size → IfSome found (StandsFirst total)
    → IfSome found (λ place. (place.len ≤ 4194304) × (place.start + place.len ≤ size))
lost_within size total None same there = tt
lost_within size total (Some place) same there = (omega (arith, there.1), omega (arith, there.0, there.1, there.2, same))

pub lost_found : (v : List ℕ) (total : ℕ) (found : Option JsonPlace) → length v ≡ total → Chosen v nothing → IfSome found (StandsFirst total)
    → (IsNone found → total < 16384) → FindsMetadata v found
lost_found v total None long one there short = short_lacks v total long (short refl) one
lost_found v total (Some place) long one there short =
    lost one (omega (arith, there.2, long)) (ap (λ (n : ℕ). part v n place.len) there.0 ∙ ap (part v 4096) there.1)

-- by what is answered of it
pub at_by : (v area : List ℕ) → IsMetadataArea v area → (r : Result Bool Bar) → IfOk r (λ b. IsTrue b ↔ IsReencryptingArea area) → IfOk r (λ b. IsTrue b ↔ IsReencryptingLuks2 v)
at_by v area is (Ok b) told = volume_by v area is b told
at_by v area is (Err f) told = tt

-- where memory is refused it has one
pub untold_by : (tells : Type 0) (v area : List ℕ) → (tells → IsMetadataArea v area) → (r : Result Bool Bar) → IfErr r IsFromOutside → IfErr r (IsUntoldMetadata tells v)
untold_by tells v area is (Ok b) kinds = tt
untold_by tells v area is (Err bar.Memory) kinds = λ told. (area, is told)
untold_by tells v area is (Err bar.Device) kinds = tt
untold_by tells v area is (Err (bar.OtherUse found)) kinds = absurd kinds
untold_by tells v area is (Err bar.OtherVolume) kinds = absurd kinds
untold_by tells v area is (Err bar.Reencrypting) kinds = absurd kinds

-- ---- by either

not_false : {P : Type 0} → IsTrue false ↔ P → P → ⊥
not_false tells p = let e = tells.1 p in cc

-- what isn't so of LUKS1 is so by the metadata alone
either_by : {L M : Type 0} (b : Bool) → IsTrue false ↔ L → IsTrue b ↔ M → IsTrue b ↔ (L ⊎ M)
either_by b one two = (
  λ is. inr (two.0 is),
  λ either. elim either [
    | inl l ↦ absurd (not_false one l)
    | inr m ↦ two.1 m
  ],
)

-- the same of an answer
pub either_told : (L M : Type 0) (r : Result Bool Bar) → IsTrue false ↔ L → IfOk r (λ b. IsTrue b ↔ M) → IfOk r (λ b. IsTrue b ↔ (L ⊎ M))
either_told L M (Ok b) one two = either_by b one two
either_told L M (Err bar) one two = tt
