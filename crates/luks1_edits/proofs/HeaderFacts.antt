-- The fields of a LUKS1 header: in the volume, in its first 592 bytes, and in another volume with
-- the same bytes before the uuid.
use Rattle.std.proofs.Common.{◌≡◌, ℕ, ◌+◌, ◌*◌, ◌<◌, ◌≤◌, ◌⊎◌, List, length, inl, inr, refl, sym, ap, subst, ◌∙◌, arith, zero-add, lit≤}
use Rattle.luks_area.specs.Ranges.{part}
use Rattle.luks_area.proofs.RangeFacts.{part-part}
use Rattle.luks_area.specs.Sectors.{rounded_to_sectors}
use Rattle.luks_area.specs.Text.{is_plain, text_of}
use Rattle.luks1_header.specs.Bytes.{number_at, text_at, HoldsText, IsUuid}
use Rattle.luks1_header.specs.Faults.{IsCommonFault, IsEntryFault, IsLuks1Fault as IsLuks1HeadFault}
use Rattle.luks1_header.specs.Header1.{entry, entry_stripes}
use Rattle.luks1_header.specs.declared.fault.HeadFault.{HeadFault}
use Rattle.luks1_header.specs.declared.fault.HeadFault.TheVariants as fault
use Rattle.luks1_header.specs.declared.fault.IterationsOf.TheVariants as of
use Rattle.luks1_header.specs.declared.fault.TextField.TheVariants as field
use Rattle.luks1_header.proofs.DecidableFacts.{held, uuid_or_not}
use Rattle.luks1_header.proofs.Luks1FaultFacts.{sound}
use Rattle.luks2_header.proofs.UuidFacts.{plain}
use Rattle.luks2_header.specs.Selection.{luks1, Chosen}
use Rattle.luks2_header.proofs.ChoiceFacts.{choices_agree}
use Rattle.luks_reading.specs.declared.report.Data.{Data}
use Rattle.luks_reading.specs.Checked.{IsLuks1Volume, WellFormed, WellFormedAs}
use Rattle.luks1_edits.specs.Kept.{HasSameCommon, HasUuid}
use Rattle.luks1_edits.specs.Places.{area_len, area_start}

-- ---- parts of the front

-- a part of the first bytes is the volume's
pub part_of_front : (v : List ℕ) (n o l : ℕ) → o + l ≤ n → part (part v 0 n) o l ≡ part v o l
part_of_front v n o l within = part-part v 0 n o l within ∙ ap (λ k. part v k l) (zero-add o)

-- the same first bytes have the same parts
pub first_moves : (n : ℕ) (v w : List ℕ) → part w 0 n ≡ part v 0 n → (o l : ℕ) → o + l ≤ n → part w o l ≡ part v o l
first_moves n v w e o l within = sym (part_of_front w n o l within) ∙ ap (λ b. part b o l) e ∙ part_of_front v n o l within

-- so have the same 168 bytes before the uuid
pub front_moves : (v w : List ℕ) → part w 0 168 ≡ part v 0 168 → (o l : ℕ) → o + l ≤ 168 → part w o l ≡ part v o l
front_moves v w e o l within = first_moves 168 v w e o l within

-- so have the headers of the two volumes
pub header_moves : (v w : List ℕ) → part w 0 168 ≡ part v 0 168 → (o l : ℕ) → o + l ≤ 168
    → part (part w 0 592) o l ≡ part (part v 0 592) o l
header_moves v w e o l within =
    part_of_front w 592 o l (omega (arith, within)) ∙ front_moves v w e o l within ∙ sym (part_of_front v 592 o l (omega (arith, within)))

-- equal parts are equal numbers and texts
pub number_same : (a b : List ℕ) (o l : ℕ) → part a o l ≡ part b o l → number_at a o l ≡ number_at b o l
number_same a b o l e = cc

pub text_same : (a b : List ℕ) (o l : ℕ) → part a o l ≡ part b o l → text_at a o l ≡ text_at b o l
text_same a b o l e = ap text_of e

-- ---- the header and the volume say the same

pub key_is : (v : List ℕ) → number_at (part v 0 592) 108 4 ≡ number_at v 108 4
key_is v = number_same (part v 0 592) v 108 4 (part_of_front v 592 108 4 (lit≤ tt))

pub entry_is : (v : List ℕ) (n : ℕ) → n < 8 → entry (part v 0 592) n ≡ entry v n
entry_is v n lt = part_of_front v 592 (208 + 48 * n) 48 (omega (arith, lt))

pub start_is : (v : List ℕ) (n : ℕ) → n < 8 → area_start (part v 0 592) n ≡ area_start v n
start_is v n lt = ap (λ e. number_at e 40 4 * 512) (entry_is v n lt)

pub len_is : (v : List ℕ) (n : ℕ) → n < 8 → area_len (part v 0 592) n ≡ area_len v n
len_is v n lt =
    ap (λ k. rounded_to_sectors (k * entry_stripes (entry (part v 0 592) n))) (key_is v)
    ∙ ap (λ e. rounded_to_sectors (number_at v 108 4 * entry_stripes e)) (entry_is v n lt)

-- ---- faults

-- a fault of an entry is one of the header
pub entry_fault : (h : List ℕ) (n : ℕ) (f : HeadFault) → n < 8 → IsEntryFault n (entry h n) f → IsLuks1HeadFault h f
entry_fault h n (fault.SlotState m) lt x = subst (λ k. IsLuks1HeadFault h (fault.SlotState k)) (sym x.0) (lt, x.1)
entry_fault h n (fault.Stripes m) lt x = subst (λ k. IsLuks1HeadFault h (fault.Stripes k)) (sym x.0) (lt, x.1)
entry_fault h n (fault.Iterations (of.Slot m)) lt x = subst (λ k. IsLuks1HeadFault h (fault.Iterations (of.Slot k))) (sym x.0) (lt, x.1)
entry_fault h n f lt x = absurd x

-- the uuid's text in the header is the volume's
pub uuid_is : (v : List ℕ) → text_at (part v 0 592) 168 40 ≡ text_at v 168 40
uuid_is v = text_same (part v 0 592) v 168 40 (part_of_front v 592 168 40 (lit≤ tt))

-- volumes with the same bytes before the keyslots have the same before the uuid, and the same faults of it
pub same_common : (v w : List ℕ) → part w 0 208 ≡ part v 0 208 → HasSameCommon v w
same_common v w e =
    let text : text_at w 168 40 ≡ text_at v 168 40 = text_same w v 168 40 (first_moves 208 v w e 168 40 (lit≤ tt)) in
    record {
      front = first_moves 208 v w e 0 168 (lit≤ tt);
      text = (λ x. ap is_plain (sym text) ∙ x, λ x. ap is_plain text ∙ x);
      uuid = (λ x. subst IsUuid text x, λ x. subst IsUuid (sym text) x);
    }

-- so have two volumes with uuids
pub uuids_common : (v w : List ℕ) → part w 0 168 ≡ part v 0 168 → HasUuid v → HasUuid w → HasSameCommon v w
uuids_common v w e old new = record {
  front = e;
  text = (λ x. plain (text_at v 168 40) old, λ x. plain (text_at w 168 40) new);
  uuid = (λ x. old, λ x. new);
}

-- the same the other way round
pub same_common_back : (v w : List ℕ) → HasSameCommon v w → HasSameCommon w v
same_common_back v w e = record { front = sym e.front; text = (e.text.1, e.text.0); uuid = (e.uuid.1, e.uuid.0) }

-- a text before the uuid is printable in both
plain_moves : (v w : List ℕ) → part w 0 168 ≡ part v 0 168 → (o l : ℕ) → o + l ≤ 168 → HoldsText (part w 0 592) o l → HoldsText (part v 0 592) o l
plain_moves v w e o l within x = ap is_plain (sym (text_same (part w 0 592) (part v 0 592) o l (header_moves v w e o l within))) ∙ x

field_moves : (v w : List ℕ) → part w 0 168 ≡ part v 0 168 → (o l : ℕ) → o + l ≤ 168 → number_at (part w 0 592) o l ≡ number_at (part v 0 592) o l
field_moves v w e o l within = number_same (part w 0 592) (part v 0 592) o l (header_moves v w e o l within)

-- the fault is of the uuid's field
abbrev pub IsUuids : HeadFault → Type 0
IsUuids f = (f ≡ fault.Text field.Uuid) ⊎ (f ≡ fault.Uuid)

-- the faults before the keyslots are those of the same bytes before the uuid, or the uuid's
pub moves_or_uuids : (v w : List ℕ) → part w 0 168 ≡ part v 0 168 → (f : HeadFault) → IsCommonFault (part v 0 592) f → IsCommonFault (part w 0 592) f ⊎ IsUuids f
moves_or_uuids v w e fault.NotLuks x = inl (tt, λ magic. x.1 (sym (header_moves v w e 0 6 (lit≤ tt)) ∙ magic))
moves_or_uuids v w e fault.Version x = inl (tt, λ one. x.1 (sym (field_moves v w e 6 2 (lit≤ tt)) ∙ one))
moves_or_uuids v w e (fault.Text field.CipherName) x = inl (tt, λ text. x.1 (plain_moves v w e 8 32 (lit≤ tt) text))
moves_or_uuids v w e (fault.Text field.CipherMode) x = inl (tt, λ text. x.1 (plain_moves v w e 40 32 (lit≤ tt) text))
moves_or_uuids v w e (fault.Text field.HashSpec) x = inl (tt, λ text. x.1 (plain_moves v w e 72 32 (lit≤ tt) text))
moves_or_uuids v w e (fault.Text field.Uuid) x = inr (inl refl)
moves_or_uuids v w e fault.Uuid x = inr (inr refl)
moves_or_uuids v w e fault.KeyBytes x =
    let bad : ℕ → Type 0 = λ k. 1 ≤ k → k ≤ 128 → ⊥ in
    inl (tt, subst bad (sym (field_moves v w e 108 4 (lit≤ tt))) x.1)
moves_or_uuids v w e (fault.Iterations of.Digest) x = inl (tt, field_moves v w e 164 4 (lit≤ tt) ∙ x.1)
moves_or_uuids v w e f x = absurd x.0

-- where the uuid's field has the same faults, they are all the same
pub common_moves : (v w : List ℕ) → HasSameCommon v w → (f : HeadFault) → IsCommonFault (part v 0 592) f → IsCommonFault (part w 0 592) f
common_moves v w e f x = elim (moves_or_uuids v w e.front f x) [
  | inl moved ↦ moved
  | inr uuids ↦ elim uuids [
    | inl is ↦ subst (IsCommonFault (part w 0 592)) (sym is)
        (tt, λ text. (subst (IsCommonFault (part v 0 592)) is x).1 (ap is_plain (uuid_is v) ∙ e.text.0 (ap is_plain (sym (uuid_is w)) ∙ text)))
    | inr is ↦ subst (IsCommonFault (part w 0 592)) (sym is)
        (tt, λ uuid. (subst (IsCommonFault (part v 0 592)) is x).1 (subst IsUuid (sym (uuid_is v)) (e.uuid.0 (subst IsUuid (uuid_is w) uuid))))
  ]
]

-- a well formed volume of LUKS1 is one by its header
pub volume_of : (v : List ℕ) (payload : Data) → Chosen v luks1 → WellFormed v payload → IsLuks1Volume (part v 0 592) payload (length v)
volume_of v payload chosen well = subst (WellFormedAs v payload) (choices_agree v well.choice luks1 well.chosen chosen) well.formed

-- and its header has no fault
pub header_clear : (v : List ℕ) (payload : Data) → Chosen v luks1 → WellFormed v payload → (f : HeadFault) → IsLuks1HeadFault (part v 0 592) f → ⊥
header_clear v payload chosen well f bad = let said = (volume_of v payload chosen well).header in sound (part v 0 592) said.0 said.1 f bad

-- so its uuid is one
pub well_uuid : (v : List ℕ) (payload : Data) → Chosen v luks1 → WellFormed v payload → HasUuid v
well_uuid v payload chosen well = subst IsUuid (uuid_is v) (held (uuid_or_not (text_at (part v 0 592) 168 40)) (header_clear v payload chosen well fault.Uuid))

-- a volume with the same front is of LUKS1 too
pub chosen_moves : (v w : List ℕ) → length w ≡ length v → part w 0 168 ≡ part v 0 168 → Chosen v luks1 → Chosen w luks1
chosen_moves v w size e chosen =
    let long = chosen.long in
    record {
      long = omega (arith, long, size);
      magic = front_moves v w e 0 6 (lit≤ tt) ∙ chosen.magic;
      version = number_same w v 6 2 (front_moves v w e 6 2 (lit≤ tt)) ∙ chosen.version;
    }
