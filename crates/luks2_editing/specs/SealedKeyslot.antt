-- Sealing a key in a keyslot of new metadata, and writing that metadata: words of private
-- contracts.
use Rattle.std.specs.Prelude.{◌≡◌, ℕ, ◌+◌, ◌-◌, ◌*◌, ◌≤◌, List, length, Some, ⊤}
use Rattle.serde_json.specs.Data.{Data as Value}
use Rattle.luks_area.specs.declared.area.Area.{Area}
use Rattle.luks_area.specs.Area.{IsInside}
use Rattle.luks_area.specs.Ranges.{IsAt, IsOfEither, SameBut}
use Rattle.luks_area.specs.Sectors.{rounded_to_sectors}
use Rattle.luks2_header.specs.Header2.{hdr_size, header_at}
use Rattle.luks_rules.specs.declared.table.Section.TheVariants.{Keyslots}
use Rattle.luks_rules.specs.Accepted.{HasObject}
use Rattle.luks_making.specs.Naming.{IsDigestOf}
use Rattle.luks_slot.specs.declared.allowed.Allowed.{Allowed}
use Rattle.luks_slot.specs.declared.fault.SlotFault.{SlotFault}
use Rattle.luks_slot.specs.declared.plan.SlotPlan.{SlotPlan}
use Rattle.luks_slot.specs.Refusal.{slot_refusal_within}
use Rattle.luks_reading.specs.declared.report.Data.{Data}
use Rattle.luks_reading.specs.Plans.{IsLuks2Plan}
use Rattle.luks_edit.specs.declared.edit.Edit.{Edit}
use Rattle.luks_edit.specs.declared.edit_fault.EditFault.{EditFault}
use Rattle.luks_edit.specs.declared.edit_fault.EditFault.TheVariants as fault
use Rattle.luks2_edit_laws.specs.Edited.{stripes_random, HoldsKey, IsSealedBy}
use Rattle.luks2_edit_laws.specs.Metadata.{HasStripes, IsKeyArea}
use Rattle.luks2_edit_laws.specs.Places.{IsOfCopies, IsOfSealed}
use Rattle.luks2_editing.specs.Rewriting.{AreWrittenAnew}

-- ---- what is needed

-- the keyslot `n` of the metadata `k` has an area for the key and the stripes of the random bytes:
-- it lies behind copies of `h` bytes, inside a volume of `total` bytes
pub record IsSealable (h : ℕ) (k : Value) (n : ℕ) (key random : List ℕ) (total : ℕ) : Type 0 where
  pub key_bytes : ℕ
  pub stripes : ℕ
  pub slot : HasStripes k n key_bytes stripes
  pub area : Area
  pub place : IsKeyArea k n area
  pub key_length : length key ≡ key_bytes
  pub random_length : length random ≡ 160 + (stripes - 1) * key_bytes
  pub large : rounded_to_sectors (key_bytes * stripes) ≤ area.len
  pub behind : 2 * h ≤ area.start
  pub inside : IsInside area total

-- the place is of the sectors that hold the stripes of the keyslot `n`
pub record IsOfStripesOf (k : Value) (n p : ℕ) : Type 0 where
  pub area : Area
  pub place : IsKeyArea k n area
  pub key_bytes : ℕ
  pub stripes : ℕ
  pub slot : HasStripes k n key_bytes stripes
  pub at : IsAt area.start (rounded_to_sectors (key_bytes * stripes)) p

-- the edit `e` of the volume `v`, whose metadata `j` is in the copy at `o`, makes the metadata
-- `k` and seals the key in its keyslot `n`
pub record IsSealing
    (v : List ℕ) (payload : Data) (e : Edit) (random : List ℕ) (o : ℕ) (j k : Value) (n : ℕ)
    (passphrase key : List ℕ)
    : Type 0 where
  pub sealed : (w : List ℕ) → HoldsKey w k n passphrase key (stripes_random random)
      → IsSealedBy v e random j w k
  pub place : (p : ℕ) → IsOfStripesOf k n p
      → IsOfSealed (hdr_size (header_at v o)) (length v) payload j e p

-- ---- what is answered

-- the keyslot `n`, which one digest names, has a plan that is refused by `f`, where so much
-- is allowed
pub record HasRefusedKeyslot (allowed : Allowed) (k : Value) (n : ℕ) (f : SlotFault) : Type 0 where
  pub object : Value
  pub there : HasObject k Keyslots n object
  pub plan : SlotPlan
  pub is : IsLuks2Plan k n object plan
  pub one : (m : ℕ) → IsDigestOf k n m → m ≡ is.digest.number
  pub refused : slot_refusal_within allowed plan ≡ Some f

-- why the key isn't sealed in it, memory being refused to Argon2, or not all was written
abbrev pub IsUnsealed : Allowed → Value → ℕ → EditFault → Type 0
IsUnsealed allowed k n (fault.Slot f) = HasRefusedKeyslot allowed k n f
IsUnsealed allowed k n fault.Memory = ⊤
IsUnsealed allowed k n fault.Device = ⊤
IsUnsealed allowed k n f = ⊥

-- the keyslot `n` of the metadata `k` holds the key, both copies of `w` take the place of the copy
-- of `v` at `o` with that metadata, and nothing else changed
pub record IsKeyslotWritten
    (v : List ℕ) (o : ℕ) (e : Edit) (random : List ℕ) (k : Value) (n : ℕ)
    (passphrase key w : List ℕ)
    : Type 0 where
  pub holds : HoldsKey w k n passphrase key (stripes_random random)
  pub anew : AreWrittenAnew v o e random k w
  pub rest : SameBut (IsOfEither (IsOfStripesOf k n) (IsOfCopies (hdr_size (header_at v o)))) v w
