-- What edits keep of a volume, and which keyslots open no more.
use Rattle.std.specs.Prelude.{◌≡◌, ℕ, ◌<◌, List, length, ◌↔◌}
use Rattle.serde_json.specs.Data.{Data as Value}
use Rattle.luks_area.specs.declared.area.Area.{Area}
use Rattle.luks_area.specs.declared.area.AreaName.{AreaName}
use Rattle.luks_area.specs.declared.area.AreaName.TheVariants.{Slot, Segment}
use Rattle.luks_area.specs.Ranges.{part}
use Rattle.luks1_header.specs.Header1.{entry}
use Rattle.luks2_header.specs.declared.selection.Copies.{Copies}
use Rattle.luks2_header.specs.Selection.{luks1, luks2, Chosen}
use Rattle.luks_rules.specs.declared.table.Section.TheVariants.{Keyslots}
use Rattle.luks_rules.specs.Accepted.{HasObject}
use Rattle.luks_rules.specs.MetaFault.{Json}
use Rattle.luks_slot.specs.declared.allowed.Allowed.{Allowed}
use Rattle.luks_reading.specs.declared.report.Data.{Data}
use Rattle.luks_reading.specs.Answer.{AnswerWithin, Opened}
use Rattle.luks_reading.specs.Checked.{AreaOf, WellFormed}
use Rattle.luks_reading.specs.Header.{json_at}
use Rattle.luks_reading.specs.Unlocking.{DoesNotOpen}

-- the area named `n` is the same one in both volumes, and its bytes are equal
pub record KeepsArea (payload : Data) (n : AreaName) (v w : List ℕ) : Type 0 where
  pub same : (a : Area) → AreaOf v payload n a ↔ AreaOf w payload n a
  pub bytes : (a : Area) → AreaOf v payload n a → part w a.start a.len ≡ part v a.start a.len

-- `bytes` is the 48-byte entry of the keyslot `n` of the LUKS1 volume `v`
pub record IsEntry (v : List ℕ) (n : ℕ) (bytes : List ℕ) : Type 0 where
  pub chosen : Chosen v luks1
  pub numbered : n < 8
  pub is : bytes ≡ entry v n

-- `d` is what the metadata that counts of the LUKS2 volume `v` has as the keyslot `n`
pub record IsKeyslot (v : List ℕ) (n : ℕ) (d : Value) : Type 0 where
  pub place : ℕ
  pub copies : Copies
  pub chosen : Chosen v (luks2 place copies)
  pub metadata : Value
  pub holds : Json (json_at v place) metadata
  pub is : HasObject metadata Keyslots n d

-- the keyslot `n` has its area, its entry or its value, and its answer to every passphrase, whatever
-- is allowed
pub record KeepsSlot (payload : Data) (n : ℕ) (v w : List ℕ) : Type 0 where
  pub area : KeepsArea payload (Slot n) v w
  pub entry : (bytes : List ℕ) → IsEntry v n bytes ↔ IsEntry w n bytes
  pub value : (d : Value) → IsKeyslot v n d ↔ IsKeyslot w n d
  pub answers : (allowed : Allowed) (p : List ℕ) (a : Opened) → AnswerWithin allowed v n p a ↔ AnswerWithin allowed w n p a

-- the keyslot `n` has its area, and its answer to every passphrase, whatever is allowed
pub record KeepsAnswers (payload : Data) (n : ℕ) (v w : List ℕ) : Type 0 where
  pub area : KeepsArea payload (Slot n) v w
  pub answers : (allowed : Allowed) (p : List ℕ) (a : Opened) → AnswerWithin allowed v n p a ↔ AnswerWithin allowed w n p a

-- the volume `w` is as long as `v` and well formed, the segments are as they were, and so is each
-- keyslot that isn't named
pub record Keeps (payload : Data) (named : ℕ → Type 0) (v w : List ℕ) : Type 0 where
  pub size : length w ≡ length v
  pub well : WellFormed w payload
  pub segments : (n : ℕ) → KeepsArea payload (Segment n) v w
  pub slots : (n : ℕ) → (named n → ⊥) → KeepsSlot payload n v w

-- no passphrase opens the keyslot `n`, whatever is allowed
abbrev pub IsShut : List ℕ → ℕ → Type 0
IsShut v n = (allowed : Allowed) (p : List ℕ) → DoesNotOpen allowed v p n
