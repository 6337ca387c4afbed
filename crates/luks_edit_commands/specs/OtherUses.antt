-- Another use of the disk by now: where only one copy of a LUKS2 header is sound, what is in the place of the other,
-- and how an edit ends that it bars.
use Rattle.std.specs.Prelude.{◌≡◌, ℕ, ◌*◌, List, [], ◌∷◌, ◌++◌, codes, Option, Some, None, Bool, false, Result, Ok, Err, ⊤, take}
use Rattle.luks2_header.specs.Header2.{header_at, HoldsBin2}
use Rattle.luks2_header.specs.Selection.{luks2, second_place, Chosen}
use Rattle.luks2_header.specs.declared.bin2.Bin2.{Bin2}
use Rattle.luks2_header.specs.declared.selection.Copies.{Copies}
use Rattle.luks2_header.specs.declared.selection.Copies.TheVariants.{InStep, FirstNewer, SecondNewer, FirstOnly, SecondOnly}
use Rattle.luks_signatures.specs.Signatures.{Finds, table}
use Rattle.luks_signatures.specs.UseTexts.{use_text}
use Rattle.luks_signatures.specs.declared.other_use.OtherUse.{OtherUse}
use Rattle.luks_edit.specs.declared.edit_fault.EditFault.TheVariants as fault
use Rattle.luks_edit.specs.EditFaults.{is_edit_failure}
use Rattle.luks_commands.specs.declared.answers.Answer.{Answer}
use Rattle.luks_commands.specs.declared.answers.Answer.TheVariants.{Refused, DeviceFault, NoMemory}
use Rattle.luks_commands.specs.declared.answers.Refusal.TheVariants as refusal
use Rattle.luks_commands.specs.declared.inputs.InputFault.{InputFault}
use Rattle.luks_commands.specs.Answer.{edit_fault_answer}
use Rattle.luks_edit_commands.specs.declared.edit.seen.Seen.{Seen}
use Rattle.luks_edit_commands.specs.declared.edit.seen.Unseen.{Unseen}
use Rattle.luks_edit_commands.specs.declared.edit.seen.Unseen.TheVariants.{Untold, Used}

-- the header is that of the copy that counts of the volume `v`, and its copies stand so
abbrev pub IsCounting : List ℕ → Bin2 → Copies → Type 0
IsCounting v h copies = Chosen v (luks2 h.hdr_offset copies) × HoldsBin2 (header_at v h.hdr_offset) h

-- Before which byte the volume `v` is asked, whose copies stand so and of which the one at `place` counts. If only
-- the second copy is sound, the first one's place ends where it begins. If only the first one is, the second one's place
-- ends at twice its size: none of its own bytes are those of another use, since they are summed. If both are sound, no
-- other use has been made in their places; of what follows them it can't be told whether it is older.
abbrev pub AsksBefore : List ℕ → ℕ → Copies → ℕ → Type 0
AsksBefore v place SecondOnly end = end ≡ place
AsksBefore v place FirstOnly end = end ≡ 2 * second_place v
AsksBefore v place InStep end = ⊥
AsksBefore v place FirstNewer end = ⊥
AsksBefore v place SecondNewer end = ⊥

-- One copy alone of a LUKS2 header is sound in the volume `v`, and the table of signatures finds this use before the end of
-- the other one's place, whatever magic is there. (A LUKS1 header has no copy: where a partition table was made, the
-- words of keyslots 5 and 6 are those of no state, and `check` refuses it.)
pub record HasOtherUse (v : List ℕ) (found : OtherUse) : Type 0 where
  pub place : ℕ
  pub copies : Copies
  pub end : ℕ
  pub chosen : Chosen v (luks2 place copies)
  pub asked : AsksBefore v place copies end
  pub finds : Finds table (take end v) (Some found)

-- what was found: the other use of the volume `v`, or that it has none
abbrev pub FindsOtherUse : List ℕ → Option OtherUse → Type 0
FindsOtherUse v (Some found) = HasOtherUse v found
FindsOtherUse v None = (u : OtherUse) → HasOtherUse v u → ⊥

-- by which use an edit is barred, that may write over one where `over` says so: by one, or by none
abbrev pub Bars : Bool → List ℕ → Option OtherUse → Type 0
Bars over v (Some found) = (over ≡ false) × HasOtherUse v found
Bars over v None = over ≡ false → (u : OtherUse) → HasOtherUse v u → ⊥

-- ---- how a barred edit ends

-- what it answers: that it is refused by this use, unless the device fails, a file can't be read, memory is refused or
-- the volume isn't accepted
abbrev pub IsBarred : OtherUse → Answer → Type 0
IsBarred u (Refused (refusal.OtherUse found)) = found ≡ u
IsBarred u (Refused refusal.LongPassphrase) = ⊤
IsBarred u (Refused (refusal.Edit (fault.NotAccepted f))) = ⊤
IsBarred u DeviceFault = ⊤
IsBarred u NoMemory = ⊤
IsBarred u a = ⊥

-- where the volume `v` has another use that the edit may not write over, no byte of it changes, and this is answered
abbrev pub HoldsBack : Bool → List ℕ → List ℕ → Answer → Type 0
HoldsBack over v w a = over ≡ false → (u : OtherUse) → HasOtherUse v u → (w ≡ v) × IsBarred u a

-- the same of a volume that is there and tells its bytes
abbrev pub HoldsBackVolume : {D : Type 0} → Type 0 → (D → List ℕ) → Bool → Result D InputFault → Result D InputFault → Answer → Type 0
HoldsBackVolume tells bytes over (Ok old) (Ok new) a = tells → HoldsBack over (bytes old) (bytes new) a
HoldsBackVolume tells bytes over old new a = ⊤

-- ---- what is seen of an edit before it is run: words of private contracts

-- what is answered where nothing is seen
abbrev pub unseen_answer : Unseen → Answer
unseen_answer (Untold f) = edit_fault_answer f
unseen_answer (Used found) = Refused (refusal.OtherUse found)

abbrev pub is_unseen_failure : Unseen → Bool
is_unseen_failure (Untold f) = is_edit_failure f
is_unseen_failure (Used found) = false

-- where the volume `v` has another use that the edit may not write over, nothing is seen, and this is answered
abbrev pub SeesBarred : Bool → List ℕ → Result Seen Unseen → Type 0
SeesBarred over v (Ok seen) = Bars over v None
SeesBarred over v (Err unseen) = over ≡ false → (u : OtherUse) → HasOtherUse v u → IsBarred u (unseen_answer unseen)

-- ---- what is said of it

-- that an edit of the volume of this name has written over this use of its disk
abbrev pub overwritten_line : List ℕ → OtherUse → List ℕ
overwritten_line volume found =
    codes "luks: " ++ volume ++ codes ": " ++ use_text found ++ codes " stood in the place of a damaged copy, and was written over" ++ 10 ∷ []
