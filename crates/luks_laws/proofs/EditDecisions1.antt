-- Each fault of an edit of an accepted LUKS1 volume stands, or it doesn't.
use Rattle.std.proofs.Common.{ℕ, List, inr}
use Rattle.luks_slot.specs.declared.allowed.Allowed.{Allowed}
use Rattle.luks_reading.specs.declared.check_fault.CheckFault.{CheckFault}
use Rattle.luks_reading.specs.declared.report.Data.{Data}
use Rattle.luks_reading.specs.Answer.{AnswerWithin, Opened}
use Rattle.luks_reading.specs.Checked.{IsFault}
use Rattle.luks_edit.specs.declared.edit.Edit.{Edit}
use Rattle.luks_edit.specs.declared.edit_fault.EditFault.{EditFault}
use Rattle.luks_edit.specs.declared.edit_fault.EditFault.TheVariants as edit
use Rattle.luks1_edits.specs.Refused.{IsEditFault1}
use Rattle.luks_laws.proofs.AskedDecisions.{argon2_decided, bad_uuid_decided, few_decided, itself_decided}
use Rattle.luks_laws.proofs.DecidedFacts.{Decided}
use Rattle.luks_laws.proofs.KeyDecisions1.{unopened1_decided}
use Rattle.luks_laws.proofs.RowDecisions1.{absent_decided, label_decided, last_decided, miscounted_decided, no_free_decided, taken_decided}

module _ (v : List ℕ) (payload : Data) (answer : (m : Allowed) (n : ℕ) (p : List ℕ) → (a : Opened) × AnswerWithin m v n p a) (sound : (f : CheckFault) → IsFault v payload f → ⊥) (e : Edit) (r : List ℕ) where
  -- by the entries, the answer and the edit itself
  pub fault1_decided : (f : EditFault) → Decided (IsEditFault1 v payload e r f)
  fault1_decided (edit.NotAccepted f) = inr (sound f)
  fault1_decided edit.Requirements = inr (λ bad. bad)
  fault1_decided edit.NoSuchSlot = absent_decided v e
  fault1_decided edit.SameSlot = itself_decided e
  fault1_decided edit.Locked = unopened1_decided v answer e edit.Locked
  fault1_decided edit.KeyLength = unopened1_decided v answer e edit.KeyLength
  fault1_decided edit.WrongKey = unopened1_decided v answer e edit.WrongKey
  fault1_decided (edit.Slot f) = unopened1_decided v answer e (edit.Slot f)
  fault1_decided edit.SlotTaken = taken_decided v e
  fault1_decided edit.NoFreeSlot = no_free_decided v e
  fault1_decided edit.NoRoom = inr (λ bad. bad)
  fault1_decided edit.LastSlot = last_decided v e
  fault1_decided edit.Iterations = few_decided e
  fault1_decided edit.Argon2 = argon2_decided e
  fault1_decided edit.BadLabel = label_decided e
  fault1_decided edit.NoSuchToken = inr (λ bad. bad)
  fault1_decided edit.TokenTaken = inr (λ bad. bad)
  fault1_decided edit.NoFreeToken = inr (λ bad. bad)
  fault1_decided edit.UnreadableToken = inr (λ bad. bad)
  fault1_decided edit.BadUuid = bad_uuid_decided e
  fault1_decided (edit.BadToken f) = inr (λ bad. bad)
  fault1_decided edit.SeqExhausted = inr (λ bad. bad)
  fault1_decided edit.MetadataFull = inr (λ bad. bad)
  fault1_decided edit.RandomLength = miscounted_decided v e r
  fault1_decided edit.Memory = inr (λ bad. bad)
  fault1_decided edit.Device = inr (λ bad. bad)
