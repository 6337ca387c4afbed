-- A refusal of an edit is one, and leaves the volume as it was.
use Rattle.std.proofs.Common.{◌≡◌, ℕ, List, inl, inr}
use Rattle.luks_reading.specs.declared.report.Data.{Data}
use Rattle.luks_edit.specs.declared.edit.Edit.{Edit}
use Rattle.luks_edit.specs.declared.edit_fault.EditFault.{EditFault}
use Rattle.luks2_edit_laws.specs.Leftovers.{Leftover2}
use Rattle.luks2_edit_laws.specs.Refused.{IsEditFault2}

-- a failing device call in an edit that a fault refuses comes before its first step
pub leftover_refused : (v : List ℕ) (payload : Data) (e : Edit) (random w : List ℕ) (f : EditFault) → IsEditFault2 v payload e random f
    → Leftover2 v payload e random w → w ≡ v
leftover_refused v payload e random w f is (inl same) = same
leftover_refused v payload e random w f is (inr t) = absurd (t.0.none f is)
