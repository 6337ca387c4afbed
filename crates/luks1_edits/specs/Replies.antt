-- What an edit of a LUKS1 volume replies, and what it leaves then.
use Rattle.std.specs.Prelude.{◌≡◌, ℕ, List, Option, Some, None, MatchOption, Result, Ok, Err}
use Rattle.luks_reading.specs.declared.report.Data.{Data}
use Rattle.luks_edit.specs.declared.edit.Done.{Done}
use Rattle.luks_edit.specs.declared.edit.Edit.{Edit}
use Rattle.luks_edit.specs.Asked.{sealed_by}
use Rattle.luks_edit.specs.declared.edit_fault.EditFault.{EditFault}
use Rattle.luks_edit.specs.Endings.{EndsBy}
use Rattle.luks1_edits.specs.Edited.{After1, IsSealedIn}
use Rattle.luks1_edits.specs.Leftovers.{Leftover1}
use Rattle.luks1_edits.specs.Refused.{IsUnrefused1, Refusal1}

-- a keyslot of the set is told
abbrev pub TellsNew : (ℕ → Type 0) → Option ℕ → Type 0
TellsNew is_new (Some n) = is_new n
TellsNew is_new None = ⊥

-- what a completed edit tells: the keyslot that it made, if it makes one
abbrev pub Tells1 : List ℕ → Edit → Option ℕ → Type 0
Tells1 v e told = MatchOption (sealed_by e) (told ≡ None) (λ s. TellsNew (IsSealedIn v s) told)

-- the edit of the volume `v` is done, and leaves `w`
pub record IsDone1
    (payload : Data) (v : List ℕ) (e : Edit) (random : List ℕ) (done : Done) (w : List ℕ)
    : Type 0 where
  pub unrefused : IsUnrefused1 v payload e random
  pub after : After1 v e random w
  pub told : Tells1 v e done.slot

-- the edit of the volume `v` ends with this fault, and leaves `w`; no memory is taken
abbrev pub EndsBy1 : Data → List ℕ → Edit → List ℕ → EditFault → List ℕ → Type 0
EndsBy1 payload v e random f w =
    EndsBy (λ g. Refusal1 v payload e random g × (w ≡ v)) ⊥ (Leftover1 v payload e random w) f

-- the reply of the edit of the volume `v`, and the volume `w` that it leaves
abbrev pub Replies1 : Data → List ℕ → Edit → List ℕ → Result Done EditFault → List ℕ → Type 0
Replies1 payload v e random (Ok done) w = IsDone1 payload v e random done w
Replies1 payload v e random (Err f) w = EndsBy1 payload v e random f w
