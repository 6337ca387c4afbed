-- What an edit of a LUKS2 volume replies, and what it leaves then.
use Rattle.std.specs.Prelude.{◌≡◌, ℕ, List, Option, Some, None, MatchOption, Result, Ok, Err}
use Rattle.luks_reading.specs.declared.report.Data.{Data}
use Rattle.luks_edit.specs.declared.edit.Done.{Done}
use Rattle.luks_edit.specs.declared.edit.Edit.{Edit}
use Rattle.luks_edit.specs.Asked.{MatchPlace, sealed_by}
use Rattle.luks_edit.specs.declared.edit_fault.EditFault.{EditFault}
use Rattle.luks_edit.specs.Endings.{EndsBy}
use Rattle.luks2_edit_laws.specs.Edited.{After2, IsMadeIn}
use Rattle.luks2_edit_laws.specs.Leftovers.{Leftover2}
use Rattle.luks2_edit_laws.specs.Refused.{IsUnrefused2, Refusal2}

-- a keyslot of the set is told
abbrev pub TellsNew : (ℕ → Type 0) → Option ℕ → Type 0
TellsNew is_new (Some n) = is_new n
TellsNew is_new None = ⊥

-- what a completed edit tells: the keyslot that it made or sealed again, if there is one
abbrev pub Tells2 : List ℕ → Edit → Option ℕ → Type 0
Tells2 v e told = MatchOption (sealed_by e) (told ≡ None)
    (λ s. MatchPlace s.place (λ o to. TellsNew (IsMadeIn v to) told) (λ slot secret. told ≡ Some slot))

-- the edit of the volume `v` is done, and leaves `w`
pub record IsDone2 (payload : Data) (v : List ℕ) (e : Edit) (random : List ℕ) (done : Done) (w : List ℕ) : Type 0 where
  pub unrefused : IsUnrefused2 v payload e random
  pub after : After2 v payload e random w
  pub told : Tells2 v e done.slot

-- the edit of the volume `v` ends with this fault, and leaves `w`
abbrev pub EndsBy2 : Data → List ℕ → Edit → List ℕ → EditFault → List ℕ → Type 0
EndsBy2 payload v e random f w = EndsBy (λ g. Refusal2 v payload e random g × (w ≡ v)) (w ≡ v) (Leftover2 v payload e random w) f

-- the reply of the edit of the volume `v`, and the volume `w` that it leaves
abbrev pub Replies2 : Data → List ℕ → Edit → List ℕ → Result Done EditFault → List ℕ → Type 0
Replies2 payload v e random (Ok done) w = IsDone2 payload v e random done w
Replies2 payload v e random (Err f) w = EndsBy2 payload v e random f w
