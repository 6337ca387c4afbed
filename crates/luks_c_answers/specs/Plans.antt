-- The plan of a call that writes, in the caller's buffers.
use Rattle.std.specs.Prelude.{◌≡◌, ◌≢◌, ◌⊎◌, ℕ, ◌<◌, ◌≤◌, List, length}
use Rattle.luks_given.specs.Parts.{IsWanted}
use Rattle.luks_given.specs.declared.parts.Part.{Part}
use Rattle.luks_given.specs.declared.planned_writes.PlannedCall.{PlannedCall}
use Rattle.luks_given.specs.Plan.{furthest, planned_length, played, IsFlushed, WritesGiven}
use Rattle.luks_c_answers.specs.declared.plans.LuksPlan.{LuksPlan}
use Rattle.luks_c_answers.specs.Buffers.{filled}

-- played over the volume `v`, the plan leaves such a volume; it writes places of these ranges alone, and a flush comes
-- behind each write
pub record Leaves (parts : List Part) (v : List ℕ) (such : List ℕ → Type 0) (calls : List PlannedCall) (bytes : List ℕ) : Type 0 where
  pub leaves : such (played calls bytes v)
  pub inside : furthest calls ≤ length v
  pub given : WritesGiven parts calls
  pub counted : planned_length calls ≡ length bytes
  pub flushed : IsFlushed calls

-- played over the volume `v`, the plan leaves `w`; it writes places of these ranges alone
pub record IsPlan (parts : List Part) (v w : List ℕ) (calls : List PlannedCall) (bytes : List ℕ) : Type 0 where
  pub plays : played calls bytes v ≡ w
  pub inside : furthest calls ≤ length v
  pub given : WritesGiven parts calls
  pub counted : planned_length calls ≡ length bytes

-- the caller's buffers for a plan
pub record Buffers : Type 0 where
  pub calls : List PlannedCall
  pub bytes : List ℕ

-- the plan is in the front of the buffers; or one of them is too short for it, and both are as they were
abbrev pub IsPlanGiven : List PlannedCall → List ℕ → Buffers → Buffers → ℕ → Type 0
IsPlanGiven calls bytes old new number =
    ((number ≡ 0) × (new.calls ≡ filled old.calls calls) × (new.bytes ≡ filled old.bytes bytes) × (length calls ≤ length old.calls) × (length bytes ≤ length old.bytes))
    ⊎ ((number ≡ 106) × (new ≡ old) × ((length old.calls < length calls) ⊎ (length old.bytes < length bytes)))

-- a plan that leaves such a volume is told and given
pub record IsPlanned (parts : List Part) (v : List ℕ) (such : List ℕ → Type 0) (old new : Buffers) (told : LuksPlan) (number : ℕ) : Type 0 where
  pub calls : List PlannedCall
  pub bytes : List ℕ
  pub leaves : Leaves parts v such calls bytes
  pub calls_count : told.calls ≡ length calls
  pub bytes_count : told.bytes ≡ length bytes
  pub given : IsPlanGiven calls bytes old new number

-- what a call answers that writes by a plan. 0 and 106 say that it is planned, and that nothing is against it; 102 that another
-- range has to be given, 103 that memory was refused, any other number why it is refused; except for 0 the buffers are as
-- they were
pub record AnswersPlan (parts : List Part) (v : List ℕ) (faultless : Type 0) (refusal : ℕ → Type 0) (such : List ℕ → Type 0) (old new : Buffers) (told : LuksPlan) (number : ℕ) : Type 0 where
  pub planned : number ≡ 0 → faultless × IsPlanned parts v such old new told number
  pub room : number ≡ 106 → faultless × IsPlanned parts v such old new told number
  pub refused : number ≢ 0 → number ≢ 106 → number ≢ 102 → number ≢ 103 → refusal number
  pub kept : number ≢ 0 → new ≡ old

-- of two volumes a range of one is wanted, which isn't given, and none of the other
abbrev pub WantsEither : List Part → ℕ → List Part → ℕ → LuksPlan → Type 0
WantsEither source_parts source_total parts total told =
    (IsWanted source_parts source_total told.source_beyond × (told.beyond.len ≡ 0)) ⊎ (IsWanted parts total told.beyond × (told.source_beyond.len ≡ 0))
