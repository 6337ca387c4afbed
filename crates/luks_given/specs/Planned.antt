-- A volume of which ranges are given, as a device whose writes are planned.
use Rattle.std.specs.Prelude.{◌≡◌, ℕ, ◌+◌, ◌⊎◌, ◌↔◌, List, [], ◌∷◌, ◌++◌, length, Bool, IsTrue, IsFalse}
use Rattle.luks_area.specs.Ranges.{IsAt}
use Rattle.luks_given.specs.declared.given.Given.{Ghosts as OfGiven}
use Rattle.luks_given.specs.declared.planned_writes.PlannedCall.{PlannedCall}
use Rattle.luks_given.specs.declared.planned_writes.PlannedWrites.{PlannedWrites}
use Rattle.luks_given.specs.declared.parts.Part.{Part}
use Rattle.luks_given.specs.Parts.{HasPlace}
use Rattle.luks_given.specs.Plan.{played, IsUnflushed}

-- the calls of the plan
abbrev pub planned_calls : {K : Type 0} {given : OfGiven K} → PlannedWrites K given → List PlannedCall
planned_calls device = device.calls.items

-- the bytes that they write, one after the other
abbrev pub planned_written : {K : Type 0} {given : OfGiven K} → PlannedWrites K given → List ℕ
planned_written device = device.bytes.items

-- the volume's bytes, as the plan leaves them
abbrev pub planned_bytes : {K : Type 0} {given : OfGiven K} → PlannedWrites K given → List ℕ
planned_bytes {given = given} device = played device.calls.items device.bytes.items given.bytes

-- how many these are
abbrev pub planned_size : {K : Type 0} {given : OfGiven K} → PlannedWrites K given → ℕ
planned_size device = device.total

-- how many of its calls have failed
abbrev pub planned_failures : {K : Type 0} {given : OfGiven K} → PlannedWrites K given → ℕ
planned_failures device = device.failures

-- whether memory was refused for the plan
abbrev pub lacked_memory : {K : Type 0} {given : OfGiven K} → PlannedWrites K given → Bool
lacked_memory device = device.is_full

-- the places that the plan writes and doesn't flush
abbrev pub planned_unsettled : {K : Type 0} {given : OfGiven K} → PlannedWrites K given → ℕ → Type 0
planned_unsettled device p = IsUnflushed device.calls.items p

-- whether one call has failed alone, which was to write bytes of which one isn't given
abbrev pub wants_to_write : {K : Type 0} {given : OfGiven K} → PlannedWrites K given → Bool
wants_to_write device = device.is_to_write

-- what the last call wanted that met a byte which isn't given
abbrev pub planned_wanted : {K : Type 0} {given : OfGiven K} → PlannedWrites K given → Part
planned_wanted device = device.missing

-- a call that succeeded: what is wanted, and whether a write wants it, is as before
pub record WantsAsBefore {K : Type 0} {given : OfGiven K} (old new : PlannedWrites K given) : Type 0 where
  pub wanted : planned_wanted new ≡ planned_wanted old
  pub memory : lacked_memory new ≡ lacked_memory old
  pub to_write : wants_to_write new ≡ wants_to_write old

-- a call over `len` bytes from the place `at` on failed since a place of them isn't given: it wants all of them that are there and behind it
pub record WantsEndOf {K : Type 0} {given : OfGiven K} (at len : ℕ) (old new : PlannedWrites K given) : Type 0 where
  pub missing : HasPlace given.parts (planned_wanted new).at → ⊥
  pub begins : IsAt at len (planned_wanted new).at
  pub ends : (planned_wanted new).at + (planned_wanted new).len ≡ at + len
  pub memory : lacked_memory new ≡ lacked_memory old

-- such a read: no write wants them alone
pub record WantsToRead {K : Type 0} {given : OfGiven K} (at len : ℕ) (old new : PlannedWrites K given) : Type 0 where
  pub range : WantsEndOf at len old new
  pub to_write : IsFalse (wants_to_write new)

-- such a write: it alone wants them where no call failed before
pub record WantsToWrite {K : Type 0} {given : OfGiven K} (at len : ℕ) (old new : PlannedWrites K given) : Type 0 where
  pub range : WantsEndOf at len old new
  pub to_write : IsTrue (wants_to_write new) ↔ (planned_failures old ≡ 0)

-- a call failed since memory was refused for the plan: it wants nothing
pub record LacksMemory {K : Type 0} {given : OfGiven K} (old new : PlannedWrites K given) : Type 0 where
  pub wanted : planned_wanted new ≡ planned_wanted old
  pub memory : IsTrue (lacked_memory new)
  pub to_write : IsFalse (wants_to_write new)

-- a write of `len` bytes from the place `at` on failed: since not all of these places are given, or since memory was refused
abbrev pub FailsToWrite : {K : Type 0} {given : OfGiven K} → ℕ → ℕ → PlannedWrites K given → PlannedWrites K given → Type 0
FailsToWrite {given = given} at len old new = WantsToWrite at len old new ⊎ (((p : ℕ) → IsAt at len p → HasPlace given.parts p) × LacksMemory old new)

-- the plan is the same, and so is the volume's length
pub record HasPlanOf {K : Type 0} {given : OfGiven K} (old new : PlannedWrites K given) : Type 0 where
  pub calls : planned_calls new ≡ planned_calls old
  pub written : planned_written new ≡ planned_written old
  pub size : planned_size new ≡ planned_size old

-- the plan has one call more, which writes these bytes from the place `at` on
pub record HasMore {K : Type 0} {given : OfGiven K} (at : ℕ) (from : List ℕ) (old new : PlannedWrites K given) : Type 0 where
  pub calls : planned_calls new ≡ planned_calls old ++ record { at = at; len = length from } ∷ []
  pub written : planned_written new ≡ planned_written old ++ from
