-- A plan of writes: calls in their order, and the bytes that they write one after the other.
use Rattle.std.specs.Prelude.{ℕ, ◌≢◌, ◌+◌, ◌⊎◌, List, [], ◌∷◌, take, drop, max, ⊤}
use Rattle.luks_area.specs.Ranges.{written, IsAt}
use Rattle.luks_given.specs.declared.parts.Part.{Part}
use Rattle.luks_given.specs.declared.planned_writes.PlannedCall.{PlannedCall}
use Rattle.luks_given.specs.Parts.{HasPlace}

-- how many bytes the calls write together
unfoldable pub planned_length : List PlannedCall → ℕ
planned_length [] = 0
planned_length (call ∷ calls) = call.len + planned_length calls

-- the furthest end of a range that a call writes
unfoldable pub furthest : List PlannedCall → ℕ
furthest [] = 0
furthest (call ∷ calls) = max (call.at + call.len) (furthest calls)

-- what the calls make of the bytes `v`, where each writes the next of these bytes; one that writes none is a flush
unfoldable pub played : List PlannedCall → List ℕ → List ℕ → List ℕ
played [] bytes v = v
played (call ∷ calls) bytes v = played calls (drop call.len bytes) (written v call.at (take call.len bytes))

-- no call is a flush
unfoldable pub HasNoFlush : List PlannedCall → Type 0
HasNoFlush [] = ⊤
HasNoFlush (call ∷ calls) = (call.len ≢ 0) × HasNoFlush calls

-- a call writes the place `p`, and no later one is a flush
unfoldable pub IsUnflushed : List PlannedCall → ℕ → Type 0
IsUnflushed [] p = ⊥
IsUnflushed (call ∷ calls) p = IsUnflushed calls p ⊎ (IsAt call.at call.len p × HasNoFlush calls)

-- a call writes the place `p`
unfoldable pub IsWrittenBy : List PlannedCall → ℕ → Type 0
IsWrittenBy [] p = ⊥
IsWrittenBy (call ∷ calls) p = IsAt call.at call.len p ⊎ IsWrittenBy calls p

-- the calls write given places alone
abbrev pub WritesGiven : List Part → List PlannedCall → Type 0
WritesGiven parts calls = (p : ℕ) → (HasPlace parts p → ⊥) → IsWrittenBy calls p → ⊥

-- a flush comes behind each write
pub record IsFlushed (calls : List PlannedCall) : Type 0 where
  pub none : (p : ℕ) → IsUnflushed calls p → ⊥
