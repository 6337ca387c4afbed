-- A backup of a volume of which not every key area can be read: zeros stand where a read failed.
use Rattle.std.specs.Prelude.{◌≡◌, ◌⊎◌, ◌↔◌, ℕ, ◌+◌, ◌^◌, ◌<◌, ◌≤◌, List, ◌∷◌, Option, None, Some, Bool, true, false, Result, MatchResult, All, length, slice_index_or}
use Rattle.luks_area.specs.Ranges.{part}
use Rattle.luks_area.specs.declared.area.Area.{Area}
use Rattle.luks2_header.specs.Selection.{Choice, Chosen}
use Rattle.luks_slot.specs.declared.allowed.Allowed.{Allowed}
use Rattle.luks_reading.specs.Answer.{AnswerWithin, Opened}
use Rattle.luks_reading.specs.declared.report.Data.{Data}
use Rattle.luks_keeping.specs.Backup.{IsBackup}
use Rattle.luks_keeping.specs.BackupOrder.{BacksUpInTurn}
use Rattle.luks_keeping.specs.Kept.{lead_size, HasAreas, KeptArea}
use Rattle.luks_keeping.specs.Unread.{zeroed, HasOne}
use Rattle.luks_keeping.specs.declared.lost.LostKeyslots.{LostKeyslots}

-- ---- what couldn't be read

-- the piece lies in the key area of the keyslot `n`, and is no longer than a sector of 512 bytes
pub record IsPieceOf (v : List ℕ) (choice : Choice) (n : ℕ) (piece : Area) : Type 0 where
  pub area : Area
  pub kept : KeptArea v choice n area
  pub low : area.start ≤ piece.start
  pub high : piece.start + piece.len ≤ area.start + area.len
  pub some : 1 ≤ piece.len
  pub most : piece.len ≤ 512

-- or in that of some keyslot
pub record IsOfKeyArea (v : List ℕ) (choice : Choice) (piece : Area) : Type 0 where
  pub number : ℕ
  pub is : IsPieceOf v choice number piece

-- the volume `v` as it was read: with zeros in these pieces, and in what isn't kept of a first copy
abbrev pub as_read : List ℕ → Choice → List Area → List ℕ
as_read v choice pieces = zeroed (record { start = 0; len = lead_size choice } ∷ pieces) v

-- the keyslot `n` is told
abbrev pub IsLost : Option LostKeyslots → ℕ → Type 0
IsLost None n = ⊥
IsLost (Some lost) n = (n < 32) × (slice_index_or lost.keyslots n false ≡ true)

-- the piece is of a keyslot that is told
pub record IsOfLost (v : List ℕ) (choice : Choice) (lost : Option LostKeyslots) (piece : Area) : Type 0 where
  pub number : ℕ
  pub told : IsLost lost number
  pub is : IsPieceOf v choice number piece

-- ---- the backup

-- `new` begins with the backup of the volume `v` as it was read. Each read that failed, of which there were
-- `before` and then `after`, cost one piece; the keyslots that are told are those with such a piece, and the key
-- areas of all others are there byte by byte.
pub record IsRescue (v : List ℕ) (payload : Data) (before after : ℕ) (old new : List ℕ) (lost : Option LostKeyslots) : Type 0 where
  pub choice : Choice
  pub chosen : Chosen v choice
  pub pieces : List Area
  pub counted : after ≡ before + length pieces
  pub each : All (IsOfLost v choice lost) pieces
  pub told : (n : ℕ) → IsLost lost n → HasOne (IsPieceOf v choice n) pieces
  pub backup : IsBackup (as_read v choice pieces) payload old new
  pub whole : (n : ℕ) (a : Area) → KeptArea v choice n a → (IsLost lost n → ⊥) → part new a.start a.len ≡ part v a.start a.len

-- each keyslot that isn't told answers each passphrase as the volume's does
abbrev pub AnswersUnlessLost : List ℕ → List ℕ → Option LostKeyslots → Type 0
AnswersUnlessLost v new lost = (allowed : Allowed) (n : ℕ) (p : List ℕ) (a : Opened) → (IsLost lost n → ⊥) → AnswerWithin allowed v n p a ↔ AnswerWithin allowed new n p a

-- ---- what is left at any time

-- what is left is what a backup leaves of the volume as it was read, at most a piece for each read that failed
pub record RescuesInTurn (v : List ℕ) (choice : Choice) (size before after : ℕ) (old new : List ℕ) : Type 0 where
  pub pieces : List Area
  pub few : before + length pieces ≤ after
  pub each : All (IsOfKeyArea v choice) pieces
  pub turn : BacksUpInTurn (as_read v choice pieces) choice size old new

-- ---- the faults of the devices

-- the counts of failed calls of the source, `s` and then `t`, and of the target, `u` and then `w`, where the fault
-- that ended it was a device's or not
abbrev pub EndsAfter : Bool → ℕ → ℕ → ℕ → ℕ → Type 0
EndsAfter true s t u w = ((s ≤ t) × (w ≡ u + 1)) ⊎ ((s < t) × (w ≡ u))
EndsAfter false s t u w = (t ≡ s) × (w ≡ u)

-- a fault of the target ends it; of the source some do, and others don't
abbrev pub CountsRescue : {X F : Type 0} → (F → Bool) → Result X F → ℕ → ℕ → ℕ → ℕ → Type 0
CountsRescue is_failure result s t u w = MatchResult result (λ _. (s ≤ t) × (w ≡ u)) (λ fault. EndsAfter (is_failure fault) s t u w)

-- all key areas stand as they were read, and one more read failed
pub record AreasStand (v : List ℕ) (choice : Choice) (before after : ℕ) (new : List ℕ) : Type 0 where
  pub pieces : List Area
  pub counted : after ≡ before + length pieces + 1
  pub each : All (IsOfKeyArea v choice) pieces
  pub areas : HasAreas (as_read v choice pieces) choice new

-- How the source ended it: by a read of the header that failed, before anything was written or once all key areas
-- stood; or no more failures can be counted.
abbrev pub EndsBySource : List ℕ → Choice → ℕ → ℕ → List ℕ → List ℕ → Type 0
EndsBySource v choice before after old new = ((after ≡ before + 1) × (new ≡ old)) ⊎ (AreasStand v choice before after new ⊎ (after + 1 ≡ 2 ^ 64))
