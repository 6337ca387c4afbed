-- When no header is made of a volume's metadata.
use Rattle.std.specs.Prelude.{◌≢◌, ◌⊎◌, ℕ, List, length, Option, Some, None, ⊤}
use Rattle.luks_area.specs.Area.{IsAreaFault}
use Rattle.luks_area.specs.First.{IsLeast}
use Rattle.luks1_header.specs.Bytes.{IsUuid}
use Rattle.luks2_header.specs.Selection.{nothing, Chosen}
use Rattle.luks_rebuilding.specs.Candidates.{HasToBeRead, HasToBeTried, IsSource, OfTaken, Source}
use Rattle.luks_rebuilding.specs.KeyAreas.{EndsBeforeRegion, HasHeaderArea}
use Rattle.luks_rebuilding.specs.RebuildFaults.{rebuild_key}
use Rattle.luks_rebuilding.specs.Rebuilt.{random_size}
use Rattle.luks_rebuilding.specs.declared.place.Place.{Place}
use Rattle.luks_rebuilding.specs.declared.place.Which.{Which}
use Rattle.luks_rebuilding.specs.declared.place.Copies.{Copies}
use Rattle.luks_rebuilding.specs.declared.place.Copies.TheVariants.{Any, Second, OfSize, SecondOfSize}
use Rattle.luks_rebuilding.specs.declared.rebuild_fault.RebuildFault.{RebuildFault}
use Rattle.luks_rebuilding.specs.declared.rebuild_fault.RebuildFault.TheVariants.{Counts, NoMetadata, Area, TooSmall, Uuid, RandomLength, Memory, Device}

-- a uuid is given, and isn't one
abbrev pub IsNoUuid : Option (List ℕ) → Type 0
IsNoUuid None = ⊥
IsNoUuid (Some text) = IsUuid text → ⊥

-- whether a header of the source may count: where the second copy or a size is asked for, which names a
-- place
abbrev pub MayCount : Copies → Type 0
MayCount Any = ⊥
MayCount Second = ⊤
MayCount (OfSize size) = ⊤
MayCount (SecondOfSize size) = ⊤

-- a header counts, and may not
abbrev pub AnswersCounts : List ℕ → Which → Type 0
AnswersCounts v which = (Chosen v nothing → ⊥) × (MayCount which.copies → ⊥)

-- nothing counts, or it may
abbrev pub PassesCounts : List ℕ → Which → Type 0
PassesCounts v which = Chosen v nothing ⊎ MayCount which.copies

-- there is nothing of which a header may be made
abbrev pub HasNoSource : List ℕ → Which → Type 0
HasNoSource v which = (source : Source) → IsSource v which source → ⊥

-- the faults of rebuilding the header of the volume `v` on a target of `total` bytes
abbrev pub IsRebuildFault : List ℕ → Which → Option (List ℕ) → ℕ → List ℕ → RebuildFault → Type 0
IsRebuildFault v which given total random Counts = AnswersCounts v which
IsRebuildFault v which given total random NoMetadata = HasNoSource v which
IsRebuildFault v which given total random (Area f) = OfTaken v which (λ source. IsAreaFault (HasHeaderArea v source) (length v) f)
IsRebuildFault v which given total random TooSmall = OfTaken v which (EndsBeforeRegion total)
IsRebuildFault v which given total random Uuid = IsNoUuid given
IsRebuildFault v which given total random RandomLength = length random ≢ random_size
IsRebuildFault v which given total random Memory = ⊥
IsRebuildFault v which given total random Device = ⊥

-- none of the faults stands
pub record IsRebuildable (v : List ℕ) (which : Which) (given : Option (List ℕ)) (total : ℕ) (random : List ℕ) : Type 0 where
  pub none : (f : RebuildFault) → IsRebuildFault v which given total random f → ⊥

-- memory is taken for JSON areas and metadata alone: nothing counts or it may, and a copy's has to be
-- tried or read
pub record TakesMemory (v : List ℕ) (which : Which) : Type 0 where
  pub passes : PassesCounts v which
  pub place : Place
  pub sought : HasToBeTried v which place ⊎ HasToBeRead v which.copies place

-- the answer is the first of the faults; or memory was refused where it is taken; or a device failed
abbrev pub IsAnsweredFault : List ℕ → Which → Option (List ℕ) → ℕ → List ℕ → RebuildFault → Type 0
IsAnsweredFault v which given total random Memory = TakesMemory v which
IsAnsweredFault v which given total random Device = ⊤
IsAnsweredFault v which given total random f = IsLeast rebuild_key (IsRebuildFault v which given total random) f

-- why no candidate is found: those of the faults that are looked for first
abbrev pub IsNotFound : List ℕ → Which → RebuildFault → Type 0
IsNotFound v which Counts = AnswersCounts v which
IsNotFound v which NoMetadata = PassesCounts v which × HasNoSource v which
IsNotFound v which (Area f) = ⊥
IsNotFound v which TooSmall = ⊥
IsNotFound v which Uuid = ⊥
IsNotFound v which RandomLength = ⊥
IsNotFound v which Memory = TakesMemory v which
IsNotFound v which Device = ⊤
