-- Which volumes of a disk have one uuid: a move that broke off leaves two, and so does a copy of a header in a file.
use Rattle.std.specs.Prelude.{◌≡◌, ◌⊎◌, ℕ, ◌+◌, ◌<◌, ◌≤◌, List, [], ◌∷◌, ◌++◌, codes, drop, length, slice_get, Option, Some, None, ⊤}
use Rattle.std.specs.Fmt.{decimal}
use Rattle.luks_reading.specs.Checked.{WellFormed}
use Rattle.luks_reading.specs.declared.report.Data.TheVariants.{Here}
use Rattle.luks_commands.specs.Standing.{IsUuidOf}
use Rattle.luks_commands.specs.declared.answers.Answer.{Answer}
use Rattle.luks_commands.specs.declared.answers.Answer.TheVariants.{Accepted, DeviceFault, NoMemory}
use Rattle.luks_find_command.specs.Unreads.{Hears}
use Rattle.luks_find_command.specs.declared.met.Met.{Met}
use Rattle.luks_find_command.specs.declared.same_uuid.SameUuid.{SameUuid}

-- how they are named
abbrev pub same_uuid_text : SameUuid → List ℕ
same_uuid_text t =
    codes "the volumes at bytes " ++ decimal t.first ++ codes " and " ++ decimal t.second ++ codes " have the same uuid: a move broke off, or one is a copy of the header"

-- the bytes of the uuid's field in the header that counts of the volume `v`, where `check` accepts that
abbrev pub HasUuid : List ℕ → Option (List ℕ) → Type 0
HasUuid v (Some uuid) = WellFormed v Here × IsUuidOf v (Some uuid)
HasUuid v None = WellFormed v Here → ⊥

-- one of these volumes has this uuid, and begins at the byte `first` of the file
abbrev pub IsAmong : List Met → List ℕ → ℕ → Type 0
IsAmong met uuid first = (n : ℕ) × (m : Met) × (slice_get met n ≡ Some m) × (m.uuid ≡ uuid) × (m.start ≡ first)

-- the volumes, and one more, unless they are 64
abbrev pub Remembers : List Met → Met → List Met → Type 0
Remembers met m now = ((length met < 64) × (now ≡ met ++ m ∷ [])) ⊎ ((64 ≤ length met) × (now ≡ met))

-- A volume with this uuid begins at the byte `start` of the file, and these were met before it: it is paired with the one that
-- has its uuid, or it is remembered itself. So each that is remembered has another uuid.
abbrev pub Meets : List Met → List ℕ → ℕ → List Met → List SameUuid → Type 0
Meets met uuid start now pairs =
    ((first : ℕ) × IsAmong met uuid first × (now ≡ met) × (pairs ≡ record { first = first; second = start } ∷ []))
    ⊎ (((first : ℕ) → IsAmong met uuid first → ⊥) × Remembers met (record { uuid = uuid; start = start }) now × (pairs ≡ []))

-- the same of a volume that may have none
abbrev pub MeetsAny : List Met → Option (List ℕ) → ℕ → List Met → List SameUuid → Type 0
MeetsAny met (Some uuid) start now pairs = Meets met uuid start now pairs
MeetsAny met None start now pairs = (now ≡ met) × (pairs ≡ [])

-- the same of the volume that begins at `s` of the bytes `v`, which begin at the byte `offset` of their file; where `failing`
-- holds, maybe nothing is said of it, since its header couldn't be read
abbrev pub MeetsBy : Type 0 → ℕ → List ℕ → List Met → ℕ → List Met → List SameUuid → Type 0
MeetsBy failing offset v met s now pairs =
    ((uuid : Option (List ℕ)) × HasUuid (drop s v) uuid × MeetsAny met uuid (offset + s) now pairs) ⊎ (failing × (now ≡ met) × (pairs ≡ []))

-- the same of these volumes, one after the other
abbrev pub ArePairedBy : Type 0 → ℕ → List ℕ → List Met → List ℕ → List Met → List SameUuid → Type 0
ArePairedBy failing offset v met [] now pairs = (now ≡ met) × (pairs ≡ [])
ArePairedBy failing offset v met (s ∷ starts) now pairs =
    (next : List Met) × (first : List SameUuid) × (rest : List SameUuid) × MeetsBy failing offset v met s next first × ArePairedBy failing offset v next starts now rest × (pairs ≡ first ++ rest)

-- the pairs among these volumes were said, where that is known
pub record SaysPairs (failing : Type 0) (offset : ℕ) (v starts : List ℕ) (said says : Option (List SameUuid)) : Type 0 where
  pub met : List Met
  pub pairs : List SameUuid
  pub are : ArePairedBy failing offset v [] starts met pairs
  pub names : Hears said says pairs

-- ---- one volume: words of private contracts

-- the volume is accepted
abbrev pub IsAcceptance : Answer → Type 0
IsAcceptance (Accepted version areas) = ⊤
IsAcceptance a = ⊥

-- the uuid of a volume of which `check` answers so, unless not all could be read or memory was refused
abbrev pub KnowsUuid : List ℕ → Answer → Option (List ℕ) → Type 0
KnowsUuid v DeviceFault uuid = ⊤
KnowsUuid v NoMemory uuid = ⊤
KnowsUuid v a uuid = HasUuid v uuid

abbrev pub pairs_of : Option SameUuid → List SameUuid
pairs_of (Some t) = t ∷ []
pairs_of None = []

pub record TellsPair (met : List Met) (uuid : Option (List ℕ)) (start : ℕ) (now : List Met) (said says : Option (List SameUuid)) : Type 0 where
  pub pairs : List SameUuid
  pub are : MeetsAny met uuid start now pairs
  pub names : Hears said says pairs
