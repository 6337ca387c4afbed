-- What the command `rebuild` leaves of its target, and what it may answer.
use Rattle.std.specs.Prelude.{◌≡◌, ◌≢◌, ◌⊎◌, ◌↔◌, ℕ, ◌<◌, ◌≤◌, List, [], length, Option, None, Some, option_map, Bool, true, false, ⊤}
use Rattle.arrayvec.specs.ArrayString.{ArrayString}
use Rattle.luks_area.specs.Ranges.{SameBut}
use Rattle.luks_writing.specs.TwoDevices.{IsOneFailure}
use Rattle.luks1_header.specs.Header1.{luks1_size, version_of, HasMagic}
use Rattle.luks_reading.specs.declared.report.Data.TheVariants.{Elsewhere}
use Rattle.luks_slot.specs.declared.allowed.Allowed.{Allowed}
use Rattle.luks_reading.specs.Answer.{AnswerWithin as Opening, Opened}
use Rattle.luks_reading.specs.Checked.{WellFormed}
use Rattle.luks_rebuilding.specs.Candidates.{OfTaken}
use Rattle.luks_rebuilding.specs.Gives.{Gives}
use Rattle.luks_rebuilding.specs.Outcome.{IsAnsweredFault, IsRebuildable, IsRebuildFault}
use Rattle.luks_rebuilding.specs.Rebuilt.{IsOfRebuilt, IsRebuilt}
use Rattle.luks_rebuilding.specs.declared.place.Which.{Which}
use Rattle.luks_rebuilding.specs.declared.place.Copies.{Copies}
use Rattle.luks_rebuilding.specs.declared.place.Copies.TheVariants.{Any, Second, OfSize, SecondOfSize}
use Rattle.luks_rebuilding.specs.declared.place.Effort.{Effort}
use Rattle.luks_rebuilding.specs.declared.place.Effort.TheVariants.{Usual, Thorough}
use Rattle.luks_rebuilding.specs.declared.rebuild_fault.RebuildFault.{RebuildFault}
use Rattle.luks_rebuilding.specs.declared.rebuild_fault.RebuildFault.TheVariants as fault
use Rattle.luks1_mending.specs.declared.given.Given.{Given}
use Rattle.luks1_rebuilding.specs.Gives.{Gives as GivesKept}
use Rattle.luks1_rebuilding.specs.KeyAreas.{header_of, IsKeptInUse}
use Rattle.luks1_rebuilding.specs.Outcome.{IsAnsweredFault as IsAnsweredFault1, IsRebuildable as IsRebuildable1, LacksHeader}
use Rattle.luks1_rebuilding.specs.Rebuilt.{IsOfRebuilt as IsOfRebuilt1, IsRebuilt as IsRebuilt1}
use Rattle.luks1_rebuilding.specs.declared.rebuild_fault.Rebuild1Fault.TheVariants as fault1
use Rattle.luks_request.specs.Meant.{meant_by}
use Rattle.luks_request.specs.declared.rebuilding.Meant.{Meant}
use Rattle.luks_request.specs.declared.rebuilding.Meant.TheVariants.{Luks1, Luks2, Either}
use Rattle.luks_request.specs.declared.rebuilding.Rebuilding.{Rebuilding}
use Rattle.luks_commands.specs.declared.answers.Answer.{Answer}
use Rattle.luks_commands.specs.declared.answers.Answer.TheVariants.{Done, Refused, DeviceFault, NoMemory}
use Rattle.luks_commands.specs.declared.answers.Refusal.TheVariants.{Rebuild, Rebuild1}
use Rattle.luks_header_commands.specs.Target.{NoneFailed, Pair}

-- the random bytes that it takes
abbrev pub random_count : ℕ
random_count = 144

-- what the words of the command line ask for
abbrev pub copies_by : Bool → Option ℕ → Copies
copies_by false None = Any
copies_by true None = Second
copies_by false (Some size) = OfSize size
copies_by true (Some size) = SecondOfSize size

-- and how much may be hashed for it
abbrev pub effort_by : Bool → Effort
effort_by false = Usual
effort_by true = Thorough

abbrev pub copies_asked : Rebuilding → Which
copies_asked rebuilding = record { copies = copies_by rebuilding.second rebuilding.size; effort = effort_by rebuilding.thorough }

abbrev pub given_of : Rebuilding → Option (List ℕ)
given_of rebuilding = option_map (λ text. text.now) rebuilding.uuid

-- ---- what is given of a LUKS1 header

-- a text in a field that has room for so many bytes; of a longer one nothing, which isn't usable
abbrev pub IsInField : ℕ → List ℕ → List ℕ → Type 0
IsInField room text bytes = ((length text ≤ room) × (bytes ≡ text)) ⊎ ((room < length text) × (bytes ≡ []))

abbrev pub IsFieldOf : ℕ → Option (List ℕ) → Option ArrayString → Type 0
IsFieldOf room None None = ⊤
IsFieldOf room (Some text) (Some field_) = IsInField room text field_.bytes
IsFieldOf room text field_ = ⊥

pub record IsGiven (r : Rebuilding) (given : Given) : Type 0 where
  pub cipher_name : IsFieldOf 32 (option_map (λ t. t.now) r.luks1.cipher_name) given.cipher_name
  pub cipher_mode : IsFieldOf 32 (option_map (λ t. t.now) r.luks1.cipher_mode) given.cipher_mode
  pub hash : IsFieldOf 32 (option_map (λ t. t.now) r.luks1.hash) given.hash
  pub key_bytes : given.key_bytes ≡ r.luks1.key_bytes
  pub payload : given.payload ≡ r.luks1.payload
  pub uuid : IsFieldOf 40 (given_of r) given.uuid

-- ---- a LUKS2 header, of metadata

-- `new` is the target `old` after a header was made on it of the metadata of the volume `v`
pub record IsNewHeader (v : List ℕ) (which : Which) (given : Option (List ℕ)) (random old new : List ℕ) : Type 0 where
  pub rebuilt : IsRebuilt v which given random old new
  pub well_formed : WellFormed new Elsewhere
  -- each keyslot gives what the equations give for that metadata and the bytes of its key areas
  pub opens : OfTaken v which (λ taken. (allowed : Allowed) (n : ℕ) (p : List ℕ) (a : Opened) → Gives allowed taken.json v n p a ↔ Opening allowed new n p a)

-- which bytes of the target may have changed, whatever is answered: those of both copies of the header
-- and of its key areas
abbrev pub KeepsRest2 : Which → List ℕ → List ℕ → List ℕ → Type 0
KeepsRest2 which volume old new = SameBut (IsOfRebuilt volume which) old new

-- with these random bytes; `device fault` comes exactly where a call of one of the two failed
abbrev pub IsLuks2Answer : Type 0 → Which → Option (List ℕ) → List ℕ → Pair → Answer → Type 0
IsLuks2Answer tells which given random d (Done slot) = NoneFailed d × (slot ≡ None)
    × (tells → IsRebuildable d.volume which given d.total random) × (tells → IsNewHeader d.volume which given random d.old d.new)
IsLuks2Answer tells which given random d (Refused (Rebuild fault.Device)) = ⊥
IsLuks2Answer tells which given random d (Refused (Rebuild fault.Memory)) = ⊥
IsLuks2Answer tells which given random d (Refused (Rebuild f)) = NoneFailed d × (tells → d.new ≡ d.old)
    × (tells → IsAnsweredFault d.volume which given d.total random f)
IsLuks2Answer tells which given random d DeviceFault = IsOneFailure d.volume_before d.volume_after d.before d.after
IsLuks2Answer tells which given random d NoMemory = NoneFailed d × (tells → d.new ≡ d.old)
    × (tells → IsAnsweredFault d.volume which given d.total random fault.Memory)
IsLuks2Answer tells which given random d a = ⊥

-- ---- a LUKS1 header, of its fields and keyslots

-- `new` is the target `old` after a header was made on it of what is in the volume `v`, and of what is given
pub record IsNewHeader1 (v : List ℕ) (given : Given) (old new : List ℕ) : Type 0 where
  pub rebuilt : IsRebuilt1 v given old new
  pub well_formed : WellFormed new Elsewhere
  -- each kept keyslot that is in use gives what the equations give for its entry, its area and the digest
  pub opens : (allowed : Allowed) (n : ℕ) (p : List ℕ) (a : Opened) → IsKeptInUse v given n → GivesKept allowed.older v given n p a ↔ Opening allowed new n p a

-- which bytes may have changed: those of the header, of the first sector of an older second copy, and of the key areas that
-- are kept
abbrev pub KeepsRest1 : Given → List ℕ → List ℕ → List ℕ → Type 0
KeepsRest1 given volume old new = SameBut (IsOfRebuilt1 volume given) old new

abbrev pub IsLuks1Answer : Type 0 → Given → Pair → Answer → Type 0
IsLuks1Answer tells given d (Done slot) = NoneFailed d × (slot ≡ None)
    × (tells → IsRebuildable1 d.volume given d.total) × (tells → IsNewHeader1 d.volume given d.old d.new)
IsLuks1Answer tells given d (Refused (Rebuild1 fault1.Device)) = ⊥
IsLuks1Answer tells given d (Refused (Rebuild1 f)) = NoneFailed d × (tells → d.new ≡ d.old)
    × (tells → IsAnsweredFault1 d.volume given d.total f)
IsLuks1Answer tells given d DeviceFault = IsOneFailure d.volume_before d.volume_after d.before d.after
IsLuks1Answer tells given d a = ⊥

-- ---- either

-- such a fault of LUKS2 leads to LUKS1, by the volume's first 592 bytes: no metadata is whole, and they aren't those of a
-- LUKS2 header; or a LUKS1 header is there, accepted or not
abbrev pub Leads : List ℕ → RebuildFault → Type 0
Leads h fault.NoMetadata = version_of h ≢ 2
Leads h fault.Counts = HasMagic h × (version_of h ≡ 1)
Leads h f = ⊥

pub record LeadsToLuks1 (v : List ℕ) (f : RebuildFault) : Type 0 where
  pub long : luks1_size ≤ length v
  pub leads : Leads (header_of v) f

-- the volume has such a fault, whatever else is given and however long the target is
pub record MayBeLuks1 (v : List ℕ) (which : Which) : Type 0 where
  pub fault : RebuildFault
  pub is : IsRebuildFault v which None 0 [] fault
  pub leads : LeadsToLuks1 v fault

-- LUKS2 answers, and where that leads to LUKS1 the volume lacks a header of it
abbrev pub StaysLuks2 : List ℕ → Answer → Type 0
StaysLuks2 v (Refused (Rebuild f)) = LeadsToLuks1 v f → LacksHeader (header_of v) (length v)
StaysLuks2 v a = Unit {0}

-- LUKS1 answers
pub record TurnsToLuks1 (tells : Type 0) (which : Which) (given : Option (List ℕ)) (random : List ℕ) (luks1 : Given) (d : Pair) (a : Answer) : Type 0 where
  pub fault : RebuildFault
  pub first : tells → IsAnsweredFault d.volume which given d.total random fault
  pub leads : tells → LeadsToLuks1 d.volume fault
  pub is : IsLuks1Answer tells luks1 d a
  pub has_header : a ≢ Refused (Rebuild1 fault1.NoHeader)

-- ---- by what is meant

abbrev pub KeepsMeant : Meant → Rebuilding → Given → List ℕ → List ℕ → List ℕ → Type 0
KeepsMeant Luks1 r given volume old new = KeepsRest1 given volume old new
KeepsMeant Luks2 r given volume old new = KeepsRest2 (copies_asked r) volume old new
KeepsMeant Either r given volume old new =
    KeepsRest2 (copies_asked r) volume old new ⊎ (MayBeLuks1 volume (copies_asked r) × KeepsRest1 given volume old new)

pub record KeepsGiven (r : Rebuilding) (volume old new : List ℕ) : Type 0 where
  pub given : Given
  pub is : IsGiven r given
  pub keeps : KeepsMeant (meant_by r) r given volume old new

-- nothing of the target has changed, or what may have; where no passphrase is named
abbrev pub KeepsRest : Rebuilding → List ℕ → List ℕ → List ℕ → Type 0
KeepsRest r volume old new = (new ≡ old) ⊎ KeepsGiven r volume old new

abbrev pub IsAnswerOf : Meant → Type 0 → Rebuilding → Given → List ℕ → Pair → Answer → Type 0
IsAnswerOf Luks1 tells r given random d a = IsLuks1Answer tells given d a
IsAnswerOf Luks2 tells r given random d a = IsLuks2Answer tells (copies_asked r) (given_of r) random d a
IsAnswerOf Either tells r given random d a =
    (IsLuks2Answer tells (copies_asked r) (given_of r) random d a × (tells → StaysLuks2 d.volume a))
    ⊎ TurnsToLuks1 tells (copies_asked r) (given_of r) random given d a

-- what is answered where no passphrase is named
pub record IsRebuildAnswer (tells : Type 0) (r : Rebuilding) (random : List ℕ) (d : Pair) (a : Answer) : Type 0 where
  pub given : Given
  pub is : IsGiven r given
  pub says : IsAnswerOf (meant_by r) tells r given random d a
