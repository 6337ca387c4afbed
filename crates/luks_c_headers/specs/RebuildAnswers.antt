-- What the calls answer that make a header of what is still whole.
use Rattle.std.specs.Prelude.{◌≡◌, ◌≢◌, ◌↔◌, ◌==◌, ℕ, ◌<◌, ◌≤◌, List, length, if◌then◌else◌, Bool, true, false, Option, None, Some, IsUtf8}
use Rattle.arrayvec.specs.ArrayString.{ArrayString}
use Rattle.luks_area.specs.First.{IsLeast}
use Rattle.luks_slot.specs.declared.allowed.Allowed.{Allowed}
use Rattle.luks_reading.specs.Answer.{AnswerWithin, Opened}
use Rattle.luks_reading.specs.Checked.{WellFormed}
use Rattle.luks_reading.specs.declared.report.Data.TheVariants.{Elsewhere}
use Rattle.luks_rebuilding.specs.Candidates.{OfTaken}
use Rattle.luks_rebuilding.specs.Gives.{Gives}
use Rattle.luks_rebuilding.specs.Outcome.{IsRebuildable, IsRebuildFault}
use Rattle.luks_rebuilding.specs.RebuildFaults.{rebuild_key}
use Rattle.luks_rebuilding.specs.Rebuilt.{IsRebuilt}
use Rattle.luks_rebuilding.specs.declared.place.Which.{Which}
use Rattle.luks_rebuilding.specs.declared.place.Copies.{Copies}
use Rattle.luks_rebuilding.specs.declared.place.Copies.TheVariants.{Any, Second, OfSize, SecondOfSize}
use Rattle.luks_rebuilding.specs.declared.place.Effort.TheVariants.{Usual}
use Rattle.luks_rebuilding.specs.declared.rebuild_fault.RebuildFault.{RebuildFault}
use Rattle.luks1_mending.specs.declared.given.Given.{Given}
use Rattle.luks1_rebuilding.specs.Gives.{Gives as GivesKept}
use Rattle.luks1_rebuilding.specs.KeyAreas.{IsKeptInUse}
use Rattle.luks1_rebuilding.specs.Outcome.{IsRebuildable as IsRebuildable1, IsRebuildFault as IsRebuild1Fault}
use Rattle.luks1_rebuilding.specs.RebuildFaults.{rebuild_key as rebuild1_key}
use Rattle.luks1_rebuilding.specs.Rebuilt.{IsRebuilt as IsRebuilt1}
use Rattle.luks1_rebuilding.specs.declared.rebuild_fault.Rebuild1Fault.{Rebuild1Fault}
use Rattle.luks_given.specs.declared.parts.Part.{Part}
use Rattle.luks_c_answers.specs.declared.plans.LuksPlan.{LuksPlan}
use Rattle.luks_c_answers.specs.Numbers.{rebuild_number, rebuild1_number}
use Rattle.luks_c_answers.specs.Plans.{AnswersPlan, Buffers}

-- ---- a LUKS2 header, of metadata

-- the copies that are asked for: second ones alone or any, of this size or, where it is 0, of any
abbrev pub copies_of : Bool → ℕ → Copies
copies_of false size = if size == 0 then Any else (OfSize size)
copies_of true size = if size == 0 then Second else (SecondOfSize size)

-- what their checksums vouch for is sought as the command does that isn't asked to be thorough
abbrev pub which_asked : Bool → ℕ → Which
which_asked second size = record { copies = copies_of second size; effort = Usual }

-- the uuid that is given: a text; or none, where it has no byte
abbrev pub IsMaybeText : List ℕ → Option (List ℕ) → Type 0
IsMaybeText bytes None = length bytes ≡ 0
IsMaybeText bytes (Some text) = (0 < length bytes) × IsUtf8 bytes × (text ≡ bytes)

-- it is neither
abbrev pub IsNoText : List ℕ → Type 0
IsNoText bytes = (text : Option (List ℕ)) → IsMaybeText bytes text → ⊥

-- `w` is the target `old` with the header that is made of the metadata of the volume `v` that is taken: each keyslot gives
-- what the equations give for that metadata and the bytes of its key area
pub record IsRebuiltTo (v : List ℕ) (which : Which) (given : Option (List ℕ)) (random old w : List ℕ) : Type 0 where
  pub rebuilt : IsRebuilt v which given random old w
  pub well_formed : WellFormed w Elsewhere
  pub opens : OfTaken v which (λ taken. (allowed : Allowed) (n : ℕ) (p : List ℕ) (a : Opened) → Gives allowed taken.json v n p a ↔ AnswerWithin allowed w n p a)

-- the first of the faults has this number
pub record IsUnbuiltBy (v : List ℕ) (which : Which) (given : Option (List ℕ)) (total : ℕ) (random : List ℕ) (number : ℕ) : Type 0 where
  pub fault : RebuildFault
  pub least : IsLeast rebuild_key (IsRebuildFault v which given total random) fault
  pub is : number ≡ rebuild_number fault

-- of the source `v`, and the target `t` of `total` bytes, of which these ranges are given
abbrev pub AnswersRebuild : List ℕ → Which → Option (List ℕ) → List Part → List ℕ → ℕ → List ℕ → Buffers → Buffers → LuksPlan → ℕ → Type 0
AnswersRebuild v which given parts t total random = AnswersPlan parts t (IsRebuildable v which given total random)
    (IsUnbuiltBy v which given total random) (IsRebuiltTo v which given random t)

-- with the uuid of these bytes
pub record AnswersWithUuid (bytes : List ℕ) (answers : Option (List ℕ) → Type 0) : Type 0 where
  pub uuid : Option (List ℕ)
  pub is : IsMaybeText bytes uuid
  pub so : answers uuid

-- ---- a LUKS1 header, of its fields and keyslots

-- the text that is given for a field with room for so many bytes; or none, where it has no byte
abbrev pub IsMaybeField : ℕ → List ℕ → Option ArrayString → Type 0
IsMaybeField room bytes None = length bytes ≡ 0
IsMaybeField room bytes (Some text) = (0 < length bytes) × IsUtf8 bytes × (length bytes ≤ room) × (text.bytes ≡ bytes)

-- the number that is given; or none, where it is 2^32 - 1
abbrev pub IsMaybeNumber : ℕ → Option ℕ → Type 0
IsMaybeNumber number None = number ≡ 4294967295
IsMaybeNumber number (Some n) = (number ≢ 4294967295) × (n ≡ number)

-- what is given of a header, by these bytes and numbers
pub record IsGivenBy (cipher_name cipher_mode hash uuid : List ℕ) (key_bytes payload : ℕ) (given : Given) : Type 0 where
  pub cipher_name_is : IsMaybeField 32 cipher_name given.cipher_name
  pub cipher_mode_is : IsMaybeField 32 cipher_mode given.cipher_mode
  pub hash_is : IsMaybeField 32 hash given.hash
  pub uuid_is : IsMaybeField 40 uuid given.uuid
  pub key_bytes_is : IsMaybeNumber key_bytes given.key_bytes
  pub payload_is : IsMaybeNumber payload given.payload

-- nothing is: a text is none, or longer than its field
abbrev pub IsNoneGivenBy : List ℕ → List ℕ → List ℕ → List ℕ → ℕ → ℕ → Type 0
IsNoneGivenBy cipher_name cipher_mode hash uuid key_bytes payload =
    (given : Given) → IsGivenBy cipher_name cipher_mode hash uuid key_bytes payload given → ⊥

-- `w` is the target `old` with the header that is made of what is in the volume `v`: each kept keyslot that is in use
-- gives what the equations give for its entry, its area and the digest
pub record IsRebuilt1To (v : List ℕ) (given : Given) (old w : List ℕ) : Type 0 where
  pub rebuilt : IsRebuilt1 v given old w
  pub well_formed : WellFormed w Elsewhere
  pub opens : (allowed : Allowed) (n : ℕ) (p : List ℕ) (a : Opened) → IsKeptInUse v given n → GivesKept allowed.older v given n p a ↔ AnswerWithin allowed w n p a

-- the first of the faults has this number
pub record IsUnbuilt1By (v : List ℕ) (given : Given) (total number : ℕ) : Type 0 where
  pub fault : Rebuild1Fault
  pub least : IsLeast rebuild1_key (IsRebuild1Fault v given total) fault
  pub is : number ≡ rebuild1_number fault

-- of the source `v`, and the target `t` of `total` bytes, of which these ranges are given
abbrev pub AnswersRebuild1 : List ℕ → Given → List Part → List ℕ → ℕ → Buffers → Buffers → LuksPlan → ℕ → Type 0
AnswersRebuild1 v given parts t total = AnswersPlan parts t (IsRebuildable1 v given total) (IsUnbuilt1By v given total)
    (IsRebuilt1To v given t)

-- with what is given by these bytes and numbers
pub record AnswersWithFields (cipher_name cipher_mode hash uuid : List ℕ) (key_bytes payload : ℕ) (answers : Given → Type 0) : Type 0 where
  pub given : Given
  pub is : IsGivenBy cipher_name cipher_mode hash uuid key_bytes payload given
  pub so : answers given
