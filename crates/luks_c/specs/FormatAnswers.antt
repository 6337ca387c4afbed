-- What the calls answer that make a volume.
use Rattle.std.specs.Prelude.{◌≡◌, ◌⊎◌, ℕ, ◌*◌, ◌≤◌, List, Option, Bool, true}
use Rattle.luks_area.specs.First.{IsLeast}
use Rattle.luks_area.specs.Ranges.{SameBut}
use Rattle.luks_kdf.specs.declared.hash_name.HashName.{HashName}
use Rattle.luks_kdf.specs.declared.hash_name.HashName.TheVariants.{Sha1, Sha256, Sha512}
use Rattle.luks_slot.specs.declared.allowed.Allowed.{Allowed}
use Rattle.luks_reading.specs.declared.format.Format.{Format}
use Rattle.luks_making.specs.Derivations.{memory_by}
use Rattle.luks_making.specs.declared.derivation.NewDerivation.{NewDerivation}
use Rattle.luks_reading.specs.Answer.{AnswerWithin, opens}
use Rattle.luks_reading.specs.Checked.{WellFormed}
use Rattle.luks_reading.specs.declared.report.Data.TheVariants.{Here}
use Rattle.luks_formatting.specs.declared.format_fault.FormatFault.{FormatFault}
use Rattle.luks_formatting.specs.Deriving.{allowed_for, slot_derivation}
use Rattle.luks_formatting.specs.Encrypting.{is_older}
use Rattle.luks_formatting.specs.FormatFaults.{format_key, HasNoFault, IsFormat1FaultAs, IsFormat2FaultAs}
use Rattle.luks_formatting.specs.Formatted1.{IsFormatted1As}
use Rattle.luks_formatting.specs.Formatted2.{IsFormatted2As}
use Rattle.luks_formatting.specs.Given.{key_of, IsBefore}
use Rattle.luks_formatting.specs.NewHeader1.{payload_sector}
use Rattle.luks_formatting.specs.NewHeader2.{segment_start}
use Rattle.luks_formatting.specs.declared.given.Given.{Given}
use Rattle.luks_given.specs.Parts.{AreNoParts}
use Rattle.luks_given.specs.declared.parts.Part.{Part}
use Rattle.luks_c_answers.specs.ChoiceAsked.{IsChoice}
use Rattle.luks_c_answers.specs.declared.asking.LuksDerivation.{LuksDerivation}
use Rattle.luks_c_answers.specs.declared.plans.LuksPlan.{LuksPlan}
use Rattle.luks_c_answers.specs.Numbers.{format_number}
use Rattle.luks_c_answers.specs.Plans.{AnswersPlan, Buffers}
use Rattle.luks_c_headers.specs.RebuildAnswers.{IsNoText}
use Rattle.luks_c.specs.GivenAsked.{IsNoCipher}

-- a hash by its number
abbrev pub hash_number : HashName → ℕ
hash_number Sha1 = 1
hash_number Sha256 = 2
hash_number Sha512 = 3

-- the volume is made so by these numbers
pub record IsFormat (hash iterations : ℕ) (format : Format) : Type 0 where
  pub hash_is : hash_number format.hash ≡ hash
  pub iterations_are : format.iterations ≡ iterations

-- no hash has this number
abbrev pub IsNoHash : ℕ → Type 0
IsNoHash number = (h : HashName) → hash_number h ≡ number → ⊥

-- done, it leaves a volume `w` of LUKS1 that keyslot 0 opens by the passphrase to the key that is given, or is made of the random
-- bytes; where the payload lies on it, no byte of that is another
pub record IsMade1 (given : Given) (format : Format) (passphrase random old : List ℕ) (number : ℕ) (w : List ℕ) : Type 0 where
  pub is : IsFormatted1As given format passphrase random old w
  pub well_formed : WellFormed w given.payload
  pub opened : (allowed : Allowed) → (is_older given.cipher ≡ true → allowed.older ≡ true) → AnswerWithin allowed w 0 passphrase (opens (key_of given random))
  pub payload : given.payload ≡ Here → SameBut (IsBefore (512 * payload_sector given)) old w
  pub slot : number ≡ 0

-- one of LUKS2, whose keyslot 0 is derived as is chosen, and opens wherever as much memory is allowed as it takes, with
-- older ciphers and hashes or without
pub record IsMade2 (given : Given) (format : Format) (chosen : Option NewDerivation) (passphrase random old : List ℕ) (number : ℕ) (w : List ℕ) : Type 0 where
  pub is : IsFormatted2As given format chosen passphrase random old w
  pub well_formed : WellFormed w given.payload
  pub opened : (allowed : Allowed) → memory_by (slot_derivation format chosen) ≤ allowed.memory → (is_older given.cipher ≡ true → allowed.older ≡ true)
      → AnswerWithin allowed w 0 passphrase (opens (key_of given random))
  pub payload : given.payload ≡ Here → SameBut (IsBefore (segment_start given)) old w
  pub slot : number ≡ 0

-- the first of the faults has this number
pub record IsFirstOf (faults : FormatFault → Type 0) (number : ℕ) : Type 0 where
  pub fault : FormatFault
  pub least : IsLeast format_key faults fault
  pub is : number ≡ format_number fault

-- as of each call that writes by a plan: none of the faults stands, or this is the first
abbrev pub AnswersFormat : List Part → List ℕ → (FormatFault → Type 0) → (List ℕ → Type 0) → Buffers → Buffers → LuksPlan → ℕ → Type 0
AnswersFormat parts v faults = AnswersPlan parts v (HasNoFault faults) (IsFirstOf faults)

-- of a LUKS1 volume, whose cipher may be one of older disks or not
abbrev pub AnswersFormat1 : List Part → List ℕ → ℕ → Given → Bool → Format → List ℕ → List ℕ → Buffers → Buffers → LuksPlan → ℕ → Type 0
AnswersFormat1 parts v total given older format passphrase random old new told number =
    AnswersFormat parts v (IsFormat1FaultAs given older total format random)
    (IsMade1 given format passphrase random v told.slot) old new told number

-- of a LUKS2 volume, by the derivation that is chosen, with what is allowed of its keyslot
abbrev pub AnswersFormat2 : List Part → List ℕ → ℕ → Given → Format → Option NewDerivation → Allowed → List ℕ → List ℕ → Buffers → Buffers → LuksPlan → ℕ → Type 0
AnswersFormat2 parts v total given format chosen allowed passphrase random old new told number =
    AnswersFormat parts v (IsFormat2FaultAs given allowed.older chosen (allowed_for allowed.memory passphrase) total format random)
    (IsMade2 given format chosen passphrase random v told.slot) old new told number

-- made by these numbers, with what is given
pub record AnswersNumbered (hash iterations : ℕ) (is_given : Given → Type 0) (answers : Given → Format → Type 0) : Type 0 where
  pub given : Given
  pub given_is : is_given given
  pub format : Format
  pub is : IsFormat hash iterations format
  pub so : answers given format

-- and by the derivation that is chosen
pub record AnswersChosen (asked : LuksDerivation) (answers : Option NewDerivation → Type 0) : Type 0 where
  pub chosen : Option NewDerivation
  pub choice : IsChoice asked chosen
  pub so : answers chosen

-- by these numbers and texts nothing can be made over these ranges
abbrev pub IsUnmade : List Part → List ℕ → ℕ → ℕ → ℕ → List ℕ → List ℕ → List ℕ → Type 0
IsUnmade parts held total hash cipher uuid label subsystem =
    IsNoCipher cipher ⊎ ((AreNoParts parts held total ⊎ IsNoHash hash) ⊎ (IsNoText uuid ⊎ (IsNoText label ⊎ IsNoText subsystem)))
