-- What opening answers by a header that was read.
use Rattle.std.specs.Prelude.{◌≡◌, ◌≢◌, ℕ, List, length, Option, Result, IfOk, IfErr, IfSome}
use Rattle.serde_json.specs.Data.{Data as Value}
use Rattle.luks2_header.specs.Header2.{uuid_field}
use Rattle.luks_slot.specs.declared.allowed.Allowed.{Allowed}
use Rattle.luks_reading.specs.declared.header.Header.{Header}
use Rattle.luks_reading.specs.declared.open_fault.OpenFault.{OpenFault}
use Rattle.luks_reading.specs.declared.open_fault.OpenFault.TheVariants.{Memory}
use Rattle.luks_reading.specs.Answer.{opened_to, AnswerWithin, IsRefusedByWithin, TakesMemory}
use Rattle.luks_reading.specs.ChosenCopies.{IsCleared}
use Rattle.luks_reading.specs.Header.{IsHeader}
use Rattle.luks_reading.specs.KeyslotsTried.{Luks2LacksMemory, Luks2Tries}
use Rattle.luks_reading.specs.PlanAnswers.{IsOfDevice}
use Rattle.luks_reading.specs.Plans.{HasKeyBytes, HasLuks2KeyBytes}
use Rattle.luks_reading.specs.Unlocking.{IsVolumeRefusedBy, Unlocks}

-- In these, so much is `allowed`, the passphrase is `p`, and the device has the bytes `v` where it `tells`
-- them. Memory is refused only to a keyslot that takes it, and to none where none is allowed.

-- the result of opening the keyslot `n` by the header that was read
pub record IsSlotOpening (tells : Type 0) (v : List ℕ) (header : Header) (allowed : Allowed) (n : ℕ) (p : List ℕ) (result : Result (Option (List ℕ)) OpenFault) : Type 0 where
  pub opens : tells → IsHeader v header → IfOk result (λ found. AnswerWithin allowed v n p (opened_to found))
  pub refused : tells → IsHeader v header → IfErr result (IsRefusedByWithin allowed v n p)
  pub key_bytes : IfOk result (λ found. IfSome found (λ key. HasKeyBytes header n (length key)))
  pub memory : tells → IsHeader v header → IfErr result (λ f. f ≡ Memory → TakesMemory allowed v n)
  pub no_memory : allowed.memory ≡ 0 → IfErr result (λ f. f ≢ Memory)

-- the result of opening a volume by the header that was read
pub record IsHeaderUnlocking (tells : Type 0) (v : List ℕ) (header : Header) (allowed : Allowed) (p : List ℕ) (result : Result (Option (ℕ × List ℕ)) OpenFault) : Type 0 where
  pub unlocks : tells → IsHeader v header → IfOk result (Unlocks allowed v p)
  pub refused : tells → IsHeader v header → IfErr result (IsVolumeRefusedBy v)
  pub key_bytes : IfOk result (λ found. IfSome found (λ opened. HasKeyBytes header opened.0 (length opened.1)))
  pub memory : tells → IsHeader v header → IfErr result (λ f. f ≡ Memory → (n : ℕ) × TakesMemory allowed v n)
  pub no_memory : allowed.memory ≡ 0 → IfErr result (λ f. f ≢ Memory)

-- the result of trying keyslots of a volume of `total` bytes with the metadata `j`: a fault is the device's, or
-- memory was refused
pub record Luks2Fails {T : Type 0} (allowed : Allowed) (total : ℕ) (j : Value) (result : Result T OpenFault) : Type 0 where
  pub kinds : IfErr result IsOfDevice
  pub memory : (b json : List ℕ) → IsCleared (uuid_field b) json j → IfErr result (Luks2LacksMemory allowed b json total)
  pub no_memory : allowed.memory ≡ 0 → IfErr result (λ f. f ≢ Memory)

-- the result of trying these keyslots of the metadata `j` in their order
pub record IsLuks2Unlocking (tells : Type 0) (v : List ℕ) (j : Value) (allowed : Allowed) (p order : List ℕ) (result : Result (Option (ℕ × List ℕ)) OpenFault) : Type 0 where
  pub tries : tells → (b json : List ℕ) → IsCleared (uuid_field b) json j → IfOk result (Luks2Tries allowed b json v p order)
  pub key_bytes : IfOk result (λ found. IfSome found (λ opened. HasLuks2KeyBytes j opened.0 (length opened.1)))
