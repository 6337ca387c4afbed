-- The three endings of an opening's fault: the device failed, memory was refused, or the fault is the
-- volume's own. By this no fact goes by all faults.
use Rattle.std.proofs.Common.{◌≡◌, ◌≢◌, ℕ, List, true, false, Option, None, Result, Ok, Err, IfOk, IfErr, ◌⊎◌, inl, inr, refl, subst, sym}
use Rattle.luks_area.specs.First.{IsLeast}
use Rattle.luks_slot.specs.declared.allowed.Allowed.{Allowed}
use Rattle.luks_reading.specs.declared.open_fault.OpenFault.{OpenFault}
use Rattle.luks_reading.specs.declared.open_fault.OpenFault.TheVariants.{Device, Memory}
use Rattle.luks_reading.specs.Agreement.{IsSameRefusal}
use Rattle.luks_reading.specs.Answer.{open_key, AnswerWithin, IsRefusedByWithin, refused}
use Rattle.luks_reading.specs.Failures.{is_open_failure, is_own}
use Rattle.luks_reading.specs.Header.{NeedsMetadata}
use Rattle.luks_reading.specs.KeyslotsTried.{passed_over}
use Rattle.luks_reading.specs.Unlocking.{IsVolumeRefusal, IsVolumeRefusedBy}

-- what a fault of the volume's own is in the words of the contracts
pub record IsOwn (f : OpenFault) : Type 0 where
  pub no_failure : is_open_failure f ≡ false
  pub passed : passed_over f ≡ Ok None
  pub same : (g : OpenFault) → open_key g ≡ open_key f → IsSameRefusal g f
  pub own : is_own f ≡ true
  pub refuses : (allowed : Allowed) (v : List ℕ) (n : ℕ) (p : List ℕ) → AnswerWithin allowed v n p (refused f) → IsRefusedByWithin allowed v n p f
  pub refused : (allowed : Allowed) (v : List ℕ) (n : ℕ) (p : List ℕ) → IsRefusedByWithin allowed v n p f → AnswerWithin allowed v n p (refused f)
  pub locks : (v : List ℕ) → IsLeast open_key (IsVolumeRefusal v) f → IsVolumeRefusedBy v f
  pub locked : (v : List ℕ) → IsVolumeRefusedBy v f → IsLeast open_key (IsVolumeRefusal v) f

abbrev pub Ending : OpenFault → Type 0
Ending f = (f ≡ Device) ⊎ ((f ≡ Memory) ⊎ IsOwn f)

pub ending : (f : OpenFault) → Ending f
ending Device = inl refl
ending Memory = inr (inl refl)
ending other = inr (inr (record { no_failure = refl; passed = refl; same = λ g e. e; own = refl; refuses = λ allowed v n p x. x; refused = λ allowed v n p x. x; locks = λ v x. x; locked = λ v x. x }))

-- the device's failure is one fault
pub failed : (f : OpenFault) → is_open_failure f ≡ true → f ≡ Device
failed f x = elim (ending f) [
  | inl device ↦ device
  | inr other ↦ (elim other [
    | inl memory ↦ (let not = subst (λ g. is_open_failure g ≡ true) memory x in absurd (cc))
    | inr own ↦ (let not = own.no_failure in absurd (cc))
  ])
]

-- the first refusal, unless the device failed or memory was refused
pub refused_by : (allowed : Allowed) (v : List ℕ) (n : ℕ) (p : List ℕ) (f : OpenFault) → (is_own f ≡ true → AnswerWithin allowed v n p (refused f))
    → (f ≡ Memory → NeedsMetadata v) → IsRefusedByWithin allowed v n p f
refused_by allowed v n p f first needs = elim (ending f) [
  | inl device ↦ subst (IsRefusedByWithin allowed v n p) (sym device) tt
  | inr other ↦ (elim other [
    | inl memory ↦ subst (IsRefusedByWithin allowed v n p) (sym memory) (needs memory)
    | inr own ↦ own.refuses allowed v n p (first own.own)
  ])
]

pub locked_by : (v : List ℕ) (f : OpenFault) → (is_open_failure f ≡ false → IsLeast open_key (IsVolumeRefusal v) f)
    → (f ≡ Memory → NeedsMetadata v) → IsVolumeRefusedBy v f
locked_by v f first needs = elim (ending f) [
  | inl device ↦ subst (IsVolumeRefusedBy v) (sym device) tt
  | inr other ↦ (elim other [
    | inl memory ↦ subst (IsVolumeRefusedBy v) (sym memory) (needs memory)
    | inr own ↦ own.locks v (first own.no_failure)
  ])
]

-- what holds of no key holds of what trying a refused keyslot gives
pub passed : (P : Option (List ℕ) → Type 0) (f : OpenFault) → (is_open_failure f ≡ false → P None) → IfOk (passed_over f) P
passed P f none = elim (ending f) [
  | inl device ↦ subst (λ g. IfOk (passed_over g) P) (sym device) tt
  | inr other ↦ (elim other [
    | inl memory ↦ subst (λ g. IfOk (passed_over g) P) (sym memory) tt
    | inr own ↦ subst (λ r. IfOk r P) (sym own.passed) (none own.no_failure)
  ])
]

-- the same of the volume's own faults
pub passed_own : (P : Option (List ℕ) → Type 0) (f : OpenFault) → (is_own f ≡ true → P None) → IfOk (passed_over f) P
passed_own P f none = elim (ending f) [
  | inl device ↦ subst (λ g. IfOk (passed_over g) P) (sym device) tt
  | inr other ↦ (elim other [
    | inl memory ↦ subst (λ g. IfOk (passed_over g) P) (sym memory) tt
    | inr own ↦ subst (λ r. IfOk r P) (sym own.passed) (none own.own)
  ])
]

-- what holds of the failures of a keyslot holds of what ends the search
pub passed_ends : (P : OpenFault → Type 0) (f : OpenFault) → (f ≡ Device → P Device) → (f ≡ Memory → P Memory) → IfErr (passed_over f) P
passed_ends P f fails lacks = elim (ending f) [
  | inl device ↦ subst (λ g. IfErr (passed_over g) P) (sym device) (fails device)
  | inr other ↦ (elim other [
    | inl memory ↦ subst (λ g. IfErr (passed_over g) P) (sym memory) (lacks memory)
    | inr own ↦ subst (λ r. IfErr r P) (sym own.passed) tt
  ])
]

-- a fault that is neither is the volume's own
pub own_of : (f : OpenFault) → is_open_failure f ≡ false → f ≢ Memory → is_own f ≡ true
own_of f no_failure no_memory = elim (ending f) [
  | inl device ↦ (let fails = subst (λ g. is_open_failure g ≡ false) device no_failure in absurd (cc))
  | inr other ↦ (elim other [
    | inl memory ↦ absurd (no_memory memory)
    | inr own ↦ own.own
  ])
]

pub own_fault : (f : OpenFault) → is_own f ≡ true → is_open_failure f ≡ false
own_fault f x = elim (ending f) [
  | inl device ↦ (let own = subst (λ g. is_own g ≡ true) device x in absurd (cc))
  | inr other ↦ (elim other [
    | inl memory ↦ subst (λ g. is_open_failure g ≡ false) (sym memory) refl
    | inr own ↦ own.no_failure
  ])
]

-- what two facts of a fault give
pub both_errs : {T : Type 0} (r : Result T OpenFault) (P Q S : OpenFault → Type 0) → ((f : OpenFault) → P f → Q f → S f) → IfErr r P → IfErr r Q → IfErr r S
both_errs (Ok found) P Q S give x y = tt
both_errs (Err f) P Q S give x y = give f x y

-- of the faults of a keyslot of LUKS1 the device's failure alone ends the search
pub passed_fails : (f : OpenFault) → f ≢ Memory → IfErr (passed_over f) (λ g. is_open_failure g ≡ true)
passed_fails f no_memory = elim (ending f) [
  | inl device ↦ subst (λ g. IfErr (passed_over g) (λ h. is_open_failure h ≡ true)) (sym device) refl
  | inr other ↦ (elim other [
    | inl memory ↦ absurd (no_memory memory)
    | inr own ↦ subst (λ r. IfErr r (λ h. is_open_failure h ≡ true)) (sym own.passed) tt
  ])
]
