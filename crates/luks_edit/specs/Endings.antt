-- How an edit ends that isn't done: it is refused, memory is wanting, or the device fails.
use Rattle.std.proofs.Common.{◌≡◌, ◌≢◌, ◌⊎◌, Bool, true, false, refl, sym, inl, inr}
use Rattle.std.proofs.lemmas.Bool.{false≢true}
use Rattle.luks_edit.specs.declared.edit_fault.EditFault.{EditFault}
use Rattle.luks_edit.specs.declared.edit_fault.EditFault.TheVariants as fault
use Rattle.luks_edit.specs.EditFaults.{is_edit_failure}

-- the fault tells a refusal: neither a failed allocation nor the device's failure
abbrev pub is_refusal : EditFault → Bool
is_refusal fault.Memory = false
is_refusal fault.Device = false
is_refusal f = true

-- an edit ends by this fault: `refused` says what a refusal by it is and leaves, `wanting` what want
-- of memory leaves, `failed` what the device's failure leaves
abbrev pub EndsBy : (EditFault → Type 0) → Type 0 → Type 0 → EditFault → Type 0
EndsBy refused wanting failed fault.Memory = wanting
EndsBy refused wanting failed fault.Device = failed
EndsBy refused wanting failed f = refused f

-- ---- facts: a clause for all other faults is checked for each of them, so none lists all

-- the three endings
abbrev pub Ending : EditFault → Type 0
Ending f = (is_refusal f ≡ true) ⊎ ((f ≡ fault.Memory) ⊎ (f ≡ fault.Device))

pub ending : (f : EditFault) → Ending f
ending fault.Memory = inr (inl refl)
ending fault.Device = inr (inr refl)
ending f = inl refl

-- what isn't one of the other two is a refusal
pub refusing : (f : EditFault) → f ≢ fault.Memory → is_edit_failure f ≡ false → is_refusal f ≡ true
refusing fault.Memory other own = absurd (other refl)
refusing fault.Device other own = absurd (false≢true (sym own))
refusing f other own = refl

-- an ending is made of a refusal, and is one where the fault tells one
module _ (R : EditFault → Type 0) (M D : Type 0) where
  pub refused_ends : (f : EditFault) → is_refusal f ≡ true → R f → EndsBy R M D f
  refused_ends fault.Memory is x = absurd (false≢true is)
  refused_ends fault.Device is x = absurd (false≢true is)
  refused_ends f is x = x

  pub refused_of : (f : EditFault) → is_refusal f ≡ true → EndsBy R M D f → R f
  refused_of fault.Memory is x = absurd (false≢true is)
  refused_of fault.Device is x = absurd (false≢true is)
  refused_of f is x = x

-- an ending is one by other statements that follow from its own
pub EndsBy-map : (R S : EditFault → Type 0) (M N D E : Type 0) (f : EditFault)
    → (is_refusal f ≡ true → R f → S f) → (M → N) → (D → E) → EndsBy R M D f → EndsBy S N E f
EndsBy-map R S M N D E fault.Memory refused wanting failed x = wanting x
EndsBy-map R S M N D E fault.Device refused wanting failed x = failed x
EndsBy-map R S M N D E f refused wanting failed x = refused refl x
