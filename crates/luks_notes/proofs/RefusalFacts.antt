-- Whether a set of refusals has a first one.
use Rattle.std.proofs.Common.{◌≡◌, ◌≢◌, Bool, true, false, Option, Some, None, is_some, sym, ◌∙◌}
use Rattle.luks_reading.specs.declared.open_fault.OpenFault.{OpenFault}
use Rattle.luks_reading.specs.Answer.{FirstRefusal}

apart : false ≡ true → ⊥
apart is = cc

-- where it is none, no fault is the first
pub none_first : (refusals : OpenFault → Type 0) (r : Option OpenFault) → is_some r ≡ false → FirstRefusal refusals r
    → (f : OpenFault) → FirstRefusal refusals (Some f) → ⊥
none_first refusals None is none f first = none f first.0
none_first refusals (Some g) is first f other = apart (sym is)

-- where it is one, there is a fault
pub some_first : (refusals : OpenFault → Type 0) (r : Option OpenFault) → is_some r ≡ true → FirstRefusal refusals r
    → FirstRefusal refusals None → ⊥
some_first refusals (Some f) is first none = none f first.0
some_first refusals None is first none = apart is

-- the first one
pub first_of : (refusals : OpenFault → Type 0) (r : Option OpenFault) → is_some r ≡ true → FirstRefusal refusals r
    → (f : OpenFault) × FirstRefusal refusals (Some f)
first_of refusals (Some f) is first = (f, first)
first_of refusals None is first = absurd (apart is)

-- or none
pub none_of : (refusals : OpenFault → Type 0) (r : Option OpenFault) → is_some r ≡ false → FirstRefusal refusals r → FirstRefusal refusals None
none_of refusals None is none = none
none_of refusals (Some f) is first = absurd (apart (sym is))
