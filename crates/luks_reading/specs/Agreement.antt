-- When the result of an opening agrees with an answer.
use Rattle.std.specs.Prelude.{◌≡◌, ℕ, List, Option, Some, None, Result, MatchResult, ⊤}
use Rattle.luks_reading.specs.declared.open_fault.OpenFault.{OpenFault}
use Rattle.luks_reading.specs.declared.open_fault.OpenFault.TheVariants.{Device, Memory}
use Rattle.luks_reading.specs.Answer.{open_key, Opened, refused, opens, no_key}
use Rattle.luks_reading.specs.PlanAnswers.{IsOfDevice}
use Rattle.luks_reading.specs.Unlocking.{Unlocked, locked, gives}

-- the two faults are one refusal, unless the device failed or memory was refused
abbrev pub IsSameRefusal : OpenFault → OpenFault → Type 0
IsSameRefusal g Device = ⊤
IsSameRefusal g Memory = ⊤
IsSameRefusal g f = open_key g ≡ open_key f

-- the result is that answer, unless the device failed or memory was refused
abbrev pub Agrees : Opened → Result (Option (List ℕ)) OpenFault → Type 0
Agrees (opens k) result = MatchResult result (λ found. found ≡ Some k) IsOfDevice
Agrees no_key result = MatchResult result (λ found. found ≡ None) IsOfDevice
Agrees (refused g) result = MatchResult result (λ _. ⊥) (IsSameRefusal g)

-- the same of opening a volume
abbrev pub AgreesUnlocked : Unlocked → Result (Option (ℕ × List ℕ)) OpenFault → Type 0
AgreesUnlocked (gives found) result = MatchResult result (λ other. other ≡ found) IsOfDevice
AgreesUnlocked (locked g) result = MatchResult result (λ _. ⊥) (IsSameRefusal g)

-- ---- two answers are one; of refusals it is their key that is one

abbrev pub IsSameAnswer : Opened → Opened → Type 0
IsSameAnswer (opens k) (opens l) = k ≡ l
IsSameAnswer (opens k) no_key = ⊥
IsSameAnswer (opens k) (refused g) = ⊥
IsSameAnswer no_key (opens l) = ⊥
IsSameAnswer no_key no_key = ⊤
IsSameAnswer no_key (refused g) = ⊥
IsSameAnswer (refused f) (opens l) = ⊥
IsSameAnswer (refused f) no_key = ⊥
IsSameAnswer (refused f) (refused g) = open_key f ≡ open_key g

abbrev pub IsSameUnlocking : Unlocked → Unlocked → Type 0
IsSameUnlocking (gives found) (gives other) = found ≡ other
IsSameUnlocking (gives found) (locked g) = ⊥
IsSameUnlocking (locked f) (gives other) = ⊥
IsSameUnlocking (locked f) (locked g) = open_key f ≡ open_key g
