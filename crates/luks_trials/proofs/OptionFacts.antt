-- What is said of a value where there is none, and of one that is told otherwise.
use Rattle.std.proofs.Common.{◌≡◌, ◌↔◌, ℕ, Option, Some, None, Result, Ok, Err, IfNone, IfOk, Bool, IsTrue, is_some, false}

pub none_of : {A : Type 0} (o : Option A) (X : Type 0) → o ≡ None → IfNone o X → X
none_of None X is x = x
none_of (Some y) X is x = absurd (cc)

pub none_where : {A : Type 0} (o : Option A) (X : Type 0) → is_some o ≡ false → IfNone o X → X
none_where None X is x = x
none_where (Some y) X is x = absurd (cc)

-- what is told of one thing is told of another that holds alike
pub told_by : {F : Type 0} (r : Result (Option ℕ) F) (A B : Type 0) → A ↔ B → IfOk r (λ bits. (bits ≡ Some 0) ↔ A) → IfOk r (λ bits. (bits ≡ Some 0) ↔ B)
told_by (Ok bits) A B same told = ((λ e. same.0 (told.0 e)), (λ x. told.1 (same.1 x)))
told_by (Err f) A B same told = tt

-- what is told to open isn't told to be shut
pub shut_by : {F : Type 0} (r : Result Bool F) (X Y : Type 0) → IfOk r (λ is. IsTrue is ↔ X) → IfOk r (λ is. X → (IsTrue is → ⊥) → Y)
shut_by (Ok b) X Y same = λ x no. absurd (no (same.1 x))
shut_by (Err f) X Y same = tt
