-- What is said of what is found, and of where nothing is.
use Rattle.std.proofs.Common.{◌≡◌, ◌↔◌, Bool, true, Option, Some, None, Result, Ok, Err, IfNone, IfOk, IfSome, IsTrue, subst}

pub some_of : {A : Type 0} (o : Option A) (x : A) (P : A → Type 0) → o ≡ Some x → IfSome o P → P x
some_of {A} o x P is p = subst (λ (q : Option A). IfSome q P) is p

pub none_at : {A : Type 0} (o : Option A) (X : Type 0) → o ≡ None → IfNone o X → X
none_at {A} o X is p = subst (λ (q : Option A). IfNone q X) is p

pub found_so : {A F : Type 0} (r : Result (Option A) F) (P Q : A → Type 0) → ((x : A) → P x → Q x) → IfOk r (λ o. IfSome o P) → IfOk r (λ o. IfSome o Q)
found_so (Ok (Some x)) P Q so p = so x p
found_so (Ok None) P Q so p = tt
found_so (Err f) P Q so p = tt

pub found_both : {A F : Type 0} (r : Result (Option A) F) (P R Q : A → Type 0) → ((x : A) → P x → R x → Q x) → IfOk r (λ o. IfSome o P) → IfOk r (λ o. IfSome o R)
    → IfOk r (λ o. IfSome o Q)
found_both (Ok (Some x)) P R Q so p q = so x p q
found_both (Ok None) P R Q so p q = tt
found_both (Err f) P R Q so p q = tt

pub none_so : {A F : Type 0} (r : Result (Option A) F) (X Y : Type 0) → (X → Y) → IfOk r (λ o. IfNone o X) → IfOk r (λ o. IfNone o Y)
none_so (Ok (Some x)) X Y so p = tt
none_so (Ok None) X Y so p = so p
none_so (Err f) X Y so p = tt

-- whatever is found
pub none_all : {A F : Type 0} (r : Result (Option A) F) (X : Type 0) → X → IfOk r (λ o. IfNone o X)
none_all (Ok (Some a)) X x = tt
none_all (Ok None) X x = x
none_all (Err f) X x = tt

pub some_so : {A : Type 0} (o : Option A) (P Q : A → Type 0) → ((x : A) → P x → Q x) → IfSome o P → IfSome o Q
some_so (Some x) P Q so p = so x p
some_so None P Q so p = tt

-- of an answer that is yes
pub yes_so : {F : Type 0} (r : Result Bool F) (X : Type 0) → IfOk r (λ is. IsTrue is ↔ X) → IfOk r (λ is. is ≡ true → X)
yes_so (Ok b) X same = λ yes. same.0 yes
yes_so (Err f) X same = tt

pub yes_all : {F : Type 0} (r : Result Bool F) (X : Type 0) → X → IfOk r (λ is. is ≡ true → X)
yes_all (Ok b) X x = λ yes. x
yes_all (Err f) X x = tt
