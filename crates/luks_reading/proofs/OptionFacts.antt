-- What follows from a fact of the value, where there is one.
use Rattle.std.proofs.Common.{Option, Some, None, IfSome}

pub some_weaker : {A : Type 0} (o : Option A) (P Q : A → Type 0) → ((x : A) → P x → Q x) → IfSome o P → IfSome o Q
some_weaker (Some x) P Q step p = step x p
some_weaker None P Q step p = p
