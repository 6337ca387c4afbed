-- The area that is written of metadata is accepted as well.
use Rattle.std.proofs.Common.{ℕ, List, Option, Some, None, Result, Ok, Err, IfOk, IfSome, subst, sym}
use Rattle.serde_json.specs.Data.{Data}
use Rattle.luks_making.specs.WrittenArea.{IsWrittenArea}
use Rattle.luks_rules.specs.Accepted.{IsContent, IsMeta}

pub written_accepted : (len : ℕ) (j : Data) (area : List ℕ) → IsContent len j → IsWrittenArea len j area → IsMeta area j
written_accepted len j area content written = record { json = written.json; content = subst (λ n. IsContent n j) (sym written.long) content }

-- what follows of what was made, if it was
pub some_then : {X F : Type 0} (r : Result (Option X) F) (P Q : X → Type 0) → IfOk r (λ o. IfSome o P) → ((x : X) → P x → Q x) → IfOk r (λ o. IfSome o Q)
some_then (Ok (Some x)) P Q p follows = follows x p
some_then (Ok None) P Q p follows = tt
some_then (Err f) P Q p follows = tt
