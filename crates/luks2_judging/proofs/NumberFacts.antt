-- The number of a keyslot that is made is free, and there is one.
use Rattle.std.proofs.Common.{◌≡◌, ℕ, Option, Some, None, arith, subst, sym}
use Rattle.serde_json.specs.Data.{Data as Value}
use Rattle.luks2_edit_laws.specs.Metadata.{IsInUse}
use Rattle.luks2_edit_laws.specs.Refused.{HasNoNumber, IsNumberTaken}
use Rattle.luks2_judging.specs.Judged.{IsNewNumber}
use Rattle.luks2_judging.proofs.KeyslotFacts.{used_or_free}

pub new_untaken : (j : Value) (to : Option ℕ) (n : ℕ) → IsNewNumber j to n → IsNumberTaken j to → ⊥
new_untaken j (Some t) n x taken = used_or_free j n (subst (λ k. IsInUse j k) (sym x.is_new) taken) x.free
new_untaken j None n x taken = taken

pub new_numbered : (j : Value) (to : Option ℕ) (n : ℕ) → IsNewNumber j to n → HasNoNumber j to → ⊥
new_numbered j (Some t) n x over = let small = x.free.small in let same : n ≡ t = x.is_new in omega (arith, small, same, over)
new_numbered j None n x over = over n x.free

-- where there is no number, none is taken
pub unnumbered_untaken : (j : Value) (to : Option ℕ) → HasNoNumber j to → IsNumberTaken j to → ⊥
unnumbered_untaken j (Some t) over taken = let low = taken.0 in omega (arith, low, over)
unnumbered_untaken j None over taken = taken
