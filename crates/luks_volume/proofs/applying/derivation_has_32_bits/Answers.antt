use Rattle.std.proofs.Common.{subst}
use Rattle.std.specs.Prelude.{IfSome}
use Rattle.luks_making.specs.Derivations.{FitsAsked}
use Rattle.luks_edit.specs.Asked.{sealed_in}
use Rattle.luks_volume.proofs.applying.derivation_has_32_bits.Goals as goal

pub returns-in-Seal : goal.returns-in-Seal
returns-in-Seal c = subst (λ d. IfSome (sealed_in d) (λ s. FitsAsked s.derivation)) c.in-Seal.ensures c.asked_fits.ensures

pub returns-in-Remove : goal.returns-in-Remove
returns-in-Remove c = subst (λ d. IfSome (sealed_in d) (λ s. FitsAsked s.derivation)) c.in-Remove.ensures tt

pub returns-in-Rewrite : goal.returns-in-Rewrite
returns-in-Rewrite c = subst (λ d. IfSome (sealed_in d) (λ s. FitsAsked s.derivation)) c.in-Rewrite.ensures tt

pub returns-in-Erase : goal.returns-in-Erase
returns-in-Erase c = subst (λ d. IfSome (sealed_in d) (λ s. FitsAsked s.derivation)) c.in-Erase.ensures tt
