use Rattle.std.proofs.Common.{◌∙◌, ap, Err}
use Rattle.std.proofs.lemmas.Result.{err_from_is_err_and}
use Rattle.luks_slot.specs.declared.parameters.KeyDerivation.TheVariants as known
use Rattle.luks_slot.specs.Allowance.{none_allowed}
use Rattle.luks_slot.specs.Parameters.{IsDerivation}
use Rattle.luks_slot.proofs.DerivationFacts.{answered_before, keyed_by_pbkdf2, refusal_answered, same_refusal}
use Rattle.luks_slot.proofs.sealing.seal.Goals as goal

pub returns-clause-sealed : goal.returns-clause-sealed
returns-clause-sealed g c tells =
    let plan = c.args.plan.now in
    let are = c.in_ok-parameters.ensures.are in
    let is : IsDerivation plan.derivation (known.Pbkdf2 c.in-Pbkdf2.costs) = rw c.in-Pbkdf2.is at are.derivation in
    c.in_ok-seal_under.ensures.sealed tells c.args.passphrase.now
    (c.pbkdf2_key-cipher_key.ensures
    ∙ keyed_by_pbkdf2 plan c.in_ok-parameters.parameters.cipher c.in-Pbkdf2.costs c.args.passphrase.now are.cipher is)

pub returns-clause-opens : goal.returns-clause-opens
returns-clause-opens g c tells =
    let plan = c.args.plan.now in
    let are = c.in_ok-parameters.ensures.are in
    let is : IsDerivation plan.derivation (known.Pbkdf2 c.in-Pbkdf2.costs) = rw c.in-Pbkdf2.is at are.derivation in
    c.in_ok-seal_under.ensures.opens tells c.args.passphrase.now
    (c.pbkdf2_key-cipher_key.ensures
    ∙ keyed_by_pbkdf2 plan c.in_ok-parameters.parameters.cipher c.in-Pbkdf2.costs c.args.passphrase.now are.cipher is)

pub returns-in_err-parameters-clause-refused : goal.returns-in_err-parameters-clause-refused
returns-in_err-parameters-clause-refused g c f is =
    let p = err_from_is_err_and c.from_residual.result c.from_residual.ensures.1 in
    rw (p.1, p.2) (ap Err (same_refusal c.args.plan.now f c.in_err-parameters.field-0.0 c.in_err-parameters.ensures.refused is))

pub returns-in_err-parameters-clause-fault : goal.returns-in_err-parameters-clause-fault
returns-in_err-parameters-clause-fault g c =
    let p = err_from_is_err_and c.from_residual.result c.from_residual.ensures.1 in
    let f = c.in_err-parameters.field-0.0 in
    rw (p.1, p.2) (answered_before c.args.plan.now f (refusal_answered none_allowed c.args.plan.now f c.in_err-parameters.ensures.refused))
