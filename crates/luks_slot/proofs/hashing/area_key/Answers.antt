use Rattle.std.proofs.Common.{◌≡◌, ◌∙◌, subst}
use Rattle.std.specs.Prelude.{IfOk}
use Rattle.luks_slot.specs.declared.parameters.KeyDerivation.TheVariants as known
use Rattle.luks_slot.specs.Parameters.{IsDerivation}
use Rattle.luks_slot.proofs.DerivationFacts.{keyed_by_argon2, keyed_by_pbkdf2}
use Rattle.luks_slot.proofs.hashing.area_key.Goals as goal

pub returns-in-Pbkdf2-clause-key : goal.returns-in-Pbkdf2-clause-key
returns-in-Pbkdf2-clause-key c =
    let plan = c.args.plan.now in
    let is : IsDerivation plan.derivation (known.Pbkdf2 c.in-Pbkdf2.costs) = rw c.in-Pbkdf2.is at c.requires.parameters.derivation in
    c.pbkdf2_key.ensures
    ∙ keyed_by_pbkdf2 plan c.args.parameters.now.cipher c.in-Pbkdf2.costs c.args.passphrase.now c.requires.parameters.cipher is

pub returns-in-Argon2-clause-key : goal.returns-in-Argon2-clause-key
returns-in-Argon2-clause-key c =
    let plan = c.args.plan.now in
    let is : IsDerivation plan.derivation (known.Argon2 c.in-Argon2.costs) = rw c.in-Argon2.is at c.requires.parameters.derivation in
    subst (λ k. IfOk c.argon2_key.result (λ key. key ≡ k))
    (keyed_by_argon2 plan c.args.parameters.now.cipher c.in-Argon2.costs c.args.passphrase.now c.requires.parameters.cipher is)
    c.argon2_key.ensures.key
