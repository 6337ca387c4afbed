use Rattle.std.proofs.Common.{subst, sym}
use Rattle.luks1_rebuilding.specs.Combinations.{IsCombination}
use Rattle.luks1_rebuilding.proofs.SameFacts.{none_all, opening_all}
use Rattle.luks1_rebuilding.proofs.trial.opening.try_number.Goals as goal

pub returns-in-Ok-clause-opens : goal.returns-in-Ok-clause-opens
returns-in-Ok-clause-opens g c = λ tells.
    opening_all (g.D.Device.bytes c.args.source.now) c.args.given.now c.args.passphrase.now c.args.number c.in-Ok.completed
    (subst (λ h. IsCombination h c.args.given.now c.args.number c.in-Ok.completed) (c.requires.header tells) c.in-Ok.ensures.is)
    c.try_given.result (c.try_given.ensures.opens tells)

pub returns-in-Ok-clause-none : goal.returns-in-Ok-clause-none
returns-in-Ok-clause-none g c = λ tells.
    none_all (g.D.Device.bytes c.args.source.now) c.args.given.now c.args.passphrase.now c.args.number c.in-Ok.completed
    (subst (λ h. IsCombination h c.args.given.now c.args.number c.in-Ok.completed) (c.requires.header tells) c.in-Ok.ensures.is)
    c.try_given.result (c.try_given.ensures.none tells)

pub returns-in-Err-clause-none : goal.returns-in-Err-clause-none
returns-in-Err-clause-none g c = λ tells d x.
    absurd (c.in-Err.ensures.left_out d (subst (λ h. IsCombination h c.args.given.now c.args.number d) (sym (c.requires.header tells)) x))
