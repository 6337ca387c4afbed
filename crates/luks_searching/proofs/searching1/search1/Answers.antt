use Rattle.std.proofs.Common.{◌∙◌, sym}
use Rattle.luks_trials.proofs.OptionFacts.{none_where}
use Rattle.luks_searching.proofs.DigestFacts.{has_none}
use Rattle.luks_searching.proofs.HeadedFacts.{none_so}
use Rattle.luks_searching.proofs.searching1.search1.Goals as goal

pub returns-clause-none : goal.returns-clause-none
returns-clause-none g c = λ tells.
    let shut = none_where c.in_ok-found.found _ (sym c.is_some.ensures ∙ c.if-is_some.false) (c.in_ok-found.ensures.none tells) in
    none_so c.by_fields.result _ _
    (λ turned.
    has_none (g.D.Device.bytes c.args.source.now) _ _ c.read_at.new.into c.args.given.now c.args.passphrase.now (c.in_ok-read_at.ensures.unchanged.same tells)
    (c.in_ok-found.ensures.unchanged.same tells) (c.in_ok-read_at.ensures.read tells) shut turned)
    (c.by_fields.ensures.none tells)
