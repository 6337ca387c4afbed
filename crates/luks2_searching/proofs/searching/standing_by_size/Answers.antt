use Rattle.std.proofs.Common.{◌∙◌, subst, sym}
use Rattle.luks_trials.proofs.OptionFacts.{none_where}
use Rattle.luks2_searching.specs.Found.{second_place, HasNoneStanding}
use Rattle.luks2_searching.proofs.ResultFacts.{none_so}
use Rattle.luks2_searching.proofs.searching.standing_by_size.Goals as goal

pub returns-clause-none : goal.returns-clause-none
returns-clause-none g c = λ tells.
    let allowed = c.args.trying.now.allowed in
    let p = c.args.trying.now.passphrase.now in
    let same = c.standing_in.ensures.unchanged.same tells in
    let one = none_where c.in_ok-found.found _ (sym c.is_some.ensures ∙ c.if-is_some.false) (c.in_ok-found.ensures.none tells) in
    none_so c.standing_in-2.result _ _ (λ two. (one, subst (λ w. HasNoneStanding allowed w p (second_place c.args.size)) same two)) (c.standing_in-2.ensures.none tells)
