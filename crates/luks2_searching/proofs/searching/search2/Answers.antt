use Rattle.std.proofs.Common.{◌∙◌, sym}
use Rattle.luks_trials.proofs.OptionFacts.{none_where}
use Rattle.luks2_searching.specs.Found.{HasNone2, IsFound2, IsFoundNear}
use Rattle.luks2_searching.proofs.ResultFacts.{none_all, some_so}
use Rattle.luks2_searching.proofs.searching.search2.Goals as goal

pub returns-then-is_some-clause-found : goal.returns-then-is_some-clause-found
returns-then-is_some-clause-found g c = λ tells.
    let allowed = c.args.trying.now.allowed in
    let v = g.D.Device.bytes c.args.source.now in
    let p = c.args.trying.now.passphrase.now in
    some_so c.in_ok-near.near (IsFoundNear allowed v p) (IsFound2 allowed c.args.given.now v p) (λ f x. x c.args.given.now) (c.in_ok-near.ensures.found tells)

pub returns-clause-none : goal.returns-clause-none
returns-clause-none g c = λ tells.
    none_all c.by_fragments.result (HasNone2 c.args.trying.now.allowed (g.D.Device.bytes c.args.source.now) c.args.trying.now.passphrase.now)
    (none_where c.in_ok-near.near _ (sym c.is_some.ensures ∙ c.if-is_some.false) (c.in_ok-near.ensures.none tells))
