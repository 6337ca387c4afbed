use Rattle.std.proofs.Common.{◌∙◌, subst, sym}
use Rattle.luks_trials.proofs.OptionFacts.{none_where}
use Rattle.luks2_searching.specs.Found.{HasNoneBy}
use Rattle.luks2_searching.specs.declared.searching.Step.TheVariants.{Mixed, Bits}
use Rattle.luks2_searching.proofs.FoundFacts.{none_of_steps}
use Rattle.luks2_searching.proofs.ResultFacts.{none_so}
use Rattle.luks2_searching.proofs.searching.near_copies.Goals as goal

pub returns-clause-none : goal.returns-clause-none
returns-clause-none g c = λ tells.
    let v = g.D.Device.bytes c.args.source.now in
    let allowed = c.args.trying.now.allowed in
    let p = c.args.trying.now.passphrase.now in
    let one = c.by_step.ensures.unchanged.same tells in
    let two = c.by_step-2.ensures.unchanged.same tells ∙ one in
    let standing = none_where c.in_ok-standing.standing _ (sym c.is_some.ensures ∙ c.if-is_some.false) (c.in_ok-standing.ensures.none tells) in
    let mixed = none_where c.in_ok-mixed.mixed _ (sym c.is_some-2.ensures ∙ c.if-is_some-2.false) (c.in_ok-mixed.ensures.none tells) in
    none_so c.by_step-3.result _ _
    (λ bits. none_of_steps allowed v p standing (λ size listed. subst (λ w. HasNoneBy allowed w p Mixed size) one (mixed size listed))
    (λ size listed. subst (λ w. HasNoneBy allowed w p Bits size) two (bits size listed)))
    (c.by_step-3.ensures.none tells)
