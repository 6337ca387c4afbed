use Rattle.std.proofs.Common.{length, subst, sym}
use Rattle.luks_trials.specs.Metadata.{AddsNone}
use Rattle.luks2_searching.specs.Mixed.{AreAllOf, AreInside}
use Rattle.luks2_searching.proofs.MixedFacts.{number_of_mixed}
use Rattle.luks2_searching.proofs.ResultFacts.{none_so}
use Rattle.luks2_searching.proofs.mixed.by_mixing.Goals as goal

pub by_numbers-requires-clause-inside : goal.by_numbers-requires-clause-inside
by_numbers-requires-clause-inside g c = subst (λ ps. AreInside (length c.args.first.now) ps) (sym c.deref.ensures.0) c.in-Some.ensures.inside

pub returns-clause-none : goal.returns-clause-none
returns-clause-none g c = λ tells.
    let allowed = c.args.trying.now.allowed in
    let p = c.args.trying.now.passphrase.now in
    let first = c.args.first.now in
    let second = c.args.second.now in
    none_so c.by_numbers.result _ _
    (λ none new both.
    (let numbered = number_of_mixed first second new c.deref.result.now (subst (λ ps. AreInside (length c.args.first.now) ps) (sym c.deref.ensures.0) c.in-Some.ensures.inside)
    (subst (λ ps. AreAllOf c.args.first.now c.args.second.now (length c.args.first.now) ps) (sym c.deref.ensures.0) c.in-Some.ensures.all) both.mixed in
    subst (λ j. AddsNone allowed (g.D.Device.bytes c.args.source.now) p first j) (sym numbered.2) (none numbered.0 numbered.1)))
    (c.by_numbers.ensures.none tells)
