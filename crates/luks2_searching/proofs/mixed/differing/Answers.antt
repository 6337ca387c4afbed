use Rattle.std.proofs.Common.{subst, sym}
use Rattle.luks2_searching.specs.Mixed.{AreDiffering}
use Rattle.luks2_searching.proofs.MixedFacts.{grown_more, none_differ, not_few}
use Rattle.luks2_searching.proofs.mixed.differing.Goals as goal

pub loop-place-init : goal.loop-place-init
loop-place-init c = subst (λ xs. AreDiffering c.args.first.now c.args.second.now 0 xs) (sym c.new-places.ensures) (none_differ c.args.first.now c.args.second.now)

pub loop-place-preserved : goal.loop-place-preserved
loop-place-preserved c =
    grown_more c.args.first.now c.args.second.now c.loop-place.place c.loop-place.places.items c.add_differing.new.places.items c.loop-place-test.true c.loop-place.invariant
    (c.add_differing.ensures.grown c.if-not-add_differing.false)

pub returns-then-not-add_differing-clause-none : goal.returns-then-not-add_differing-clause-none
returns-then-not-add_differing-clause-none c =
    not_few c.args.first.now c.args.second.now c.loop-place.place c.loop-place.places.items c.loop-place-test.true c.loop-place.invariant
    (c.add_differing.ensures.differs c.if-not-add_differing.true) (c.add_differing.ensures.full c.if-not-add_differing.true)
