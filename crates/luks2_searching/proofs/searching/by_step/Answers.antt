use Rattle.std.proofs.Common.{◌∙◌, slice_index, subst, sym, arith, below_more}
use Rattle.luks_area.specs.Device.{unchanged-then}
use Rattle.luks_trials.proofs.OptionFacts.{none_where}
use Rattle.luks_trials.proofs.TallyFacts.{counts_then}
use Rattle.luks2_searching.specs.Found.{HasNoneBy}
use Rattle.luks2_searching.specs.declared.searching.TheConstants.{SIZES}
use Rattle.luks2_searching.proofs.SizeFacts.{among_at, each_among}
use Rattle.luks2_searching.proofs.searching.by_step.Goals as goal

pub by_size-requires-clause-listed : goal.by_size-requires-clause-listed
by_size-requires-clause-listed g c = among_at SIZES c.loop-size.size-index (let below = c.loop-size-test.true in omega (arith, below))

pub loop-size-preserved : goal.loop-size-preserved
loop-size-preserved g c = record {
  unchanged = unchanged-then c.loop-size.invariant.unchanged c.by_size.ensures.unchanged;
  count = c.in_ok-found.ensures.count ∙ c.loop-size.invariant.count;
  counts = counts_then c.loop-size.invariant.counts c.by_size.ensures.counts;
  none = λ tells.
      let allowed = c.args.trying.now.allowed in
      let p = c.args.trying.now.passphrase.now in
      let same = c.loop-size.invariant.unchanged.same tells in
      let none = none_where c.in_ok-found.found _ (sym c.is_some.ensures ∙ c.if-is_some.false) (c.in_ok-found.ensures.none tells) in
      below_more (λ m. HasNoneBy allowed (g.D.Device.bytes c.args.source.now) p c.args.step (slice_index SIZES m)) c.loop-size.size-index (c.loop-size.invariant.none tells)
      (subst (λ w. HasNoneBy allowed w p c.args.step (slice_index SIZES c.loop-size.size-index)) same none);
}

pub returns-clause-none : goal.returns-clause-none
returns-clause-none g c = λ tells size listed.
    each_among (λ s. HasNoneBy c.args.trying.now.allowed (g.D.Device.bytes c.args.source.now) c.args.trying.now.passphrase.now c.args.step s) SIZES
    (λ k lt. c.loop-size.invariant.none tells k (let ended = c.loop-size-test.false in omega (arith, lt, ended))) size listed
