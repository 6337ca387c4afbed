use Rattle.std.proofs.Common.{take, sym, ◌∙◌}
use Rattle.std.proofs.lemmas.Bool.{false≢true}
use Rattle.luks_area.specs.Device.{unchanged-then}
use Rattle.luks_signatures.proofs.TableFacts.{first_found, none_more}
use Rattle.luks_signatures.proofs.first.first_of.Goals as goal

pub returns-then-branch-clause-found : goal.returns-then-branch-clause-found
returns-then-branch-clause-found g c = λ t.
    let is = rw (c.loop-row.invariant.unchanged.same t) at c.in_ok-is_in.ensures.is_in t in
    first_found _ c.args.rows.now c.loop-row.row-index _ c.loop-row-test.true (c.loop-row.invariant.none t) (is.0 c.if-branch.true)

pub loop-row-preserved : goal.loop-row-preserved
loop-row-preserved g c = record {
  unchanged = unchanged-then c.loop-row.invariant.unchanged c.in_ok-is_in.ensures.unchanged;
  count = c.in_ok-is_in.ensures.count ∙ c.loop-row.invariant.count;
  none = λ t.
      let is = rw (c.loop-row.invariant.unchanged.same t) at c.in_ok-is_in.ensures.is_in t in
      none_more _ c.args.rows.now c.loop-row.row-index _ c.loop-row-test.true (c.loop-row.invariant.none t)
      (λ here. false≢true (sym c.if-branch.false ∙ is.1 here));
}
