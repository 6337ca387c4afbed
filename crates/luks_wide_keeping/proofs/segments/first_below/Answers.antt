use Rattle.std.proofs.Common.{ℕ, arith, below_more, sym, ◌∙◌}
use Rattle.std.proofs.lemmas.Bool.{false≢true}
use Rattle.luks_wider.specs.Underways.{content}
use Rattle.luks_wide_keeping.specs.Layout.{IsSegmentBelow}
use Rattle.luks_wide_keeping.proofs.segments.first_below.Goals as goal

pub loop-n-preserved : goal.loop-n-preserved
loop-n-preserved c =
    below_more (λ (k : ℕ). IsSegmentBelow c.args.copy.now.header.hdr_size (content c.args.copy.now.meta) k → ⊥) c.loop-n.n c.loop-n.invariant
    (λ x. false≢true (sym c.if-is_below.false ∙ c.is_below.ensures.1 x))

pub returns : goal.returns
returns c = λ n x. c.loop-n.invariant n (let low = x.numbered in omega (arith, low, c.loop-n-test.false)) x
