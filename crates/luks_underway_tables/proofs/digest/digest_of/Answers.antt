use Rattle.std.proofs.Common.{◌≡◌, false, arith, below_more, codes, sym}
use Rattle.serde_json.specs.View.{view}
use Rattle.luks_underway.specs.Sides.{is_named}
use Rattle.luks_underway_tables.proofs.Least.{least_first, least_none}
use Rattle.luks_underway_tables.proofs.digest.digest_of.Goals as goal

pub loop-digest-preserved : goal.loop-digest-preserved
loop-digest-preserved c =
    below_more (λ k. is_named (view c.args.value.now) (codes "segments") c.args.segment k ≡ false) c.loop-digest.digest c.loop-digest.invariant (sym c.if-is_named.ensures)

pub returns-then-is_named : goal.returns-then-is_named
returns-then-is_named c =
    sym (least_first (is_named (view c.args.value.now) (codes "segments") c.args.segment) 32 c.loop-digest.digest (omega arith) (sym c.if-is_named.ensures) c.loop-digest.invariant)

pub returns : goal.returns
returns c =
    let all : c.loop-digest.digest ≡ 32 = omega (arith, c.loop-digest-test.false, c.loop-digest.auto.digest-end) in
    sym (least_none (is_named (view c.args.value.now) (codes "segments") c.args.segment) 32 (rw (← all) c.loop-digest.invariant))
