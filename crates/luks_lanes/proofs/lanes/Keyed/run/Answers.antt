use Rattle.std.proofs.Common.{◌≡◌, ◌-◌, ap, ◌∙◌, arith}
use Rattle.luks_lanes.specs.Turns.{block_at, hmac, turn, turns_xored}
use Rattle.luks_lanes.proofs.TurnFacts.{turns_step}
use Rattle.luks_lanes.proofs.lanes.Keyed.run.Goals as goal

pub loop-count-init : goal.loop-count-init
unfolding turn turns_xored
loop-count-init g c key j lt there whole held = (c.load-turn.ensures j lt there, c.load-turn.ensures j lt there)

pub loop-count-preserved : goal.loop-count-preserved
loop-count-preserved g c key j lt there whole held =
    let before = c.loop-count.invariant key j lt there whole held in
    turns_step _ _ _ _ _ _ c.loop-count.count c.loop-count.auto.count before.0 before.1
    (c.tagged-turn.ensures key j lt whole held) (c.xor-block.ensures j lt)

pub returns : goal.returns
returns g c = λ key j lt there whole held.
    let all : c.loop-count.count ≡ c.args.iterations = omega (arith, c.loop-count.auto.count-end c.requires) in
    let lanes = g.L.Lanes in
    c.store.ensures j lt there ∙ (c.loop-count.invariant key j lt there whole held).1
    ∙ ap (turns_xored (hmac lanes.digest key) (block_at lanes.LEN c.args.row.now j)) (ap (λ n. n - 1) all)
