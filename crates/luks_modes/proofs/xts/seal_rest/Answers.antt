use Rattle.std.proofs.Common.{◌+◌, ◌*◌, ◌≤◌, length, arith}
use Rattle.luks_modes.specs.Xts.{sealed_under}
use Rattle.luks_modes.specs.Blocks.{sealed_blocks}
use Rattle.luks_modes.proofs.UnitFacts.{length-sealed}
use Rattle.luks_modes.proofs.UnitLoopFacts.{under_way_start, under_way_more, under_way_end}
use Rattle.luks_modes.proofs.xts.seal_rest.Goals as goal

pub loop-j-init : goal.loop-j-init
loop-j-init c = under_way_start (sealed_under c.args.key.now) c.args.first c.args.bytes.now

pub loop-j-preserved : goal.loop-j-preserved
loop-j-preserved c =
    let key = c.args.key.now in
    let room : 16 * c.loop-j.j + 16 ≤ length c.loop-j.bytes = omega arith in
    under_way_more (sealed_under key) (λ t s. length-sealed key s t) c.args.first c.args.bytes.now
    c.loop-j.bytes c.seal_block.new.block c.loop-j.tweak c.doubled-tweak.result c.loop-j.j room
    c.loop-j.invariant c.seal_block.ensures c.doubled-tweak.ensures

pub returns : goal.returns
unfolding sealed_blocks
returns c =
    under_way_end (sealed_under c.args.key.now) c.args.first c.args.bytes.now c.loop-j.bytes
    c.loop-j.tweak c.loop-j.j (omega arith) c.loop-j.auto.bytes c.requires c.loop-j.invariant
