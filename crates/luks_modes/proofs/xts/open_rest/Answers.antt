use Rattle.std.proofs.Common.{◌+◌, ◌*◌, ◌≤◌, length, arith}
use Rattle.luks_modes.specs.Xts.{opened_under}
use Rattle.luks_modes.specs.Blocks.{opened_blocks}
use Rattle.luks_modes.proofs.UnitFacts.{length-opened}
use Rattle.luks_modes.proofs.UnitLoopFacts.{under_way_start, under_way_more, under_way_end}
use Rattle.luks_modes.proofs.xts.open_rest.Goals as goal

pub loop-j-init : goal.loop-j-init
loop-j-init c = under_way_start (opened_under c.args.key.now) c.args.first c.args.bytes.now

pub loop-j-preserved : goal.loop-j-preserved
loop-j-preserved c =
    let key = c.args.key.now in
    let room : 16 * c.loop-j.j + 16 ≤ length c.loop-j.bytes = omega arith in
    under_way_more (opened_under key) (λ t s. length-opened key s t) c.args.first c.args.bytes.now
    c.loop-j.bytes c.open_block.new.block c.loop-j.tweak c.doubled-tweak.result c.loop-j.j room
    c.loop-j.invariant c.open_block.ensures c.doubled-tweak.ensures

pub returns : goal.returns
unfolding opened_blocks
returns c =
    under_way_end (opened_under c.args.key.now) c.args.first c.args.bytes.now c.loop-j.bytes
    c.loop-j.tweak c.loop-j.j (omega arith) c.loop-j.auto.bytes c.requires c.loop-j.invariant
