use Rattle.std.proofs.Common.{◌≡◌, ◌+◌, ◌*◌, ◌/◌, length, arith, refl}
use Rattle.luks_modes.specs.Xts.{sealed_under}
use Rattle.luks_modes.specs.Blocks.{sealed_blocks}
use Rattle.luks_modes.proofs.UnitFacts.{length-sealed}
use Rattle.luks_modes.proofs.UnitLoopFacts.{under_way_start}
use Rattle.luks_modes.proofs.EightFacts.{under_way_to, under_way_rest}
use Rattle.luks_modes.proofs.xts.seal_blocks.Goals as goal

pub loop-j-init : goal.loop-j-init
loop-j-init c = under_way_start (sealed_under c.args.key.now) c.args.first c.args.bytes.now

pub loop-j-preserved : goal.loop-j-preserved
unfolding sealed_blocks
loop-j-preserved c =
    let key = c.args.key.now in
    let j = c.loop-j.j in
    under_way_to (sealed_under key) (λ t s. length-sealed key s t) c.args.first c.args.bytes.now c.loop-j.bytes c.seal_eight-next.new.bytes c.loop-j.tweak c.seal_eight-next.result
    (128 * j) (128 * j + 128) (8 * j) 8 (8 * (j + 1)) (omega arith) (omega arith) (omega arith) (omega arith)
    c.loop-j.invariant c.seal_eight-next.ensures.made c.seal_eight-next.ensures.next

pub returns : goal.returns
unfolding sealed_blocks
returns c =
    let key = c.args.key.now in
    let last : c.loop-j.j ≡ length c.args.bytes.now / 128 = omega arith in
    under_way_rest (sealed_under key) (λ t s. length-sealed key s t) c.args.first c.args.bytes.now c.loop-j.bytes c.seal_rest.new.bytes c.loop-j.tweak c.loop-j.j (length c.args.bytes.now / 128)
    c.loop-j.auto.bytes c.requires.whole refl last c.loop-j.invariant c.seal_rest.ensures
