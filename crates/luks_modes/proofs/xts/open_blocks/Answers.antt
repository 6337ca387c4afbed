use Rattle.std.proofs.Common.{◌≡◌, ◌+◌, ◌*◌, ◌/◌, length, arith, refl}
use Rattle.luks_modes.specs.Xts.{opened_under}
use Rattle.luks_modes.specs.Blocks.{opened_blocks}
use Rattle.luks_modes.proofs.UnitFacts.{length-opened}
use Rattle.luks_modes.proofs.UnitLoopFacts.{under_way_start}
use Rattle.luks_modes.proofs.EightFacts.{under_way_to, under_way_rest}
use Rattle.luks_modes.proofs.xts.open_blocks.Goals as goal

pub loop-j-init : goal.loop-j-init
loop-j-init c = under_way_start (opened_under c.args.key.now) c.args.first c.args.bytes.now

pub loop-j-preserved : goal.loop-j-preserved
unfolding opened_blocks
loop-j-preserved c =
    let key = c.args.key.now in
    let j = c.loop-j.j in
    under_way_to (opened_under key) (λ t s. length-opened key s t) c.args.first c.args.bytes.now c.loop-j.bytes c.open_eight-next.new.bytes c.loop-j.tweak c.open_eight-next.result
    (128 * j) (128 * j + 128) (8 * j) 8 (8 * (j + 1)) (omega arith) (omega arith) (omega arith) (omega arith)
    c.loop-j.invariant c.open_eight-next.ensures.made c.open_eight-next.ensures.next

pub returns : goal.returns
unfolding opened_blocks
returns c =
    let key = c.args.key.now in
    let last : c.loop-j.j ≡ length c.args.bytes.now / 128 = omega arith in
    under_way_rest (opened_under key) (λ t s. length-opened key s t) c.args.first c.args.bytes.now c.loop-j.bytes c.open_rest.new.bytes c.loop-j.tweak c.loop-j.j (length c.args.bytes.now / 128)
    c.loop-j.auto.bytes c.requires.whole refl last c.loop-j.invariant c.open_rest.ensures
