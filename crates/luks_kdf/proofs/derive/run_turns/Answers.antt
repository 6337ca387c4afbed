use Rattle.std.proofs.Common.{refl}
use Rattle.luks_kdf.specs.Derivation.{turn, turns_xored}
use Rattle.luks_kdf.proofs.DerivationFacts.{turns_step}
use Rattle.luks_kdf.proofs.derive.run_turns.Goals as goal

pub loop-count-init : goal.loop-count-init
unfolding turn turns_xored
loop-count-init g c key held = (refl, c.requires.first)

pub loop-count-preserved : goal.loop-count-preserved
loop-count-preserved g c key held =
    let before = c.loop-count.invariant key held in
    turns_step _ c.args.turn.now _ _ _ _ c.loop-count.count c.loop-count.auto.count before.0 before.1
    (c.retag.ensures key held) c.xor_into.ensures
