use Rattle.std.proofs.Common.{◌≡◌, ℕ, arith}
use Rattle.luks_meta.specs.Content.{content}
use Rattle.luks_edit_commands.proofs.EditNoteFacts.{every_slot, next_slot, no_slot}
use Rattle.luks_edit_commands.proofs.edit.noted.note_erasure.Goals as goal

pub loop-slot-init : goal.loop-slot-init
loop-slot-init g c = no_slot (content c.args.meta.now) _

pub loop-slot-preserved : goal.loop-slot-preserved
loop-slot-preserved g c =
    next_slot (content c.args.meta.now) c.loop-slot.slot _ _ _ c.loop-slot.invariant c.in_ok-note_tokens.ensures

pub returns : goal.returns
returns g c =
    let whole : c.loop-slot.slot ≡ 32 = omega (arith, c.loop-slot-test.false, c.loop-slot.auto.slot-end) in
    every_slot (content c.args.meta.now) c.loop-slot.slot _ _ _ whole c.in_ok-note_loss.ensures c.loop-slot.invariant
