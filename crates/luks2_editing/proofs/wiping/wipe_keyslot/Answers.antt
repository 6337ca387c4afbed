use Rattle.std.proofs.Common.{inl, refl}
use Rattle.luks_area.proofs.RangeFacts.{same_but-wider}
use Rattle.luks2_editing.proofs.wiping.wipe_keyslot.Goals as goal

pub returns-in-Slot-clause-rest : goal.returns-in-Slot-clause-rest
returns-in-Slot-clause-rest g c = λ tells.
    same_but-wider (λ p at. record { slot = c.in-Slot.field-0; area = c.args.entry.now.area; has = inl (c.in-Slot.is, refl); at = at }) (c.wipe_area.ensures.rest tells)
