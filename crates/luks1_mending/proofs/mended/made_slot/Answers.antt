use Rattle.std.proofs.Common.{ℕ, List, inr, subst}
use Rattle.luks1_header.specs.Faults.{IsEntryFault}
use Rattle.luks1_mending.specs.Judging.{set_of}
use Rattle.luks1_mending.proofs.KeptFacts.{not_kept, sound_of}
use Rattle.luks1_mending.proofs.mended.made_slot.Goals as goal
use Rattle.luks1_mending.proofs.mended.made_slot.Goals.{in_default-via-in-Ok+else-kept-n, in_default-via-in_default}

pub returns-in_default : goal.returns-in_default
returns-in_default c =
    let h = c.args.header.now in
    elim c.in_default.branch [
      | in_default-via-in-Ok+else-kept-n w ↦ inr (not_kept c.args.header.now c.args.key_bytes c.args.total (set_of c.args.kept.now) c.requires.kept c.args.n w.if-kept-n.false, c.mended_slot.ensures)
      | in_default-via-in_default w ↦ inr (
        λ x. (sound_of c.args.header.now c.args.key_bytes c.args.total c.args.n x).faultless w.in_default.field-0
            (subst (λ (e : List ℕ). IsEntryFault c.args.n e w.in_default.field-0) c.entry_of.ensures.value w.in_default.ensures.fault.0),
        c.mended_slot.ensures,
      )
    ]
