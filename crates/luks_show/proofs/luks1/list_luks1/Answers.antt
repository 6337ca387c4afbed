use Rattle.std.proofs.Common.{[], ◌++◌, ap, ◌∙◌, rules}
use Rattle.std.proofs.lemmas.List.{take_all}
use Rattle.luks1_header.specs.declared.luks1.SlotState.TheVariants.{Enabled}
use Rattle.std.proofs.Output.{has_written_append, has_written_of_eq}
use Rattle.luks_show.specs.Luks1Lines.{common_lines, slot_line, slot_lines}
use Rattle.luks_show.proofs.Luks1Facts.{one_slot_more}
use Rattle.luks_show.proofs.luks1.list_luks1.Goals as goal

pub loop-n-preserved : goal.loop-n-preserved
loop-n-preserved g c plain =
    let before = c.loop-n.invariant plain in
    has_written_of_eq _ _ _ _ _ (one_slot_more slot_line (common_lines c.args.header.now.common) c.as_slice-slot-items.result.now c.loop-n.n
    (record { state = Enabled; iterations = 0; salt = []; key_material_offset = 0; stripes = 0 }) c.loop-n-test.true)
    (has_written_append _ _ _ _ _ _ before (c.list_luks1_slot.ensures before.plain (search rules)))

pub returns : goal.returns
returns g c plain ok =
    has_written_of_eq _ _ _ _ _ (ap (λ l. common_lines c.args.header.now.common ++ slot_lines slot_line 0 l) (take_all _ _ c.loop-n-test.false ∙ c.as_slice-slot-items.ensures)) (c.loop-n.invariant plain)
