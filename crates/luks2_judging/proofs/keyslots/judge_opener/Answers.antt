use Rattle.std.proofs.Common.{sym}
use Rattle.luks2_judging.proofs.KeyslotFacts.{erasing_apart, itself_is, itself_only, judged_as, rewriting_apart, sealing_apart}
use Rattle.luks2_judging.proofs.keyslots.judge_opener.Goals as goal

pub returns-in-Remove : goal.returns-in-Remove
returns-in-Remove c = judged_as _ _ _ _ (itself_is c.args.edit.now c.in-Remove.removed (sym c.in-Remove.ensures)) (itself_only c.args.edit.now c.in-Remove.removed (sym c.in-Remove.ensures))
    c.judge_another.result c.judge_another.ensures

pub returns-in-Seal : goal.returns-in-Seal
returns-in-Seal c = sealing_apart c.args.edit.now c.in-Seal.field-0 (sym c.in-Seal.ensures)

pub returns-in-Rewrite : goal.returns-in-Rewrite
returns-in-Rewrite c = rewriting_apart c.args.edit.now c.in-Rewrite.field-0 (sym c.in-Rewrite.ensures)

pub returns-in-Erase : goal.returns-in-Erase
returns-in-Erase c = erasing_apart c.args.edit.now (sym c.in-Erase.ensures)
