use Rattle.std.proofs.Common.{◌∙◌, ◌++◌, ap, false, rules, take}
use Rattle.std.proofs.lemmas.List.{take_all}
use Rattle.std.proofs.Output.{has_written_append, has_written_of_eq}
use Rattle.luks_keeping.specs.ComparisonTexts.{keyslot_line}
use Rattle.luks_keeping.specs.LostTexts.{lost_lines}
use Rattle.luks_keeping.proofs.LostFacts.{one_lost_more}
use Rattle.luks_keeping.proofs.lost.write_lost.Goals as goal

pub loop-n-preserved : goal.loop-n-preserved
loop-n-preserved g c plain =
    let before = c.loop-n.invariant plain in
    has_written_of_eq _ _ _ _ _ (ap (λ k. lost_lines 0 (take c.loop-n.n c.args.keyslots.now) ++ keyslot_line c.loop-n.n k) c.state_of.ensures ∙ one_lost_more c.args.keyslots.now c.loop-n.n false c.loop-n-test.true)
    (has_written_append _ _ _ _ _ _ before (c.write_keyslot.ensures before.plain (search rules)))

pub returns : goal.returns
returns g c plain ok =
    has_written_of_eq _ _ _ _ _ (ap (lost_lines 0) (take_all _ _ c.loop-n-test.false)) (c.loop-n.invariant plain)
