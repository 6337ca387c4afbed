use Rattle.std.proofs.Common.{ap, rules}
use Rattle.std.proofs.lemmas.List.{take_all}
use Rattle.std.proofs.Output.{has_written_append, has_written_of_eq}
use Rattle.luks_keeping.specs.declared.comparison.Keeping.TheVariants.{Absent}
use Rattle.luks_keeping_commands.specs.Differences.{difference_lines}
use Rattle.luks_keeping_commands.proofs.DifferenceFacts.{one_line_more}
use Rattle.luks_keeping_commands.proofs.differences.write_differences.Goals as goal

pub loop-n-preserved : goal.loop-n-preserved
loop-n-preserved g c plain =
    let before = c.loop-n.invariant plain in
    has_written_of_eq _ _ _ _ _ (one_line_more c.args.volume.now c.args.keyslots.now c.loop-n.n Absent c.loop-n-test.true)
    (has_written_append _ _ _ _ _ _ before (c.write_difference.ensures before.plain (search rules)))

pub returns : goal.returns
returns g c plain ok =
    has_written_of_eq _ _ _ _ _ (ap (difference_lines c.args.volume.now 0) (take_all _ _ c.loop-n-test.false)) (c.loop-n.invariant plain)
