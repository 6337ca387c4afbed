use Rattle.luks_keeping_commands.specs.TwoFiles.{pair_of, Pair}
use Rattle.luks_keeping_commands.proofs.CompareFacts.{moment_answer}
use Rattle.luks_keeping_commands.proofs.compare.compare_states.Goals as goal

pub returns-in-Ok-clause-answers : goal.returns-in-Ok-clause-answers
returns-in-Ok-clause-answers g c =
    let d : Pair = pair_of g.D.Device.size g.D.Device.bytes g.D.Device.failed c.args.backup.now c.compare_moments.new.backup c.args.volume.now c.compare_moments.new.volume in
    moment_answer g.D.Device.tells d c.args.copy.now c.in-Ok.answer c.in-Ok.ensures.count c.requires.of c.requires.counts c.in-Ok.ensures.compared
