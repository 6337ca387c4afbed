use Rattle.std.proofs.Common.{◌∙◌}
use Rattle.luks_keeping_commands.proofs.KeptFacts.{flushed, written_whole}
use Rattle.luks_keeping_commands.proofs.kept_file.write_whole.Goals as goal

pub returns-clause-wrote : goal.returns-clause-wrote
returns-clause-wrote g c = λ tells.
    flushed c.flush.result (g.D.Device.bytes c.flush.new.self) (g.D.Device.bytes c.write_at.new.self) c.args.bytes.now (c.flush.ensures.same tells)
    (c.in_ok-write_at.ensures.wrote tells ∙ written_whole (g.D.Device.bytes c.args.file.now) c.args.bytes.now (g.met.D.Device.sized c.args.file.now tells ∙ c.requires.size))
