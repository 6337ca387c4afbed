use Rattle.std.proofs.Output.{has_written_of_eq}
use Rattle.std.specs.Fmt.{decimal}
use Rattle.luks_show.specs.Texts.{escaped}
use Rattle.luks_edit_commands.proofs.EditNoteFacts.{joined_naming}
use Rattle.luks_edit_commands.proofs.edit.noted.NamingDisplay.fmt.Goals as goal

pub returns-clause-writes : goal.returns-clause-writes
returns-clause-writes g c plain ok =
    let naming = c.args.self.now in
    has_written_of_eq _ _ _ _ _
    (rw c.as_bytes.ensures.value (joined_naming (decimal naming.number) (escaped naming.kind.now) (decimal naming.slot)))
    (c.write.ensures.writes plain ok)
