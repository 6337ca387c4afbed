use Rattle.std.proofs.Output.{has_written_of_eq}
use Rattle.luks_find_command.proofs.LineFacts.{json_null, json_number}
use Rattle.luks_find_command.proofs.lines.FragmentLineDisplay.fmt.Goals as goal

pub returns-in-true-Some-clause-writes : goal.returns-in-true-Some-clause-writes
returns-in-true-Some-clause-writes g c plain ok =
    let line = c.args.self.now in
    has_written_of_eq _ _ _ _ _
    (json_number line.as_json line.place line.kind line.number c.kind_text-kind.result.now c.in-true-Some.number c.in-true-Some.is-0 c.in-true-Some.is-1 c.kind_text-kind.ensures)
    (c.writeln.ensures.writes plain ok)

pub returns-in-true-None-clause-writes : goal.returns-in-true-None-clause-writes
returns-in-true-None-clause-writes g c plain ok =
    let line = c.args.self.now in
    has_written_of_eq _ _ _ _ _
    (json_null line.as_json line.place line.kind line.number c.kind_text-kind.result.now c.in-true-None.is-0 c.in-true-None.is-1 c.kind_text-kind.ensures)
    (c.writeln-in-true-None.ensures.writes plain ok)
