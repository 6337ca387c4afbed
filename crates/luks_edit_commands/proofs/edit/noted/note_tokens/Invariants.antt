-- The lines of the tokens so far are in the writer.
use Rattle.std.specs.Io.KnownBytes.{Appends}
use Rattle.luks_meta.specs.Content.{content}
use Rattle.luks_edit_commands.specs.EditNotes.{token_lines}
use Rattle.luks_edit_commands.proofs.edit.noted.note_tokens.Given as goal

abbrev pub invariant-loop-number : goal.invariant-loop-number
invariant-loop-number g l =
    Appends (g.E.Write.contents l.initial.err) (g.E.Write.contents l.err) (token_lines l.fate l.slot (content l.meta) l.number)
