-- The lines on the keyslots so far are in the writer.
use Rattle.std.specs.Io.KnownBytes.{Appends}
use Rattle.luks_meta.specs.Content.{content}
use Rattle.luks_edit_commands.specs.EditNotes.{slot_lines}
use Rattle.luks_edit_commands.proofs.edit.noted.note_erasure.Given as goal

abbrev pub invariant-loop-slot : goal.invariant-loop-slot
invariant-loop-slot g l =
    Appends (g.E.Write.contents l.initial.err) (g.E.Write.contents l.err) (slot_lines (content l.meta) l.slot)
