-- The lines so far are in the writer.
use Rattle.std.proofs.Common.{flat_map, take}
use Rattle.std.specs.Io.KnownBytes.{Appends}
use Rattle.luks_notes.specs.Noted.{left_line}
use Rattle.luks_notes.proofs.noted.note_leftovers.Given as goal

abbrev pub invariant-loop-leftover : goal.invariant-loop-leftover
invariant-loop-leftover g l =
    Appends (g.E.Write.contents l.initial.err) (g.E.Write.contents l.err) (flat_map (left_line l.volume) (take l.leftover-index l.found))
