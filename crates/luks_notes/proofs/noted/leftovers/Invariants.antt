-- Those are found that are left of what was looked for.
use Rattle.std.proofs.Common.{take}
use Rattle.luks_notes.specs.Leftovers.{IsLeft}
use Rattle.luks_notes.specs.Noted.{AreThose}
use Rattle.luks_notes.proofs.noted.leftovers.Given as goal

abbrev pub invariant-loop-leftover : goal.invariant-loop-leftover
invariant-loop-leftover l = AreThose (IsLeft l.front l.own) (take l.leftover-index l.leftover-items) l.found.items
