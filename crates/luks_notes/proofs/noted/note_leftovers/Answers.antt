use Rattle.std.proofs.Common.{rules}
use Rattle.std.proofs.KnownBytes.{Appends-nil}
use Rattle.luks_notes.proofs.NotedFacts.{all_left, next_line, none_left, on_ok_as}
use Rattle.luks_notes.proofs.noted.note_leftovers.Goals as goal

pub loop-leftover-init : goal.loop-leftover-init
loop-leftover-init g c = Appends-nil _

pub loop-leftover-preserved : goal.loop-leftover-preserved
loop-leftover-preserved g c = next_line c.args.volume.now c.args.found.now c.loop-leftover.leftover-index _ _ _ _ c.loop-leftover-test.true c.loop-leftover.invariant c.in_ok-note_left.ensures

pub returns-then-is_empty : goal.returns-then-is_empty
returns-then-is_empty g c = none_left c.args.volume.now c.args.begins c.args.found.now c.loop-leftover.leftover-index _ _ c.if-is_empty.ensures c.loop-leftover-test.false c.loop-leftover.invariant

pub returns : goal.returns
returns g c =
    on_ok_as c.note_wiping.result _ _ (all_left c.args.volume.now c.args.begins c.args.found.now c.loop-leftover.leftover-index _ _ _ (search rules) c.loop-leftover-test.false c.loop-leftover.invariant) c.note_wiping.ensures
