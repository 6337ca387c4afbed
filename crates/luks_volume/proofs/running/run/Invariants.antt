-- The steps before the index were run, the device failed in none of them, and there is room for the
-- replies of the others.
use Rattle.std.proofs.Common.{◌≡◌, ◌+◌, ◌≤◌, length, vec_len}
use Rattle.std.specs.Vec.{vec_capacity}
use Rattle.luks_area.specs.Device.{IsSettled}
use Rattle.luks_volume.specs.Edits.{Replies}
use Rattle.luks_volume.specs.Running.{IsUnderWay}
use Rattle.luks_volume.proofs.CountFacts.{AreRepliedSoFar}
use Rattle.luks_volume.proofs.StoppedFacts.{AreRunSoFar}
use Rattle.luks_volume.proofs.running.run.Given as goal

abbrev pub invariant-loop-step : goal.invariant-loop-step
invariant-loop-step g l = record {
  size : g.D.Device.size l.device ≡ g.D.Device.size l.fn.device;
  count : g.D.Device.failed l.device ≡ g.D.Device.failed l.fn.device;
  settled : g.D.Device.tells → IsSettled g.D.Device.unsettled l.device;
  room : vec_len l.replies + length l.steps ≤ vec_capacity l.replies + l.step-index;
  replied : AreRepliedSoFar l.step-index l.fn.replies.items l.replies.items;
  run : g.D.Device.tells → IsUnderWay (Replies l.payload) (g.D.Device.bytes l.fn.device) (g.D.Device.bytes l.device) l.steps l.step-index
      l.fn.replies.items l.replies.items;
  so_far : g.D.Device.tells → AreRunSoFar (Replies l.payload) (g.D.Device.bytes l.fn.device) (g.D.Device.bytes l.device) l.steps l.step-index
      l.fn.replies.items l.replies.items;
}
