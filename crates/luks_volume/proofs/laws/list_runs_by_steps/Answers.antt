use Rattle.luks_volume.specs.Edits.{Replies}
use Rattle.luks_volume.proofs.RunFacts.{run_ends, run_more, run_starts, run_stops}
use Rattle.luks_volume.proofs.laws.list_runs_by_steps.Goals as goal

pub returns : goal.returns
returns c = record {
  starts = λ payload. run_starts (Replies payload);
  goes_on = λ payload. run_more (Replies payload);
  stops = λ payload. run_stops (Replies payload);
  ends = λ payload. run_ends (Replies payload);
}
