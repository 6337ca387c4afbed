use Rattle.luks_area.specs.Device.{IsUnchanged}
use Rattle.luks_commands.proofs.SearchFacts.{TurnSoFar}
use Rattle.luks_commands.proofs.open.searching.try_turn.Given as goal

-- the turn's keyslots before this one are passed over, and some of them are lost
abbrev pub invariant-loop-n : goal.invariant-loop-n
invariant-loop-n g l = record {
  unchanged : IsUnchanged g.D.Device.tells g.D.Device.size g.D.Device.bytes g.D.Device.unsettled l.initial.device l.device;
  far : TurnSoFar g.D.Device.tells (g.D.Device.bytes l.initial.device) l.trial.header.now l.trial.allowed l.trial.passphrase.now l.turn
      (g.D.Device.failed l.initial.device) (g.D.Device.failed l.device) l.n;
}
