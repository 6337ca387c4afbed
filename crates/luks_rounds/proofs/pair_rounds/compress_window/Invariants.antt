use Rattle.std.proofs.Common.{ℕ, ◌<◌, ◌*◌, List}
use Rattle.sha2.specs.Sha256.{IsRoundsAt, IsWindow, schedule}
use Rattle.luks_rounds.specs.Pair.{lane, window}
use Rattle.luks_rounds.proofs.pair_rounds.compress_window.Given as goal

abbrev pub invariant-schedule : goal.invariant-schedule
invariant-schedule l = (j : ℕ) (b : List ℕ) → j < 2 → IsWindow (window j l.initial.w) (schedule b 48) 16
    → IsRoundsAt b (lane j l.state) (window j l.w) (lane j l.v) (16 * l.turn)
