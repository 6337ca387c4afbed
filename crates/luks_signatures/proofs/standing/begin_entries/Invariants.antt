use Rattle.std.proofs.Common.{ℕ, ◌+◌, ◌*◌, ◌<◌}
use Rattle.luks_area.specs.Ranges.{part}
use Rattle.luks_signatures.specs.Signatures.{BeginsEntry}
use Rattle.luks_signatures.proofs.standing.begin_entries.Given as goal

-- each of the entries before begins as one
abbrev pub invariant-loop-n : goal.invariant-loop-n
invariant-loop-n l = (k : ℕ) → k < l.n → BeginsEntry (part l.sector (446 + 16 * k) 16)
