use Rattle.std.proofs.Common.{◌≡◌, ℕ, ◌<◌, false, codes}
use Rattle.serde_json.specs.View.{view}
use Rattle.luks_underway.specs.Sides.{is_named}
use Rattle.luks_underway.proofs.sides.first_naming.Given as goal

abbrev pub invariant-loop-digest : goal.invariant-loop-digest
invariant-loop-digest l = (k : ℕ) → k < l.digest → is_named (view l.value) (codes "segments") l.segment k ≡ false
