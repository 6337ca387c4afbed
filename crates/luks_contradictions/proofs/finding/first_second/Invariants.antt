use Rattle.std.proofs.Common.{◌≡◌, drop}
use Rattle.std.specs.Prelude.{find}
use Rattle.serde_json.specs.View.{view}
use Rattle.luks_contradictions.specs.Contradictions.{is_second}
use Rattle.luks_contradictions.proofs.finding.first_second.Given as goal

abbrev pub invariant-loop-number : goal.invariant-loop-number
invariant-loop-number l = find (is_second (view l.value)) l.numbers ≡ find (is_second (view l.value)) (drop l.number-index l.numbers)
