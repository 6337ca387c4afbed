use Rattle.std.proofs.Common.{◌≡◌, drop}
use Rattle.std.specs.Prelude.{find}
use Rattle.serde_json.specs.View.{view}
use Rattle.luks_contradictions.specs.Contradicted.{has_out_of_place}
use Rattle.luks_contradictions.proofs.finding.first_out_of_place.Given as goal

abbrev pub invariant-loop-number : goal.invariant-loop-number
invariant-loop-number l = find (has_out_of_place (view l.value)) l.numbers ≡ find (has_out_of_place (view l.value)) (drop l.number-index l.numbers)
