use Rattle.std.proofs.Common.{◌≡◌, flat_map, string_bytes}
use Rattle.luks_show.specs.Steering.{unsteering_letter}
use Rattle.luks_show.proofs.as_json.steering.unsteering.Given as goal

abbrev pub invariant-loop-letter : goal.invariant-loop-letter
invariant-loop-letter l = string_bytes l.made ≡ flat_map unsteering_letter l.yielded
