-- The first place that contradicts itself, in the order in which places are tried.
use Rattle.std.specs.Prelude.{Option, Some, find, option_map, if◌then◌else◌}
use Rattle.serde_json.specs.Data.{Data}
use Rattle.luks_rules.specs.Walk.{numbers, or_else}
use Rattle.luks_contradictions.specs.Contradicted.{has_out_of_place}
use Rattle.luks_contradictions.specs.Contradictions.{is_misparted, is_second, lacks_requirement}
use Rattle.luks_contradictions.specs.declared.contradiction.Contradiction.{Contradiction}
use Rattle.luks_contradictions.specs.declared.contradiction.Contradiction.TheVariants.{Keyslot, Requirements, Segment, Segments}

abbrev pub first_of_segments : Data → Option Contradiction
first_of_segments j = if is_misparted j then Some Segments else option_map Segment (find (has_out_of_place j) numbers)

abbrev pub first_place : Data → Option Contradiction
first_place j = if lacks_requirement j then Some Requirements else or_else (option_map Keyslot (find (is_second j) numbers)) (first_of_segments j)
