use Rattle.std.proofs.Common.{None, Some, ap, find, option_map}
use Rattle.serde_json.specs.View.{view}
use Rattle.luks_rules.specs.Walk.{numbers}
use Rattle.luks_contradictions.specs.Contradicted.{has_out_of_place}
use Rattle.luks_contradictions.specs.Contradictions.{is_misparted}
use Rattle.luks_contradictions.specs.declared.contradiction.Contradiction.TheVariants.{Segment, Segments}
use Rattle.luks_contradictions.proofs.Ordered.{take_else, take_then}
use Rattle.luks_contradictions.proofs.finding.first_of_segments.Goals as goal

pub returns-then-is_misparted : goal.returns-then-is_misparted
returns-then-is_misparted c =
    let j = view c.args.value.now in
    take_then (is_misparted j) Segments (option_map Segment (find (has_out_of_place j) numbers)) c.if-is_misparted.ensures

pub returns-in-Some : goal.returns-in-Some
returns-in-Some c =
    let j = view c.args.value.now in
    take_else (is_misparted j) Segments (option_map Segment (find (has_out_of_place j) numbers)) (Some (Segment c.in-Some.number)) c.if-is_misparted.ensures
    (ap (option_map Segment) c.in-Some.ensures)

pub returns-in-None : goal.returns-in-None
returns-in-None c =
    let j = view c.args.value.now in
    take_else (is_misparted j) Segments (option_map Segment (find (has_out_of_place j) numbers)) None c.if-is_misparted.ensures
    (ap (option_map Segment) c.in-None.ensures)
