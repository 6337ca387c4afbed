use Rattle.std.proofs.Common.{Some, ap, find, option_map, ◌∙◌}
use Rattle.serde_json.specs.View.{view}
use Rattle.luks_rules.specs.Walk.{numbers, or_else}
use Rattle.luks_contradictions.specs.Contradictions.{is_second, lacks_requirement}
use Rattle.luks_contradictions.specs.Walk.{first_of_segments}
use Rattle.luks_contradictions.specs.declared.contradiction.Contradiction.TheVariants.{Keyslot, Requirements}
use Rattle.luks_contradictions.proofs.Ordered.{take_else, take_then}
use Rattle.luks_contradictions.proofs.finding.first_place.Goals as goal

pub returns-then-lacks_requirement : goal.returns-then-lacks_requirement
returns-then-lacks_requirement c =
    let j = view c.args.value.now in
    take_then (lacks_requirement j) Requirements (or_else (option_map Keyslot (find (is_second j) numbers)) (first_of_segments j)) c.if-lacks_requirement.ensures

pub returns-in-Some : goal.returns-in-Some
returns-in-Some c =
    let j = view c.args.value.now in
    take_else (lacks_requirement j) Requirements (or_else (option_map Keyslot (find (is_second j) numbers)) (first_of_segments j)) (Some (Keyslot c.in-Some.number)) c.if-lacks_requirement.ensures
    (ap (λ o. or_else (option_map Keyslot o) (first_of_segments j)) c.in-Some.ensures)

pub returns-in-None : goal.returns-in-None
returns-in-None c =
    let j = view c.args.value.now in
    take_else (lacks_requirement j) Requirements (or_else (option_map Keyslot (find (is_second j) numbers)) (first_of_segments j)) c.first_of_segments.result c.if-lacks_requirement.ensures
    (c.first_of_segments.ensures ∙ ap (λ o. or_else (option_map Keyslot o) (first_of_segments j)) c.in-None.ensures)
