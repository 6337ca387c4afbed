use Rattle.std.proofs.Common.{◌≡◌, Some, None, ◌∙◌, ap, refl, sym, rules, option_map}
use Rattle.std.proofs.Output.{has_written_of_eq}
use Rattle.serde_json.specs.View.{view}
use Rattle.luks_rules.specs.declared.table.Section.TheVariants.{Segments}
use Rattle.luks_rules.specs.Faults.{object_at}
use Rattle.luks_underway.specs.Segments.{flags_at}
use Rattle.luks_wider.specs.Underways.{content}
use Rattle.luks_underway_show.specs.SegmentLines.{segment_lines}
use Rattle.luks_underway_show.proofs.SegmentFacts.{segment_told}
use Rattle.luks_underway_show.proofs.ObjectFacts.{object_missing, object_there}
use Rattle.luks_underway_show.proofs.segments.list_segment.Goals as goal

pub returns : goal.returns
returns g c plain ok =
    let j = content c.args.meta.now in
    let told = c.in-Some-segment.ensures.some in
    let there : object_at j Segments c.args.n ≡ Some (view c.in-Some.object.now) = search rules in
    let same : told.object ≡ view c.in-Some.object.now = cc (there, told.is) in
    let flags : flags_at told.object ≡ option_map (λ v. view v.now) c.inside_at-flags.result = ap flags_at same ∙ sym c.inside_at-flags.ensures in
    has_written_of_eq _ _ _ _ _
    (segment_told c.args.lines c.args.n told.object c.in-Some-segment.segment (option_map (λ v. view v.now) c.inside_at-flags.result) told.tells_members flags
    ∙ object_there (segment_lines c.args.lines) j Segments c.args.n told.object told.is)
    (c.list_members.ensures plain ok)

pub returns-in_default : goal.returns-in_default
returns-in_default g c plain ok =
    let j = content c.args.meta.now in
    let none : object_at j Segments c.args.n ≡ None = search rules in
    has_written_of_eq _ _ _ _ _ (object_missing (segment_lines c.args.lines) j Segments c.args.n none) (search rules)

pub returns-in_default-segment : goal.returns-in_default-segment
returns-in_default-segment g c plain ok =
    let j = content c.args.meta.now in
    has_written_of_eq _ _ _ _ _ (object_missing (segment_lines c.args.lines) j Segments c.args.n (c.in_default-segment.ensures.none refl c.requires)) (search rules)
