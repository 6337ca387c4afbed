use Rattle.std.proofs.Common.{◌≡◌, ◌∙◌, Some, ap, codes, option_and_then, option_map, rules, sym, unwrap_or}
use Rattle.serde_json.specs.Data.{array, no_items}
use Rattle.serde_json.specs.Find.{get}
use Rattle.serde_json.specs.View.{view}
use Rattle.luks_rules.specs.declared.table.Section.TheVariants.{Segments}
use Rattle.luks_rules.specs.Faults.{object_at}
use Rattle.luks_show.specs.SegmentValues.{integrity_at}
use Rattle.luks_wider.specs.Underways.{content}
use Rattle.luks_underway_show.specs.WideSegmentValues.{flags_value}
use Rattle.luks_underway_show.proofs.ValueFacts.{segment_value}
use Rattle.luks_underway_show.proofs.as_json.segments.segment_at.Goals as goal

pub returns : goal.returns
returns c =
    let j = content c.args.meta.now in
    let o = view c.in-Some.object.now in
    let there : object_at j Segments c.args.n ≡ Some o = search rules in
    let flags : view c.in_ok-flags.flags ≡ flags_value o = c.in_ok-flags.ensures ∙ ap (λ m. unwrap_or m (array no_items)) c.inside_at.ensures in
    let integrity : option_map (λ v. view v.now) c.get.result ≡ integrity_at j c.args.n = c.get.ensures ∙ sym (ap (option_and_then (get (codes "integrity"))) there) in
    segment_value j c.args.n c.in-Some-segment.segment o (view c.in_ok-flags.flags) (option_map (λ v. view v.now) c.get.result) (view c.in_ok-value.value)
    c.in-Some-segment.ensures.some there flags integrity c.in_ok-value.ensures
