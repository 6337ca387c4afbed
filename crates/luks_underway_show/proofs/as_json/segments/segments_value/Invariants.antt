use Rattle.std.proofs.Common.{map}
use Rattle.serde_json.specs.View.{view}
use Rattle.luks_wider.specs.Underways.{content}
use Rattle.luks_underway_show.specs.WideSegmentValues.{AreWideSegments}
use Rattle.luks_underway_show.proofs.as_json.segments.segments_value.Given as goal

abbrev pub invariant-loop-n : goal.invariant-loop-n
invariant-loop-n l = AreWideSegments (content l.meta) l.n (map view l.items.items)
