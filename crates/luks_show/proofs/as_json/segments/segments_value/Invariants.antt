use Rattle.std.proofs.Common.{map}
use Rattle.serde_json.specs.View.{view}
use Rattle.luks_meta.specs.Content.{content}
use Rattle.luks_show.specs.SegmentValues.{AreSegments}
use Rattle.luks_show.proofs.as_json.segments.segments_value.Given as goal

abbrev pub invariant-loop-n : goal.invariant-loop-n
invariant-loop-n l = AreSegments (content l.meta) l.n (map view l.items.items)
