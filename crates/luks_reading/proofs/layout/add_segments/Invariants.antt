use Rattle.luks_meta.specs.Content.{content}
use Rattle.luks_reading.specs.Listing.{AddsSegments}
use Rattle.luks_reading.proofs.layout.add_segments.Given as goal

abbrev pub invariant-loop-n : goal.invariant-loop-n
invariant-loop-n l = AddsSegments l.fn.areas l.areas (content l.meta) l.total l.n
