use Rattle.std.proofs.Common.{refl}
use Rattle.std.proofs.lemmas.Bool.{false≢true}
use Rattle.luks_wider.specs.Underways.{content}
use Rattle.luks_wide_keeping.proofs.LayoutFacts.{no_segment, segment_is}
use Rattle.luks_wide_keeping.proofs.segments.is_below.Goals as goal

pub returns-then-not-segment : goal.returns-then-not-segment
returns-then-not-segment c =
    segment_is c.args.copy.now c.args.n c.args.size c.requires.known c.in-Some.segment c.in-Some.ensures.some c.requires.numbered c.begins_below.ensures.fits c.if-not-segment.true
    c.begins_below.result c.begins_below.ensures.below

pub returns-in-None : goal.returns-in-None
returns-in-None c = (λ e. absurd (false≢true e), λ x. absurd (no_segment c.args.copy.now.header.hdr_size (content c.args.copy.now.meta) c.args.n (c.in-None.ensures.none refl) x))
