use Rattle.std.proofs.Common.{ap, sym, subst, refl, Some, ◌∙◌}
use Rattle.luks_meta.specs.Content.{content}
use Rattle.luks_meta.specs.Says.{extent_field}
use Rattle.luks_reading.specs.Layout2.{HasExtent}
use Rattle.luks_reading.proofs.Luks2AreaFacts.{adds-segment, adds-no_segment, segment_start, segment_size}
use Rattle.luks_reading.proofs.layout.add_segments.Goals.{in-Some, in-None}
use Rattle.luks_reading.proofs.layout.add_segments.Goals as goal

pub loop-n-preserved : goal.loop-n-preserved
loop-n-preserved c = elim c.match-segment.branch [
  | in-Some w ↦
      let segment = w.in-Some.ensures.some in
      rw (w.areas-is, w.push.ensures) (adds-segment _ _ (content c.args.meta.now) c.args.total _ _ c.loop-n-test.true
      (segment_start (content c.args.meta.now) segment.object c.loop-n.n w.in-Some.segment.offset segment.is segment.tells_members.0 ∙ ap Some (sym w.segment_area.ensures.start))
      (subst (HasExtent _ _ _) (sym (segment_size (content c.args.meta.now) segment.object c.loop-n.n (extent_field w.in-Some.segment.size) segment.is segment.tells_members.1)) w.segment_area.ensures.len)
      c.loop-n.invariant)
  | in-None w ↦ rw w.areas-is (adds-no_segment _ _ _ _ _ (w.in-None.ensures.none refl c.loop-n-test.true) c.loop-n.invariant)
]
