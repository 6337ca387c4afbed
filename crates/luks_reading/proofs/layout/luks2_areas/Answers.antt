use Rattle.std.proofs.Common.{refl}
use Rattle.luks_meta.specs.Content.{content}
use Rattle.luks_reading.proofs.Luks2AreaFacts.{heads-listed, slots-done, segments-done, segments-away}
use Rattle.luks_reading.proofs.layout.luks2_areas.Goals as goal

pub returns-in-Here : goal.returns-in-Here
returns-in-Here c =
    segments-done (content c.args.meta.now) c.args.size c.args.payload c.args.total _ (c.add_segments.ensures.listed c.args.size c.args.payload c.in-Here.is
    (slots-done (content c.args.meta.now) c.args.size c.args.payload c.args.total _ (c.add_luks2_slots.ensures.listed c.args.size c.args.payload c.args.total
    (rw (c.push-2.ensures, c.push.ensures, c.new-areas.ensures)
    (heads-listed (content c.args.meta.now) c.args.size c.args.payload c.args.total _ _ refl refl refl refl)))))

pub returns-in-Elsewhere : goal.returns-in-Elsewhere
returns-in-Elsewhere c =
    segments-away (content c.args.meta.now) c.args.size c.args.payload c.args.total _ c.in-Elsewhere.is (c.add_luks2_slots.ensures.listed c.args.size c.args.payload c.args.total
    (rw (c.push-2.ensures, c.push.ensures, c.new-areas.ensures)
    (heads-listed (content c.args.meta.now) c.args.size c.args.payload c.args.total _ _ refl refl refl refl)))
