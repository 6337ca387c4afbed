use Rattle.std.proofs.Common.{refl}
use Rattle.luks_meta.specs.Content.{area_len, content}
use Rattle.luks2_judging.proofs.RoomFacts.{area_found, area_placed, no_area}
use Rattle.luks2_judging.proofs.room.new_area.Goals as goal

pub returns-in-Some-clause-new : goal.returns-in-Some-clause-new
returns-in-Some-clause-new c = λ payload lists.
    area_found c.args.entries.now (area_len c.args.meta.now) (content c.args.meta.now) c.args.total c.region_of-region.result.low c.region_of-region.result.high c.region_of-region.ensures
    c.ranges.total.fits c.args.like c.blocks_of-len.result c.blocks_of-len.ensures payload lists c.in-Some.start c.in-Some.ensures.some

pub returns-in-Some-clause-placed : goal.returns-in-Some-clause-placed
returns-in-Some-clause-placed c =
    area_placed c.args.entries.now (area_len c.args.meta.now) (content c.args.meta.now) c.args.total c.region_of-region.result.low c.region_of-region.result.high c.region_of-region.ensures
    c.ranges.total.fits c.args.like c.blocks_of-len.result c.blocks_of-len.ensures c.in-Some.start c.in-Some.ensures.some

pub returns-in-None-clause-new : goal.returns-in-None-clause-new
returns-in-None-clause-new c = λ payload lists.
    no_area c.args.entries.now (area_len c.args.meta.now) (content c.args.meta.now) c.args.total c.region_of-region.result.low c.region_of-region.result.high c.region_of-region.ensures
    c.ranges.total.fits c.args.like c.blocks_of-len.result c.blocks_of-len.ensures payload lists (c.in-None.ensures.none refl)
