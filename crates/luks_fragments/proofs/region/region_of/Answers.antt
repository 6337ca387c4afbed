use Rattle.std.proofs.Common.{arith}
use Rattle.luks_fragments.proofs.region.region_of.Goals as goal

pub returns-clause-some : goal.returns-clause-some
returns-clause-some c =
    let slot = c.in_ok-keyslot.ensures.some in
    let area = c.in_ok-keyslot.keyslot.area in
    let sum = c.in_ok-end.ensures in
    let tells = slot.tells_members in
    record {
      keyslot = slot.object;
      is = slot.is;
      start = area.offset;
      begins = tells.4.3;
      size = area.size;
      sized = tells.4.4;
      blocks = c.blocks_behind.result;
      of_blocks = omega arith;
      enough = (let enough = c.blocks_behind.ensures.enough in omega (arith, enough, sum));
      least = λ fewer over. c.blocks_behind.ensures.least fewer (omega (arith, over, sum));
    }
