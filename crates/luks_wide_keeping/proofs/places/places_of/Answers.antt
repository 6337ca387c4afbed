use Rattle.std.proofs.Common.{◌*◌, refl, arith}
use Rattle.luks_wider.specs.Underways.{content}
use Rattle.luks_wide_keeping.proofs.LayoutFacts.{region_told}
use Rattle.luks_wide_keeping.proofs.PlacesFacts.{only_one, only_there}
use Rattle.luks_wide_keeping.proofs.places.places_of.Goals as goal

pub returns : goal.returns
returns c =
    let small = c.lead.ensures in
    let least = c.min-2.ensures in
    let all = c.min.ensures in
    record {
      lead = omega (arith, small, least);
      first = refl;
      second = refl;
      region = c.config.result.keyslots_size;
      says = region_told (content c.args.copy.now.meta) c.config.result c.config.ensures;
      area = record { start = 2 * c.args.copy.now.header.hdr_size; len = c.min.result };
      start = refl;
      len = omega (arith, all);
      there = (omega arith, only_there c.only.result _ c.only.ensures);
      only = λ n a is. only_one c.only.result _ n a c.only.ensures is.0 is.1;
    }
