use Rattle.std.proofs.lemmas.Option.{IfSome_then}
use Rattle.luks_meta.specs.Content.{content}
use Rattle.luks_fragments.proofs.RegionFacts.{none_then, region_here}
use Rattle.luks_fragments.proofs.region.needed_region.Goals as goal

pub returns-clause-some : goal.returns-clause-some
returns-clause-some c =
    let here = rw c.in-Some.is at c.in_ok-meta.ensures.some in
    IfSome_then c.region_of.result c.region_of.ensures.some (λ n r. record { value = content c.in-Some.meta; accepted = here; region = r })

pub returns-clause-none : goal.returns-clause-none
returns-clause-none c =
    let here = rw c.in-Some.is at c.in_ok-meta.ensures.some in
    none_then c.region_of.result (λ none n x. none n (region_here c.args.keyslot.now (content c.in-Some.meta) n here x)) c.region_of.ensures.none
