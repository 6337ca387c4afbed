use Rattle.std.proofs.Common.{None, subst}
use Rattle.luks_meta.specs.Content.{content}
use Rattle.luks_reading.specs.KeyDigests.{IsLuks2Number}
use Rattle.luks_reading.proofs.matching.asked_digest.Goals as goal

pub returns-in-None-clause-none : goal.returns-in-None-clause-none
returns-in-None-clause-none c = λ none m x.
    let first : IsLuks2Number (content c.args.meta.now) None m = subst (λ a. IsLuks2Number (content c.args.meta.now) a m) c.in-None.is x in
    c.digest_of_segment.ensures.none none m first.is
