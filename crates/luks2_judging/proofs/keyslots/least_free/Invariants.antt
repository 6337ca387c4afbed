use Rattle.luks_meta.specs.Content.{content}
use Rattle.luks2_judging.proofs.KeyslotFacts.{AllInUse}
use Rattle.luks2_judging.proofs.keyslots.least_free.Given as goal

abbrev pub invariant-loop-n : goal.invariant-loop-n
invariant-loop-n l = AllInUse (content l.meta) l.n
