use Rattle.luks_meta.specs.Content.{content}
use Rattle.luks2_judging.proofs.LastFacts.{OnlyBelow}
use Rattle.luks2_judging.proofs.rows.is_only_name.Given as goal

abbrev pub invariant-loop-n : goal.invariant-loop-n
invariant-loop-n l = OnlyBelow (content l.meta) l.digest l.slot l.n
