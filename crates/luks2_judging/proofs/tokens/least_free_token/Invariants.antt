use Rattle.luks_meta.specs.Content.{content}
use Rattle.luks2_judging.proofs.TokenFacts.{AllThere}
use Rattle.luks2_judging.proofs.tokens.least_free_token.Given as goal

abbrev pub invariant-loop-n : goal.invariant-loop-n
invariant-loop-n l = AllThere (content l.meta) l.n
