use Rattle.luks_meta.specs.Content.{content}
use Rattle.luks2_judging.proofs.KeyFacts.{met_assigned}
use Rattle.luks2_judging.proofs.keys.key_digest.Goals as goal

pub returns-then-is_assigned : goal.returns-then-is_assigned
returns-then-is_assigned c = met_assigned c.args.older (content c.args.meta.now) c.args.key.now c.in_ok-first.first c.in_ok-first.ensures (c.is_assigned.ensures.0 c.if-is_assigned.true)
