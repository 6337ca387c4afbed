use Rattle.luks_meta.specs.Content.{content}
use Rattle.luks2_judging.proofs.TokenFacts.{unreadable_of}
use Rattle.luks2_judging.proofs.tokens.judge_amending.Goals as goal

pub returns-then-is_unreadable : goal.returns-then-is_unreadable
returns-then-is_unreadable c =
    unreadable_of (content c.args.meta.now) c.args.change c.in-AddToken.to c.in-AddToken.token c.in-Ok.number c.in-AddToken.is c.in-Ok.ensures
    (c.is_unreadable.ensures.unreadable c.if-is_unreadable.true)
