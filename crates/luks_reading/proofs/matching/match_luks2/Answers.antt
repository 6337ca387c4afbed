-- The digest that is asked for, or none.
use Rattle.std.proofs.Common.{refl}
use Rattle.luks_meta.specs.Content.{content}
use Rattle.luks_reading.specs.KeyAnswers.{luks2_says}
use Rattle.luks_reading.proofs.KeyFacts.{luks2_faultless, luks2_low, luks2_none, none_first}
use Rattle.luks_reading.proofs.matching.match_luks2.Goals as goal

pub match_numbered-requires-clause-low : goal.match_numbered-requires-clause-low
match_numbered-requires-clause-low c = luks2_low (content c.args.meta.now) c.args.digest c.in-Some.number c.in-Some.ensures.found

pub returns-in-Some-clause-answers : goal.returns-in-Some-clause-answers
returns-in-Some-clause-answers c = λ uuid json clear. c.match_numbered.ensures.answers uuid json c.args.digest clear c.in-Some.ensures.found

pub returns-in-None-clause-answers : goal.returns-in-None-clause-answers
returns-in-None-clause-answers c = λ uuid json clear.
    none_first (luks2_says uuid json c.args.digest) c.args.older _ (luks2_faultless uuid json (content c.args.meta.now) c.args.digest clear)
    (luks2_none json (content c.args.meta.now) c.args.digest clear.meta.json (λ m x. absurd (c.in-None.ensures.none refl m x)))
