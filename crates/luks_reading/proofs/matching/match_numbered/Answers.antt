-- The digest of the number, or none.
use Rattle.std.proofs.Common.{◌≡◌, None, refl, subst}
use Rattle.luks_meta.specs.Content.{content}
use Rattle.luks_meta.specs.Faults.{object_at}
use Rattle.luks_rules.specs.declared.table.Section.TheVariants.{Digests}
use Rattle.luks_reading.specs.KeyAnswers.{luks2_says}
use Rattle.luks_reading.proofs.KeyFacts.{luks2_faultless, luks2_none, luks2_number, none_first}
use Rattle.luks_reading.proofs.matching.match_numbered.Goals as goal

pub returns-in-None-clause-answers : goal.returns-in-None-clause-answers
returns-in-None-clause-answers c = λ uuid json asked clear named.
    none_first (luks2_says uuid json asked) c.args.older _ (luks2_faultless uuid json (content c.args.meta.now) asked clear)
    (luks2_none json (content c.args.meta.now) asked clear.meta.json
    (λ m x. subst (λ k. object_at (content c.args.meta.now) Digests k ≡ None) (luks2_number (content c.args.meta.now) asked c.args.number m named x)
    (c.in-None.ensures.none refl c.requires.low)))
