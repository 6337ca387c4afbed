use Rattle.std.proofs.Common.{◌∙◌, refl, rules}
use Rattle.std.proofs.Output.{has_written_of_eq}
use Rattle.luks_rules.specs.declared.table.Section.TheVariants.{Digests}
use Rattle.luks_wider.specs.Underways.{content}
use Rattle.luks_underway_show.specs.UnderwayLines.{digest_listed}
use Rattle.luks_underway_show.proofs.ObjectFacts.{object_missing, object_there, digest_told}
use Rattle.luks_underway_show.proofs.tokens.list_digest.Goals as goal

pub returns-in-Some : goal.returns-in-Some
returns-in-Some g c plain ok =
    let told = c.in-Some.ensures.some in
    has_written_of_eq _ _ _ _ _
    (digest_told c.args.n told.object c.in-Some.digest told.tells_members ∙ object_there digest_listed (content c.args.meta.now) Digests c.args.n told.object told.is)
    (c.write.ensures.writes plain ok)

pub returns-in-None : goal.returns-in-None
returns-in-None g c plain ok =
    has_written_of_eq _ _ _ _ _ (object_missing digest_listed (content c.args.meta.now) Digests c.args.n (c.in-None.ensures.none refl c.requires)) (search rules)
