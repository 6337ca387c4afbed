use Rattle.std.proofs.lemmas.Bool.{false≢true}
use Rattle.luks_wider.specs.Underways.{content}
use Rattle.luks_wide_keeping.proofs.LayoutFacts.{past_is}
use Rattle.luks_wide_keeping.proofs.areas.is_past.Goals as goal

pub returns-in-Some : goal.returns-in-Some
returns-in-Some c = past_is (content c.args.meta.now) c.args.total c.args.n c.in-Some.area c.is_inside.result c.in-Some.ensures c.is_inside.ensures

pub returns-in-None : goal.returns-in-None
returns-in-None c = (λ e. absurd (false≢true e), λ x. absurd (c.in-None.ensures x.area x.is))
