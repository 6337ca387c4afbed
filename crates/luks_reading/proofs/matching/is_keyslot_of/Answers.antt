use Rattle.std.proofs.Common.{◌≡◌, subst}
use Rattle.std.proofs.lemmas.Bool.Decides.{Decides-eqb}
use Rattle.luks_meta.specs.Content.{content}
use Rattle.luks_meta.specs.Naming.{IsDigestOf}
use Rattle.luks_reading.proofs.matching.is_keyslot_of.Goals as goal

pub returns-in-Some : goal.returns-in-Some
returns-in-Some c = (
  λ e. subst (λ m. IsDigestOf (content c.args.meta.now) c.args.n m) ((Decides-eqb c.in-Some.found c.args.digest).0 e) c.in-Some.ensures.some,
  λ x. (let is = c.in-Some.ensures.only c.args.digest x in let same : c.in-Some.found ≡ c.args.digest = cc in (Decides-eqb c.in-Some.found c.args.digest).1 same),
)
