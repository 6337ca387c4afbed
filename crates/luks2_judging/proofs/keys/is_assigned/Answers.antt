use Rattle.std.proofs.Common.{refl, sym, ap, ◌∙◌}
use Rattle.std.specs.Prelude.{not}
use Rattle.std.proofs.lemmas.Bool.{false≢true}
use Rattle.luks_meta.specs.Content.{content}
use Rattle.luks2_judging.proofs.DigestFacts.{assigned_of, missing_assigned, some_assigned}
use Rattle.luks2_judging.proofs.keys.is_assigned.Goals as goal

pub returns-in-Some : goal.returns-in-Some
returns-in-Some c =
    let j = content c.args.meta.now in
    let told = c.in-Some.ensures.some in (
      λ e. assigned_of j c.args.number c.in-Some.digest c.requires told (sym (ap not c.is_empty.ensures) ∙ e),
      λ x. ap not c.is_empty.ensures ∙ some_assigned j c.args.number c.in-Some.digest c.requires told x,
    )

pub returns-in-None : goal.returns-in-None
returns-in-None c = (λ e. absurd (false≢true e), λ x. absurd (missing_assigned (content c.args.meta.now) c.args.number (c.in-None.ensures.none refl) x))
