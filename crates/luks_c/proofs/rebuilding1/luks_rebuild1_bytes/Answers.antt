use Rattle.std.proofs.Common.{inl, inr, rules}
use Rattle.luks_given.specs.Parts.{ArePartsOf}
use Rattle.luks_c.proofs.rebuilding1.luks_rebuild1_bytes.Goals as goal

pub returns-in-Ok-clause-usage : goal.returns-in-Ok-clause-usage
returns-in-Ok-clause-usage c =
    let source_are : ArePartsOf c.args.source_parts.now c.args.source.now c.args.source_total = search rules in
    let target_are : ArePartsOf c.args.parts.now c.args.held.now c.args.total = search rules in (
      (λ usage. absurd (c.rebuild1_given.ensures.own usage)),
      (λ any. absurd (elim any [
        | inl out ↦ out source_are
        | inr rest ↦ (elim rest [ inl out ↦ out target_are | inr none ↦ none c.in-Ok.fields c.in-Ok.ensures ])
      ])),
    )
