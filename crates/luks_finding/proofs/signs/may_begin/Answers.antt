use Rattle.std.proofs.Common.{inl, inr, sym, ◌∙◌, subst}
use Rattle.std.proofs.lemmas.Bool.{false≢true}
use Rattle.luks_finding.specs.Blocks.{BeginsSign}
use Rattle.luks_finding.proofs.signs.may_begin.Goals as goal

pub returns-then-is_sign : goal.returns-then-is_sign
returns-then-is_sign c = (
  λ yes. inl (subst BeginsSign c.field.ensures.value (c.is_sign.ensures.0 c.if-is_sign.true)),
  λ may. c.if-is_sign.true,
)

pub returns-else-is_sign : goal.returns-else-is_sign
returns-else-is_sign c = (
  λ yes. inr (c.begins_fields.ensures.0 yes),
  λ may. elim may [
    | inl sign ↦ absurd (false≢true (sym c.if-is_sign.false ∙ c.is_sign.ensures.1 (subst BeginsSign (sym c.field.ensures.value) sign)))
    | inr fields ↦ c.begins_fields.ensures.1 fields
  ],
)
