use Rattle.std.proofs.Common.{inl, inr, refl, sym, ◌∙◌}
use Rattle.std.proofs.lemmas.Bool.{false≢true}
use Rattle.luks_finding.proofs.luks1_headers.is_luks1_header.Goals as goal

pub returns : goal.returns
returns c = (
  λ yes. record {
    no_copy = λ is. false≢true (sym c.if-begins_otherwise.false ∙ c.begins_otherwise.ensures.1 (inl is));
    settled = λ is. false≢true (sym c.if-begins_otherwise.false ∙ c.begins_otherwise.ensures.1 (inr (inl is)));
    no_text = λ is. false≢true (sym c.if-begins_otherwise.false ∙ c.begins_otherwise.ensures.1 (inr (inr is)));
    signs = c.if-not-has_signs.ensures.0 refl;
    usable = c.is_usable_head.ensures.0 yes;
  },
  λ is. c.is_usable_head.ensures.1 is.usable,
)
