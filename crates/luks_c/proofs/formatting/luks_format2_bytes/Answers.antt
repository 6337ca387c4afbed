use Rattle.std.proofs.Common.{inl, inr}
use Rattle.luks_c.proofs.formatting.luks_format2_bytes.Goals as goal

pub returns-in-Some-format_of-clause-usage : goal.returns-in-Some-format_of-clause-usage
returns-in-Some-format_of-clause-usage c =
    let within = c.in-Some-format_of.ensures.0 in
    let given_is = c.in-Ok-given_of.ensures in (
      (λ usage. absurd (c.make2.ensures.own usage)),
      (λ any. absurd (elim any [
        | inl unchosen ↦ unchosen c.in-Ok.chosen c.in-Ok.ensures
        | inr rest ↦ elim rest [
          | inl uncoded ↦ uncoded c.in-Some.cipher c.in-Some.ensures
          | inr other ↦ elim other [
            | inl unasked ↦ elim unasked [ inl out ↦ out within.parts_ | inr none ↦ none c.in-Some-format_of.format.hash c.in-Some-format_of.ensures.1.hash_is ]
            | inr text ↦ elim text [
              | inl uuid ↦ uuid _ given_is.uuid_is
              | inr names ↦ elim names [ inl label ↦ label _ given_is.label_is | inr subsystem ↦ subsystem _ given_is.subsystem_is ]
            ]
          ]
        ]
      ])),
    )

pub returns-in-Some-format_of-clause-answers : goal.returns-in-Some-format_of-clause-answers
returns-in-Some-format_of-clause-answers c = λ used.
    record {
      given = c.in-Ok-given_of.given;
      given_is = c.in-Ok-given_of.ensures;
      format = c.in-Some-format_of.format;
      is = c.in-Some-format_of.ensures.1;
      so = record { chosen = c.in-Ok.chosen; choice = c.in-Ok.ensures; so = c.make2.ensures.answers };
    }
