use Rattle.std.proofs.Common.{inl, inr, refl, rules}
use Rattle.luks_c_answers.specs.EditAsked.{HasNoToken}
use Rattle.luks_c.proofs.editing.add_token.Goals as goal

pub returns-in-Ok-clause-answers : goal.returns-in-Ok-clause-answers
returns-in-Ok-clause-answers g c = inl (record { token = _; has = c.in-Ok.ensures.token; answers = c.apply_given.ensures.answers })

pub returns-in-Err-BadJson-clause-answers : goal.returns-in-Err-BadJson-clause-answers
returns-in-Err-BadJson-clause-answers g c =
    let none : HasNoToken c.args.text.now = search rules in
    inr (inr (record { none = none; refused = c.refuse_text.ensures.refused; room = c.refuse_text.ensures.room; why = c.refuse_text.ensures.why }), refl)
