use Rattle.std.proofs.Common.{◌≡◌, Err, false, ◌∙◌, sym, arith, rules}
use Rattle.luks_reading.specs.KeyAnswers.{is_key_failure, IsKeyAnswered}
use Rattle.luks_c_answers.proofs.NumberFacts.{key_number_other}
use Rattle.luks_c.proofs.MatchFacts.{unjudged}
use Rattle.luks_c.proofs.matching.meets_given.Goals as goal

pub returns-in-Err : goal.returns-in-Err
returns-in-Err g c =
    let f = c.in-Err.fault in
    let so : IsKeyAnswered g.K.Given.bytes c.args.digest c.args.older c.args.key.now (Err f) = search rules in
    let own : is_key_failure f ≡ false = search rules in
    record {
      answers = unjudged _ _ _ _ _ f c.key_number.result so c.key_number.ensures;
      wanted = λ asked. absurd (key_number_other f own (sym c.key_number.ensures ∙ asked));
    }
