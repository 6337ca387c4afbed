use Rattle.std.proofs.Common.{◌≡◌, false, ◌∙◌, sym, rules}
use Rattle.luks_reading.specs.Answer.{IsRefusedByWithin}
use Rattle.luks_reading.specs.Failures.{is_open_failure}
use Rattle.luks_c_answers.proofs.NumberFacts.{open_number_other}
use Rattle.luks_c.proofs.OpenFacts.{refused_by}
use Rattle.luks_c.proofs.opening.open_given.Goals as goal

pub returns-in-Err : goal.returns-in-Err
returns-in-Err g c =
    let f = c.in-Err.fault in
    let so : IsRefusedByWithin c.args.allowed g.K.Given.bytes c.args.n c.args.passphrase.now f = search rules in
    let own : is_open_failure f ≡ false = search rules in
    record {
      answers = refused_by _ _ _ c.args.key.now c.args.opened.now f c.open_number.result so c.open_number.ensures;
      wanted = λ asked. absurd (open_number_other f own (sym c.open_number.ensures ∙ asked));
    }
