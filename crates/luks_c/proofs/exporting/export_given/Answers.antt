use Rattle.std.proofs.Common.{◌≡◌, false, ◌∙◌, sym, rules}
use Rattle.luks_reading.specs.Failures.{is_read_failure}
use Rattle.luks_c.proofs.OpenFacts.{read_number_other}
use Rattle.luks_c.proofs.exporting.export_given.Goals as goal

pub returns-in-Err-clause-wanted : goal.returns-in-Err-clause-wanted
returns-in-Err-clause-wanted g c =
    let f = c.in-Err.fault in
    let own : is_read_failure f ≡ false = search rules in
    λ asked. absurd (read_number_other f own (sym c.read_number.ensures ∙ asked))
