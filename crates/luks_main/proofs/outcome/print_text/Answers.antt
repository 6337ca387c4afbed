use Rattle.std.proofs.Common.{refl, string_bytes}
use Rattle.luks_main.specs.Outcomes.{told}
use Rattle.luks_main.proofs.outcome.print_text.Goals as goal

pub returns-in-Ok-print : goal.returns-in-Ok-print
returns-in-Ok-print g c = rw c.in-Ok.is (told (string_bytes c.in-Ok.text) refl c.in-Ok-print.ensures.bytes c.in-Ok-print.ensures.count refl)
