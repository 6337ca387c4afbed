use Rattle.std.proofs.Common.{◌==◌, position, sym, ap, ◌∙◌}
use Rattle.luks_area.proofs.Cutting.{take-position, before_first-all}
use Rattle.luks_commands.proofs.passphrase_file.cut_at_newline.Goals as goal

pub returns-in-Some : goal.returns-in-Some
returns-in-Some c =
    let at = sym (ap (position (λ b. b == 10)) c.as_slice.ensures.value) ∙ (sym c.first_newline.ensures ∙ c.in-Some.is) in
    c.truncate.ensures.items ∙ take-position _ _ _ at

pub returns-in_default : goal.returns-in_default
returns-in_default c =
    let at = sym (ap (position (λ b. b == 10)) c.as_slice.ensures.value) ∙ (sym c.first_newline.ensures ∙ c.in_default.is) in
    before_first-all _ _ at
