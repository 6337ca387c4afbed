use Rattle.std.proofs.Common.{ℕ, List, Option, inr, refl, subst, sym, ◌∙◌}
use Rattle.luks_edit.specs.declared.edit.Edit.TheVariants as edit
use Rattle.luks_reading.specs.Unlocking.{Unlocks}
use Rattle.luks_edit_commands.specs.Editing.{IsUnfound, UnlessOutside}
use Rattle.luks_edit_commands.proofs.FindingFacts.{tried_unrefused}
use Rattle.luks_edit_commands.proofs.edit.finding.found_keyslot.Goals as goal

pub returns-in-Ok-None-clause-unfound : goal.returns-in-Ok-None-clause-unfound
returns-in-Ok-None-clause-unfound g c = λ tells read.
    let v : List ℕ = g.D.Device.bytes c.args.device.now in
    let long = g.met.D.Device.sized c.args.device.now tells ∙ sym c.len.ensures in
    inr (
      refl,
      (c.in_ok-needed_of_header.ensures.tells v read long).unrefused,
      subst (λ (o : Option (ℕ × List ℕ)). Unlocks c.args.secret.now.allowed v c.args.secret.now.bytes.now o) c.in-Ok-None.field-0-is
          (c.in-Ok-None.ensures.answers.unlocks tells read),
    )

pub returns-in-Err-clause-unfound : goal.returns-in-Err-clause-unfound
returns-in-Err-clause-unfound g c = λ tells read.
    let v : List ℕ = g.D.Device.bytes c.args.device.now in
    let long = g.met.D.Device.sized c.args.device.now tells ∙ sym c.len.ensures in
    subst (UnlessOutside v (IsUnfound c.args.payload v c.args.secret.now)) (sym c.unopened.ensures)
    (tried_unrefused v c.args.payload edit.Repair (IsUnfound c.args.payload v c.args.secret.now)
    (c.in_ok-needed_of_header.ensures.tells v read long).unrefused c.in-Err.fault (c.in-Err.ensures.answers.refused tells read))
