use Rattle.std.proofs.Common.{ℕ, List, Option, Some, None, Ok, sym, subst}
use Rattle.luks_wider.specs.Underways.{content}
use Rattle.luks_wide_reading.specs.Headers.{IsUnderwayCopy}
use Rattle.luks_wide_reading.specs.Trying.{underway_order, IsUnderwayUnlocking}
use Rattle.luks_commands.specs.OpenAnswers.{FailsBeside, IsAnyUnderway}
use Rattle.luks_commands.proofs.UnderwayOpening.{lost_underway, unlocks_underway}
use Rattle.luks_commands.proofs.open.underway.open_first.Goals as goal

pub returns-in-Ok-Some-clause-answers : goal.returns-in-Ok-Some-clause-answers
returns-in-Ok-Some-clause-answers g c =
    let v = g.D.Device.bytes c.args.device.now in
    let size = g.D.Device.size c.args.device.now in
    let trial = c.args.trial.now in
    let order = underway_order (content trial.copy.now.meta) in
    let key = c.in-Ok-Some.field-0-0-1 in (
      subst (λ m. FailsBeside m (g.D.Device.failed c.note_keys.new.device)) c.in-Ok-Some.ensures.count c.note_keys.ensures.beside,
      λ t. (
        key,
        unlocks_underway g.D.Device.tells size v trial.copy.now trial.allowed trial.passphrase.now (Some (c.in-Ok-Some.n, key)) t.0 t.1
            (λ json holds. subst (λ (o : Option (ℕ × List ℕ)). IsUnderwayUnlocking g.D.Device.tells size v json trial.allowed trial.passphrase.now order (Ok o)) c.in-Ok-Some.field-0-is
            (c.in-Ok-Some.ensures.answers json holds)),
      ),
    )

pub returns-in-Ok-None-clause-answers : goal.returns-in-Ok-None-clause-answers
returns-in-Ok-None-clause-answers g c =
    let v = g.D.Device.bytes c.args.device.now in
    let size = g.D.Device.size c.args.device.now in
    let trial = c.args.trial.now in
    let order = underway_order (content trial.copy.now.meta) in (
      c.in-Ok-None.ensures.count,
      λ t. unlocks_underway g.D.Device.tells size v trial.copy.now trial.allowed trial.passphrase.now None t.0 t.1
          (λ json holds. subst (λ (o : Option (ℕ × List ℕ)). IsUnderwayUnlocking g.D.Device.tells size v json trial.allowed trial.passphrase.now order (Ok o)) c.in-Ok-None.field-0-is
          (c.in-Ok-None.ensures.answers json holds)),
    )

pub returns-after-fault-clause-answers : goal.returns-after-fault-clause-answers
returns-after-fault-clause-answers g c =
    let v = g.D.Device.bytes c.args.device.now in
    let trial = c.args.trial.now in
    subst (IsAnyUnderway (g.D.Device.tells × IsUnderwayCopy v trial.copy.now) trial.allowed v trial.passphrase.now _ _) (sym c.from.ensures)
    (lost_underway g.D.Device.tells (g.D.Device.size c.args.device.now) v trial.copy.now trial.allowed trial.passphrase.now _ _ c.in-Err.fault
    (λ tells. sym (g.met.D.Device.sized c.args.device.now tells)) c.in-Err.ensures.kinds c.in-Err.ensures.count c.in-Err.ensures.answers)
