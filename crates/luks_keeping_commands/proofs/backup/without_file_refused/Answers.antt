use Rattle.std.proofs.Common.{false, refl, sym, subst}
use Rattle.luks_keeping_commands.specs.BackingUp.{IsUnmadeAnswer}
use Rattle.luks_keeping_commands.proofs.BackupFacts.{refused_other, unmade_refused}
use Rattle.luks_keeping_commands.proofs.backup.without_file_refused.Goals as goal

pub returns-in-Head-clause-answers : goal.returns-in-Head-clause-answers
returns-in-Head-clause-answers g c =
    let v = g.D.Device.bytes c.args.volume.now in
    let n = g.D.Device.failed c.args.volume.now in
    let payload = c.args.backing_up.now.payload in
    subst (IsUnmadeAnswer false g.D.Device.tells payload v n n c.args.missed) (sym c.narrow_answer.ensures)
    (unmade_refused g.D.Device.tells payload v n n c.args.missed c.args.fault refl c.requires.refused
    (λ told u. refused_other v payload _ c.args.fault (c.requires.refused told) (λ m e. (let is = c.in-Head.is in absurd (cc))) u))

pub returns-in-Area-clause-answers : goal.returns-in-Area-clause-answers
returns-in-Area-clause-answers g c =
    let v = g.D.Device.bytes c.args.volume.now in
    let n = g.D.Device.failed c.args.volume.now in
    let payload = c.args.backing_up.now.payload in
    subst (IsUnmadeAnswer false g.D.Device.tells payload v n n c.args.missed) (sym c.narrow_answer-in-Area.ensures)
    (unmade_refused g.D.Device.tells payload v n n c.args.missed c.args.fault refl c.requires.refused
    (λ told u. refused_other v payload _ c.args.fault (c.requires.refused told) (λ m e. (let is = c.in-Area.is in absurd (cc))) u))

pub returns-in-Device-clause-answers : goal.returns-in-Device-clause-answers
returns-in-Device-clause-answers g c =
    let v = g.D.Device.bytes c.args.volume.now in
    let n = g.D.Device.failed c.args.volume.now in
    let payload = c.args.backing_up.now.payload in
    subst (IsUnmadeAnswer false g.D.Device.tells payload v n n c.args.missed) (sym c.narrow_answer-in-Device.ensures)
    (unmade_refused g.D.Device.tells payload v n n c.args.missed c.args.fault refl c.requires.refused
    (λ told u. refused_other v payload _ c.args.fault (c.requires.refused told) (λ m e. (let is = c.in-Device.is in absurd (cc))) u))

pub returns-in-Memory-clause-answers : goal.returns-in-Memory-clause-answers
returns-in-Memory-clause-answers g c =
    let v = g.D.Device.bytes c.args.volume.now in
    let n = g.D.Device.failed c.args.volume.now in
    let payload = c.args.backing_up.now.payload in
    subst (IsUnmadeAnswer false g.D.Device.tells payload v n n c.args.missed) (sym c.narrow_answer-in-Memory.ensures)
    (unmade_refused g.D.Device.tells payload v n n c.args.missed c.args.fault refl c.requires.refused
    (λ told u. refused_other v payload _ c.args.fault (c.requires.refused told) (λ m e. (let is = c.in-Memory.is in absurd (cc))) u))
