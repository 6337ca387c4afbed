use Rattle.std.proofs.Common.{false, refl, sym, subst}
use Rattle.luks_keeping_commands.specs.BackingUp.{IsMadeAnswer}
use Rattle.luks_keeping_commands.specs.TwoFiles.{pair_of, Pair}
use Rattle.luks_keeping_commands.proofs.BackupFacts.{made_refused, refused_other}
use Rattle.luks_keeping_commands.proofs.backup.refused_volume.Goals as goal

pub returns-in-Head-clause-answers : goal.returns-in-Head-clause-answers
returns-in-Head-clause-answers g c =
    let v = g.D.Device.bytes c.args.volume.now in
    let d : Pair = pair_of g.D.Device.size g.D.Device.bytes g.D.Device.failed c.args.volume.now c.args.volume.now c.args.target.now c.args.target.now in
    subst (IsMadeAnswer false g.D.Device.tells c.args.backing_up.now.payload d) (sym c.narrow_answer.ensures)
    (made_refused g.D.Device.tells c.args.backing_up.now.payload d c.args.fault (refl, refl) (λ told. refl) c.requires.refused
    (λ told u. refused_other v c.args.backing_up.now.payload _ c.args.fault (c.requires.refused told) (λ m e. (let is = c.in-Head.is in absurd (cc))) u))

pub returns-in-Area-clause-answers : goal.returns-in-Area-clause-answers
returns-in-Area-clause-answers g c =
    let v = g.D.Device.bytes c.args.volume.now in
    let d : Pair = pair_of g.D.Device.size g.D.Device.bytes g.D.Device.failed c.args.volume.now c.args.volume.now c.args.target.now c.args.target.now in
    subst (IsMadeAnswer false g.D.Device.tells c.args.backing_up.now.payload d) (sym c.narrow_answer-in-Area.ensures)
    (made_refused g.D.Device.tells c.args.backing_up.now.payload d c.args.fault (refl, refl) (λ told. refl) c.requires.refused
    (λ told u. refused_other v c.args.backing_up.now.payload _ c.args.fault (c.requires.refused told) (λ m e. (let is = c.in-Area.is in absurd (cc))) u))

pub returns-in-Device-clause-answers : goal.returns-in-Device-clause-answers
returns-in-Device-clause-answers g c =
    let v = g.D.Device.bytes c.args.volume.now in
    let d : Pair = pair_of g.D.Device.size g.D.Device.bytes g.D.Device.failed c.args.volume.now c.args.volume.now c.args.target.now c.args.target.now in
    subst (IsMadeAnswer false g.D.Device.tells c.args.backing_up.now.payload d) (sym c.narrow_answer-in-Device.ensures)
    (made_refused g.D.Device.tells c.args.backing_up.now.payload d c.args.fault (refl, refl) (λ told. refl) c.requires.refused
    (λ told u. refused_other v c.args.backing_up.now.payload _ c.args.fault (c.requires.refused told) (λ m e. (let is = c.in-Device.is in absurd (cc))) u))

pub returns-in-Memory-clause-answers : goal.returns-in-Memory-clause-answers
returns-in-Memory-clause-answers g c =
    let v = g.D.Device.bytes c.args.volume.now in
    let d : Pair = pair_of g.D.Device.size g.D.Device.bytes g.D.Device.failed c.args.volume.now c.args.volume.now c.args.target.now c.args.target.now in
    subst (IsMadeAnswer false g.D.Device.tells c.args.backing_up.now.payload d) (sym c.narrow_answer-in-Memory.ensures)
    (made_refused g.D.Device.tells c.args.backing_up.now.payload d c.args.fault (refl, refl) (λ told. refl) c.requires.refused
    (λ told u. refused_other v c.args.backing_up.now.payload _ c.args.fault (c.requires.refused told) (λ m e. (let is = c.in-Memory.is in absurd (cc))) u))
