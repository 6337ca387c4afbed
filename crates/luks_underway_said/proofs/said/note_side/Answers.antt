use Rattle.std.proofs.Common.{◌≡◌, OnOk, codes, subst, sym}
use Rattle.std.specs.Io.KnownBytes.{Appends}
use Rattle.luks_underway.specs.Sides.{IsSide}
use Rattle.luks_underway.specs.declared.sides.Side.{Side}
use Rattle.luks_wider.specs.Underways.{content}
use Rattle.luks_underway_said.specs.Said.{side_by, side_line}
use Rattle.luks_underway_said.proofs.said.note_side.Goals as goal

pub returns : goal.returns
returns g c old new a b =
    let j = content c.args.meta.now in
    let n = c.args.n in
    let same = c.value.ensures in
    let was = subst (λ d. IsSide d (codes "backup-previous") old) (sym same) a in
    let will = subst (λ d. IsSide d (codes "backup-final") new) (sym same) b in
    let is : c.keyslot_side-side.result ≡ side_by j n old new = subst (λ d. c.keyslot_side-side.result ≡ side_by d n old new) same (c.keyslot_side-side.ensures old new was will) in
    let IsSaid : Side → Type 0 = λ s. OnOk c.say_side.result
    (Appends (g.E.Write.contents c.args.err.now) (g.E.Write.contents c.say_side.new.err) (side_line n s)) in
    subst IsSaid is c.say_side.ensures
