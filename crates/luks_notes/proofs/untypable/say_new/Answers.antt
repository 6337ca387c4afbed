use Rattle.std.proofs.Common.{OnOk, rules, subst, sym}
use Rattle.std.specs.Io.KnownBytes.{Appends}
use Rattle.luks_notes.specs.Untypable.{new_line}
use Rattle.luks_notes.specs.declared.untypable.Untypable.{Untypable}
use Rattle.luks_notes.proofs.untypable.say_new.Goals as goal

pub returns-in-Newline : goal.returns-in-Newline
returns-in-Newline g c =
    let IsSaid : Untypable → Type 0 = λ u. OnOk c.say_newline.result
    (Appends (g.E.Write.contents c.args.err.now) (g.E.Write.contents c.say_newline.new.err) (new_line c.args.line_option.now u)) in
    subst IsSaid (sym c.in-Newline.is) (search rules)

pub returns-in-CarriageReturn : goal.returns-in-CarriageReturn
returns-in-CarriageReturn g c =
    let IsSaid : Untypable → Type 0 = λ u. OnOk c.writeln-in-CarriageReturn.result
    (Appends (g.E.Write.contents c.args.err.now) (g.E.Write.contents c.writeln-in-CarriageReturn.new.self) (new_line c.args.line_option.now u)) in
    subst IsSaid (sym c.in-CarriageReturn.is) (search rules)

pub returns-in-CarriageReturnNewline : goal.returns-in-CarriageReturnNewline
returns-in-CarriageReturnNewline g c =
    let IsSaid : Untypable → Type 0 = λ u. OnOk c.writeln-in-CarriageReturnNewline.result
    (Appends (g.E.Write.contents c.args.err.now) (g.E.Write.contents c.writeln-in-CarriageReturnNewline.new.self) (new_line c.args.line_option.now u)) in
    subst IsSaid (sym c.in-CarriageReturnNewline.is) (search rules)
