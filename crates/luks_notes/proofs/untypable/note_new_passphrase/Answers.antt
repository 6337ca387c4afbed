use Rattle.std.proofs.Common.{OnOk, subst}
use Rattle.std.specs.Io.KnownBytes.{Appends}
use Rattle.luks_notes.specs.Untypable.{new_line}
use Rattle.luks_notes.specs.declared.untypable.Untypable.{Untypable}
use Rattle.luks_notes.proofs.UntypableFacts.{only_one}
use Rattle.luks_notes.proofs.untypable.note_new_passphrase.Goals as goal

pub returns-in-Some-clause-said : goal.returns-in-Some-clause-said
returns-in-Some-clause-said g c = λ found is.
    subst (λ (u : Untypable). OnOk c.say_new.result (Appends (g.E.Write.contents c.args.err.now) (g.E.Write.contents c.say_new.new.err) (new_line c.args.line_option.now u)))
    (only_one c.args.passphrase.now c.in-Some.found found c.in-Some.ensures.some is) c.say_new.ensures
