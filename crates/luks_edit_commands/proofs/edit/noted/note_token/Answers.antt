use Rattle.std.proofs.Common.{OnOk, List, ℕ, sym, subst, ◌∙◌}
use Rattle.std.specs.Io.KnownBytes.{Appends}
use Rattle.std.proofs.KnownBytes.{Appends-nil}
use Rattle.luks_rules.specs.declared.table.Section.TheVariants.{Tokens}
use Rattle.luks_rules.specs.Faults.{object_at}
use Rattle.luks_meta.specs.Content.{content}
use Rattle.luks_edit_commands.proofs.EditNoteFacts.{naming_line, other_line}
use Rattle.luks_edit_commands.proofs.edit.noted.note_token.Goals as goal

pub returns-then-names : goal.returns-then-names
returns-then-names g c =
    let there = c.in-Some.ensures.some in
    let line = naming_line c.args.fate c.args.slot c.args.number (object_at (content c.args.meta.now) Tokens c.args.number) there.object c.in-Some.token there.is
    there.tells_members (sym c.names.ensures ∙ c.if-names.true) in
    subst (λ (l : List ℕ). OnOk c.say_token.result (Appends (g.E.Write.contents c.args.err.now) (g.E.Write.contents c.say_token.new.err) l)) (sym line)
    c.say_token.ensures

pub returns : goal.returns
returns g c =
    let there = c.in-Some.ensures.some in
    let line = other_line c.args.fate c.args.slot c.args.number (object_at (content c.args.meta.now) Tokens c.args.number) there.object c.in-Some.token there.is
    there.tells_members (sym c.names.ensures ∙ c.if-names.false) in
    subst (λ (l : List ℕ). Appends (g.E.Write.contents c.args.err.now) (g.E.Write.contents c.args.err.now) l) (sym line) (Appends-nil _)
