use Rattle.std.proofs.Common.{◌≡◌, ℕ, arith, subst}
use Rattle.std.specs.Io.KnownBytes.{Appends}
use Rattle.luks_meta.specs.Content.{content}
use Rattle.luks_edit_commands.specs.EditNotes.{token_lines}
use Rattle.luks_edit_commands.proofs.EditNoteFacts.{next_token, no_token}
use Rattle.luks_edit_commands.proofs.edit.noted.note_tokens.Goals as goal

pub loop-number-init : goal.loop-number-init
loop-number-init g c = no_token c.args.fate c.args.slot (content c.args.meta.now) _

pub loop-number-preserved : goal.loop-number-preserved
loop-number-preserved g c =
    next_token c.args.fate c.args.slot (content c.args.meta.now) c.loop-number.number _ _ _ c.loop-number.invariant c.in_ok-note_token.ensures

pub returns : goal.returns
returns g c =
    let whole : c.loop-number.number ≡ 32 = omega (arith, c.loop-number-test.false, c.loop-number.auto.number-end) in
    subst (λ (k : ℕ). Appends (g.E.Write.contents c.args.err.now) (g.E.Write.contents c.loop-number.err) (token_lines c.args.fate c.args.slot (content c.args.meta.now) k))
    whole c.loop-number.invariant
