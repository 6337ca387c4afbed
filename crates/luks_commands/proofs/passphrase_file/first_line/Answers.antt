use Rattle.std.proofs.Common.{◌≡◌, ◌++◌, ◌∙◌, ap, subst, take, option_map, IfSome}
use Rattle.std.specs.Io.BufRead.{take_through}
use Rattle.luks_commands.proofs.FirstLineFacts.{line_of, unbuffered}
use Rattle.luks_commands.proofs.passphrase_file.first_line.Goals as goal

pub returns-clause-line : goal.returns-clause-line
returns-clause-line g c =
    let same : c.take.result.inner.now ≡ c.args.reader.now = ap (λ r. r.now) c.take.ensures.inner in
    let kept = c.in_ok-front.ensures in
    line_of (g.R.Read.remaining c.args.reader.now) c.in_ok-line.line.items c.read_until-read.new.buf.items _ c.in_ok-line.ensures.empty
    (rw (← same, ← c.take.ensures.limit) (subst (λ known. IfSome known (λ xs. c.read_until-read.new.buf.items ≡ c.in_ok-line.line.items ++ take_through 10 xs)) (unbuffered (λ t. option_map (take t.limit) (g.R.Read.remaining t.inner.now)) c.in_ok-front.front c.take.result kept.capacity kept.empty kept.inner) c.in_ok-read.ensures.bytes))
    (c.new-secret.ensures ∙ c.cut_at_newline.ensures)
