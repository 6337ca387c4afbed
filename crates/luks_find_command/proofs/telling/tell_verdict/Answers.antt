use Rattle.std.proofs.Common.{◌≡◌, ℕ, ◌+◌, ◌<◌, List, IfSome, subst, arith}
use Rattle.std.specs.Io.KnownBytes.{Appends}
use Rattle.luks_find_command.specs.Lines.{start_line}
use Rattle.luks_find_command.specs.SameUuids.{TellsPair}
use Rattle.luks_find_command.specs.Searches.{told_of}
use Rattle.luks_find_command.proofs.TellingFacts.{told-one}
use Rattle.luks_find_command.proofs.telling.tell_verdict.Goals as goal

pub returns-in-Ok-print-clause-told : goal.returns-in-Ok-print-clause-told
returns-in-Ok-print-clause-told g c = λ t.
    let v : List ℕ = g.D.Device.bytes c.args.device in
    let F : Type 0 = g.D.Device.failed c.args.device < g.D.Device.failed c.begins_luks1.new.device in
    let held = told_of (g.P.Printer.printed c.args.out.now) c.args.met.now.items (g.G.Progress.paired c.args.progress.now) in
    let holds = told_of (g.P.Printer.printed c.print.new.self) c.tell_pair.new.met.items (g.G.Progress.paired c.tell_pair.new.progress) in
    let there : c.from.result + c.from-2.result ≡ c.args.file.now.offset + c.args.start = omega arith in
    let L : ℕ → Type 0 = λ n. IfSome (start_line n c.args.checked.verdict) (Appends held.printed holds.printed) in
    let P : ℕ → Type 0 = λ n. TellsPair held.met c.args.checked.uuid n holds.met held.said holds.said in
    told-one F c.args.file.now.offset v c.args.start c.args.checked.verdict c.args.checked.uuid held holds (c.requires.says t) (c.requires.uuid t)
    (subst L there c.in-Ok-print.ensures.bytes) (subst P there c.tell_pair.ensures.pairs)
