use Rattle.std.proofs.Common.{◌≡◌, ℕ, ◌+◌, ◌^◌, ◌<◌, ◌≤◌, ◌⊎◌, [], ◌∷◌, inl, inr, arith}
use Rattle.luks_find_command.specs.Searches.{told_of}
use Rattle.luks_find_command.proofs.TellingFacts.{step-weaker, unread-step}
use Rattle.luks_find_command.proofs.searching.tell_second.Goals as goal

pub returns-then-failures-clause-told : goal.returns-then-failures-clause-told
returns-then-failures-clause-told g c = λ t.
    let failed : ℕ = g.D.Device.failed c.args.device in
    let is : c.failures.result ≡ failed = c.failures.ensures in
    let full : 2 ^ 64 ≤ failed + 1 = omega (arith, is) in
    unread-step ((2 ^ 64 ≤ failed + 1) ⊎ (failed < failed)) c.args.file.now.offset (g.D.Device.bytes c.args.device) c.args.start
    (g.P.Printer.failures c.args.out.now) (g.P.Printer.failures c.tell_unread-told.new.out)
    (told_of (g.P.Printer.printed c.args.out.now) c.args.met.now.items (g.G.Progress.paired c.args.progress.now)) (g.P.Printer.printed c.tell_unread-told.new.out) c.tell_unread-told.result (inl full)
    c.tell_unread-told.ensures.unprinted c.tell_unread-told.ensures.told

pub returns-else-failures-clause-told : goal.returns-else-failures-clause-told
returns-else-failures-clause-told g c = λ t.
    let failed : ℕ = g.D.Device.failed c.args.device in
    let now : ℕ = g.D.Device.failed c.tell.result.0 in
    step-weaker (failed < now) ((2 ^ 64 ≤ failed + 1) ⊎ (failed < now)) c.args.file.now.offset (g.D.Device.bytes c.args.device) (c.args.start ∷ [])
    (told_of (g.P.Printer.printed c.args.out.now) c.args.met.now.items (g.G.Progress.paired c.args.progress.now))
    (told_of (g.P.Printer.printed c.tell.new.out) c.tell.new.met.items (g.G.Progress.paired c.tell.new.progress)) c.tell.result.1 (λ is. inr is) (c.tell.ensures.told t)
