use Rattle.std.proofs.Common.{◌≡◌, ℕ, ◌+◌, ◌^◌, ◌<◌, List, [], ◌∷◌, drop, sym, subst, arith}
use Rattle.luks_find_command.specs.Lines.{IsVerdict}
use Rattle.luks_find_command.specs.SameUuids.{HasUuid}
use Rattle.luks_find_command.specs.Searches.{told_of}
use Rattle.luks_find_command.proofs.TellingFacts.{known-uuid, part-none, unread-step, verdict-of}
use Rattle.luks_find_command.proofs.telling.tell.Goals as goal

pub tell_verdict-requires-clause-room : goal.tell_verdict-requires-clause-room
tell_verdict-requires-clause-room g c =
    let v : List ℕ = g.D.Device.bytes c.args.device in
    let before : ℕ = g.D.Device.failed c.args.device in
    let between : ℕ = g.D.Device.failed c.check_at-checked.result.1 in
    let room : before + 1 < 2 ^ 64 = c.requires.room in
    let same : between ≡ before = (verdict-of g.D.Device.tells (drop c.args.start v) before between c.check_at-checked.result.0.verdict
    c.check_at-checked.ensures.answers c.in_default.not-DeviceFault c.in_default.not-NoMemory).0 in
    omega (arith, room, same)

pub tell_verdict-requires-clause-says : goal.tell_verdict-requires-clause-says
tell_verdict-requires-clause-says g c = λ t.
    let v : List ℕ = g.D.Device.bytes c.args.device in
    let verdict = verdict-of g.D.Device.tells (drop c.args.start v) (g.D.Device.failed c.args.device) (g.D.Device.failed c.check_at-checked.result.1) c.check_at-checked.result.0.verdict
    c.check_at-checked.ensures.answers c.in_default.not-DeviceFault c.in_default.not-NoMemory in
    let V : List ℕ → Type 0 = λ w. IsVerdict (drop c.args.start w) c.check_at-checked.result.0.verdict in
    subst V (sym (c.check_at-checked.ensures.unchanged.same t)) (verdict.1 t)

pub tell_verdict-requires-clause-uuid : goal.tell_verdict-requires-clause-uuid
tell_verdict-requires-clause-uuid g c = λ t.
    let U : List ℕ → Type 0 = λ w. HasUuid (drop c.args.start w) c.check_at-checked.result.0.uuid in
    subst U (sym (c.check_at-checked.ensures.unchanged.same t))
    (known-uuid (drop c.args.start (g.D.Device.bytes c.args.device)) c.check_at-checked.result.0.verdict c.check_at-checked.result.0.uuid
    (c.check_at-checked.ensures.uuid t) c.in_default.not-DeviceFault c.in_default.not-NoMemory)

pub returns-in-NoMemory-clause-told : goal.returns-in-NoMemory-clause-told
returns-in-NoMemory-clause-told g c = λ t.
    part-none (g.D.Device.failed c.args.device < g.D.Device.failed c.check_at-checked.result.1) c.args.file.now.offset (g.D.Device.bytes c.args.device) (c.args.start ∷ [])
    (told_of (g.P.Printer.printed c.args.out.now) c.args.met.now.items (g.G.Progress.paired c.args.progress.now))

pub returns-in-DeviceFault-clause-told : goal.returns-in-DeviceFault-clause-told
returns-in-DeviceFault-clause-told g c = λ t.
    let v : List ℕ = g.D.Device.bytes c.args.device in
    let before : ℕ = g.D.Device.failed c.args.device in
    let after : ℕ = g.D.Device.failed c.check_at-checked.result.1 in
    let rose : after ≡ before + 1 = rw c.in-DeviceFault.is at c.check_at-checked.ensures.answers in
    let failing : before < after = omega (arith, rose) in
    unread-step (before < after) c.args.file.now.offset v c.args.start (g.P.Printer.failures c.args.out.now) (g.P.Printer.failures c.tell_unread-told.new.out)
    (told_of (g.P.Printer.printed c.args.out.now) c.args.met.now.items (g.G.Progress.paired c.args.progress.now)) (g.P.Printer.printed c.tell_unread-told.new.out) c.tell_unread-told.result failing
    c.tell_unread-told.ensures.unprinted c.tell_unread-told.ensures.told
