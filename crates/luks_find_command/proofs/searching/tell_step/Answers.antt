use Rattle.std.proofs.Common.{ℕ, ◌+◌, ◌^◌, ◌<◌, ◌≤◌, ◌⊎◌, List, [], ◌∷◌, inl, inr, sym, subst, arith}
use Rattle.luks_finding.specs.declared.finding.Step.{Step}
use Rattle.luks_find_command.specs.Searches.{starts_in, told_of, HasToldBy, TellsPart, TellsStepBy}
use Rattle.luks_find_command.proofs.TellingFacts.{step-two, step-weaker, stops-longer, told-none, told-weaker}
use Rattle.luks_find_command.proofs.searching.tell_step.Goals as goal

pub returns-in-On-clause-told : goal.returns-in-On-clause-told
returns-in-On-clause-told g c = λ t.
    let held = told_of (g.P.Printer.printed c.args.out.now) c.args.met.now.items (g.G.Progress.paired c.args.progress.now) in
    let F : Type 0 = g.D.Device.failed c.args.device < g.D.Device.failed c.args.device in
    let S : Step → Type 0 = λ step. HasToldBy F c.args.file.now.offset (g.D.Device.bytes c.args.device) (starts_in step) held held in
    let none = told-none F c.args.file.now.offset (g.D.Device.bytes c.args.device) held in
    elim c.in-On.is [
      | inl on ↦ subst S (sym on) none
      | inr end ↦ subst S (sym end) none
    ]

pub returns-in-Ok-clause-told : goal.returns-in-Ok-clause-told
returns-in-Ok-clause-told g c = λ t.
    let v : List ℕ = g.D.Device.bytes c.args.device in
    let offset : ℕ = c.args.file.now.offset in
    let held = told_of (g.P.Printer.printed c.args.out.now) c.args.met.now.items (g.G.Progress.paired c.args.progress.now) in
    let mid = told_of (g.P.Printer.printed c.tell-device.new.out) c.tell-device.new.met.items (g.G.Progress.paired c.tell-device.new.progress) in
    let holds = told_of (g.P.Printer.printed c.tell_second.new.out) c.tell_second.new.met.items (g.G.Progress.paired c.tell_second.new.progress) in
    let one : ℕ = g.D.Device.failed c.args.device in
    let two : ℕ = g.D.Device.failed c.tell-device.result.0 in
    let three : ℕ = g.D.Device.failed c.tell_second.result.0 in
    let F : Type 0 = one < three in
    let room : one + 1 < 2 ^ 64 = c.requires.room in
    let low : one ≤ two = c.tell-device.ensures.failing.0 in
    let high : two ≤ three = c.tell_second.ensures.failing in
    let S : Step → Type 0 = λ step. TellsStepBy F offset v (starts_in step) held holds c.tell_second.result.1 in
    let G : Type 0 = (2 ^ 64 ≤ two + 1) ⊎ (two < three) in
    let T : List ℕ → Type 0 = λ w. TellsStepBy G offset w (c.in-Two.second ∷ []) mid holds c.tell_second.result.1 in
    let first = rw c.in-Ok.is at c.tell-device.ensures.told t in
    let so : G → F = λ is. elim is [
      | inl full ↦ omega (arith, full, room, low, high)
      | inr rose ↦ omega (arith, rose, low)
    ] in
    subst S (sym c.in-Two.is) (step-two F offset v c.in-Two.first c.in-Two.second held mid holds c.tell_second.result.1
    (told-weaker (one < two) F offset v (c.in-Two.first ∷ []) held mid (λ is. omega (arith, is, high)) first)
    (step-weaker G F offset v (c.in-Two.second ∷ []) mid holds c.tell_second.result.1 so (subst T (c.tell-device.ensures.unchanged.same t) (c.tell_second.ensures.told t))))

pub returns-in-Err-clause-told : goal.returns-in-Err-clause-told
returns-in-Err-clause-told g c = λ t.
    let v : List ℕ = g.D.Device.bytes c.args.device in
    let offset : ℕ = c.args.file.now.offset in
    let held = told_of (g.P.Printer.printed c.args.out.now) c.args.met.now.items (g.G.Progress.paired c.args.progress.now) in
    let mid = told_of (g.P.Printer.printed c.tell-device.new.out) c.tell-device.new.met.items (g.G.Progress.paired c.tell-device.new.progress) in
    let F : Type 0 = g.D.Device.failed c.args.device < g.D.Device.failed c.tell-device.result.0 in
    let S : Step → Type 0 = λ step. TellsPart F offset v (starts_in step) held mid c.in-Err.stop in
    let first = rw c.in-Err.is at c.tell-device.ensures.told t in
    subst S (sym c.in-Two.is) (stops-longer F offset v (c.in-Two.first ∷ []) (c.in-Two.second ∷ []) held mid c.in-Err.stop first)
