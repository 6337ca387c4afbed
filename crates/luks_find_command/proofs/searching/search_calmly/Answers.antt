use Rattle.std.proofs.Common.{◌≡◌, ℕ, ◌<◌, ◌≤◌, List, [], sym, ◌∙◌, subst, arith}
use Rattle.luks_area.specs.Device.{unchanged-then}
use Rattle.luks_finding.specs.Finding.{looks_from, HasNoSignFrom, TellsNext}
use Rattle.luks_find_command.specs.Searches.{starts_in, told_of, HasToldBy, IsToldCalmly, TellsPart}
use Rattle.luks_find_command.specs.Stops.{StopsBy}
use Rattle.luks_find_command.specs.declared.stop.Stop.{Stop}
use Rattle.luks_find_command.specs.declared.stop.Stop.TheVariants as stop
use Rattle.luks_find_command.proofs.SearchFacts.{calm-all, calm-failed, calm-first, calm-more, calm-stops, step-first, step-stops, IsCalm}
use Rattle.luks_find_command.proofs.TellingFacts.{stop-weaker, told-exact, told-weaker}
use Rattle.luks_find_command.proofs.searching.search_calmly.Goals as goal

pub returns-in-Ok-End-clause-all : goal.returns-in-Ok-End-clause-all
returns-in-Ok-End-clause-all g c = λ t.
    let v : List ℕ = g.D.Device.bytes c.args.device in
    let from : ℕ = looks_from c.loop-device.searching.finding in
    let N : List ℕ → Type 0 = λ w. HasNoSignFrom w from in
    let none = rw c.in-Ok-End.field-0-is at c.in-Ok-End.ensures.next t in
    calm-all c.args.file.now.offset v from c.loop-device.searching.told.items
    (told_of (g.P.Printer.printed c.args.out.now) [] (g.G.Progress.paired c.args.progress.now)) (told_of (g.P.Printer.printed c.loop-device.out) c.loop-device.searching.met.items (g.G.Progress.paired c.loop-device.progress))
    (c.loop-device.invariant.told t) (subst N (c.loop-device.invariant.unchanged.same t) none)

pub returns-in-Err-clause-first : goal.returns-in-Err-clause-first
returns-in-Err-clause-first g c = λ t same.
    calm-first c.args.file.now.offset (g.D.Device.bytes c.args.device) (looks_from c.loop-device.searching.finding) c.loop-device.searching.told.items
    (told_of (g.P.Printer.printed c.args.out.now) [] (g.G.Progress.paired c.args.progress.now)) (told_of (g.P.Printer.printed c.loop-device.out) c.loop-device.searching.met.items (g.G.Progress.paired c.loop-device.progress)) c.from.result (c.loop-device.invariant.told t)

pub returns-in-Err-clause-on : goal.returns-in-Err-clause-on
returns-in-Err-clause-on g c = λ t.
    let v : List ℕ = g.D.Device.bytes c.args.device in
    let F : Type 0 = g.D.Device.failed c.args.device < g.D.Device.failed c.step.new.device in
    let list : List ℕ = c.loop-device.searching.told.items in
    let held = told_of (g.P.Printer.printed c.args.out.now) [] (g.G.Progress.paired c.args.progress.now) in
    let mid = told_of (g.P.Printer.printed c.loop-device.out) c.loop-device.searching.met.items (g.G.Progress.paired c.loop-device.progress) in
    let S : ℕ → Type 0 = λ n. IsToldCalmly F c.args.file.now.offset v n list held mid c.from.result in
    subst S (sym c.in-Err.ensures.stays)
    (calm-stops F c.args.file.now.offset v (looks_from c.loop-device.searching.finding) list held mid c.from.result (c.loop-device.invariant.told t))

pub returns-in-Err-told : goal.returns-in-Err-told
returns-in-Err-told g c =
    let zero_failed : ℕ = g.D.Device.failed c.args.device in
    let mid_failed : ℕ = g.D.Device.failed c.step.new.device in
    let now_failed : ℕ = g.D.Device.failed c.take_step-left.result.0 in
    let same_count : mid_failed ≡ zero_failed = c.in-Ok.ensures.count ∙ c.loop-device.invariant.count in
    let v : List ℕ = g.D.Device.bytes c.args.device in
    let offset : ℕ = c.args.file.now.offset in
    let from : ℕ = looks_from c.loop-device.searching.finding in
    let next : ℕ = looks_from c.step.new.self in
    let step = c.in-Ok.step in
    let list : List ℕ = c.loop-device.searching.told.items in
    let held = told_of (g.P.Printer.printed c.args.out.now) [] (g.G.Progress.paired c.args.progress.now) in
    let mid = told_of (g.P.Printer.printed c.loop-device.out) c.loop-device.searching.met.items (g.G.Progress.paired c.loop-device.progress) in
    let holds = told_of (g.P.Printer.printed c.take_step-left.new.out) c.take_step-left.new.searching.met.items (g.G.Progress.paired c.take_step-left.new.progress) in
    let why : Stop = c.in-Err-told.stop in
    let F : Type 0 = mid_failed < now_failed in
    let N : List ℕ → Type 0 = λ w. TellsNext w from next step in
    let P : List ℕ → Type 0 = λ w. TellsPart F offset w (starts_in step) mid holds why in
    record {
      unchanged = unchanged-then c.loop-device.invariant.unchanged (unchanged-then c.in-Ok.ensures.unchanged c.take_step-left.ensures.unchanged);
      counts =
          let stopped = rw c.in-Err-told.is at c.take_step-left.ensures.counts in
          let S : ℕ → Type 0 = λ n. StopsBy why n now_failed (g.P.Printer.failures c.loop-device.out) (g.P.Printer.failures c.take_step-left.new.out) in
          let Q : ℕ → Type 0 = λ n. StopsBy why zero_failed now_failed n (g.P.Printer.failures c.take_step-left.new.out) in
          subst Q c.loop-device.invariant.prints (subst S same_count stopped);
      count = tt;
      heard = c.take_step-left.ensures.heard ∙ c.loop-device.invariant.silent;
      all = λ t. tt;
      first = λ t same.
          let bytes_same : g.D.Device.bytes c.step.new.device ≡ v = c.in-Ok.ensures.unchanged.same t ∙ c.loop-device.invariant.unchanged.same t in
          step-first F offset v (g.D.Device.size c.loop-device.device) from next step list held mid holds why (λ rose. omega (arith, rose, same, same_count))
          (c.loop-device.invariant.told t) (subst N (c.loop-device.invariant.unchanged.same t) (c.in-Ok.ensures.next t)) c.in-Ok.ensures.goes_on
          (subst P bytes_same (rw c.in-Err-told.is at c.take_step-left.ensures.told t));
      on = λ t.
          let G : Type 0 = zero_failed < now_failed in
          let bytes_same : g.D.Device.bytes c.step.new.device ≡ v = c.in-Ok.ensures.unchanged.same t ∙ c.loop-device.invariant.unchanged.same t in
          let another = rw c.in-Err-told.is at c.take_step-left.ensures.kinds in
          let part = stop-weaker F G offset v (starts_in step) mid holds why (λ rose. omega (arith, rose, same_count)) (subst P bytes_same (rw c.in-Err-told.is at c.take_step-left.ensures.told t)) in
          step-stops G offset v (g.D.Device.size c.loop-device.device) from next _ step list _ held mid holds why another
          (c.loop-device.invariant.told t) (subst N (c.loop-device.invariant.unchanged.same t) (c.in-Ok.ensures.next t)) c.in-Ok.ensures.goes_on part;
    }

pub returns-then-failures : goal.returns-then-failures
returns-then-failures g c =
    let zero_failed : ℕ = g.D.Device.failed c.args.device in
    let mid_failed : ℕ = g.D.Device.failed c.step.new.device in
    let now_failed : ℕ = g.D.Device.failed c.take_step-left.result.0 in
    let same_count : mid_failed ≡ zero_failed = c.in-Ok.ensures.count ∙ c.loop-device.invariant.count in
    let before_is : c.failures-failures.result ≡ zero_failed = c.failures-failures.ensures in
    let now_is : c.failures.result ≡ now_failed = c.failures.ensures in
    let rose : zero_failed < now_failed = omega (arith, before_is, now_is) in
    let v : List ℕ = g.D.Device.bytes c.args.device in
    let offset : ℕ = c.args.file.now.offset in
    let from : ℕ = looks_from c.loop-device.searching.finding in
    let next : ℕ = looks_from c.step.new.self in
    let step = c.in-Ok.step in
    let list : List ℕ = c.loop-device.searching.told.items in
    let held = told_of (g.P.Printer.printed c.args.out.now) [] (g.G.Progress.paired c.args.progress.now) in
    let mid = told_of (g.P.Printer.printed c.loop-device.out) c.loop-device.searching.met.items (g.G.Progress.paired c.loop-device.progress) in
    let holds = told_of (g.P.Printer.printed c.take_step-left.new.out) c.take_step-left.new.searching.met.items (g.G.Progress.paired c.take_step-left.new.progress) in
    let F : Type 0 = mid_failed < now_failed in
    let G : Type 0 = zero_failed < now_failed in
    record {
      unchanged = unchanged-then c.loop-device.invariant.unchanged (unchanged-then c.in-Ok.ensures.unchanged c.take_step-left.ensures.unchanged);
      counts = (rose, (rw c.in-Ok-told.is at c.take_step-left.ensures.count) ∙ c.loop-device.invariant.prints);
      count = tt;
      heard = c.take_step-left.ensures.heard ∙ c.loop-device.invariant.silent;
      all = λ t. tt;
      first = λ t same. absurd (omega (arith, rose, same));
      on = λ t.
          let bytes_same : g.D.Device.bytes c.step.new.device ≡ v = c.in-Ok.ensures.unchanged.same t ∙ c.loop-device.invariant.unchanged.same t in
          let N : List ℕ → Type 0 = λ w. TellsNext w from next step in
          let H : List ℕ → Type 0 = λ w. HasToldBy F offset w (starts_in step) mid holds in
          let kept = rw c.in-Ok-told.is at c.take_step-left.ensures.kept in
          let S : ℕ → Type 0 = λ n. IsToldCalmly G offset v n c.take_step-left.new.searching.told.items held holds stop.Device in
          let L : List ℕ → Type 0 = λ l. IsToldCalmly G offset v next l held holds stop.Device in
          subst S (sym c.take_step-left.ensures.stays) (subst L (sym kept)
          (calm-failed G offset v (g.D.Device.size c.loop-device.device) from next step list held mid holds
          (c.loop-device.invariant.told t) (subst N (c.loop-device.invariant.unchanged.same t) (c.in-Ok.ensures.next t)) c.in-Ok.ensures.goes_on
          (told-weaker F G offset v (starts_in step) mid holds (λ is. omega (arith, is, same_count)) (subst H bytes_same (rw c.in-Ok-told.is at c.take_step-left.ensures.told t)))));
    }

pub loop-device-preserved : goal.loop-device-preserved
loop-device-preserved g c =
    let zero_failed : ℕ = g.D.Device.failed c.args.device in
    let mid_failed : ℕ = g.D.Device.failed c.step.new.device in
    let now_failed : ℕ = g.D.Device.failed c.take_step-left.result.0 in
    let same_count : mid_failed ≡ zero_failed = c.in-Ok.ensures.count ∙ c.loop-device.invariant.count in
    let before_is : c.failures-failures.result ≡ zero_failed = c.failures-failures.ensures in
    let now_is : c.failures.result ≡ now_failed = c.failures.ensures in
    let low : mid_failed ≤ now_failed = c.take_step-left.ensures.failing in
    let same_now : now_failed ≡ zero_failed = omega (arith, before_is, now_is, low, same_count) in
    record {
      unchanged = unchanged-then c.loop-device.invariant.unchanged (unchanged-then c.in-Ok.ensures.unchanged c.take_step-left.ensures.unchanged);
      count = same_now;
      prints = (rw c.in-Ok-told.is at c.take_step-left.ensures.count) ∙ c.loop-device.invariant.prints;
      silent = c.take_step-left.ensures.heard ∙ c.loop-device.invariant.silent;
      told = λ t.
          let v : List ℕ = g.D.Device.bytes c.args.device in
          let offset : ℕ = c.args.file.now.offset in
          let from : ℕ = looks_from c.loop-device.searching.finding in
          let next : ℕ = looks_from c.step.new.self in
          let step = c.in-Ok.step in
          let list : List ℕ = c.loop-device.searching.told.items in
          let held = told_of (g.P.Printer.printed c.args.out.now) [] (g.G.Progress.paired c.args.progress.now) in
          let mid = told_of (g.P.Printer.printed c.loop-device.out) c.loop-device.searching.met.items (g.G.Progress.paired c.loop-device.progress) in
          let holds = told_of (g.P.Printer.printed c.take_step-left.new.out) c.take_step-left.new.searching.met.items (g.G.Progress.paired c.take_step-left.new.progress) in
          let F : Type 0 = mid_failed < now_failed in
          let bytes_same : g.D.Device.bytes c.step.new.device ≡ v = c.in-Ok.ensures.unchanged.same t ∙ c.loop-device.invariant.unchanged.same t in
          let N : List ℕ → Type 0 = λ w. TellsNext w from next step in
          let H : List ℕ → Type 0 = λ w. HasToldBy F offset w (starts_in step) mid holds in
          let kept = rw c.in-Ok-told.is at c.take_step-left.ensures.kept in
          let S : ℕ → Type 0 = λ n. IsCalm offset v n c.take_step-left.new.searching.told.items held holds in
          let L : List ℕ → Type 0 = λ l. IsCalm offset v next l held holds in
          subst S (sym c.take_step-left.ensures.stays) (subst L (sym kept)
          (calm-more offset v (g.D.Device.size c.loop-device.device) from next step list held mid holds
          (c.loop-device.invariant.told t) (subst N (c.loop-device.invariant.unchanged.same t) (c.in-Ok.ensures.next t)) c.in-Ok.ensures.goes_on
          (told-exact F offset v (starts_in step) mid holds (λ is. omega (arith, is, same_now, same_count)) (subst H bytes_same (rw c.in-Ok-told.is at c.take_step-left.ensures.told t)))));
    }
