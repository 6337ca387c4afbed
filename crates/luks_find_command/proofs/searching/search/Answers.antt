use Rattle.std.proofs.Common.{◌≡◌, ℕ, ◌<◌, ◌≤◌, List, [], sym, ◌∙◌, subst, arith}
use Rattle.luks_finding.specs.Finding.{looks_from}
use Rattle.luks_finding.specs.Readable.{AreReadTo}
use Rattle.luks_find_command.specs.Searches.{told_of, IsToldAll, IsToldCalmly, IsToldFirst}
use Rattle.luks_find_command.specs.Stops.{StopsBy}
use Rattle.luks_find_command.specs.declared.stop.Stop.{Stop}
use Rattle.luks_find_command.specs.declared.stop.Stop.TheVariants as stop
use Rattle.luks_find_command.proofs.GoingOnFacts.{calm-memory, none-on, on-as, on-joins, stops-on}
use Rattle.luks_find_command.proofs.SearchFacts.{first-none}
use Rattle.luks_find_command.proofs.searching.search.Goals as goal

pub returns-in-Err-clause-first : goal.returns-in-Err-clause-first
returns-in-Err-clause-first g c = λ t same. ([], first-none c.args.file.now.offset (g.D.Device.bytes c.args.device) (told_of (g.P.Printer.printed c.args.out.now) [] (g.G.Progress.paired c.args.progress.now)))

pub returns-in-Err-clause-on : goal.returns-in-Err-clause-on
returns-in-Err-clause-on g c = (
  [],
  none-on g.D.Device.tells c.args.file.now.offset (g.D.Device.size c.args.device) (g.D.Device.bytes c.args.device) (g.D.Device.failed c.args.device)
      (g.G.Progress.heard c.args.progress.now) (told_of (g.P.Printer.printed c.args.out.now) [] (g.G.Progress.paired c.args.progress.now)),
)

pub returns-in-Ok-ended-clause-all : goal.returns-in-Ok-ended-clause-all
returns-in-Ok-ended-clause-all g c = λ t.
    let L : ℕ → Type 0 = λ n. IsToldAll c.args.file.now.offset (g.D.Device.bytes c.args.device) (told_of (g.P.Printer.printed c.args.out.now) [] (g.G.Progress.paired c.args.progress.now))
    (told_of (g.P.Printer.printed c.search_calmly-device.new.out) c.search_calmly-device.new.searching.met.items (g.G.Progress.paired c.search_calmly-device.new.progress)) n in
    (c.search_calmly-device.new.searching.met.items, subst L (sym (c.len.ensures ∙ c.search_calmly-device.new.searching.told.ok.0)) (rw c.in-Ok-ended.is at c.search_calmly-device.ensures.all t))

pub search_on-device-requires-clause-told : goal.search_on-device-requires-clause-told
search_on-device-requires-clause-told g c = λ t.
    let A : List ℕ → Type 0 = λ w. AreReadTo w [] (looks_from c.search_calmly-device.new.searching.finding) c.search_calmly-device.new.searching.told.items in
    let is : c.in-Err-Device.field-0 ≡ stop.Device = rw c.in-Err-Device.is at c.in-Err-Device.field-0-is in
    let F : Type 0 = g.D.Device.failed c.args.device < g.D.Device.failed c.search_calmly-device.result.0 in
    let T : Stop → Type 0 = λ why. IsToldCalmly F c.args.file.now.offset (g.D.Device.bytes c.args.device) (looks_from c.search_calmly-device.new.searching.finding)
    c.search_calmly-device.new.searching.told.items (told_of (g.P.Printer.printed c.args.out.now) [] (g.G.Progress.paired c.args.progress.now)) (told_of (g.P.Printer.printed c.search_calmly-device.new.out) c.search_calmly-device.new.searching.met.items (g.G.Progress.paired c.search_calmly-device.new.progress)) why in
    let paused = subst T is (rw c.in-Err-Device.is at c.search_calmly-device.ensures.on t) in
    subst A (sym (c.search_calmly-device.ensures.unchanged.same t)) paused.0

pub returns-in-Err-Device-clause-counts : goal.returns-in-Err-Device-clause-counts
returns-in-Err-Device-clause-counts g c =
    let is : c.in-Err-Device.field-0 ≡ stop.Device = rw c.in-Err-Device.is at c.in-Err-Device.field-0-is in
    let B : Stop → Type 0 = λ why. StopsBy why (g.D.Device.failed c.args.device) (g.D.Device.failed c.search_calmly-device.result.0)
    (g.P.Printer.failures c.args.out.now) (g.P.Printer.failures c.search_calmly-device.new.out) in
    let paused = subst B is (rw c.in-Err-Device.is at c.search_calmly-device.ensures.counts) in
    stops-on c.search_on-device.result.1 (g.D.Device.failed c.args.device) (g.D.Device.failed c.search_calmly-device.result.0) (g.D.Device.failed c.search_on-device.result.0)
    (g.P.Printer.failures c.args.out.now) (g.P.Printer.failures c.search_calmly-device.new.out) (g.P.Printer.failures c.search_on-device.new.out)
    paused.0 c.search_on-device.ensures.failing paused.1 c.search_on-device.ensures.prints

pub returns-in-Err-Device-clause-on : goal.returns-in-Err-Device-clause-on
returns-in-Err-Device-clause-on g c =
    let v : List ℕ = g.D.Device.bytes c.args.device in
    let total : ℕ = g.D.Device.size c.args.device in
    let offset : ℕ = c.args.file.now.offset in
    let list : List ℕ = c.search_calmly-device.new.searching.told.items in
    let zero_failed : ℕ = g.D.Device.failed c.args.device in
    let mid_failed : ℕ = g.D.Device.failed c.search_calmly-device.result.0 in
    let now_failed : ℕ = g.D.Device.failed c.search_on-device.result.0 in
    let heard = g.G.Progress.heard c.args.progress.now in
    let hears = g.G.Progress.heard c.search_on-device.new.progress in
    let held = told_of (g.P.Printer.printed c.args.out.now) [] (g.G.Progress.paired c.args.progress.now) in
    let mid = told_of (g.P.Printer.printed c.search_calmly-device.new.out) c.search_calmly-device.new.searching.met.items (g.G.Progress.paired c.search_calmly-device.new.progress) in
    let holds = told_of (g.P.Printer.printed c.search_on-device.new.out) c.search_on-device.new.searching.met.items (g.G.Progress.paired c.search_on-device.new.progress) in
    let is : c.in-Err-Device.field-0 ≡ stop.Device = rw c.in-Err-Device.is at c.in-Err-Device.field-0-is in
    let B : Stop → Type 0 = λ why. StopsBy why (g.D.Device.failed c.args.device) (g.D.Device.failed c.search_calmly-device.result.0)
    (g.P.Printer.failures c.args.out.now) (g.P.Printer.failures c.search_calmly-device.new.out) in
    let paused = subst B is (rw c.in-Err-Device.is at c.search_calmly-device.ensures.counts) in
    let rose : zero_failed < mid_failed = paused.0 in
    let on = on-as g.D.Device.tells offset total (g.D.Device.size c.search_calmly-device.result.0) v (g.D.Device.bytes c.search_calmly-device.result.0) list mid_failed now_failed
    heard (g.G.Progress.heard c.search_calmly-device.new.progress) hears mid holds c.search_on-device.result.1
    c.search_calmly-device.ensures.unchanged.size (λ t. c.search_calmly-device.ensures.unchanged.same t) c.search_calmly-device.ensures.heard c.search_on-device.ensures.on in (
      c.search_on-device.new.searching.met.items,
      on-joins g.D.Device.tells offset total v list zero_failed mid_failed now_failed heard hears held mid holds c.search_on-device.result.1
          (omega (arith, rose)) c.search_on-device.ensures.failing
          (λ t.
          let T : Stop → Type 0 = λ why. IsToldCalmly (zero_failed < mid_failed) offset v (looks_from c.search_calmly-device.new.searching.finding) list held mid why in
          (subst T is (rw c.in-Err-Device.is at c.search_calmly-device.ensures.on t)).1)
          on,
    )

pub returns-in-Err-Device-clause-first : goal.returns-in-Err-Device-clause-first
returns-in-Err-Device-clause-first g c = λ t same.
    let is : c.in-Err-Device.field-0 ≡ stop.Device = rw c.in-Err-Device.is at c.in-Err-Device.field-0-is in
    let B : Stop → Type 0 = λ why. StopsBy why (g.D.Device.failed c.args.device) (g.D.Device.failed c.search_calmly-device.result.0)
    (g.P.Printer.failures c.args.out.now) (g.P.Printer.failures c.search_calmly-device.new.out) in
    let paused = subst B is (rw c.in-Err-Device.is at c.search_calmly-device.ensures.counts) in
    let rose : g.D.Device.failed c.args.device < g.D.Device.failed c.search_calmly-device.result.0 = paused.0 in
    let high : g.D.Device.failed c.search_calmly-device.result.0 ≤ g.D.Device.failed c.search_on-device.result.0 = c.search_on-device.ensures.failing in
    absurd (omega (arith, rose, high, same))

pub returns-in-Err-Memory-clause-on : goal.returns-in-Err-Memory-clause-on
returns-in-Err-Memory-clause-on g c = (
  c.search_calmly-device.new.searching.met.items,
  calm-memory g.D.Device.tells c.args.file.now.offset (g.D.Device.size c.args.device) (g.D.Device.bytes c.args.device)
      (looks_from c.search_calmly-device.new.searching.finding) c.search_calmly-device.new.searching.told.items
      (g.D.Device.failed c.args.device) (g.D.Device.failed c.search_calmly-device.result.0) (g.G.Progress.heard c.args.progress.now) (g.G.Progress.heard c.search_calmly-device.new.progress)
      (told_of (g.P.Printer.printed c.args.out.now) [] (g.G.Progress.paired c.args.progress.now)) (told_of (g.P.Printer.printed c.search_calmly-device.new.out) c.search_calmly-device.new.searching.met.items (g.G.Progress.paired c.search_calmly-device.new.progress)) c.search_calmly-device.ensures.heard
      (λ t.
      let is : c.in-Err-Memory.field-0 ≡ stop.Memory = rw c.in-Err-Memory.is at c.in-Err-Memory.field-0-is in
      let F : Type 0 = g.D.Device.failed c.args.device < g.D.Device.failed c.search_calmly-device.result.0 in
      let T : Stop → Type 0 = λ why. IsToldCalmly F c.args.file.now.offset (g.D.Device.bytes c.args.device) (looks_from c.search_calmly-device.new.searching.finding)
      c.search_calmly-device.new.searching.told.items (told_of (g.P.Printer.printed c.args.out.now) [] (g.G.Progress.paired c.args.progress.now)) (told_of (g.P.Printer.printed c.search_calmly-device.new.out) c.search_calmly-device.new.searching.met.items (g.G.Progress.paired c.search_calmly-device.new.progress)) why in
      subst T is (rw c.in-Err-Memory.is at c.search_calmly-device.ensures.on t)),
)

pub returns-in-Err-Memory-clause-first : goal.returns-in-Err-Memory-clause-first
returns-in-Err-Memory-clause-first g c = λ t same.
    let is : c.in-Err-Memory.field-0 ≡ stop.Memory = rw c.in-Err-Memory.is at c.in-Err-Memory.field-0-is in
    let T : Stop → Type 0 = λ why. IsToldFirst c.args.file.now.offset (g.D.Device.bytes c.args.device) (told_of (g.P.Printer.printed c.args.out.now) [] (g.G.Progress.paired c.args.progress.now)) (told_of (g.P.Printer.printed c.search_calmly-device.new.out) c.search_calmly-device.new.searching.met.items (g.G.Progress.paired c.search_calmly-device.new.progress)) why in
    (c.search_calmly-device.new.searching.met.items, subst T is (rw c.in-Err-Memory.is at c.search_calmly-device.ensures.first t same))
