use Rattle.std.proofs.Common.{◌≡◌, ℕ, ◌+◌, ◌*◌, ◌^◌, ◌<◌, ◌≤◌, List, ◌++◌, length, Option, inr, refl, sym, ap, ◌∙◌, subst, arith}
use Rattle.luks_area.specs.Device.{unchanged-same, unchanged-then}
use Rattle.luks_finding.specs.Finding.{looks_from, GoesOn}
use Rattle.luks_finding.specs.declared.finding.Step.TheVariants.{End}
use Rattle.luks_find_command.specs.Searches.{starts_in, told_of, GoesOnTelling, HasToldBy, TellsPart}
use Rattle.luks_find_command.specs.Stops.{PrintsBy}
use Rattle.luks_find_command.specs.declared.met.Met.{Met}
use Rattle.luks_find_command.specs.declared.same_uuid.SameUuid.{SameUuid}
use Rattle.luks_find_command.specs.declared.stop.Stop.{Stop}
use Rattle.luks_find_command.specs.declared.stop.Stop.TheVariants as stop
use Rattle.luks_find_command.specs.declared.unread.Unread.{Unread}
use Rattle.luks_find_command.proofs.GoingOnFacts.{going-ends, going-memory, going-more, going-none, going-stops, passes-as, passes-end, stop-prints, IsGoing}
use Rattle.luks_find_command.proofs.searching.search_on.Goals as goal

pub loop-alloc-init : goal.loop-alloc-init
loop-alloc-init g c = record {
  unchanged = unchanged-same c.args.device;
  failing = omega arith;
  prints = refl;
  going = going-none g.D.Device.tells c.args.file.now.offset (g.D.Device.size c.args.device) (g.D.Device.bytes c.args.device) c.args.searching.now.told.items
      (looks_from c.args.searching.now.finding) (g.D.Device.failed c.args.device) (g.G.Progress.heard c.args.progress.now)
      (told_of (g.P.Printer.printed c.args.out.now) c.args.searching.now.met.items (g.G.Progress.paired c.args.progress.now)) c.requires.told;
}

pub returns-then-failures-clause-on : goal.returns-then-failures-clause-on
returns-then-failures-clause-on g c =
    let failed : ℕ = g.D.Device.failed c.loop-alloc.device in
    let is : c.failures.result ≡ failed = c.failures.ensures in
    let full : 2 ^ 64 ≤ failed + 100 = omega (arith, is) in
    going-ends g.D.Device.tells c.args.file.now.offset (g.D.Device.size c.args.device) (g.D.Device.bytes c.args.device) c.args.searching.now.told.items c.loop-alloc.searching.told.items
    (looks_from c.loop-alloc.searching.finding) (g.D.Device.failed c.args.device) failed (g.G.Progress.heard c.args.progress.now) (g.G.Progress.heard c.loop-alloc.progress)
    (told_of (g.P.Printer.printed c.args.out.now) c.args.searching.now.met.items (g.G.Progress.paired c.args.progress.now)) (told_of (g.P.Printer.printed c.loop-alloc.out) c.loop-alloc.searching.met.items (g.G.Progress.paired c.loop-alloc.progress)) c.loop-alloc.invariant.going (λ t. inr full)

pub returns-in-Ok-End-clause-on : goal.returns-in-Ok-End-clause-on
returns-in-Ok-End-clause-on g c =
    let v : List ℕ = g.D.Device.bytes c.args.device in
    let total : ℕ = g.D.Device.size c.args.device in
    let offset : ℕ = c.args.file.now.offset in
    let list : List ℕ = c.loop-alloc.searching.told.items in
    let from : ℕ = looks_from c.loop-alloc.searching.finding in
    let next : ℕ = looks_from c.step_further.new.searching.finding in
    let mid_failed : ℕ = g.D.Device.failed c.loop-alloc.device in
    let now_failed : ℕ = g.D.Device.failed c.step_further.new.device in
    let sized : g.D.Device.size c.loop-alloc.device ≡ total = c.loop-alloc.invariant.unchanged.size in
    let goes : GoesOn (g.D.Device.size c.loop-alloc.device) from next End = rw c.in-Ok-End.field-0-is at c.in-Ok-End.ensures.goes_on in
    let passes = passes-as g.D.Device.tells offset total (g.D.Device.size c.loop-alloc.device) v (g.D.Device.bytes c.loop-alloc.device) list from next mid_failed now_failed
    (g.G.Progress.heard c.loop-alloc.progress) (g.G.Progress.heard c.step_further.new.progress) End sized (λ t. c.loop-alloc.invariant.unchanged.same t)
    (rw c.in-Ok-End.field-0-is at c.in-Ok-End.ensures.passes) in
    let held = told_of (g.P.Printer.printed c.args.out.now) c.args.searching.now.met.items (g.G.Progress.paired c.args.progress.now) in
    let M : List Met → Type 0 = λ m. GoesOnTelling g.D.Device.tells offset total v c.args.searching.now.told.items (g.D.Device.failed c.args.device) now_failed
    (g.G.Progress.heard c.args.progress.now) (g.G.Progress.heard c.step_further.new.progress) held (told_of (g.P.Printer.printed c.loop-alloc.out) m (g.G.Progress.paired c.step_further.new.progress)) stop.Device in
    let P : Option (List SameUuid) → Type 0 = λ o. GoesOnTelling g.D.Device.tells offset total v c.args.searching.now.told.items (g.D.Device.failed c.args.device) now_failed
    (g.G.Progress.heard c.args.progress.now) (g.G.Progress.heard c.step_further.new.progress) held (told_of (g.P.Printer.printed c.loop-alloc.out) c.loop-alloc.searching.met.items o) stop.Device in
    subst M (sym c.in-Ok-End.ensures.met) (subst P (sym c.in-Ok-End.ensures.paired)
    (passes-end g.D.Device.tells offset total v c.args.searching.now.told.items list from next (g.D.Device.failed c.args.device) mid_failed now_failed
    (g.G.Progress.heard c.args.progress.now) (g.G.Progress.heard c.loop-alloc.progress) (g.G.Progress.heard c.step_further.new.progress)
    (told_of (g.P.Printer.printed c.args.out.now) c.args.searching.now.met.items (g.G.Progress.paired c.args.progress.now)) (told_of (g.P.Printer.printed c.loop-alloc.out) c.loop-alloc.searching.met.items (g.G.Progress.paired c.loop-alloc.progress)) c.loop-alloc.invariant.failing c.in-Ok-End.ensures.counts.0 c.loop-alloc.invariant.going passes
    (λ t.
    let long : length v ≡ total = g.met.D.Device.sized c.args.device t in
    let low : g.D.Device.size c.loop-alloc.device ≤ 512 * from = goes.0 in
    let same : next ≡ from = goes.1 in
    omega (arith, long, low, same, sized))))

pub returns-in-Err-clause-on : goal.returns-in-Err-clause-on
returns-in-Err-clause-on g c =
    let held = told_of (g.P.Printer.printed c.args.out.now) c.args.searching.now.met.items (g.G.Progress.paired c.args.progress.now) in
    let now_failed : ℕ = g.D.Device.failed c.step_further.new.device in
    let M : List Met → Type 0 = λ m. GoesOnTelling g.D.Device.tells c.args.file.now.offset (g.D.Device.size c.args.device) (g.D.Device.bytes c.args.device) c.args.searching.now.told.items (g.D.Device.failed c.args.device) now_failed
    (g.G.Progress.heard c.args.progress.now) (g.G.Progress.heard c.step_further.new.progress) held (told_of (g.P.Printer.printed c.loop-alloc.out) m (g.G.Progress.paired c.step_further.new.progress)) stop.Memory in
    let P : Option (List SameUuid) → Type 0 = λ o. GoesOnTelling g.D.Device.tells c.args.file.now.offset (g.D.Device.size c.args.device) (g.D.Device.bytes c.args.device) c.args.searching.now.told.items (g.D.Device.failed c.args.device) now_failed
    (g.G.Progress.heard c.args.progress.now) (g.G.Progress.heard c.step_further.new.progress) held (told_of (g.P.Printer.printed c.loop-alloc.out) c.loop-alloc.searching.met.items o) stop.Memory in
    subst M (sym c.in-Err.ensures.met) (subst P (sym c.in-Err.ensures.paired)
    (going-memory g.D.Device.tells c.args.file.now.offset (g.D.Device.size c.args.device) (g.D.Device.bytes c.args.device) c.args.searching.now.told.items c.loop-alloc.searching.told.items
    (looks_from c.loop-alloc.searching.finding) (g.D.Device.failed c.args.device) (g.D.Device.failed c.loop-alloc.device) (g.D.Device.failed c.step_further.new.device)
    (g.G.Progress.heard c.args.progress.now) (g.G.Progress.heard c.loop-alloc.progress) (g.G.Progress.heard c.step_further.new.progress)
    (told_of (g.P.Printer.printed c.args.out.now) c.args.searching.now.met.items (g.G.Progress.paired c.args.progress.now)) (told_of (g.P.Printer.printed c.loop-alloc.out) c.loop-alloc.searching.met.items (g.G.Progress.paired c.loop-alloc.progress)) c.in-Err.ensures.counts.0 c.in-Err.ensures.silent c.loop-alloc.invariant.going))

pub loop-alloc-preserved : goal.loop-alloc-preserved
loop-alloc-preserved g c =
    let v : List ℕ = g.D.Device.bytes c.args.device in
    let total : ℕ = g.D.Device.size c.args.device in
    let offset : ℕ = c.args.file.now.offset in
    let before : List ℕ = c.args.searching.now.told.items in
    let list : List ℕ = c.loop-alloc.searching.told.items in
    let from : ℕ = looks_from c.loop-alloc.searching.finding in
    let next : ℕ = looks_from c.step_further.new.searching.finding in
    let zero_failed : ℕ = g.D.Device.failed c.args.device in
    let mid_failed : ℕ = g.D.Device.failed c.loop-alloc.device in
    let step_failed : ℕ = g.D.Device.failed c.step_further.new.device in
    let now_failed : ℕ = g.D.Device.failed c.take_step-left.result.0 in
    let step = c.in-Ok.step in
    let heard = g.G.Progress.heard c.args.progress.now in
    let mid_heard = g.G.Progress.heard c.loop-alloc.progress in
    let hears = g.G.Progress.heard c.step_further.new.progress in
    let held = told_of (g.P.Printer.printed c.args.out.now) c.args.searching.now.met.items (g.G.Progress.paired c.args.progress.now) in
    let mid = told_of (g.P.Printer.printed c.loop-alloc.out) c.loop-alloc.searching.met.items (g.G.Progress.paired c.loop-alloc.progress) in
    let holds = told_of (g.P.Printer.printed c.take_step-left.new.out) c.take_step-left.new.searching.met.items (g.G.Progress.paired c.take_step-left.new.progress) in
    let one : zero_failed ≤ mid_failed = c.loop-alloc.invariant.failing in
    let two : mid_failed ≤ step_failed = c.in-Ok.ensures.counts.0 in
    let three : step_failed ≤ now_failed = c.take_step-left.ensures.failing in
    let passes = passes-as g.D.Device.tells offset total (g.D.Device.size c.loop-alloc.device) v (g.D.Device.bytes c.loop-alloc.device) list from next mid_failed step_failed mid_heard hears step
    c.loop-alloc.invariant.unchanged.size (λ t. c.loop-alloc.invariant.unchanged.same t) c.in-Ok.ensures.passes in
    let H : List ℕ → Type 0 = λ w. HasToldBy (step_failed < now_failed) offset w (starts_in step) mid holds in
    let X : List Met → Type 0 = λ m. HasToldBy (step_failed < now_failed) offset (g.D.Device.bytes c.step_further.new.device) (starts_in step)
    (told_of (g.P.Printer.printed c.loop-alloc.out) m (g.G.Progress.paired c.step_further.new.progress)) holds in
    let Y : Option (List SameUuid) → Type 0 = λ o. HasToldBy (step_failed < now_failed) offset (g.D.Device.bytes c.step_further.new.device) (starts_in step)
    (told_of (g.P.Printer.printed c.loop-alloc.out) c.loop-alloc.searching.met.items o) holds in
    let more = going-more g.D.Device.tells offset total v before list from next zero_failed mid_failed step_failed now_failed heard mid_heard hears held mid holds step one two three
    c.loop-alloc.invariant.going passes
    (λ t. subst H (c.in-Ok.ensures.unchanged.same t ∙ c.loop-alloc.invariant.unchanged.same t)
    (subst Y c.in-Ok.ensures.paired (subst X c.in-Ok.ensures.met (rw c.in-Ok-told.is at c.take_step-left.ensures.told t)))) in
    let kept : c.take_step-left.new.searching.told.items ≡ list ++ starts_in step =
    (rw c.in-Ok-told.is at c.take_step-left.ensures.kept) ∙ ap (λ l. l ++ starts_in step) c.in-Ok.ensures.kept in
    let S : ℕ → Type 0 = λ n. IsGoing g.D.Device.tells offset total v before c.take_step-left.new.searching.told.items n zero_failed now_failed heard (g.G.Progress.heard c.take_step-left.new.progress) held holds in
    let L : List ℕ → Type 0 = λ l. IsGoing g.D.Device.tells offset total v before l next zero_failed now_failed heard (g.G.Progress.heard c.take_step-left.new.progress) held holds in
    let E : Option (List Unread) → Type 0 = λ o. IsGoing g.D.Device.tells offset total v before (list ++ starts_in step) next zero_failed now_failed heard o held holds in
    record {
      unchanged = unchanged-then c.loop-alloc.invariant.unchanged (unchanged-then c.in-Ok.ensures.unchanged c.take_step-left.ensures.unchanged);
      failing = omega (arith, one, two, three);
      prints = (rw c.in-Ok-told.is at c.take_step-left.ensures.count) ∙ c.loop-alloc.invariant.prints;
      going = subst S (sym c.take_step-left.ensures.stays) (subst L (sym kept) (subst E (sym c.take_step-left.ensures.heard) more));
    }

pub returns-in-Err-told : goal.returns-in-Err-told
returns-in-Err-told g c =
    let v : List ℕ = g.D.Device.bytes c.args.device in
    let total : ℕ = g.D.Device.size c.args.device in
    let offset : ℕ = c.args.file.now.offset in
    let before : List ℕ = c.args.searching.now.told.items in
    let list : List ℕ = c.loop-alloc.searching.told.items in
    let from : ℕ = looks_from c.loop-alloc.searching.finding in
    let next : ℕ = looks_from c.step_further.new.searching.finding in
    let zero_failed : ℕ = g.D.Device.failed c.args.device in
    let mid_failed : ℕ = g.D.Device.failed c.loop-alloc.device in
    let step_failed : ℕ = g.D.Device.failed c.step_further.new.device in
    let now_failed : ℕ = g.D.Device.failed c.take_step-left.result.0 in
    let step = c.in-Ok.step in
    let why : Stop = c.in-Err-told.stop in
    let heard = g.G.Progress.heard c.args.progress.now in
    let mid_heard = g.G.Progress.heard c.loop-alloc.progress in
    let hears = g.G.Progress.heard c.step_further.new.progress in
    let held = told_of (g.P.Printer.printed c.args.out.now) c.args.searching.now.met.items (g.G.Progress.paired c.args.progress.now) in
    let mid = told_of (g.P.Printer.printed c.loop-alloc.out) c.loop-alloc.searching.met.items (g.G.Progress.paired c.loop-alloc.progress) in
    let holds = told_of (g.P.Printer.printed c.take_step-left.new.out) c.take_step-left.new.searching.met.items (g.G.Progress.paired c.take_step-left.new.progress) in
    let one : zero_failed ≤ mid_failed = c.loop-alloc.invariant.failing in
    let two : mid_failed ≤ step_failed = c.in-Ok.ensures.counts.0 in
    let three : step_failed ≤ now_failed = c.take_step-left.ensures.failing in
    let passes = passes-as g.D.Device.tells offset total (g.D.Device.size c.loop-alloc.device) v (g.D.Device.bytes c.loop-alloc.device) list from next mid_failed step_failed mid_heard hears step
    c.loop-alloc.invariant.unchanged.size (λ t. c.loop-alloc.invariant.unchanged.same t) c.in-Ok.ensures.passes in
    let P : List ℕ → Type 0 = λ w. TellsPart (step_failed < now_failed) offset w (starts_in step) mid holds why in
    let X : List Met → Type 0 = λ m. TellsPart (step_failed < now_failed) offset (g.D.Device.bytes c.step_further.new.device) (starts_in step)
    (told_of (g.P.Printer.printed c.loop-alloc.out) m (g.G.Progress.paired c.step_further.new.progress)) holds why in
    let Y : Option (List SameUuid) → Type 0 = λ o. TellsPart (step_failed < now_failed) offset (g.D.Device.bytes c.step_further.new.device) (starts_in step)
    (told_of (g.P.Printer.printed c.loop-alloc.out) c.loop-alloc.searching.met.items o) holds why in
    let another = rw c.in-Err-told.is at c.take_step-left.ensures.kinds in
    let stopped = rw c.in-Err-told.is at c.take_step-left.ensures.counts in
    let on = going-stops g.D.Device.tells offset total v before list from next zero_failed mid_failed step_failed now_failed heard mid_heard hears held mid holds step why another one two three
    c.loop-alloc.invariant.going passes
    (λ t. subst P (c.in-Ok.ensures.unchanged.same t ∙ c.loop-alloc.invariant.unchanged.same t)
    (subst Y c.in-Ok.ensures.paired (subst X c.in-Ok.ensures.met (rw c.in-Err-told.is at c.take_step-left.ensures.told t)))) in
    let Q : ℕ → Type 0 = λ n. PrintsBy why n (g.P.Printer.failures c.take_step-left.new.out) in
    let E : Option (List Unread) → Type 0 = λ o. GoesOnTelling g.D.Device.tells offset total v before zero_failed now_failed heard o held holds why in
    record {
      unchanged = unchanged-then c.loop-alloc.invariant.unchanged (unchanged-then c.in-Ok.ensures.unchanged c.take_step-left.ensures.unchanged);
      failing = omega (arith, one, two, three);
      prints = subst Q c.loop-alloc.invariant.prints (stop-prints why step_failed now_failed (g.P.Printer.failures c.loop-alloc.out) (g.P.Printer.failures c.take_step-left.new.out) stopped);
      on = subst E (sym c.take_step-left.ensures.heard) on;
    }
