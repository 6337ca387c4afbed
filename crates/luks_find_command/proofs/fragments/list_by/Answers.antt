use Rattle.std.proofs.Common.{◌≡◌, ◌∙◌, ℕ, List, sym, subst, arith}
use Rattle.luks_area.specs.Device.{unchanged-then}
use Rattle.luks_fragments.specs.Fragments.{HasNoneFrom}
use Rattle.luks_find_command.specs.Fragments.{ListsAll}
use Rattle.luks_find_command.proofs.FragmentFacts.{lists-all, lists-step, lists-until}
use Rattle.luks_find_command.proofs.fragments.list_by.Goals as goal

pub returns-in-Ok-None-clause-all : goal.returns-in-Ok-None-clause-all
returns-in-Ok-None-clause-all g c = λ t.
    let v : List ℕ = g.D.Device.bytes c.args.device.now in
    let telling = c.args.telling in
    let at : ℕ = c.loop-further.listed.at in
    let held = g.P.Printer.printed c.args.out.now in
    let same : g.D.Device.bytes c.loop-further.device ≡ v = c.loop-further.invariant.unchanged.same t in
    let none : HasNoneFrom (g.D.Device.bytes c.loop-further.device) at = rw c.in-Ok-None.field-0-is at (c.in-Ok-None.ensures.none t) in
    let printed : g.P.Printer.printed c.list_step.new.out ≡ g.P.Printer.printed c.loop-further.out = rw c.in-Ok-None.field-0-is at c.in-Ok-None.ensures.end in
    subst (ListsAll telling v c.loop-further.listed.found held) (sym printed)
    (lists-all telling v at c.loop-further.listed.found held (g.P.Printer.printed c.loop-further.out) (c.loop-further.invariant.told t)
    (subst (λ (w : List ℕ). HasNoneFrom w at) same none))

pub returns-in-Err-clause-some : goal.returns-in-Err-clause-some
returns-in-Err-clause-some g c = λ t.
    lists-until c.in-Err.stop c.args.telling (g.D.Device.bytes c.args.device.now) c.loop-further.listed.at c.loop-further.listed.found
    (g.P.Printer.printed c.args.out.now) (g.P.Printer.printed c.loop-further.out) (g.P.Printer.printed c.list_step.new.out)
    (c.loop-further.invariant.told t) c.in-Err.ensures.still

pub loop-further-preserved : goal.loop-further-preserved
loop-further-preserved g c =
    let v : List ℕ = g.D.Device.bytes c.args.device.now in
    let goes = rw c.in-Ok-Some.field-0-is at c.in-Ok-Some.ensures.goes in
    record {
      unchanged = unchanged-then c.loop-further.invariant.unchanged c.in-Ok-Some.ensures.unchanged;
      count = c.in-Ok-Some.ensures.count.0 ∙ c.loop-further.invariant.count;
      prints = c.in-Ok-Some.ensures.count.1 ∙ c.loop-further.invariant.prints;
      heard = c.looked.ensures.heard ∙ c.in-Ok-Some.ensures.heard ∙ c.loop-further.invariant.heard;
      paired = c.looked.ensures.paired ∙ c.in-Ok-Some.ensures.paired ∙ c.loop-further.invariant.paired;
      enough = (let long = c.in-Ok-Some.ensures.long in let enough = c.loop-further.invariant.enough in omega (arith, long, enough));
      few = goes.2;
      told = λ t. lists-step c.args.telling v (g.D.Device.bytes c.loop-further.device) c.loop-further.listed c.in-Ok-Some.further
          (g.P.Printer.printed c.args.out.now) (g.P.Printer.printed c.loop-further.out) (g.P.Printer.printed c.list_step.new.out)
          (c.loop-further.invariant.unchanged.same t) (c.loop-further.invariant.told t) (rw c.in-Ok-Some.field-0-is at (c.in-Ok-Some.ensures.on t));
    }
