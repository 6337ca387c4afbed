use Rattle.std.proofs.Common.{ℕ, List, refl}
use Rattle.luks_fragments.specs.Fragments.{HasNoneFrom}
use Rattle.luks_seeking.specs.Seeking.{IsFirstFound}
use Rattle.luks_find_command.proofs.FragmentFacts.{lists-found}
use Rattle.luks_find_command.proofs.fragments.list_step.Goals as goal

pub returns-in_ok-tell_fragment-in-Fragment-clause-on : goal.returns-in_ok-tell_fragment-in-Fragment-clause-on
returns-in_ok-tell_fragment-in-Fragment-clause-on g c = λ t.
    let v : List ℕ = g.D.Device.bytes c.args.device.now in
    let from : ℕ = c.args.listed.at in
    let f = c.in-Fragment.found in
    let first : IsFirstFound v from f = rw c.in-Fragment.is at (c.in_ok-found.ensures.tells t) in
    record {
      more = 1;
      found = refl;
      lists = lists-found c.args.telling v from f (g.P.Printer.printed c.args.out.now) (g.P.Printer.printed c.tell_fragment.new.out)
          first c.in_ok-tell_fragment-in-Fragment.ensures.told;
    }

pub returns-in-End-clause-none : goal.returns-in-End-clause-none
returns-in-End-clause-none g c = λ t.
    let none : HasNoneFrom (g.D.Device.bytes c.args.device.now) c.args.listed.at = rw c.in-End.is at (c.in_ok-found.ensures.tells t) in
    none
