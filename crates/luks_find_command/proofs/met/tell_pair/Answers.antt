use Rattle.std.proofs.Common.{ℕ, List, [], Option, sym, subst}
use Rattle.luks_find_command.specs.SameUuids.{TellsPair}
use Rattle.luks_find_command.proofs.TellingFacts.{hears-none}
use Rattle.luks_find_command.proofs.met.tell_pair.Goals as goal

pub returns-in-None-clause-pairs : goal.returns-in-None-clause-pairs
returns-in-None-clause-pairs g c =
    let said = g.G.Progress.paired c.args.progress.now in
    let T : Option (List ℕ) → Type 0 = λ u. TellsPair c.args.met.now.items u c.args.start c.meet.new.met.items said said in
    subst T (sym c.in-Some.is) (record { pairs = []; are = c.in-None.ensures; names = hears-none said })
