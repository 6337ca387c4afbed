use Rattle.std.proofs.Common.{ℕ, List, subst}
use Rattle.luks2_header.specs.SoundCopies.{IsLeastCopy}
use Rattle.luks2_header.proofs.ChosenCopyFacts.{second_is_chosen}
use Rattle.luks2_header.proofs.selection.chosen_copy.Goals as goal

pub returns-in-Some-2-clause-found : goal.returns-in-Some-2-clause-found
returns-in-Some-2-clause-found g c = λ t.
    let C : List ℕ → Type 0 = λ v. IsLeastCopy v c.in-Some-2.second in
    let none = rw c.in-None.is at c.in_ok-chosen.ensures.found t in
    let least = rw c.in-Some-2.is at c.in_ok-second-in-None.ensures.found t in
    second_is_chosen _ c.in-Some-2.second none (subst C (c.in_ok-chosen.ensures.unchanged.same t) least)
