use Rattle.luks1_edits.specs.Edited.{IsLeastFree}
use Rattle.luks1_edits.proofs.keyslots.new_keyslot.Goals as goal

pub returns-in-Some-least_free-clause-new : goal.returns-in-Some-least_free-clause-new
returns-in-Some-least_free-clause-new c = λ v holds.
    let least : IsLeastFree v c.in-Some-least_free.n = c.in-Some-least_free.ensures.least v holds in
    rw c.in-None.is (record { is_new = least; free = least.free })
