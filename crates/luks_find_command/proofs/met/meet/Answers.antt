use Rattle.std.proofs.Common.{ℕ, List, inr, refl, subst}
use Rattle.luks_find_command.specs.SameUuids.{IsAmong}
use Rattle.luks_find_command.specs.declared.met.Met.{Met}
use Rattle.luks_find_command.proofs.met.meet.Goals as goal

pub returns-in-None : goal.returns-in-None
returns-in-None c =
    let N : List Met → Type 0 = λ l. (first : ℕ) → IsAmong l c.args.volume.uuid first → ⊥ in
    inr (subst N c.as_slice.ensures.value (c.in-None.ensures.none refl), c.remember.ensures, refl)
