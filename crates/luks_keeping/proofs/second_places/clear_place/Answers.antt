use Rattle.std.proofs.Common.{List, ℕ, subst}
use Rattle.luks_reading.proofs.CheckFacts.{on_ok}
use Rattle.luks_keeping.proofs.ClearFacts.{keeps_zeros, zero_in}
use Rattle.luks_keeping.specs.Clearing.{KeepsZeros}
use Rattle.luks_keeping.proofs.second_places.clear_place.Goals as goal

pub returns-then-branch-clause-gone : goal.returns-then-branch-clause-gone
returns-then-branch-clause-gone g c = λ tells.
    on_ok c.erase.result (λ zeros p x. zero_in (g.T.Device.bytes c.erase.new.target) c.args.at 512 p zeros x.at) (c.erase.ensures.zeros tells)

pub returns-then-branch-clause-zeros : goal.returns-then-branch-clause-zeros
returns-then-branch-clause-zeros g c = λ tells.
    let w : List ℕ = g.T.Device.bytes c.erase.new.target in
    on_ok c.erase.result (λ zeros.
    subst (λ (l : List ℕ). KeepsZeros l w) (c.in_ok-is_to_clear.ensures.unchanged.same tells)
    (keeps_zeros (g.T.Device.bytes c.is_to_clear.new.target) w c.args.at 512 (c.erase.ensures.rest tells) zeros)) (c.erase.ensures.zeros tells)
