use Rattle.std.proofs.Common.{◌≡◌, ℕ, ◌<◌, Some, slice_get}
use Rattle.luks_find_command.specs.declared.met.Met.{Met}
use Rattle.luks_find_command.proofs.met.first_with.Given as goal

-- none before this one has the uuid
abbrev pub invariant-loop-n : goal.invariant-loop-n
invariant-loop-n l = (k : ℕ) (m : Met) → k < l.n → slice_get l.met k ≡ Some m → m.uuid ≡ l.uuid → ⊥
