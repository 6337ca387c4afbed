use Rattle.std.proofs.Common.{◌≡◌, ◌*◌, ℕ, List}
use Rattle.luks_argon2.specs.Argon2.{last_xored}
use Rattle.luks_argon2.specs.Memory.{HoldsAll}
use Rattle.luks_argon2.proofs.tag.last_xored.Given as goal

abbrev pub invariant-sum : goal.invariant-sum
invariant-sum l = (lanes : List (List (List ℕ))) → HoldsAll l.memory l.shape lanes (4 * l.shape.passes) → l.last ≡ last_xored lanes l.lane
