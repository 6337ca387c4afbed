use Rattle.std.proofs.Common.{◌≡◌, ℕ, ◌<◌, List}
use Rattle.luks_aes.specs.Aes.{state_after}
use Rattle.luks_aes.specs.Planes.{AreKeyPlanes, block_of}
use Rattle.luks_aes.proofs.rounds.cipher_planes.Given as goal

abbrev pub invariant-loop-i : goal.invariant-loop-i
invariant-loop-i l =
    (words : List ℕ) → AreKeyPlanes l.keys words → (b : ℕ) → b < 8 → block_of b l.state ≡ state_after words l.i (block_of b l.fn.first)
