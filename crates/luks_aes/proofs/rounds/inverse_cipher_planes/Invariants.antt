use Rattle.std.proofs.Common.{◌≡◌, ℕ, ◌<◌, ◌-◌, List}
use Rattle.luks_aes.specs.Aes.{state_before}
use Rattle.luks_aes.specs.Planes.{AreKeyPlanes, block_of}
use Rattle.luks_aes.proofs.rounds.inverse_cipher_planes.Given as goal

abbrev pub invariant-loop-i : goal.invariant-loop-i
invariant-loop-i l =
    (words : List ℕ) → AreKeyPlanes l.keys words → (b : ℕ) → b < 8
    → state_before words (l.rounds - l.i) (block_of b l.state) ≡ state_before words l.rounds (block_of b l.initial.state)
