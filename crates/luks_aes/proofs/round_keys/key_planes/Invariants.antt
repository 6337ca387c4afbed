use Rattle.std.proofs.Common.{◌≡◌, ℕ, ◌<◌, [], length}
use Rattle.std.specs.Prelude.{slice_index_or}
use Rattle.luks_aes.specs.Aes.{round_key}
use Rattle.luks_aes.specs.Planes.{block_of}
use Rattle.luks_aes.proofs.round_keys.key_planes.Given as goal

abbrev pub invariant-loop-i : goal.invariant-loop-i
invariant-loop-i l =
    (length l.planes ≡ 15) × ((i b : ℕ) → i < l.i → b < 8 → block_of b (slice_index_or l.planes i []) ≡ round_key l.words i)
