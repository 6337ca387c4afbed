use Rattle.std.proofs.Common.{◌≡◌, [], ◌∷◌, take, drop, refl}
use Rattle.std.specs.Prelude.{slice_index_or}
use Rattle.luks_modes.specs.Xts.{block_at}
use Rattle.luks_aes.proofs.GateFacts.{below_eight}
use Rattle.luks_modes.proofs.eights.blocks_in.Goals as goal

pub returns : goal.returns
unfolding block_at
returns c =
    let xs = c.args.bytes.now in
    below_eight (λ b. slice_index_or (take 16 xs ∷ take 16 (drop 16 xs) ∷ take 16 (drop 32 xs) ∷ take 16 (drop 48 xs) ∷ take 16 (drop 64 xs) ∷ take 16 (drop 80 xs) ∷ take 16 (drop 96 xs) ∷ take 16 (drop 112 xs) ∷ []) b [] ≡ block_at xs b)
    refl refl refl refl refl refl refl refl
