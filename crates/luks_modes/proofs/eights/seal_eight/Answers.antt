use Rattle.std.proofs.Common.{◌≡◌, ℕ, ◌<◌, [], arith, ap, ap₂, ◌∙◌}
use Rattle.std.specs.Prelude.{slice_index_or}
use Rattle.std.specs.Int.{w128, to_le_bytes}
use Rattle.luks_aes.specs.Aes.{Aes}
use Rattle.luks_modes.specs.Xts.{alpha_times, block_at, xor_block, sealed_under}
use Rattle.luks_modes.specs.Blocks.{sealed_blocks}
use Rattle.luks_modes.proofs.UnitFacts.{same_joined}
use Rattle.luks_modes.proofs.EightFacts.{next_tweak}
use Rattle.luks_modes.proofs.eights.seal_eight.Goals as goal

pub returns-clause-made : goal.returns-clause-made
unfolding sealed_blocks sealed_under
returns-clause-made c =
    let key = c.args.key.now in
    let old = c.args.bytes.now in
    let mask : (b : ℕ) → b < 8 → slice_index_or c.masks_of-masks.result b [] ≡ to_le_bytes w128 (alpha_times b c.args.first) =
    λ b low. c.masks_of-masks.ensures b low ∙ ap (to_le_bytes w128) (c.tweaks-t.ensures b low) in
    c.put_blocks.ensures
    ∙ same_joined (λ b. slice_index_or c.all_masked-after.result b []) (λ b. sealed_under key (alpha_times b c.args.first) (block_at old b)) 8 (λ b low.
    c.all_masked-after.ensures b low
    ∙ ap₂ xor_block
    (c.encrypt_eight-made.ensures b low
    ∙ ap (Aes key) (c.all_masked-before.ensures b low ∙ ap₂ xor_block (c.blocks_in-blocks.ensures b low) (mask b low)))
    (mask b low))

pub returns-clause-next : goal.returns-clause-next
returns-clause-next c = next_tweak _ _ c.args.first 7 c.doubled.ensures (c.tweaks-t.ensures 7 (omega arith))
