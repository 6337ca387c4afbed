use Rattle.std.proofs.Common.{ℕ, ◌∙◌, ap₂, slice_index, refl}
use Rattle.std.specs.Int.Bits.{bit_xor}
use Rattle.luks_aes.specs.Planes.{rotated_place}
use Rattle.luks_aes.proofs.LinearFacts.{mixed_byte, rotated-lt}
use Rattle.luks_aes.proofs.BlockFacts.{mixed_vector}
use Rattle.luks_aes.proofs.block.mixed.Goals as goal

pub returns-clause-value : goal.returns-clause-value
returns-clause-value c =
    let f : ℕ → ℕ = slice_index c.args.x in
    mixed_vector c.args.x c.sum.result c.requires c.sum.ensures.plane (λ k h.
    let two = rotated-lt 2 k h in
    mixed_byte f _ _ _ _ _ _ k h
    (c.rotate_rows-next.ensures.bytes k h)
    (c.sum-sums.ensures.bytes k h)
    (c.doubled-twice.ensures.bytes k h)
    (c.rotate_rows_twice-last.ensures.bytes k h ∙ c.sum-sums.ensures.bytes (rotated_place 2 k) two
    ∙ ap₂ bit_xor refl (c.rotate_rows-next.ensures.bytes (rotated_place 2 k) two))
    (c.sum-others.ensures.bytes k h)
    (c.sum.ensures.bytes k h))
