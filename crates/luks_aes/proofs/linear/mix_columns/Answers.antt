use Rattle.std.proofs.Common.{ℕ, ◌∙◌, ap₂, refl}
use Rattle.std.specs.Int.Bits.{bit_xor}
use Rattle.luks_aes.specs.Planes.{byte_of, rotated_place}
use Rattle.luks_aes.proofs.LinearFacts.{byte-lt, same_block, mixed, mixed_is, mixed_byte, rotated-lt}
use Rattle.luks_aes.proofs.linear.mix_columns.Goals as goal

pub returns-clause-each : goal.returns-clause-each
returns-clause-each c = λ b.
    let f : ℕ → ℕ = λ k. byte_of k b c.args.x in
    same_block (λ k. byte_of k b c.added.result) (mixed f) (λ k h.
    let two = rotated-lt 2 k h in
    mixed_byte f _ _ _ _ _ _ k h
    (c.rotate_all_rows-next.ensures.bytes k b h)
    (c.added-sum.ensures.bytes k b h)
    (c.doubled-twice.ensures.bytes k b h)
    (c.rotate_all_rows_twice-last.ensures.bytes k b h ∙ c.added-sum.ensures.bytes (rotated_place 2 k) b two
    ∙ ap₂ bit_xor refl (c.rotate_all_rows-next.ensures.bytes (rotated_place 2 k) b two))
    (c.added-others.ensures.bytes k b h)
    (c.added.ensures.bytes k b h))
    ∙ mixed_is f (λ k. byte-lt k b c.args.x)
