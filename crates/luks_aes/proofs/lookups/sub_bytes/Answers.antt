use Rattle.std.proofs.Common.{ℕ, ◌∙◌, ap, ap₂, slice_index}
use Rattle.std.specs.Int.Bits.{bit_xor}
use Rattle.std.proofs.lemmas.Simd.{get_or-replicate}
use Rattle.luks_aes.specs.declared.lookups.TheConstants.{SBOX_FIRST, SBOX_SECOND}
use Rattle.luks_aes.specs.Nibbles.{joined}
use Rattle.luks_aes.proofs.NibbleFacts.{sbox_by, sub_vector}
use Rattle.luks_aes.proofs.lookups.sub_bytes.Goals as goal

pub returns-clause-value : goal.returns-clause-value
returns-clause-value c = sub_vector c.args.x c.sum.result c.sum.ensures.plane (λ k h.
    c.sum.ensures.bytes k h
    ∙ ap₂ bit_xor (c.inverted-made.ensures.bytes k h ∙ ap (joined SBOX_FIRST SBOX_SECOND) (c.parts-parts.ensures.bytes k h)) (get_or-replicate {A = ℕ} 16 k 0x63 0 h)
    ∙ sbox_by (slice_index c.args.x k) (c.parts-parts.ensures.given.bytes k h))
