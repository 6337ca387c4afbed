use Rattle.std.proofs.Common.{◌∙◌, ap, slice_index}
use Rattle.luks_aes.specs.declared.lookups.TheConstants.{INVERSE_FIRST, INVERSE_SECOND}
use Rattle.luks_aes.specs.Nibbles.{joined}
use Rattle.luks_aes.proofs.NibbleFacts.{inverse_by, inverse_sub_vector}
use Rattle.luks_aes.proofs.lookups.inverse_sub_bytes.Goals as goal

pub returns-clause-value : goal.returns-clause-value
returns-clause-value c = inverse_sub_vector c.args.x c.inverted.result c.inverted.ensures.plane (λ k h.
    c.inverted.ensures.bytes k h
    ∙ ap (joined INVERSE_FIRST INVERSE_SECOND) (c.parts-parts.ensures.bytes k h)
    ∙ inverse_by (slice_index c.args.x k) (c.parts-parts.ensures.given.bytes k h))
