use Rattle.std.proofs.Common.{◌∙◌, ap, ap₂, slice_index}
use Rattle.std.specs.Int.Bits.{bit_xor}
use Rattle.luks_aes.specs.Nibbles.{parts_by}
use Rattle.luks_aes.proofs.lookups.parts.Goals as goal

pub returns : goal.returns
unfolding parts_by
returns c = record {
  given = c.low-low.ensures.given;
  bytes = λ k h.
      c.sum.ensures.bytes k h
      ∙ ap₂ bit_xor
      (c.at-of_low.ensures k h ∙ ap (slice_index c.args.first) (c.low-low.ensures.bytes k h))
      (c.at-of_high.ensures k h ∙ ap (slice_index c.args.second) (c.high-high.ensures.bytes k h));
}
