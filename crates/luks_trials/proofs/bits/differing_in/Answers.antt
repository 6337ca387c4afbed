use Rattle.std.proofs.Common.{◌∙◌, ap, count_ones, sum_by}
use Rattle.luks_kdf.specs.Xor.{xor_bytes}
use Rattle.luks_slot.specs.Distance.{differing_bits}
use Rattle.luks_trials.proofs.bits.differing_in.Goals as goal

pub returns : goal.returns
unfolding differing_bits
returns c = c.bits_set.ensures ∙ ap (sum_by count_ones) (c.xor_into.ensures ∙ ap (λ bytes. xor_bytes bytes c.args.other.now) c.copy_from_slice.ensures.after)
