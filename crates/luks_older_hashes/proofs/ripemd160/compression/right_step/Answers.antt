use Rattle.std.proofs.Common.{refl, ap, ◌∙◌, slice_index}
use Rattle.luks_older_hashes.proofs.Ripemd160LineFacts.{right_line_next}
use Rattle.luks_older_hashes.proofs.ripemd160.compression.right_step.Goals as goal

pub returns : goal.returns
returns c = λ h at.
    c.step.ensures ∙ right_line_next h c.args.words.now c.args.v c.args.j _ _ _ _ at c.boolean-f.ensures
    (ap (slice_index c.args.words.now) c.right_word.ensures.value) refl c.right_shift.ensures
