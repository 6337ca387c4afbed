use Rattle.std.proofs.Common.{ℕ, List, slice_index, ap, refl}
use Rattle.luks_aes.specs.Aes.{sub_word, word_by, sub_bytes, state_by, byte_in}
use Rattle.luks_aes.proofs.LinearFacts.{cons}
use Rattle.luks_aes.proofs.key_schedule.sub_word.Goals as goal

pub returns : goal.returns
unfolding sub_word word_by sub_bytes state_by byte_in
returns c =
    let made = c.sub_bytes-substituted.ensures.value in
    cons (ap (λ (xs : List ℕ). slice_index xs 0) made) (cons (ap (λ (xs : List ℕ). slice_index xs 1) made)
    (cons (ap (λ (xs : List ℕ). slice_index xs 2) made) (cons (ap (λ (xs : List ℕ). slice_index xs 3) made) refl)))
