use Rattle.std.proofs.Common.{◌≡◌, ℕ, [], ◌+◌, ap, sym, ◌∙◌}
use Rattle.std.specs.Prelude.{slice_index_or}
use Rattle.luks_aes.specs.Aes.{key_words, inverse_cipher}
use Rattle.luks_aes.proofs.KeyFacts.{words_of_key}
use Rattle.luks_aes.proofs.aes.AesKey.decrypt_eight.Goals as goal

pub returns : goal.returns
returns c = λ b low.
    let is = c.requires in
    let nk = c.self.inside.key_words in
    let block = slice_index_or c.args.blocks b [] in
    let same : nk ≡ key_words c.args.self.now =
    sym (words_of_key nk c.self.inside.words c.self.invariant) ∙ ap key_words c.self.view_is in
    c.inverse_cipher.ensures is.words is.planes b low
    ∙ ap (λ (n : ℕ). inverse_cipher is.words (n + 5) block) same
    ∙ is.opened block
