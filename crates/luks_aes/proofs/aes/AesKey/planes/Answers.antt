use Rattle.std.proofs.Common.{◌≡◌, ◌⊎◌, ℕ, ◌+◌, ap, sym, ◌∙◌, arith, ⊎_elim}
use Rattle.luks_aes.specs.Aes.{key_words, cipher, inverse_cipher, Aes, AesInverse}
use Rattle.luks_aes.proofs.KeyFacts.{words_of_key, aes_of_words, inverse_of_words}
use Rattle.luks_aes.proofs.aes.AesKey.planes.Goals as goal

pub returns : goal.returns
returns c =
    let nk = c.self.inside.key_words in
    let words = c.self.inside.words in
    let same : key_words c.args.self.now ≡ nk = sym (ap key_words c.self.view_is) ∙ words_of_key nk words c.self.invariant in
    record {
      count = c.key_planes.ensures.count;
      words = words;
      planes = c.key_planes.ensures.planes;
      small = ⊎_elim (λ (h : nk ≡ 4). omega arith) (λ (t : (nk ≡ 6) ⊎ (nk ≡ 8)). ⊎_elim (λ (h : nk ≡ 6). omega arith) (λ (h : nk ≡ 8). omega arith) t) c.self.invariant.known_size;
      sealed = λ s. ap (λ (n : ℕ). cipher words (n + 5) s) same ∙ aes_of_words nk words c.self.invariant s ∙ ap (λ k. Aes k s) c.self.view_is;
      opened = λ s. ap (λ (n : ℕ). inverse_cipher words (n + 5) s) same ∙ inverse_of_words nk words c.self.invariant s ∙ ap (λ k. AesInverse k s) c.self.view_is;
    }
