use Rattle.std.proofs.Common.{◌≡◌, ap, ◌∙◌, subst, length, ◌*◌, ◌<◌, slice_index, ℕ, rules}
use Rattle.luks_aes.specs.Aes.{Aes, AesInverse}
use Rattle.luks_aes.specs.States.{AreBytes}
use Rattle.luks_aes.proofs.ByteFacts.{bytes-take}
use Rattle.luks_aes.proofs.KeyFacts.{aes_of_words}
use Rattle.luks_aes.proofs.InverseFacts.{aes_undone}
use Rattle.luks_aes.proofs.aes.AesKey.encrypt.Goals as goal

pub returns-clause-value : goal.returns-clause-value
returns-clause-value c =
    c.cipher.ensures
    ∙ aes_of_words c.self.inside.key_words c.self.inside.words c.self.invariant c.args.block
    ∙ ap (λ k. Aes k c.args.block) c.self.view_is

pub returns-clause-undone : goal.returns-clause-undone
returns-clause-undone c =
    let long : length c.args.block ≡ 16 = search rules in
    let fits : (k : ℕ) → slice_index c.args.block k < 256 = search rules in
    let words : AreBytes c.self.inside.words = record { at = c.self.invariant.bytes } in
    let key = subst (λ k. AreBytes k) c.self.view_is (bytes-take (4 * c.self.inside.key_words) c.self.inside.words words) in
    ap (AesInverse c.args.self.now) (returns-clause-value c) ∙ aes_undone c.args.self.now c.args.block key (record { long = long; bytes = record { at = fits } })
