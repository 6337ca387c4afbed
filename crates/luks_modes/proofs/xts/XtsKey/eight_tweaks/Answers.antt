use Rattle.std.proofs.Common.{◌≡◌, ℕ, [], ◌∷◌, ◌+◌, ap, sym, ◌∙◌, slice_index, refl, arith}
use Rattle.std.specs.Int.{w128, to_le_bytes, from_le_bytes}
use Rattle.luks_aes.specs.Aes.{Aes}
use Rattle.luks_modes.specs.Xts.{tweak_key, tweak_of}
use Rattle.luks_aes.proofs.GateFacts.{below_eight}
use Rattle.luks_modes.proofs.UnitLoopFacts.{tweak_key_is}
use Rattle.luks_modes.proofs.xts.XtsKey.eight_tweaks.Goals as goal

pub returns : goal.returns
unfolding tweak_of
returns c = λ u low.
    let n = c.from-n.result in
    let half = sym (tweak_key_is c.self.inside.blocks c.self.inside.tweaks c.self.invariant.same_length) ∙ ap tweak_key c.self.view_is in
    let number : slice_index (n ∷ (n + 1) ∷ (n + 2) ∷ (n + 3) ∷ (n + 4) ∷ (n + 5) ∷ (n + 6) ∷ (n + 7) ∷ []) u ≡ n + u =
    below_eight (λ b. slice_index (n ∷ (n + 1) ∷ (n + 2) ∷ (n + 3) ∷ (n + 4) ∷ (n + 5) ∷ (n + 6) ∷ (n + 7) ∷ []) b ≡ n + b) (omega arith) refl refl refl refl refl refl refl u low in
    c.polynomials.ensures u low
    ∙ ap (from_le_bytes w128)
    (c.encrypt_eight-tweaks.ensures u low
    ∙ ap (Aes c.self.inside.tweaks) (c.masks_of-numbers.ensures u low ∙ ap (to_le_bytes w128) (number ∙ ap (λ (m : ℕ). m + u) c.from-n.ensures))
    ∙ ap (λ k. Aes k (to_le_bytes w128 (c.args.first + u))) half)
