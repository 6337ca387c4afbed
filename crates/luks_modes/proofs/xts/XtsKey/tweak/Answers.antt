use Rattle.std.proofs.Common.{ap, sym, ◌∙◌}
use Rattle.std.specs.Int.{w128, to_le_bytes, from_le_bytes}
use Rattle.luks_aes.specs.Aes.{Aes}
use Rattle.luks_modes.specs.Xts.{tweak_key, tweak_of}
use Rattle.luks_modes.proofs.UnitLoopFacts.{tweak_key_is}
use Rattle.luks_modes.proofs.xts.XtsKey.tweak.Goals as goal

pub returns : goal.returns
unfolding tweak_of
returns c =
    let number = to_le_bytes w128 c.args.unit in
    let half = sym (tweak_key_is c.self.inside.blocks c.self.inside.tweaks c.self.invariant.same_length) ∙ ap tweak_key c.self.view_is in
    c.from_le_bytes.ensures
    ∙ ap (from_le_bytes w128)
    (c.encrypt-tweak.ensures.value
    ∙ ap (Aes c.self.inside.tweaks) (c.to_le_bytes.ensures ∙ ap (to_le_bytes w128) c.from.ensures)
    ∙ ap (λ k. Aes k number) half)
