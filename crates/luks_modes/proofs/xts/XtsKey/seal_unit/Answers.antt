use Rattle.std.proofs.Common.{ap, sym, subst, ◌∙◌, ◌<◌, ◌/◌, ℕ, length, slice_index, rules}
use Rattle.luks_modes.specs.Xts.{XtsOpen, block_key}
use Rattle.luks_modes.specs.Blocks.{sealed_blocks}
use Rattle.luks_aes.specs.States.{AreBytes}
use Rattle.luks_modes.proofs.UnitFacts.{seal_undone}
use Rattle.luks_modes.proofs.UnitLoopFacts.{sealed_unit, block_key_is}
use Rattle.luks_modes.proofs.xts.XtsKey.seal_unit.Goals as goal

pub returns-clause-value : goal.returns-clause-value
returns-clause-value c =
    let old = c.args.bytes.now in
    let first = c.self.inside.blocks in
    let half = sym (block_key_is first c.self.inside.tweaks c.self.invariant.same_length) ∙ ap block_key c.self.view_is in
    c.seal_whole.ensures
    ∙ ap (λ t. sealed_blocks first t old (length old / 16)) c.tweak-tweak.ensures
    ∙ sealed_unit c.args.self.now first c.args.unit old half

pub returns-clause-undone : goal.returns-clause-undone
returns-clause-undone c =
    let old = c.args.bytes.now in
    let fits : (k : ℕ) → slice_index old k < 256 = search rules in
    let half = sym (block_key_is c.self.inside.blocks c.self.inside.tweaks c.self.invariant.same_length) ∙ ap block_key c.self.view_is in
    let first : AreBytes c.self.inside.blocks = record { at = c.self.invariant.bytes } in
    ap (XtsOpen c.args.self.now c.args.unit) (returns-clause-value c)
    ∙ seal_undone c.args.self.now c.args.unit old (subst (λ k. AreBytes k) half first) (record { at = fits }) c.requires
