use Rattle.std.proofs.Common.{◌∙◌, ◌<◌, ◌+◌, ◌-◌, ◌*◌, ◌/◌, ℕ, ap, sym, subst, arith, rules, length, slice_index, take, drop}
use Rattle.luks_modes.specs.Xts.{block_key}
use Rattle.luks_modes.specs.Units.{converted, converted_blocks, opposite}
use Rattle.luks_aes.specs.States.{AreBytes}
use Rattle.luks_modes.proofs.UnitLoopFacts.{block_key_is}
use Rattle.luks_modes.proofs.RunFacts.{run_start, run_more, run_end, run_undone, converted_unit, converted_undone}
use Rattle.luks_modes.proofs.xts.XtsKey.convert_units.Goals as goal

pub loop-u-init : goal.loop-u-init
loop-u-init c = run_start (converted c.args.direction c.args.self.now) c.args.first c.args.bytes.now

pub loop-u-preserved : goal.loop-u-preserved
loop-u-preserved c =
    let d = c.args.direction in
    let key = c.args.self.now in
    let first = c.self.inside.blocks in
    let u = c.loop-u.u in
    let unit = take (512 * u + 512 - 512 * u) (drop (512 * u) c.loop-u.bytes) in
    let half = sym (block_key_is first c.self.inside.tweaks c.self.invariant.same_length) ∙ ap block_key c.self.view_is in
    let made = c.convert_blocks.ensures
    ∙ ap (λ t. converted_blocks d first t unit (length unit / 16)) (c.eight_tweaks-tweaks.ensures u (omega arith))
    ∙ converted_unit d key first (c.args.first + u) unit half in
    run_more (converted d key) c.args.first c.args.bytes.now c.loop-u.bytes c.convert_blocks.new.bytes u (omega arith) (omega arith) c.loop-u.invariant made

pub returns-clause-value : goal.returns-clause-value
returns-clause-value c = run_end (converted c.args.direction c.args.self.now) c.args.first c.args.bytes.now c.loop-u.bytes c.loop-u.u (omega arith) c.loop-u.invariant

pub returns-clause-undone : goal.returns-clause-undone
returns-clause-undone c =
    let d = c.args.direction in
    let key = c.args.self.now in
    let fits : (k : ℕ) → slice_index c.args.bytes.now k < 256 = search rules in
    let half = sym (block_key_is c.self.inside.blocks c.self.inside.tweaks c.self.invariant.same_length) ∙ ap block_key c.self.view_is in
    let first : AreBytes c.self.inside.blocks = record { at = c.self.invariant.bytes } in
    run_undone (converted d key) (converted (opposite d) key) (converted_undone d key (subst (λ k. AreBytes k) half first))
    c.args.first c.args.bytes.now c.loop-u.bytes c.loop-u.auto.bytes (record { at = fits }) (returns-clause-value c)
