use Rattle.std.proofs.Common.{ℕ, suc, ◌<◌, slice_index, rules, ◌≡◌, ◌+◌, length, refl, ap, ap₂, ◌∙◌, arith}
use Rattle.luks_aes.specs.Aes.{AesInverse}
use Rattle.luks_modes.specs.Xts.{xor_block}
use Rattle.luks_modes.proofs.UnitFacts.{length-xor_block}
use Rattle.luks_modes.specs.Cbc.{block_before, opened_from, plain_block, sealed_from}
use Rattle.luks_modes.proofs.LoopFacts.{block_left, under_way_start, under_way_more, under_way_end}
use Rattle.luks_modes.proofs.UndoneFacts.{open_undone}
use Rattle.luks_modes.proofs.cbc.open_from.Goals as goal

pub loop-j-init : goal.loop-j-init
unfolding block_before
loop-j-init c = record { way = under_way_start _ _; last = refl }

pub loop-j-preserved : goal.loop-j-preserved
unfolding block_before plain_block
loop-j-preserved c =
    let key = c.args.key.now in
    let old = c.args.bytes.now in
    let j = c.loop-j.j in
    let each = plain_block key c.args.iv old in
    let made = c.loop-j.invariant in
    let said = c.open_block-sealed.ensures in
    let block = block_left each old c.loop-j.bytes j made.way in
    let more : suc j ≡ j + 1 = omega arith in
    record {
      way = under_way_more each old c.loop-j.bytes c.open_block-sealed.new.block j (omega arith) made.way
          (said.opened ∙ ap₂ (λ s b. xor_block (AesInverse key s) b) block made.last)
          (ap length said.opened ∙ length-xor_block _ _);
      last = said.sealed ∙ block ∙ ap (block_before c.args.iv old) more;
    }

pub returns-clause-value : goal.returns-clause-value
unfolding opened_from
returns-clause-value c = under_way_end _ c.args.bytes.now c.loop-j.bytes c.loop-j.j (omega arith) c.loop-j.auto.bytes c.requires c.loop-j.invariant.way

pub returns-clause-undone : goal.returns-clause-undone
returns-clause-undone c = λ key_bytes.
    let key = c.args.key.now in
    let iv = c.args.iv in
    let old = c.args.bytes.now in
    let old_fits : (k : ℕ) → slice_index old k < 256 = search rules in
    let iv_fits : (k : ℕ) → slice_index iv k < 256 = search rules in
    ap (sealed_from key iv) (returns-clause-value c)
    ∙ open_undone key iv old key_bytes (record { at = iv_fits }) (record { at = old_fits }) c.requires
