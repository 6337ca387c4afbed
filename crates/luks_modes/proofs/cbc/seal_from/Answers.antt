use Rattle.std.proofs.Common.{ℕ, suc, ◌<◌, slice_index, rules, ◌≡◌, ◌+◌, refl, ap, ap₂, ◌∙◌, arith}
use Rattle.luks_aes.specs.Aes.{Aes}
use Rattle.luks_modes.specs.Xts.{xor_block}
use Rattle.luks_modes.specs.Cbc.{cipher_block, opened_from, sealed_from}
use Rattle.luks_modes.proofs.LoopFacts.{block_left, block_long, under_way_start, under_way_more, under_way_end}
use Rattle.luks_modes.proofs.UndoneFacts.{seal_undone}
use Rattle.luks_modes.proofs.cbc.seal_from.Goals as goal

pub loop-j-init : goal.loop-j-init
unfolding cipher_block
loop-j-init c = record { way = under_way_start _ _; last = refl }

pub loop-j-preserved : goal.loop-j-preserved
unfolding cipher_block
loop-j-preserved c =
    let key = c.args.key.now in
    let old = c.args.bytes.now in
    let j = c.loop-j.j in
    let made = c.loop-j.invariant in
    let each : ℕ → _ = λ k. cipher_block key c.args.iv old (suc k) in
    let more : suc j ≡ j + 1 = omega arith in
    let is : c.encrypt-before.result ≡ each j =
    c.encrypt-before.ensures.value
    ∙ ap (Aes key) (c.xor_block.ensures ∙ ap₂ (λ s b. xor_block s b) (block_left each old c.loop-j.bytes j made.way) made.last) in
    record {
      way = under_way_more each old c.loop-j.bytes c.copy_from_slice.new.self j (omega arith) made.way (c.copy_from_slice.ensures.after ∙ is) (c.copy_from_slice.ensures.len ∙ block_long c.loop-j.bytes j (omega arith));
      last = is ∙ ap (cipher_block key c.args.iv old) more;
    }

pub returns-clause-value : goal.returns-clause-value
unfolding sealed_from
returns-clause-value c = under_way_end _ c.args.bytes.now c.loop-j.bytes c.loop-j.j (omega arith) c.loop-j.auto.bytes c.requires c.loop-j.invariant.way

pub returns-clause-undone : goal.returns-clause-undone
returns-clause-undone c = λ key_bytes.
    let key = c.args.key.now in
    let iv = c.args.iv in
    let old = c.args.bytes.now in
    let old_fits : (k : ℕ) → slice_index old k < 256 = search rules in
    let iv_fits : (k : ℕ) → slice_index iv k < 256 = search rules in
    ap (opened_from key iv) (returns-clause-value c)
    ∙ seal_undone key iv old key_bytes (record { at = iv_fits }) (record { at = old_fits }) c.requires
