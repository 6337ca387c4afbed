use Rattle.std.proofs.Common.{◌≡◌, ◌∙◌, ap, arith, length}
use Rattle.luks_kdf.specs.KeyslotNames.{keyslot_digest, keyslot_digest_size}
use Rattle.luks_kdf.specs.Splitter.{mixed}
use Rattle.luks_slot.proofs.SplittingFacts.{count-stripes, stripe_at-cut}
use Rattle.luks_slot.proofs.splitting.take_in_stripes.Goals as goal

pub loop-i-init : goal.loop-i-init
unfolding mixed
loop-i-init c = record { block = c.requires.zeros }

pub loop-i-preserved : goal.loop-i-preserved
loop-i-preserved c =
    let k = length c.args.block.now in
    record {
      block = c.take_in.ensures.in_turn k c.loop-i.i c.args.row.now c.loop-i.invariant.block (stripe_at-cut k c.args.row.now c.loop-i.i);
    }

pub returns-clause-value : goal.returns-clause-value
returns-clause-value c n whole =
    let k = length c.args.block.now in
    let row = c.args.row.now in
    let count = count-stripes k (length row) n c.requires.some_bytes whole in
    let turns : c.loop-i.i ≡ n = omega (arith, c.loop-i-test.false, c.loop-i.auto.i-end, count) in
    c.loop-i.invariant.block
    ∙ ap (mixed (keyslot_digest c.args.hash) (keyslot_digest_size c.args.hash) k row) turns
