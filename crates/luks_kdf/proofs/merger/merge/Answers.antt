use Rattle.std.proofs.Common.{◌≡◌, ◌+◌, ◌-◌, ◌*◌, ◌/◌, ◌∙◌, ap, length, arith}
use Rattle.luks_kdf.specs.Splitter.{merge}
use Rattle.luks_kdf.proofs.SplitterFacts.{count-stripes, some-stripes, stripe_at-cut, stripe_at-left}
use Rattle.luks_kdf.proofs.merger.merge.Goals as goal

pub loop-i-preserved : goal.loop-i-preserved
loop-i-preserved g c =
    let k = length c.args.key.now in
    let stripes = c.args.stripes.now in
    record {
      block = c.feed.ensures.in_turn k c.loop-i.i stripes c.loop-i.invariant.block (stripe_at-cut k stripes c.loop-i.i);
      block_length = c.feed.ensures.len ∙ c.loop-i.invariant.block_length;
    }

pub returns : goal.returns
returns g c n whole =
    let k = length c.args.key.now in
    let stripes = c.args.stripes.now in
    let count = count-stripes k (length stripes) n c.requires.some_bytes whole in
    let some = some-stripes k (length stripes) n c.requires.some_stripes whole in
    let last : length stripes / k - 1 ≡ c.loop-i.i = omega (arith, c.loop-i-test.false, c.loop-i.auto.i-end) in
    let more : c.loop-i.i + 1 ≡ n = omega (arith, last, count, some) in
    let row : length stripes ≡ (c.loop-i.i + 1) * k = rw more whole in
    let last_stripe = stripe_at-left k stripes c.loop-i.i _ (ap (λ x. x * k) last) row in
    c.finish.ensures.whole k c.loop-i.i stripes c.loop-i.invariant.block last_stripe
    ∙ ap (λ x. merge g.H.HashFn.digest g.H.HashFn.LEN k x stripes) more
