use Rattle.std.proofs.Common.{◌≡◌, ◌*◌, ◌/◌, ◌∙◌, subst, sym, length, drop, arith}
use Rattle.luks_kdf.specs.Splitter.{Splits}
use Rattle.luks_kdf.proofs.SplitterFacts.{put_mid-last, splits, stripe_at-cut}
use Rattle.luks_kdf.proofs.splitter.split.Goals as goal

pub loop-i-preserved : goal.loop-i-preserved
loop-i-preserved g c =
    let k = length c.args.key.now in
    let random = c.args.random.now in
    record {
      block = c.feed.ensures.in_turn k c.loop-i.i random c.loop-i.invariant.block (stripe_at-cut k random c.loop-i.i);
      block_length = c.feed.ensures.len ∙ c.loop-i.invariant.block_length;
    }

pub returns : goal.returns
returns g c =
    let key = c.args.key.now in
    let random = c.args.random.now in
    let hash = g.H.HashFn.digest in
    let size = g.H.HashFn.LEN in
    let last = c.finish.new.last in
    let count : length random / length key ≡ c.loop-i.i = omega (arith, c.loop-i-test.false, c.loop-i.auto.i-end) in
    let whole : length random ≡ length random / length key * length key =
    omega (arith, c.requires.whole_stripes, c.requires.some_bytes) in
    let rows : length random ≡ c.loop-i.i * length key = rw count at whole in
    let is_last = rw c.loop-i.invariant.block at c.finish.ensures.value in
    let joined =
    put_mid-last random c.copy_from_slice.new.self (drop (length random) c.args.out.now) last c.copy_from_slice.ensures.after in
    subst (Splits hash size key random) (sym joined)
    (splits hash size g.met.H.HashFn.digest_length g.met.H.HashFn.not_empty key random last c.loop-i.i
    c.requires.some_bytes rows is_last)
