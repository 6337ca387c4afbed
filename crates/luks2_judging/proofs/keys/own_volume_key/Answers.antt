use Rattle.std.proofs.Common.{length}
use Rattle.luks_meta.specs.Content.{content}
use Rattle.luks2_judging.proofs.KeyFacts.{key_between}
use Rattle.luks2_judging.proofs.keys.own_volume_key.Goals as goal

pub new-requires-clause-some_bytes : goal.new-requires-clause-some_bytes
new-requires-clause-some_bytes c =
    let is = c.in_ok-like.ensures in
    (key_between (content c.args.meta.now) is.digest (length c.args.key.now.bytes.now) is.is.meets.takes.long).from

pub new-requires-clause-at_most_128 : goal.new-requires-clause-at_most_128
new-requires-clause-at_most_128 c =
    let is = c.in_ok-like.ensures in
    (key_between (content c.args.meta.now) is.digest (length c.args.key.now.bytes.now) is.is.meets.takes.long).to
