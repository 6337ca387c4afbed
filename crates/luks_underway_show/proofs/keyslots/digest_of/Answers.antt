use Rattle.std.proofs.Common.{refl}
use Rattle.luks_wider.specs.Underways.{content}
use Rattle.luks_underway_show.proofs.Counting.{digest_is}
use Rattle.luks_underway_show.proofs.keyslots.digest_of.Goals as goal

pub returns : goal.returns
returns c d is =
    digest_is (content c.args.meta.now) c.args.n c.digest_of_keyslot.result c.requires (rw is refl) c.digest_of_keyslot.ensures.some c.digest_of_keyslot.ensures.only
