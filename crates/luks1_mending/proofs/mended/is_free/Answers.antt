use Rattle.luks1_mending.specs.Judging.{set_of}
use Rattle.luks1_mending.proofs.MendedFacts.{free_by}
use Rattle.luks1_mending.proofs.mended.is_free.Goals as goal

pub returns : goal.returns
returns c =
    free_by c.args.header.now c.args.key_bytes c.args.total (set_of c.args.kept.now) c.requires.kept c.args.area c.meets_kept.result
    c.if-area-lt-HEADER.false (c.is_inside.ensures.0 c.if-not-is_inside.false) c.meets_kept.ensures
