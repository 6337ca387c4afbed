use Rattle.std.proofs.Common.{◌↔◌, ◌&&◌, Bool, IsTrue, not, subst}
use Rattle.luks_keeping.specs.SameVolume.{IsOtherVolume}
use Rattle.luks_keeping.proofs.CompareFacts.{one_uuid_of, shares_of}
use Rattle.luks_keeping.proofs.OtherFacts.{is_other, one_uuid}
use Rattle.luks_keeping.proofs.same_volume.is_other_volume.Goals as goal

pub returns-then-not-has_uuid_of : goal.returns-then-not-has_uuid_of
returns-then-not-has_uuid_of c = λ b t x y.
    subst (λ (same : Bool). IsTrue (not same && not c.shares_digest.result) ↔ IsOtherVolume b t) c.if-not-has_uuid_of.true
    (is_other b t x.header y.header x.is_header y.is_header c.has_uuid_of.result c.shares_digest.result (one_uuid_of b t c.args.backup.now c.args.volume.now x y c.has_uuid_of.result c.has_uuid_of.ensures)
    (shares_of b t c.args.backup.now c.args.volume.now x y c.shares_digest.result c.shares_digest.ensures))

pub returns-else-not-has_uuid_of : goal.returns-else-not-has_uuid_of
returns-else-not-has_uuid_of c = λ b t x y.
    one_uuid b t x.header y.header x.is_header y.is_header c.has_uuid_of.result c.if-not-has_uuid_of.false (one_uuid_of b t c.args.backup.now c.args.volume.now x y c.has_uuid_of.result c.has_uuid_of.ensures)
