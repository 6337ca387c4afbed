use Rattle.std.proofs.Common.{List, ℕ, subst, sym}
use Rattle.luks_reading.specs.Header.{IsAcceptedHeader}
use Rattle.luks_reading.specs.declared.header.Header.{Header}
use Rattle.luks_keeping.specs.SameKeys.{FindsDigest, IsFirstDigest, IsHeaderDigest}
use Rattle.luks_keeping.proofs.identity.digest_of.Goals as goal

pub first_digest-requires : goal.first_digest-requires
first_digest-requires c = rw c.as_slice.ensures (subst IsAcceptedHeader c.in-Luks1.is c.requires.accepted)

pub returns-in-Luks1 : goal.returns-in-Luks1
returns-in-Luks1 c =
    subst (λ (h : Header). FindsDigest (IsHeaderDigest h c.args.n) c.first_digest.result) (sym c.in-Luks1.is)
    (subst (λ (b : List ℕ). FindsDigest (IsFirstDigest b c.args.n) c.first_digest.result) c.as_slice.ensures c.first_digest.ensures)
