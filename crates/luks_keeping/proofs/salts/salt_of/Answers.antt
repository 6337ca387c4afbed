use Rattle.std.proofs.Common.{rules, List, ℕ, subst, sym}
use Rattle.luks1_header.specs.Header1.{IsLuks1}
use Rattle.luks_reading.specs.Header.{IsAcceptedHeader}
use Rattle.luks_reading.specs.declared.header.Header.{Header}
use Rattle.luks_keeping.specs.Compared.{IsUsedSalt}
use Rattle.luks_keeping.specs.Salts.{FindsSalt, HasHeaderSalt}
use Rattle.luks_keeping.proofs.salts.salt_of.Goals as goal

pub read-requires : goal.read-requires
read-requires c = rw c.as_slice.ensures (subst IsAcceptedHeader c.in-Luks1.is c.requires.accepted)

pub returns-in-Luks1 : goal.returns-in-Luks1
returns-in-Luks1 c =
    let found : IsLuks1 c.as_slice.result.now c.unwrap.result = search rules in
    subst (λ (h : Header). FindsSalt (HasHeaderSalt h c.args.n) c.used_salt.result) (sym c.in-Luks1.is)
    (subst (λ (b : List ℕ). FindsSalt (IsUsedSalt b c.args.n) c.used_salt.result) c.as_slice.ensures (c.used_salt.ensures c.as_slice.result.now found))
