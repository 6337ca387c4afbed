use Rattle.std.proofs.Common.{◌+◌, ◌*◌, Option, Some, None, IfSome, refl, subst}
use Rattle.luks_reading.specs.Header.{IsAcceptedHeader, IsHeader}
use Rattle.luks_keeping.proofs.SizeFacts.{sized2}
use Rattle.luks_keeping.proofs.size.backup_size.Goals as goal

pub read-requires : goal.read-requires
read-requires c = rw c.as_slice.ensures (subst IsAcceptedHeader c.in-Luks1.is c.requires.accepted)

if_some : {A : Type 0} {P Q : A → Type 0} (o : Option A) → ((x : A) → P x → Q x) → IfSome o P → IfSome o Q
if_some None h p = tt
if_some (Some x) h p = h x p

pub returns-in-Luks2-clause-some : goal.returns-in-Luks2-clause-some
returns-in-Luks2-clause-some c = λ v is.
    if_some c.luks2_size.result (λ size sum. sized2 v c.args.payload c.in-Luks2.copy c.config-region.result size (subst (IsHeader v) c.in-Luks2.is is) c.config-region.ensures sum) c.luks2_size.ensures.some

pub returns-in-Luks2-clause-none : goal.returns-in-Luks2-clause-none
returns-in-Luks2-clause-none c = λ v is none. record {
  size = 2 * c.in-Luks2.copy.header.hdr_size + c.config-region.result.keyslots_size;
  is_size = sized2 v c.args.payload c.in-Luks2.copy c.config-region.result _ (subst (IsHeader v) c.in-Luks2.is is) c.config-region.ensures refl;
  long = c.luks2_size.ensures.none none;
}
