-- The fields before the keyslots are those of the first 208 bytes.
use Rattle.std.proofs.Common.{subst, sym, List, ℕ, lit≤}
use Rattle.std.proofs.lemmas.Result.{IfErr-weaker, IfOk-weaker}
use Rattle.luks_area.specs.First.{IsLeast}
use Rattle.luks_area.specs.Ranges.{part}
use Rattle.luks1_header.specs.Faults.{head_key, IsCommonFault}
use Rattle.luks1_header.specs.Header1.{IsCommon}
use Rattle.luks1_header.proofs.Luks1HeaderFacts.{back, common_fault_moves, common_moves, first_of}
use Rattle.luks_reading.proofs.luks1_fields.luks1_common.Goals as goal

pub returns-clause-found : goal.returns-clause-found
returns-clause-found c =
    let v = c.args.header.now in
    IfOk-weaker c.common.result _ _ (λ common found.
    common_moves 208 (part v 0 208) v common (lit≤ tt) (first_of v 208) (subst (λ (b : List ℕ). IsCommon b common) c.bytes_at.ensures.value found))
    c.common.ensures.found

pub returns-clause-faultless : goal.returns-clause-faultless
returns-clause-faultless c =
    let v = c.args.header.now in
    IfOk-weaker c.common.result _ _ (λ common clear f is.
    clear f (subst (λ (b : List ℕ). IsCommonFault b f) (sym c.bytes_at.ensures.value)
    (common_fault_moves 208 v (part v 0 208) (lit≤ tt) (back 208 _ _ (first_of v 208)) f is)))
    c.common.ensures.faultless

pub returns-clause-fault : goal.returns-clause-fault
returns-clause-fault c =
    let v = c.args.header.now in
    IfErr-weaker c.common.result _ _ (λ fault least.
    let first = subst (λ (b : List ℕ). IsLeast head_key (IsCommonFault b) fault) c.bytes_at.ensures.value least in (
      common_fault_moves 208 (part v 0 208) v (lit≤ tt) (first_of v 208) fault first.0,
      λ g is. first.1 g (common_fault_moves 208 v (part v 0 208) (lit≤ tt) (back 208 _ _ (first_of v 208)) g is),
    ))
    c.common.ensures.fault
