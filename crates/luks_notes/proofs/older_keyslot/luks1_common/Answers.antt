use Rattle.std.proofs.Common.{subst, List, ℕ, lit≤}
use Rattle.std.proofs.lemmas.Result.{IfOk-weaker}
use Rattle.luks_area.specs.Ranges.{part}
use Rattle.luks1_header.specs.Header1.{IsCommon}
use Rattle.luks1_header.proofs.Luks1HeaderFacts.{common_moves, first_of}
use Rattle.luks_notes.proofs.older_keyslot.luks1_common.Goals as goal

pub returns : goal.returns
returns c =
    let v = c.args.header.now in
    IfOk-weaker c.common.result _ _ (λ common found.
    common_moves 208 (part v 0 208) v common (lit≤ tt) (first_of v 208) (subst (λ (b : List ℕ). IsCommon b common) c.bytes_at.ensures.value found))
    c.common.ensures.found
