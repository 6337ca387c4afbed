use Rattle.std.proofs.Common.{ℕ, ◌*◌, List, inl, inr, sym, ◌∙◌, subst, arith}
use Rattle.std.proofs.lemmas.Bool.{false≢true}
use Rattle.std.proofs.lemmas.Result.{IfOk-weaker}
use Rattle.luks_finding.specs.Starts.{HasMetadata}
use Rattle.luks_finding.specs.Telling.{second_copy}
use Rattle.luks_finding.proofs.metadata_signs.has_metadata_of.Goals as goal

pub returns-clause-has : goal.returns-clause-has
returns-clause-has g c = λ t.
    let M : List ℕ → Type 0 = λ w. HasMetadata w (512 * c.args.sector) (second_copy c.args.near) in
    let same = c.in_ok-has_metadata.ensures.unchanged.same t in
    let first = c.in_ok-has_metadata.ensures.has t in
    IfOk-weaker c.has_metadata-2.result _ _ (λ has so. (
      λ yes. inr (omega arith, subst M same (so.0 yes)),
      λ of. elim of [
        | inl one ↦ absurd (false≢true (sym c.if-branch.false ∙ first.1 one))
        | inr two ↦ so.1 (subst M (sym same) two.1)
      ],
    )) (c.has_metadata-2.ensures.has t)
