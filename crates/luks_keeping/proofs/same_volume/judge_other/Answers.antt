use Rattle.std.proofs.Common.{ℕ, List, subst, IfErr, OnOk}
use Rattle.luks_area.specs.Device.{unchanged-then, CountsFailure}
use Rattle.luks_keeping.specs.OtherHeaders.{TellsOther}
use Rattle.luks_keeping.specs.RestoreFaults.{is_restore_failure, IsKeptFrom}
use Rattle.luks_keeping.specs.SameKey.{SharesDigest}
use Rattle.luks_keeping.specs.SameKeys.{IsKeyAnswer}
use Rattle.luks_keeping.proofs.KeyFacts.{kept_by_key, refused_by_key}
use Rattle.luks_keeping.proofs.same_volume.judge_other.Goals as goal

pub returns-then-branch-clause-unchanged : goal.returns-then-branch-clause-unchanged
returns-then-branch-clause-unchanged g c = unchanged-then c.in_ok-has_other_uuid-in-SameVolume.ensures.unchanged c.judge_key.ensures.unchanged

pub returns-then-branch-clause-count : goal.returns-then-branch-clause-count
returns-then-branch-clause-count g c =
    subst (λ (n : ℕ). CountsFailure is_restore_failure c.judge_key.result n (g.T.Device.failed c.judge_key.new.target)) c.in_ok-has_other_uuid-in-SameVolume.ensures.count c.judge_key.ensures.count

pub returns-then-branch-clause-refused : goal.returns-then-branch-clause-refused
returns-then-branch-clause-refused g c = λ tells b x.
    let t : List ℕ = g.T.Device.bytes c.args.target.now in
    refused_by_key b t c.args.over c.in-SameVolume.is (subst (TellsOther b t) c.if-branch.true (c.in_ok-has_other_uuid-in-SameVolume.ensures.told tells b x)) c.judge_key.result
    (subst (λ (l : List ℕ). IfErr c.judge_key.result (IsKeyAnswer b l)) (c.in_ok-has_other_uuid-in-SameVolume.ensures.unchanged.same tells) (c.judge_key.ensures.refused tells b x))

pub returns-then-branch-clause-clear : goal.returns-then-branch-clause-clear
returns-then-branch-clause-clear g c = λ tells b x.
    let t : List ℕ = g.T.Device.bytes c.args.target.now in
    kept_by_key b t c.args.over c.in-SameVolume.is c.judge_key.result
    (subst (λ (l : List ℕ). OnOk c.judge_key.result (SharesDigest b l)) (c.in_ok-has_other_uuid-in-SameVolume.ensures.unchanged.same tells) (c.judge_key.ensures.clear tells b x))

pub returns-else-branch-clause-clear : goal.returns-else-branch-clause-clear
returns-else-branch-clause-clear g c = λ tells b x kept.
    let t : List ℕ = g.T.Device.bytes c.args.target.now in
    subst (TellsOther b t) c.if-branch.false (c.in_ok-has_other_uuid-in-SameVolume.ensures.told tells b x) (subst (IsKeptFrom b t) c.in-SameVolume.is kept).uuid
