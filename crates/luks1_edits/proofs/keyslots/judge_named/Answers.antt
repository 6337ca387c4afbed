use Rattle.std.proofs.Common.{[], subst, sym}
use Rattle.std.proofs.Common.{MatchResult}
use Rattle.luks1_edits.specs.Accepted.{IsUnusable, IsUsable}
use Rattle.luks1_edits.proofs.ErasureFacts.{erasure_opens_none}
use Rattle.luks1_edits.proofs.NewKeyslotFacts.{making, making_judged}
use Rattle.luks1_edits.proofs.RemovalFacts.{removal, removal_judged}
use Rattle.luks1_edits.proofs.RowFacts.{none_wanted, opens_none}
use Rattle.luks1_edits.proofs.keyslots.judge_named.Goals as goal

pub returns-in-Seal-clause-judged : goal.returns-in-Seal-clause-judged
returns-in-Seal-clause-judged c = λ v holds.
    making_judged _ (making v c.args.edit.now c.in-Seal.sealed (sym c.in-Seal.ensures)) c.judge_opener.result
    (subst (λ o. MatchResult c.judge_opener.result (λ _. IsUsable v o) (IsUnusable v o)) c.opener.ensures (c.judge_opener.ensures.judged v holds))

pub returns-in-Rewrite-clause-judged : goal.returns-in-Rewrite-clause-judged
returns-in-Rewrite-clause-judged c = λ v holds. none_wanted v c.args.edit.now (opens_none c.args.edit.now c.in-Rewrite.field-0 (sym c.in-Rewrite.ensures))

pub returns-in-Remove-clause-judged : goal.returns-in-Remove-clause-judged
returns-in-Remove-clause-judged c = λ v holds.
    removal_judged (removal v c.args.edit.now c.in-Remove.removed [] (sym c.in-Remove.ensures)) c.judge_removal.result (c.judge_removal.ensures.judged v holds)

pub returns-in-Erase-clause-judged : goal.returns-in-Erase-clause-judged
returns-in-Erase-clause-judged c = λ v holds. none_wanted v c.args.edit.now (erasure_opens_none c.args.edit.now (sym c.in-Erase.ensures))
