use Rattle.std.proofs.Common.{refl, subst}
use Rattle.luks1_edits.specs.Edited.{IsInUse}
use Rattle.luks1_edits.proofs.RemovalChoice.{is_named, isnt_named}
use Rattle.luks1_edits.proofs.keyslots.judge_removal.Goals as goal

pub returns-then-eq-clause-judged : goal.returns-then-eq-clause-judged
returns-then-eq-clause-judged c = λ v holds. record {
  removed = c.if-not-is_there-2.ensures.used refl v holds;
  same = is_named c.args.by_ c.args.slot c.eq.result c.eq.ensures c.if-eq.true;
}

pub returns-clause-judged : goal.returns-clause-judged
returns-clause-judged c = λ v holds. record {
  opener = subst (λ n. IsInUse v n) c.opener_of.ensures (c.if-not-is_there.ensures.used refl v holds);
  removed = c.if-not-is_there-2.ensures.used refl v holds;
  other = isnt_named c.args.by_ c.args.slot c.eq.result c.eq.ensures c.if-eq.false;
}
