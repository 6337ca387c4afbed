use Rattle.std.proofs.Common.{IfSome, refl, subst, sym}
use Rattle.luks_meta.specs.Content.{content}
use Rattle.luks2_judging.specs.Judged.{IsUsable}
use Rattle.luks2_judging.proofs.KeyslotFacts.{absent_of}
use Rattle.luks2_judging.proofs.keyslots.judge_wanted.Goals as goal

pub judge_others-requires : goal.judge_others-requires
judge_others-requires c = subst (λ x. IfSome x (IsUsable (content c.args.meta.now))) c.in-None.ensures tt

pub judge_others-requires-then-is_usable : goal.judge_others-requires-then-is_usable
judge_others-requires-then-is_usable c = subst (λ x. IfSome x (IsUsable (content c.args.meta.now))) c.in-Some.ensures (c.is_usable.ensures.used c.if-is_usable.true)

pub returns-else-is_usable : goal.returns-else-is_usable
returns-else-is_usable c = (refl, absent_of (content c.args.meta.now) c.args.edit.now c.in-Some.opener (sym c.in-Some.ensures) (c.is_usable.ensures.unused c.if-is_usable.false))
