use Rattle.std.proofs.Common.{IfSome, inl, refl, subst, sym}
use Rattle.luks_meta.specs.Content.{content}
use Rattle.luks_edit.specs.declared.edit_fault.EditFault.TheVariants.{NoSuchSlot}
use Rattle.luks2_edit_laws.specs.Refused.{IsAbsent}
use Rattle.luks2_judging.specs.Judged.{IsAbsentAmended, IsUsable}
use Rattle.luks2_judging.proofs.KeyslotFacts.{erasing_there, judged_as, removal_there, removed_opens, removed_wanted, rewriting_absent, rewriting_there, sealed_opens, sealing_there}
use Rattle.luks2_judging.proofs.keyslots.judge_others.Goals as goal

pub returns-then-is_used : goal.returns-then-is_used
returns-then-is_used c =
    let j = content c.args.meta.now in
    let e = c.args.edit.now in
    let d = c.in-Remove.removed in
    let is = sym c.in-Remove.ensures in
    removal_there j e d is (subst (λ x. IfSome x (IsUsable j)) (removed_opens e d is) c.requires) (c.is_used.ensures.used c.if-is_used.true)

pub returns-else-is_used : goal.returns-else-is_used
returns-else-is_used c = (
  refl,
  record {
    slot = c.in-Remove.removed.slot;
    wanted = inl (removed_wanted c.args.edit.now c.in-Remove.removed (sym c.in-Remove.ensures));
    unused = c.is_used.ensures.unused c.if-is_used.false;
  },
)

pub returns-in-Seal : goal.returns-in-Seal
returns-in-Seal c =
    let j = content c.args.meta.now in
    let e = c.args.edit.now in
    let s = c.in-Seal.field-0 in
    let is = sym c.in-Seal.ensures in
    sealing_there j e s is (subst (λ x. IfSome x (IsUsable j)) (sealed_opens e s is) c.requires)

pub returns-in-Rewrite : goal.returns-in-Rewrite
returns-in-Rewrite c =
    let j = content c.args.meta.now in
    let e = c.args.edit.now in
    let r = c.in-Rewrite.rewritten in
    let is = sym c.in-Rewrite.ensures in
    judged_as _ (IsAbsentAmended j r.change) (IsAbsent j e) NoSuchSlot (rewriting_absent j e r is) (rewriting_there j e r is) c.judge_amended.result c.judge_amended.ensures

pub returns-in-Erase : goal.returns-in-Erase
returns-in-Erase c = erasing_there (content c.args.meta.now) c.args.edit.now (sym c.in-Erase.ensures)
