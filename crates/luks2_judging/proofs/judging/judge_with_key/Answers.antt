use Rattle.std.proofs.Common.{◌≡◌, ℕ, refl, sym, subst, ◌∙◌}
use Rattle.std.proofs.lemmas.Result.{IfOk-weaker}
use Rattle.luks_area.specs.Area.{IsInside}
use Rattle.luks_meta.specs.Content.{content}
use Rattle.luks_reading.specs.declared.header.ChosenCopy.{ChosenCopy}
use Rattle.luks_edit.specs.declared.edit.Edit.{Edit}
use Rattle.luks_edit.specs.declared.deed.Deed.TheVariants.{Rewrite}
use Rattle.luks_edit.specs.declared.deed.Rewritten.{Rewritten}
use Rattle.luks_edit.specs.Asked.{deed_of}
use Rattle.luks2_judging.specs.declared.judged.JudgedEdit.{JudgedEdit}
use Rattle.luks2_judging.specs.declared.judged.JudgedEdit.TheVariants as judged
use Rattle.luks2_judging.specs.Judging.{Takes}
use Rattle.luks2_judging.specs.Rewriting.{IsRewrittenAs}
use Rattle.luks2_judging.specs.Texts.{texts_of}
use Rattle.luks2_judging.proofs.KeyslotFacts.{amended_there}
use Rattle.luks2_judging.proofs.ReadFacts.{erased_passed, read_as, rewriting_ended, rewriting_judged}
use Rattle.luks2_judging.proofs.judging.judge_with_key.Goals as goal

-- what is taken is what the edit takes
takes_of : (copy : ChosenCopy) (total : ℕ) (e : Edit) (r : Rewritten) (it : JudgedEdit) → deed_of e ≡ Rewrite r → IsRewrittenAs (content copy.meta) (texts_of copy.header) r it → Takes copy total e it
takes_of copy total e r (judged.Rewrite uuid fields change) asked x = record { rewritten = r; asked = asked; uuid_is = x.0; good = x.1; is = x.2; takes = x.3 }
takes_of copy total e r it asked x = absurd x

pub returns-in-Rewrite-clause-takes : goal.returns-in-Rewrite-clause-takes
returns-in-Rewrite-clause-takes g c =
    IfOk-weaker c.judge_rewriting.result _ _
    (λ it x. takes_of c.args.accepted.now.copy.now (g.D.Device.size c.args.device.now) c.args.edit.now c.in-Rewrite.rewritten it (sym c.in-Rewrite.ensures) x)
    c.judge_rewriting.ensures.takes

pub returns-in-Rewrite-clause-passed : goal.returns-in-Rewrite-clause-passed
returns-in-Rewrite-clause-passed g c = λ tells is payload judged_.
    let read = read_as refl refl (g.met.D.Device.sized c.args.device.now tells ∙ sym c.requires.ready.total) judged_ in
    rewriting_judged read (sym c.in-Rewrite.ensures) (texts_of c.args.accepted.now.copy.now.header) c.judge_rewriting.result c.judge_rewriting.ensures.good c.judge_rewriting.ensures.takes

pub returns-in-Rewrite-clause-refused : goal.returns-in-Rewrite-clause-refused
returns-in-Rewrite-clause-refused g c = λ tells is payload well judged_.
    let read = read_as refl refl (g.met.D.Device.sized c.args.device.now tells ∙ sym c.requires.ready.total) judged_ in
    rewriting_ended read (sym c.in-Rewrite.ensures) c.judge_rewriting.result c.judge_rewriting.ensures.refused

pub judge_rewriting-requires : goal.judge_rewriting-requires
judge_rewriting-requires g c = record {
  there = amended_there (content c.args.accepted.now.copy.now.meta) c.args.edit.now c.in-Rewrite.rewritten (sym c.in-Rewrite.ensures) c.requires.ready.own.there;
}

pub judge_sealing_of-requires-clause-asked : goal.judge_sealing_of-requires-clause-asked
judge_sealing_of-requires-clause-asked g c = sym c.in-Seal.ensures

pub judge_removal_of-requires-clause-asked : goal.judge_removal_of-requires-clause-asked
judge_removal_of-requires-clause-asked g c = sym c.in-Remove.ensures

pub returns-in-Erase-clause-takes : goal.returns-in-Erase-clause-takes
returns-in-Erase-clause-takes g c = record {
  asked = sym c.in-Erase.ensures;
  inside = λ n a is. subst (λ t. IsInside a t) c.requires.ready.total (c.requires.ready.own.key_areas n a is);
}

pub returns-in-Erase-clause-passed : goal.returns-in-Erase-clause-passed
returns-in-Erase-clause-passed g c = λ tells is payload judged_.
    erased_passed (read_as refl refl (g.met.D.Device.sized c.args.device.now tells ∙ sym c.requires.ready.total) judged_) (sym c.in-Erase.ensures)
