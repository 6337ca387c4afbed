use Rattle.std.proofs.Common.{refl, sym, ◌∙◌, ap}
use Rattle.serde_json.specs.Data.{null}
use Rattle.serde_json.specs.View.{view}
use Rattle.serde_json.specs.Find.{get}
use Rattle.luks_making.specs.Changing.{at_member}
use Rattle.luks_making.proofs.MapFacts.{null_left, put_back}
use Rattle.luks_making.proofs.changing.with_member.Goals as goal

pub returns : goal.returns
returns c = λ f j d left found same.
    c.in_ok-change_member.ensures (λ _. view c.args.value) null (ap (get c.args.name.now) left ∙ null_left c.args.name.now j d (sym found)) refl
    ∙ (ap (at_member c.args.name.now (λ _. view c.args.value)) left ∙ put_back c.args.name.now f j d (view c.args.value) (sym found) same)
