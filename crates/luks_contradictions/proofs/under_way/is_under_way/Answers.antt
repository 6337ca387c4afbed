use Rattle.std.proofs.Common.{sym, ◌∙◌}
use Rattle.serde_json.specs.View.{view}
use Rattle.luks_contradictions.proofs.UnderWayFacts.{not_by, opal_by, under_way_by}
use Rattle.luks_contradictions.proofs.under_way.is_under_way.Goals as goal

pub returns-then-is_some-clause-is : goal.returns-then-is_some-clause-is
returns-then-is_some-clause-is c = λ e. under_way_by (view c.args.value.now) c.first_reencryption.result c.first_reencryption.ensures (sym c.is_some.ensures ∙ e)

pub returns-else-is_some-clause-is : goal.returns-else-is_some-clause-is
returns-else-is_some-clause-is c = λ e. opal_by (view c.args.value.now) c.first_opal.result c.first_opal.ensures (sym c.is_some-else-is_some.ensures ∙ e)

pub returns-else-is_some-clause-only : goal.returns-else-is_some-clause-only
returns-else-is_some-clause-only c = λ e.
    not_by (view c.args.value.now) c.first_reencryption.result c.first_opal.result c.first_reencryption.ensures c.first_opal.ensures
    (sym c.if-is_some.ensures) (sym c.is_some-else-is_some.ensures ∙ e)
