use Rattle.std.proofs.Common.{subst}
use Rattle.serde_json.specs.View.{view}
use Rattle.luks_json.specs.AreaText.{IsJsonFault}
use Rattle.luks_wider.proofs.WiderFacts.{is_under, none_in_bad, none_without_text}
use Rattle.luks_wider.proofs.wider.has_under_way.Goals as goal

pub returns-in-Ok-clause-is : goal.returns-in-Ok-clause-is
returns-in-Ok-clause-is c = λ e. record { value = view c.in-Ok.value; json = c.in-Ok.ensures.json; is = c.is_under_way.ensures.is e }

pub returns-in-Ok-clause-other : goal.returns-in-Ok-clause-other
returns-in-Ok-clause-other c = λ e h. c.is_under_way.ensures.only e (is_under c.args.area.now (view c.in-Ok.value) h c.in-Ok.ensures.json)

pub returns-in-Err-JsonArea-clause-other : goal.returns-in-Err-JsonArea-clause-other
returns-in-Err-JsonArea-clause-other c = λ e.
    none_without_text c.args.area.now (subst (IsJsonFault c.args.area.now) c.in-Err-JsonArea.field-0-is c.in-Err-JsonArea.ensures.fault)

pub returns-in-Err-BadJson-clause-other : goal.returns-in-Err-BadJson-clause-other
returns-in-Err-BadJson-clause-other c = λ e.
    none_in_bad c.args.area.now (subst (IsJsonFault c.args.area.now) c.in-Err-BadJson.field-0-is c.in-Err-BadJson.ensures.fault)
