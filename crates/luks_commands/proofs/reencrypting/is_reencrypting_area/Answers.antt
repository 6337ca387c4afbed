use Rattle.std.proofs.Common.{subst}
use Rattle.serde_json.specs.View.{view}
use Rattle.luks_json.specs.AreaText.{IsJsonFault}
use Rattle.luks_commands.proofs.ReencryptionFacts.{area_by, no_text, no_value}
use Rattle.luks_commands.proofs.reencrypting.is_reencrypting_area.Goals as goal

pub returns-in-Ok-clause-is : goal.returns-in-Ok-clause-is
returns-in-Ok-clause-is c =
    area_by c.args.area.now (view c.in-Ok.value) c.in-Ok.ensures.json c.is_reencrypting_value.result c.is_reencrypting_value.ensures

pub returns-in-Err-JsonArea-clause-is : goal.returns-in-Err-JsonArea-clause-is
returns-in-Err-JsonArea-clause-is c =
    no_text c.args.area.now (subst (IsJsonFault c.args.area.now) c.in-Err-JsonArea.field-0-is c.in-Err-JsonArea.ensures.fault)

pub returns-in-Err-BadJson-clause-is : goal.returns-in-Err-BadJson-clause-is
returns-in-Err-BadJson-clause-is c =
    no_value c.args.area.now (subst (IsJsonFault c.args.area.now) c.in-Err-BadJson.field-0-is c.in-Err-BadJson.ensures.fault)
