use Rattle.serde_json.specs.View.{view}
use Rattle.luks_rules.specs.Valued.{IsValueFault}
use Rattle.luks_making.specs.Amended.{with_token}
use Rattle.luks_meta.specs.Content.{area_len, content}
use Rattle.luks2_editing.proofs.AmendingFacts.{fault_of_token}
use Rattle.luks2_editing.proofs.amending.with_token.Goals as goal

pub returns-in-Err-clause-refused : goal.returns-in-Err-clause-refused
returns-in-Err-clause-refused c = rw c.token_fault.ensures
    (fault_of_token (IsValueFault (area_len c.args.meta) (with_token c.args.number (view c.args.token.now) (content c.args.meta))) c.in-Err.fault c.in-Err.ensures.fault)
