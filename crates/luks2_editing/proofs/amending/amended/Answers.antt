use Rattle.std.proofs.Common.{◌≡◌, Some, ap, ◌∙◌}
use Rattle.luks_meta.specs.Content.{area_len, content}
use Rattle.luks2_judging.specs.declared.judged.JudgedChange.TheVariants.{AddToken, Priority}
use Rattle.luks2_editing.proofs.AmendingFacts.{prioritized_by, token_by, unmade_by}
use Rattle.luks2_editing.proofs.amending.amended.Goals as goal

pub returns-in-Some-Priority-clause-value : goal.returns-in-Some-Priority-clause-value
returns-in-Some-Priority-clause-value c =
    let own : c.in-Some-Priority.field-0 ≡ Priority c.in-Some-Priority.slot c.in-Some-Priority.priority = rw c.in-Some-Priority.is at c.in-Some-Priority.field-0-is in
    let is : c.args.change ≡ Some (Priority c.in-Some-Priority.slot c.in-Some-Priority.priority) = c.in-Some-Priority.is ∙ ap Some own in
    prioritized_by c.args.change c.in-Some-Priority.slot c.in-Some-Priority.priority (content c.args.meta) c.with_priority.result is c.with_priority.ensures.value

pub returns-in-Some-AddToken-clause-value : goal.returns-in-Some-AddToken-clause-value
returns-in-Some-AddToken-clause-value c =
    let own : c.in-Some-AddToken.field-0 ≡ AddToken c.in-Some-AddToken.number c.in-Some-AddToken.token = rw c.in-Some-AddToken.is at c.in-Some-AddToken.field-0-is in
    let is : c.args.change ≡ Some (AddToken c.in-Some-AddToken.number c.in-Some-AddToken.token) = c.in-Some-AddToken.is ∙ ap Some own in
    token_by c.args.change c.in-Some-AddToken.number c.in-Some-AddToken.token (content c.args.meta) c.with_token.result is c.with_token.ensures.value

pub returns-in-Some-AddToken-clause-refused : goal.returns-in-Some-AddToken-clause-refused
returns-in-Some-AddToken-clause-refused c =
    let own : c.in-Some-AddToken.field-0 ≡ AddToken c.in-Some-AddToken.number c.in-Some-AddToken.token = rw c.in-Some-AddToken.is at c.in-Some-AddToken.field-0-is in
    let is : c.args.change ≡ Some (AddToken c.in-Some-AddToken.number c.in-Some-AddToken.token) = c.in-Some-AddToken.is ∙ ap Some own in
    unmade_by c.args.change c.in-Some-AddToken.number c.in-Some-AddToken.token (area_len c.args.meta) (content c.args.meta) c.with_token.result is c.with_token.ensures.refused
