use Rattle.std.proofs.Common.{map, string_bytes, ◌≡◌, ◌∙◌, ap, rules}
use Rattle.std.proofs.lemmas.Result.{IfOk-weaker}
use Rattle.std.proofs.lemmas.Str.{IsUtf8-string_bytes}
use Rattle.serde_json.specs.View.{view}
use Rattle.serde_json.specs.Written.{compact_text}
use Rattle.luks_commands.specs.Answer.{answer_status}
use Rattle.luks_commands.specs.Exit.{exit_status}
use Rattle.luks_show.specs.Steering.{unsteering}
use Rattle.luks_show.proofs.SteeringFacts.{unsteering_steerless}
use Rattle.luks_execution.specs.AnswerValue.{IsAnswerText}
use Rattle.luks_execution.proofs.FloatFacts.{answer_whole}
use Rattle.luks_execution.proofs.object.answer_json.Goals as goal

pub returns : goal.returns
returns c =
    let answer = c.args.answer.now in
    let hints = map (λ hint. hint.now) c.args.hints.now in
    let value = view c.in_ok-value.value in
    let whole = answer_whole hints (exit_status (answer_status answer)) answer value c.in_ok-value.ensures in
    let same : c.as_str.result.now ≡ string_bytes c.in_ok-written.written = search rules in
    let escapes = ap unsteering (same ∙ c.in_ok-written.ensures.text whole) in
    IfOk-weaker c.unsteering.result (λ s. string_bytes s ≡ unsteering c.as_str.result.now) (λ s. IsAnswerText answer hints (string_bytes s))
    (λ s made. record {
      value = value;
      is = c.in_ok-value.ensures;
      compact = made ∙ escapes;
      plain = unsteering_steerless (compact_text value) (string_bytes s) (IsUtf8-string_bytes s) (made ∙ escapes);
    }) c.unsteering.ensures
