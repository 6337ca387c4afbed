-- What is shown is the text of the token that is there.
use Rattle.std.proofs.Common.{◌≡◌, ◌∙◌, ap, rules, string_bytes, Some}
use Rattle.std.proofs.lemmas.Str.{IsUtf8-string_bytes}
use Rattle.serde_json.specs.View.{view}
use Rattle.luks_show.specs.Steering.{unsteering}
use Rattle.luks_show.specs.TokenText.{IsTokenText, token_of}
use Rattle.luks_show.proofs.SteeringFacts.{unsteering_steerless}
use Rattle.luks_show.proofs.tokens.token_text.Goals as goal

pub returns : goal.returns
returns c =
    let token = view c.in-Some.token.now in
    let there : token_of c.args.listing.now c.args.number ≡ Some token = search rules in
    let written = string_bytes c.in_ok-written.written in
    let text = string_bytes c.in_ok-unsteering.field-0 in
    let same : c.as_str.result.now ≡ written = search rules in
    let made : text ≡ unsteering written = c.in_ok-unsteering.ensures ∙ ap unsteering same in (
      token,
      (
        there,
        record {
          written = written;
          compact = search rules;
          back = search rules;
          escaped = made;
          plain = unsteering_steerless written text (IsUtf8-string_bytes c.in_ok-unsteering.field-0) made;
        },
      ),
    )
