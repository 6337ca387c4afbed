use Rattle.std.proofs.Common.{◌≡◌, ◌∙◌, ap, rules, string_bytes}
use Rattle.std.proofs.lemmas.Result.{IfOk-weaker}
use Rattle.std.proofs.lemmas.Str.{IsUtf8-string_bytes}
use Rattle.luks_show.specs.Steering.{unsteering}
use Rattle.luks_show.proofs.SteeringFacts.{unsteering_steerless}
use Rattle.luks_wider.specs.Underways.{content}
use Rattle.luks_underway_show.specs.UnderwayJson.{IsUnderwayJson}
use Rattle.luks_underway_show.proofs.as_json.text.underway_json.Goals as goal

pub returns : goal.returns
returns c =
    let written = string_bytes c.in_ok-written.written in
    let same : c.as_str.result.now ≡ string_bytes c.in_ok-written.written = search rules in
    let listing = c.args.listing in
    IfOk-weaker c.unsteering.result (λ s. string_bytes s ≡ unsteering c.as_str.result.now)
    (λ s. IsUnderwayJson listing.header listing.copies (content listing.meta) (string_bytes s))
    (λ s made. record {
      written = written;
      is = c.in_ok-written.ensures;
      escaped = made ∙ ap unsteering same;
      plain = unsteering_steerless written (string_bytes s) (IsUtf8-string_bytes s) (made ∙ ap unsteering same);
    }) c.unsteering.ensures
