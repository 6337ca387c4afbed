use Rattle.std.proofs.Common.{string_bytes}
use Rattle.std.proofs.lemmas.Str.{IsUtf8-string_bytes}
use Rattle.serde_json.specs.View.{view}
use Rattle.luks_making.proofs.AreaFacts.{area_ok, written_area}
use Rattle.luks_making.proofs.json_area.written_area.Goals as goal

pub returns-clause-holds : goal.returns-clause-holds
returns-clause-holds c =
    let text = c.in_ok-text.text in
    let made = c.in_ok-text.ensures in
    area_ok c.area_of.result (string_bytes text) c.args.len (view c.args.value.now) c.area_of.ensures.filled c.area_of.ensures.room
    (λ area filled room. written_area c.args.len (view c.args.value.now) (string_bytes text) area c.requires.content
    made.text (IsUtf8-string_bytes text) made.no_zero made.back filled room)
