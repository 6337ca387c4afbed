use Rattle.std.proofs.Common.{◌+◌, ◌∙◌, ap, map, subst, sym}
use Rattle.std.proofs.lemmas.List.{map-append}
use Rattle.serde_json.specs.View.{view}
use Rattle.luks_rules.specs.declared.table.Section.TheVariants.{Keyslots}
use Rattle.luks_meta.specs.Objects.{IsMissing}
use Rattle.luks_wider.specs.Underways.{content}
use Rattle.luks_underway_show.specs.KeyslotValues.{AreKeyslots, IsKeyslotValue, listed, passed}
use Rattle.luks_underway_show.proofs.as_json.keyslots.add_keyslot.Goals as goal

pub returns : goal.returns
returns c = λ before.
    let j = content c.args.meta.now in
    let one : IsKeyslotValue j c.args.n (view c.in-Some.value) = rw c.in-Some.is at c.in_ok-value.ensures in
    let items = ap (map view) c.in_ok-push.ensures.items ∙ map-append view _ _ in
    subst (AreKeyslots j (c.args.n + 1)) (sym items) (listed before one)

pub returns-in_default : goal.returns-in_default
returns-in_default c = λ before.
    let missing : IsMissing (content c.args.meta.now) Keyslots c.args.n = rw c.in_default.is at c.in_ok-value.ensures in
    passed before missing
