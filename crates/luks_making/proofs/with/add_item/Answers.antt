use Rattle.serde_json.specs.View.{view}
use Rattle.luks_making.proofs.MapFacts.{pushed}
use Rattle.luks_making.proofs.with.add_item.Goals as goal

pub returns-in_ok-push-in-Some : goal.returns-in_ok-push-in-Some
returns-in_ok-push-in-Some c = λ t is.
    pushed (view c.args.array.now) c.in-Some.items.now.items c.push.new.self c.args.item t c.in-Some.ensures.value c.in_ok-push-in-Some.ensures.items is
