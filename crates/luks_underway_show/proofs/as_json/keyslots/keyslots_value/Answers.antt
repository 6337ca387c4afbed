use Rattle.std.proofs.Common.{◌≡◌, arith, map, subst, sym}
use Rattle.serde_json.specs.View.{view}
use Rattle.luks_wider.specs.Underways.{content}
use Rattle.luks_underway_show.specs.KeyslotValues.{AreKeyslots, start}
use Rattle.luks_underway_show.proofs.as_json.keyslots.keyslots_value.Goals as goal

pub loop-n-init : goal.loop-n-init
loop-n-init c = subst (λ vs. AreKeyslots (content c.args.meta.now) 0 (map view vs)) (sym c.new-items.ensures.items) start

pub returns : goal.returns
returns c =
    let all : c.loop-n.n ≡ 32 = omega (arith, c.loop-n-test.false, c.loop-n.auto.n-end) in
    record {
      keyslots = map view c.loop-n.items.items;
      all = subst (λ n. AreKeyslots (content c.args.meta.now) n (map view c.loop-n.items.items)) all c.loop-n.invariant;
      is = c.from.ensures;
    }
