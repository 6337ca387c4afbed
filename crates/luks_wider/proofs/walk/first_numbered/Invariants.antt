use Rattle.std.proofs.Common.{◌≡◌, drop}
use Rattle.serde_json.specs.View.{view}
use Rattle.luks_wider.specs.WideWalk.{first_numbered}
use Rattle.luks_wider.proofs.walk.first_numbered.Given as goal

abbrev pub invariant-loop-number : goal.invariant-loop-number
invariant-loop-number l = first_numbered l.test (view l.value) l.section l.numbers
    ≡ first_numbered l.test (view l.value) l.section (drop l.number-index l.numbers)
