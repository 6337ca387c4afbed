use Rattle.std.proofs.Common.{◌≡◌, drop}
use Rattle.std.specs.List.{list_any}
use Rattle.serde_json.specs.View.{view}
use Rattle.luks_underway_said.specs.Said.{gives}
use Rattle.luks_underway_said.proofs.said.one_gives.Given as goal

abbrev pub invariant-loop-n : goal.invariant-loop-n
invariant-loop-n l = list_any (gives (view l.value) l.digest) l.opened ≡ list_any (gives (view l.value) l.digest) (drop l.n-index l.opened)
