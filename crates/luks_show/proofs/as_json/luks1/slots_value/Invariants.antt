use Rattle.std.proofs.Common.{◌≡◌, map, take}
use Rattle.serde_json.specs.View.{view}
use Rattle.luks_show.specs.Luks1Value.{slot_values}
use Rattle.luks_show.proofs.as_json.luks1.slots_value.Given as goal

abbrev pub invariant-loop-n : goal.invariant-loop-n
invariant-loop-n l = map view l.items.items ≡ slot_values l.header.common 0 (take l.n l.slot-items)
