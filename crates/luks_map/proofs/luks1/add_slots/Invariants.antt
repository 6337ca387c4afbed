use Rattle.std.proofs.Common.{◌≡◌, ◌+◌, ◌++◌, length, take}
use Rattle.luks_map.specs.Luks1Rows.{slot_rows}
use Rattle.luks_map.proofs.luks1.add_slots.Given as goal

abbrev pub invariant-loop-n : goal.invariant-loop-n
invariant-loop-n l =
    (length l.header.slots ≡ 8 → l.rows.items ≡ l.fn.rows.items ++ slot_rows l.header.common.key_bytes 0 (take l.n l.header.slots))
    × (length l.rows.items ≡ 2 + l.n)
