use Rattle.std.proofs.Common.{◌≡◌, ◌-◌, drop, length, arith, length-drop}
use Rattle.luks2_editing.proofs.rewriting.with_uuid.Goals as goal

pub uuid_field_after-uuid-requires-clause-counted : goal.uuid_field_after-uuid-requires-clause-counted
uuid_field_after-uuid-requires-clause-counted c =
    let long : length (drop 128 c.args.random.now) ≡ length c.args.random.now - 128 = length-drop 128 c.args.random.now in
    let counted = c.requires.counted in
    rw c.uuid_random.ensures (omega (arith, long, counted))
