use Rattle.std.proofs.Common.{◌≡◌, ◌-◌, drop, length, arith, length-drop}
use Rattle.std.proofs.lemmas.List.{take_all}
use Rattle.luks2_editing.proofs.random.uuid_random.Goals as goal

pub returns : goal.returns
returns c =
    let long : length (drop 128 c.args.random.now) ≡ length c.args.random.now - 128 = length-drop 128 c.args.random.now in
    take_all (length c.args.random.now - 128) (drop 128 c.args.random.now) (omega (arith, long))
