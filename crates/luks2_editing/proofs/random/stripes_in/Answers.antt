use Rattle.std.proofs.Common.{◌≡◌, ◌-◌, drop, length, arith, length-drop}
use Rattle.std.proofs.lemmas.List.{take_all}
use Rattle.luks2_editing.proofs.random.stripes_in.Goals as goal

pub returns : goal.returns
returns c =
    let long : length (drop 160 c.args.random.now) ≡ length c.args.random.now - 160 = length-drop 160 c.args.random.now in
    take_all (length c.args.random.now - 160) (drop 160 c.args.random.now) (omega (arith, long))
