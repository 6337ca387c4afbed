use Rattle.std.proofs.Common.{drop, length, length-drop, arith, ◌-◌, ◌≡◌}
use Rattle.std.proofs.lemmas.List.{take_all}
use Rattle.luks1_edits.proofs.making.stripes_in.Goals as goal

pub returns : goal.returns
returns c =
    let left : length (drop 32 c.args.random.now) ≡ length c.args.random.now - 32 = length-drop 32 c.args.random.now in
    take_all (length c.args.random.now - 32) (drop 32 c.args.random.now) (omega (arith, left))
