use Rattle.std.proofs.Common.{◌∙◌, arith, drop}
use Rattle.std.proofs.lemmas.List.{take_at, length-take-le}
use Rattle.luks_argon2.proofs.variable_length.put_first.Goals as goal

pub returns : goal.returns
returns c =
    let short = length-take-le 32 c.args.turn.now (omega arith) in
    let long = c.put_half.ensures in
    take_at c.put_half.new.half (drop 32 c.args.out.now) 32 (rw long short) ∙ long
