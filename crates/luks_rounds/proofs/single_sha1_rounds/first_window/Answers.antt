use Rattle.std.proofs.Common.{arith}
use Rattle.luks_rounds.proofs.Sha1Window.{five_window_is}
use Rattle.luks_rounds.proofs.single_sha1_rounds.first_window.Goals as goal

pub returns : goal.returns
returns c =
    let x = c.args in
    five_window_is x.a x.b x.c x.d x.e (omega arith) (omega arith) (omega arith) (omega arith) (omega arith)
