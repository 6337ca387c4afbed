use Rattle.std.proofs.Common.{arith}
use Rattle.luks_rounds.proofs.FirstWindow.{first_window_is}
use Rattle.luks_rounds.proofs.single_rounds.first_window.Goals as goal

pub returns : goal.returns
returns c =
    let x = c.args in
    first_window_is x.a x.b x.c x.d x.e x.f x.g x.h (omega arith) (omega arith) (omega arith) (omega arith)
    (omega arith) (omega arith) (omega arith) (omega arith)
