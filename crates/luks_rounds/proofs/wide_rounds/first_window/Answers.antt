use Rattle.std.proofs.Common.{arith}
use Rattle.luks_rounds.proofs.WideWindow.{wide_window_is}
use Rattle.luks_rounds.proofs.wide_rounds.first_window.Goals as goal

pub returns : goal.returns
returns c =
    let x = c.args in
    wide_window_is x.a x.b x.c x.d x.e x.f x.g x.h (omega arith) (omega arith) (omega arith) (omega arith)
    (omega arith) (omega arith) (omega arith) (omega arith)
