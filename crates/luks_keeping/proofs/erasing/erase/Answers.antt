use Rattle.std.proofs.Common.{◌≡◌, length, replicate, arith, ap, ◌∙◌, Result, Ok, Err, OnOk}
use Rattle.luks_area.proofs.DeviceFacts.{touches-flush, touches-settled}
use Rattle.luks_area.specs.Ranges.{part}
use Rattle.luks_keeping.proofs.ErasedFacts.{zeros_stand}
use Rattle.luks_keeping.proofs.erasing.erase.Goals as goal

pub returns-in_err-fill-clause-rest : goal.returns-in_err-fill-clause-rest
returns-in_err-fill-clause-rest g c = λ tells. touches-settled (c.requires.settled tells) (c.fill.ensures.touches tells)

pub returns-clause-rest : goal.returns-clause-rest
returns-clause-rest g c = λ tells. touches-settled (c.requires.settled tells) (touches-flush (c.fill.ensures.touches tells) (c.flush.ensures.touches tells))

on_ok : {A F : Type 0} {P Q : Type 0} (r : Result A F) → (P → Q) → OnOk r P → OnOk r Q
on_ok (Ok x) f p = f p
on_ok (Err e) f p = tt

pub returns-clause-zeros : goal.returns-clause-zeros
returns-clause-zeros g c = λ tells.
    let bytes = g.T.Device.bytes in
    let size : length (bytes c.args.target.now) ≡ g.T.Device.size c.args.target.now = g.met.T.Device.sized c.args.target.now tells in
    let within = c.requires.within in
    let stand : part (bytes c.fill.new.device) c.args.area.start c.args.area.len ≡ replicate c.args.area.len 0 =
    zeros_stand (bytes c.args.target.now) (bytes c.fill.new.device) c.args.area.start c.args.area.len (omega (arith, within, size)) (c.in_ok-fill.ensures.filled tells) in
    on_ok c.flush.result (λ same. ap (λ v. part v c.args.area.start c.args.area.len) same ∙ stand) (c.flush.ensures.same tells)
