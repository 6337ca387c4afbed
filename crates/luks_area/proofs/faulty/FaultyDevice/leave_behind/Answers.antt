use Rattle.std.proofs.Common.{◌/◌, length, take, arith}
use Rattle.std.proofs.lemmas.List.{length-take}
use Rattle.luks_area.specs.Ranges.{IsAt}
use Rattle.luks_area.proofs.DeviceFacts.{touches-wider}
use Rattle.luks_area.proofs.faulty.FaultyDevice.leave_behind.Goals as goal

pub returns-in-Half-clause-touches : goal.returns-in-Half-clause-touches
returns-in-Half-clause-touches g c = λ tells.
    let from = c.args.from.now in
    let inner = touches-wider {Q = IsAt c.args.at (length from)} (λ p (is : IsAt c.args.at (length (take (length from / 2) from)) p). (is.0, let high = is.1 in omega (arith, high, length-take (length from / 2) from))) (c.write_at-in-Half.ensures.touches tells) in
    record { bytes = inner.bytes; unsettled = inner.unsettled }
