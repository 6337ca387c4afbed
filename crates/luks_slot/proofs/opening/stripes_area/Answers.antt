use Rattle.std.proofs.Common.{◌≤◌, ◌*◌, arith}
use Rattle.std.proofs.Math.Nat.{mul-le-mul_right}
use Rattle.luks_slot.proofs.opening.stripes_area.Goals as goal

pub overflow_mul-bytes : goal.overflow_mul-bytes
overflow_mul-bytes c =
    let product : c.args.plan.now.key_bytes * c.from.result ≤ 128 * c.from.result = mul-le-mul_right c.from.result c.requires in
    record { fits = omega (arith, product, c.from.ensures) }

pub rounded_to_sectors-requires : goal.rounded_to_sectors-requires
rounded_to_sectors-requires c =
    let product : c.args.plan.now.key_bytes * c.from.result ≤ 128 * c.from.result = mul-le-mul_right c.from.result c.requires in
    omega (arith, product, c.from.ensures)
