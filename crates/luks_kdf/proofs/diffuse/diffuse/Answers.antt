use Rattle.std.proofs.Common.{◌≡◌, ◌≤◌, ◌<◌, ◌*◌, ◌+◌, ◌++◌, min, length, drop, arith, ap, ◌∙◌, refl}
use Rattle.std.proofs.Math.Nat.{mul-le-mul_right}
use Rattle.std.proofs.lemmas.Grind.{div_ceil_times}
use Rattle.luks_kdf.specs.Splitter.{diffused_blocks}
use Rattle.luks_kdf.proofs.DiffuseFacts.{diffuse-enough, diffuse_step}
use Rattle.luks_kdf.proofs.diffuse.diffuse.Goals as goal

pub returns : goal.returns
returns g c =
    let size = g.H.HashFn.LEN in
    let some = g.met.H.HashFn.not_empty in
    let bytes = c.args.bytes.now in
    let rounded = (div_ceil_times (length bytes) size (omega (arith, some))).0 in
    let enough : length bytes ≤ c.div_ceil-count.result * size =
    rw (c.div_ceil-count.ensures, c.LEN.ensures) rounded in
    let all : c.div_ceil-count.result ≤ c.loop-j.j = omega (arith, c.loop-j-test.false) in
    let past : length bytes ≤ c.loop-j.j * size = omega (arith, enough, mul-le-mul_right size all) in
    ◌∙◌ {b = diffused_blocks g.H.HashFn.digest size bytes c.loop-j.j ++ drop (c.loop-j.j * size) bytes}
    c.loop-j.invariant (diffuse-enough g.H.HashFn.digest size some bytes c.loop-j.j past)

pub loop-j-init : goal.loop-j-init
loop-j-init g c = c.diffuse_side_by_side-done.ensures

pub loop-j-preserved : goal.loop-j-preserved
loop-j-preserved g c =
    let size = g.H.HashFn.LEN in
    let some = g.met.H.HashFn.not_empty in
    let old = c.args.bytes.now in
    let rounded = (div_ceil_times (length old) size (omega (arith, some))).1 in
    let little : c.div_ceil-count.result * size < length old + size =
    rw (c.div_ceil-count.ensures, c.LEN.ensures) rounded in
    let below : c.loop-j.j + 1 ≤ c.div_ceil-count.result = omega (arith, c.loop-j-test.true) in
    let is_start = ap (λ n. c.loop-j.j * n) c.LEN-in-loop-j.ensures in
    let inside : c.loop-j.j * c.LEN-in-loop-j.result < length old =
    omega (arith, mul-le-mul_right size below, little, is_start) in
    let is_end : c.min-end.result ≡ min (c.loop-j.j * c.LEN-in-loop-j.result + size) (length old) =
    rw (c.LEN-in-loop-j-2.ensures, c.loop-j.auto.bytes, c.diffuse_side_by_side-done.auto.bytes) at c.min-end.ensures in
    diffuse_step g.H.HashFn.digest size g.met.H.HashFn.digest_length old _ _ _ c.loop-j.j _ _ is_start
    is_end inside c.loop-j.invariant refl c.diffuse_block.ensures
