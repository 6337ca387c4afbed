use Rattle.std.proofs.Common.{◌≡◌, length, arith}
use Rattle.luks_piecing.specs.Pieced.{IsPieced}
use Rattle.luks2_searching.proofs.PiecedFacts.{pieced_found}
use Rattle.luks2_searching.proofs.ResultFacts.{some_of}
use Rattle.luks2_searching.proofs.fragments.by_fragments.Goals as goal

pub returns-clause-found : goal.returns-clause-found
returns-clause-found g c = λ tells.
    let allowed = c.args.trying.now.allowed in
    let given = c.args.given.now in
    let v = g.D.Device.bytes c.args.source.now in
    let p = c.args.trying.now.passphrase.now in
    let told = c.len.ensures in
    let enough = c.if-len-lt-SIZE.false in
    let sized = g.met.D.Device.sized c.args.source.now tells in
    pieced_found allowed given v p c.in-Some.pieced (omega (arith, told, enough, sized))
    (some_of c.in_ok-pieced.field-0 c.in-Some.pieced (λ f. length f.json.items ≡ 12288) c.in-Some.is c.in_ok-pieced.ensures.long)
    (some_of c.in_ok-pieced.field-0 c.in-Some.pieced (IsPieced allowed given v p) c.in-Some.is (c.in_ok-pieced.ensures.found tells))
