use Rattle.std.proofs.Common.{length, arith, rules}
use Rattle.luks_fragments.specs.Kinds.{HasKind}
use Rattle.luks_fragments.specs.Objects.{IsObjectAt}
use Rattle.luks_piecing.proofs.PartFacts.{text_there}
use Rattle.luks_piecing.proofs.reading.read_fragment.Goals as goal

pub returns-clause-there : goal.returns-clause-there
returns-clause-there g c = λ tells.
    let v = g.D.Device.bytes c.args.source.now in
    let text = c.in-Some.text.items in
    let inside = rw c.in-Some.is at c.in_ok-text.ensures.inside in
    let is = rw c.in-Some.is at (c.in_ok-text.ensures.part tells) in
    let sized = g.met.D.Device.sized c.args.source.now tells in
    let whole : IsObjectAt text 0 (length text) = search rules in
    let has : HasKind text c.args.kind = search rules in
    text_there v c.args.spot.at (length text) c.args.kind text (omega (arith, inside, sized)) is whole has
