use Rattle.std.proofs.Common.{drop, arith, subst, sym, ◌∙◌}
use Rattle.std.proofs.lemmas.List.{take_at, length-take-le}
use Rattle.luks_kdf.specs.Splitter.{TakesIn}
use Rattle.luks_kdf.proofs.running_block.RunningBlock.take_in.Goals as goal

pub returns : goal.returns
returns g c =
    let hash = g.H.HashFn.digest in
    let size = g.H.HashFn.LEN in
    let len = c.self.inside.len in
    let stripe = c.args.stripe.now in
    let front = length-take-le len c.self.inside.block (omega (arith, c.self.invariant, c.self.told)) in
    let long = c.take_in.auto.block ∙ front in
    let written = take_at c.take_in.new.block (drop len c.self.inside.block) len long in
    subst (λ after. TakesIn hash size c.args.self.now stripe after) (sym written)
    (subst (λ before. TakesIn hash size before stripe c.take_in.new.block) c.self.view_is c.take_in.ensures)
