use Rattle.std.proofs.Common.{ap, sym, ◌∙◌}
use Rattle.luks_kdf.specs.Splitter.{diffuse}
use Rattle.luks_kdf.proofs.SplitterFacts.{takes_in}
use Rattle.luks_kdf.proofs.running_block.take_in.Goals as goal

pub returns : goal.returns
returns g c =
    let hash = g.H.HashFn.digest in
    let size = g.H.HashFn.LEN in
    takes_in hash size g.met.H.HashFn.digest_length g.met.H.HashFn.not_empty c.args.block.now c.args.stripe.now _
    (sym c.requires.stripe_length) (c.diffuse.ensures ∙ ap (diffuse hash size) c.xor_into.ensures)
