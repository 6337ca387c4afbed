use Rattle.std.proofs.Common.{◌≡◌, ◌+◌, ◌-◌, ◌++◌, arith, ap, ◌∙◌}
use Rattle.luks_kdf.specs.Xor.{xor_bytes}
use Rattle.luks_kdf.specs.Splitter.{split}
use Rattle.luks_kdf.proofs.SplitterFacts.{merge-last}
use Rattle.luks_kdf.proofs.splitter.Splitter.finish.Goals as goal

pub returns-clause-whole : goal.returns-clause-whole
unfolding split
returns-clause-whole g c i random so_far =
    let count : i + 1 - 1 ≡ i = omega arith in
    let value = c.xor_with.ensures ∙ ap (λ l. xor_bytes l c.args.key.now) (c.self.view_is ∙ so_far) in
    rw count (ap (λ l. random ++ l) value)

pub returns-clause-merges_back : goal.returns-clause-merges_back
returns-clause-merges_back g c i random so_far whole =
    let value = c.xor_with.ensures ∙ ap (λ l. xor_bytes l c.args.key.now) (c.self.view_is ∙ so_far) in
    merge-last g.H.HashFn.digest g.H.HashFn.LEN g.met.H.HashFn.digest_length g.met.H.HashFn.not_empty
    c.args.key.now random _ i whole value
