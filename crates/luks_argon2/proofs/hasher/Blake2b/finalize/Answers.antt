use Rattle.std.proofs.Common.{ℕ, List, length, take, ap, ◌∙◌}
use Rattle.luks_argon2.proofs.HasherFacts.{Holds_final}
use Rattle.luks_argon2.proofs.hasher.Blake2b.finalize.Goals as goal

pub returns : goal.returns
returns c = λ m held.
    let n : ℕ = length c.args.out.now in
    c.copy_from_slice.ensures.after ∙ ap (λ (b : List ℕ). take n b) c.digest_of-bytes.ensures
    ∙ Holds_final n c.args.self m c.padded-block.result c.compress.new.h held c.padded-block.ensures c.compress.ensures
