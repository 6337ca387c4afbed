use Rattle.std.proofs.Common.{◌≡◌, ℕ, refl, ap, ◌∙◌, ◌%◌, arith, add-one}
use Rattle.luks_argon2.specs.Blake2b.{block_words, columns_mixed, compress, diagonals_mixed, folded_all, rounds}
use Rattle.luks_argon2.proofs.Blake2bFacts.{block_words_is}
use Rattle.luks_argon2.proofs.blake2b_compression.compress.Goals as goal

pub rounds-init : goal.rounds-init
unfolding rounds
rounds-init c = refl

pub rounds-preserved : goal.rounds-preserved
unfolding rounds
rounds-preserved c =
    let m = c.load.m in
    let r : ℕ = c.rounds.i % 10 in
    rw add-one (c.diagonals_mixed-v.ensures ∙ ap (λ h. diagonals_mixed h m r) (c.columns_mixed-half.ensures ∙ ap (λ v. columns_mixed v m r) c.rounds.invariant))

pub returns : goal.returns
unfolding compress folded_all
returns c =
    let words : c.load.m ≡ block_words c.args.block.now = block_words_is c.load.m c.args.block.now c.load.invariant.0 (λ k lt. c.load.invariant.1 k (omega arith)) in
    let done : c.rounds.i ≡ 12 = omega (arith, c.rounds.auto.i-end) in
    ap (folded_all c.args.h.now) (rw (c.working-v.ensures, words, done) at c.rounds.invariant)
