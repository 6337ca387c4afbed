use Rattle.std.proofs.Common.{arith, ap, ◌∙◌}
use Rattle.sha2.specs.Sha256.{word_at}
use Rattle.luks_rounds.proofs.PairFacts.{below_two}
use Rattle.luks_lanes.proofs.pair_turns.words_at.Goals as goal

pub returns : goal.returns
returns c =
    let row = c.args.row.now in
    below_two _ (λ there. c.load_or_zero-first.ensures (omega arith) ∙ ap (λ i. word_at row i) (omega arith))
    (λ there. c.load_or_zero-second.ensures (omega arith) ∙ ap (λ i. word_at row i) (omega arith))
