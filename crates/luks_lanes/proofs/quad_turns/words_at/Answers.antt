use Rattle.std.proofs.Common.{arith, ap, ◌∙◌}
use Rattle.sha1.specs.Sha1.{word_at}
use Rattle.luks_rounds.proofs.FirstWindow.{below_four}
use Rattle.luks_lanes.proofs.quad_turns.words_at.Goals as goal

pub returns : goal.returns
returns c =
    let row = c.args.row.now in
    below_four _ (λ there. c.load_or_zero-first.ensures (omega arith) ∙ ap (λ i. word_at row i) (omega arith))
    (λ there. c.load_or_zero-second.ensures (omega arith) ∙ ap (λ i. word_at row i) (omega arith))
    (λ there. c.load_or_zero-third.ensures (omega arith) ∙ ap (λ i. word_at row i) (omega arith))
    (λ there. c.load_or_zero-fourth.ensures (omega arith) ∙ ap (λ i. word_at row i) (omega arith))
