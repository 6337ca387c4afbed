use Rattle.std.proofs.Common.{arith, refl}
use Rattle.luks_rounds.proofs.PairFacts.{window_word_in}
use Rattle.luks_rounds.proofs.pair_rounds.next_word.Goals as goal

pub returns-clause-value : goal.returns-clause-value
returns-clause-value c = λ j lt.
    rw (
      window_word_in j c.args.w.now c.args.place (omega arith) c.requires,
      c.add-word.ensures j lt,
      c.add.ensures j lt,
      c.add-recent.ensures j lt,
      c.small_sigma1.ensures j lt,
      c.small_sigma0.ensures j lt,
    ) refl
