use Rattle.std.proofs.Common.{arith, refl}
use Rattle.luks_rounds.proofs.QuadFacts.{window_word_in}
use Rattle.luks_rounds.proofs.quad_rounds.next_word.Goals as goal

pub returns-clause-value : goal.returns-clause-value
returns-clause-value c = λ j lt.
    rw (
      window_word_in j c.args.w.now c.args.t (omega arith),
      c.rotated-word.ensures j lt,
      c.xor-2.ensures j lt,
      c.xor.ensures j lt,
      c.xor-recent.ensures j lt,
    ) refl
