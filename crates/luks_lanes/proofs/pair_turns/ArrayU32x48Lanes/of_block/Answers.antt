use Rattle.std.proofs.Common.{rules, ◌≡◌, inl, inr, ap, ◌∙◌, arith}
use Rattle.std.proofs.lemmas.List.{get_or-set_same, get_or-set_other, map-set, length-map}
use Rattle.std.proofs.lemmas.Bool.{cases_lt}
use Rattle.sha2.specs.Sha256.{compress}
use Rattle.sha2.proofs.Schedule256.{IsWindow_first}
use Rattle.luks_rounds.specs.Pair.{window, word_of}
use Rattle.luks_lanes.proofs.pair_turns.ArrayU32x48Lanes.of_block.Goals as goal

pub load-preserved : goal.load-preserved
load-preserved c = (
  search rules,
  λ j k lt lk.
      let long = length-map c.load.w (word_of j) in
      rw (map-set (word_of j) c.load.w c.load.i c.in_both.result) (elim (cases_lt k c.load.i) [
        | inl a ↦ get_or-set_other (window j c.load.w) c.load.i k (word_of j c.in_both.result) 0 (omega arith) ∙ c.load.invariant.1 j k lt a
        | inr b ↦
            let e : c.load.i ≡ k = omega arith in
            rw (← e) (get_or-set_same (window j c.load.w) c.load.i (word_of j c.in_both.result) 0 (omega (arith, long, c.load.invariant.0)) ∙ c.in_both.ensures j lt ∙ c.load_be.ensures)
      ]),
)

pub returns : goal.returns
returns c = λ j lt.
    let long = length-map c.load.w (word_of j) in
    c.compress_window.ensures j c.args.block.now lt
    (IsWindow_first c.args.block.now (window j c.load.w) (long ∙ c.load.invariant.0) (λ k lk. c.load.invariant.1 j k lt (omega arith)))
    ∙ ap (λ h. compress h c.args.block.now) (c.start.ensures j lt)
