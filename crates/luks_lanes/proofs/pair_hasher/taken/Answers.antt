use Rattle.std.proofs.Common.{rules, ◌∙◌, arith}
use Rattle.std.proofs.lemmas.List.{length-map}
use Rattle.sha2.proofs.Schedule256.{IsWindow_first}
use Rattle.luks_rounds.specs.Pair.{window, word_of}
use Rattle.luks_lanes.proofs.PairHasherFacts.{window_more}
use Rattle.luks_lanes.proofs.pair_hasher.taken.Goals as goal

pub load-preserved : goal.load-preserved
load-preserved c = record {
  long = search rules;
  first = window_more 0 c.args.first.now c.load.w c.beside.result c.load.i c.load.invariant.long (omega arith) (c.beside.ensures.first ∙ c.load_be-one.ensures) c.load.invariant.first;
  second = window_more 1 c.args.second.now c.load.w c.beside.result c.load.i c.load.invariant.long (omega arith) (c.beside.ensures.second ∙ c.load_be-other.ensures) c.load.invariant.second;
}

pub returns-clause-first : goal.returns-clause-first
returns-clause-first c =
    c.compress_window.ensures 0 c.args.first.now (omega arith)
    (IsWindow_first c.args.first.now (window 0 c.load.w) (length-map c.load.w (word_of 0) ∙ c.load.invariant.long) (λ k lk. c.load.invariant.first k (omega arith)))

pub returns-clause-second : goal.returns-clause-second
returns-clause-second c =
    c.compress_window.ensures 1 c.args.second.now (omega arith)
    (IsWindow_first c.args.second.now (window 1 c.load.w) (length-map c.load.w (word_of 1) ∙ c.load.invariant.long) (λ k lk. c.load.invariant.second k (omega arith)))
