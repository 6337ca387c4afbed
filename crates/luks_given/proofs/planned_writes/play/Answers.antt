use Rattle.std.proofs.Common.{◌≡◌, ℕ, ◌+◌, ◌≤◌, List, [], drop, take, length, slice_index_or, refl, sym, ap, ◌∙◌, arith}
use Rattle.std.proofs.lemmas.List.{drop_all, drop_more}
use Rattle.luks_area.specs.Ranges.{part, written}
use Rattle.luks_area.proofs.RangeFacts.{length-written}
use Rattle.luks_given.specs.Plan.{furthest, planned_length, played}
use Rattle.luks_given.specs.declared.planned_writes.PlannedCall.{PlannedCall}
use Rattle.luks_given.proofs.planned_writes.play.Goals as goal

pub loop-call-init : goal.loop-call-init
loop-call-init c = record {
  counted = c.requires.counted;
  ends = omega arith;
  long = refl;
  leaves = λ last later. later;
}

pub split_at-requires : goal.split_at-requires
unfolding planned_length
split_at-requires c =
    let all = ap planned_length (drop_more c.args.calls.now c.loop-call.call-index (record { at = 0; len = 0 }) c.loop-call-test.true) in
    let counted = c.loop-call.invariant.counted in
    omega (arith, all, counted)

pub put-requires-clause-from : goal.put-requires-clause-from
unfolding furthest
put-requires-clause-from c =
    let all = ap furthest (drop_more c.args.calls.now c.loop-call.call-index (record { at = 0; len = 0 }) c.loop-call-test.true) in
    let ends = c.loop-call.invariant.ends in
    let most = c.requires.ends in
    let long = c.split_at.ensures.front_len in
    omega (arith, all, ends, most, long)

pub put-requires-clause-within : goal.put-requires-clause-within
put-requires-clause-within c =
    let long = c.loop-call.invariant.long in
    let within = c.requires.within in
    omega (arith, long, within)

pub loop-call-preserved : goal.loop-call-preserved
unfolding furthest planned_length played
loop-call-preserved c =
    let calls : List PlannedCall = c.args.calls.now in
    let i : ℕ = c.loop-call.call-index in
    let d : PlannedCall = record { at = 0; len = 0 } in
    let call : PlannedCall = slice_index_or calls i d in
    let left : List ℕ = c.loop-call.left.now in
    let at : ℕ = c.args.at in
    let n : ℕ = length c.loop-call.into in
    let e = drop_more calls i d c.loop-call-test.true in
    let lengths = ap planned_length e in
    let furthest_ = ap furthest e in
    let counted = c.loop-call.invariant.counted in
    let ends = c.loop-call.invariant.ends in
    let front = c.split_at.ensures.front in
    let front_long = c.split_at.ensures.front_len in
    let back = c.split_at.ensures.back in
    let back_long = c.split_at.ensures.back_len in
    let same = c.put.ensures.long in
    record {
      counted = omega (arith, lengths, counted, back_long);
      ends = omega (arith, furthest_, ends);
      long = same ∙ c.loop-call.invariant.long;
      leaves = λ last later. c.loop-call.invariant.leaves last (λ w fits room there.
          let from : List ℕ = take call.len left in
          let u : List ℕ = written w call.at from in
          let long : length from ≡ call.len = sym (ap length front) ∙ front_long in
          let inside : call.at + length from ≤ length w = omega (arith, furthest_, fits, long) in
          let whole : length u ≡ length w = length-written w call.at from inside in
          let met = c.put.ensures.met w (omega (arith, furthest_, fits, front_long)) room there in
          let now = met ∙ ap (λ l. part (written w call.at l) at n) front in
          let after = later u (omega (arith, whole, furthest_, fits)) (omega (arith, whole, room, same)) (now ∙ ap (part u at) (sym same)) in
          after ∙ ap (part (played (drop (i + 1) calls) c.split_at.result.1.now u) at) same
          ∙ ap (λ l. part (played (drop (i + 1) calls) l u) at n) back
          ∙ sym (ap (λ cs. part (played cs left w) at n) e));
    }

pub returns : goal.returns
unfolding played
returns c = λ v inside room is.
    let e : drop c.loop-call.call-index c.args.calls.now ≡ [] = drop_all c.loop-call.call-index c.args.calls.now (omega (arith, c.loop-call-test.false)) in
    c.loop-call.invariant.leaves c.loop-call.into
    (λ w fits within there. there ∙ sym (ap (λ cs. part (played cs c.loop-call.left.now w) c.args.at (length c.loop-call.into)) e)) v inside room is
