use Rattle.std.proofs.Common.{◌≡◌, ℕ, ◌-◌, ◌≤◌, List, length, take, drop, ap, ◌∙◌, arith, length-drop}
use Rattle.std.proofs.lemmas.List.{length-take-le, take_all}
use Rattle.luks_area.specs.Ranges.{written}
use Rattle.luks_area.proofs.RangeFacts.{length-written}
use Rattle.luks_c_answers.proofs.BufferFacts.{written-last_first}
use Rattle.luks_c_answers.proofs.buffers.move_front.Goals as goal

pub loop-left-preserved : goal.loop-left-preserved
loop-left-preserved c =
    let buffer : List ℕ = c.loop-left.buffer in
    let left : List ℕ = c.loop-left.left.items in
    let start : ℕ = c.saturating_sub-start.result in
    let all : c.deref.result.now ≡ left = c.deref.ensures.value in
    let last : List ℕ = drop start left in
    let sub = c.saturating_sub-start.ensures in
    let len = c.len.ensures in
    let counted = c.deref.ensures.len in
    let same_ = ap length all in
    let low : start ≤ length left = omega (arith, sub, len, counted, same_) in
    let fits = c.loop-left.invariant.fits in
    let long : length last ≡ length left - start = length-drop start left in
    let moved : take (length c.deref.result.now - start) (drop start c.deref.result.now) ≡ last =
    ap (λ l. take (length l - start) (drop start l)) all ∙ take_all (length left - start) last (omega (arith, long)) in
    let wrote : c.copy_over.new.bytes ≡ written buffer start last = c.copy_over.ensures ∙ ap (written buffer start) moved in
    let same : length (written buffer start last) ≡ length buffer = length-written buffer start last (omega (arith, low, fits, long)) in
    let kept : c.shrink_to_fit.new.self.items ≡ take start left = c.shrink_to_fit.ensures.items ∙ c.truncate.ensures.items in
    let short : length (take start left) ≡ start = length-take-le start left low in
    let here = ap length kept in
    let there = ap length wrote in
    record {
      fits = omega (arith, low, fits, same, short, here, there);
      leaves = ap (λ l. written c.copy_over.new.bytes 0 l) kept
          ∙ ap (λ b. written b 0 (take start left)) wrote
          ∙ written-last_first buffer left start low fits
          ∙ c.loop-left.invariant.leaves;
    }
