use Rattle.std.proofs.Common.{◌≡◌, ◌∙◌, ◌+◌, ℕ, List, length, ap, arith, refl, inl}
use Rattle.luks_area.specs.Device.{unchanged-same, unchanged-then}
use Rattle.luks_area.specs.Ranges.{part, written}
use Rattle.luks_area.proofs.DeviceFacts.{touches-flush, touches-inside, touches-settled, touches-then}
use Rattle.luks_area.proofs.RangeFacts.{same_but-same}
use Rattle.luks_keeping.specs.ReadPlaces.{bytes_read}
use Rattle.luks_keeping.proofs.ReadFacts.{all_left, next_range, none_left}
use Rattle.luks_keeping.proofs.reading_on.rescue_area.Goals as goal

pub loop-done-init : goal.loop-done-init
loop-done-init g c = record {
  below = omega arith;
  kept = unchanged-same c.args.source.now;
  size = refl;
  count = refl;
  failing = omega arith;
  left = none_left (g.S.Device.tells × g.T.Device.tells) (g.S.Device.bytes c.args.source.now) (g.T.Device.bytes c.args.target.now) c.args.area.start (g.S.Device.failed c.args.source.now);
  touches = λ tells. record { bytes = same_but-same _ (g.T.Device.bytes c.args.target.now); unsettled = λ p is. inl is };
}

pub loop-done-preserved : goal.loop-done-preserved
loop-done-preserved g c = record {
  below = omega arith;
  kept = unchanged-then c.loop-done.invariant.kept c.in_ok-rescue_piece.ensures.kept;
  size = c.in_ok-rescue_piece.ensures.size ∙ c.loop-done.invariant.size;
  count = c.in_ok-rescue_piece.ensures.count.1 ∙ c.loop-done.invariant.count;
  failing = (let before = c.loop-done.invariant.failing in let rose = c.in_ok-rescue_piece.ensures.count.0 in omega (arith, before, rose));
  left =
      let s : List ℕ = g.S.Device.bytes c.args.source.now in
      let u : List ℕ = g.T.Device.bytes c.loop-done.target in
      let w : List ℕ = g.T.Device.bytes c.rescue_piece.new.target in
      let start : ℕ = c.args.area.start in
      let m : ℕ = c.loop-done.done in
      let n : ℕ = c.min-len.result in
      next_range (g.S.Device.tells × g.T.Device.tells) s u w start m n (g.S.Device.failed c.args.source.now) (g.S.Device.failed c.loop-done.source) (g.S.Device.failed c.rescue_piece.new.source)
      c.in_ok-rescue_piece.field-0 (omega arith) (omega arith) c.in_ok-rescue_piece.ensures.read
      (λ t. (let size : length s ≡ g.S.Device.size c.args.source.now = g.met.S.Device.sized c.args.source.now t.0 in let there = c.requires.there in omega (arith, size, there)))
      (λ t. (
      let size : length u ≡ g.T.Device.size c.loop-done.target = g.met.T.Device.sized c.loop-done.target t.1 in
      let same = c.loop-done.invariant.size in
      let within = c.requires.within in
      omega (arith, size, same, within)))
      (λ t. c.in_ok-rescue_piece.ensures.copied t.0 t.1 ∙ ap (λ l. written u (start + m) (bytes_read c.in_ok-rescue_piece.field-0 (part l (start + m) n) n)) (c.loop-done.invariant.kept.same t.0))
      c.loop-done.invariant.left;
  touches = λ tells.
      touches-then (c.loop-done.invariant.touches tells)
      (touches-inside c.args.area.start c.args.area.len c.loop-done.done c.min-len.result (omega arith) (c.in_ok-rescue_piece.ensures.touches tells));
}

pub returns-in_err-rescue_piece-clause-rest : goal.returns-in_err-rescue_piece-clause-rest
returns-in_err-rescue_piece-clause-rest g c = λ tells.
    touches-settled (c.requires.settled tells) (touches-then (c.loop-done.invariant.touches tells)
    (touches-inside c.args.area.start c.args.area.len c.loop-done.done c.min-len.result (omega arith) (c.rescue_piece.ensures.touches tells)))

pub returns-in_err-flush-clause-rest : goal.returns-in_err-flush-clause-rest
returns-in_err-flush-clause-rest g c = λ tells. touches-settled (c.requires.settled tells) (touches-flush (c.loop-done.invariant.touches tells) (c.flush.ensures.touches tells))

pub returns-clause-rest : goal.returns-clause-rest
returns-clause-rest g c = λ tells. touches-settled (c.requires.settled tells) (touches-flush (c.loop-done.invariant.touches tells) (c.flush.ensures.touches tells))

pub returns-clause-rescued : goal.returns-clause-rescued
returns-clause-rescued g c =
    all_left (g.S.Device.tells × g.T.Device.tells) (g.S.Device.bytes c.args.source.now) (g.T.Device.bytes c.loop-done.target) (g.T.Device.bytes c.flush.new.self) c.args.area.start c.loop-done.done c.args.area.len
    (g.S.Device.failed c.args.source.now) (g.S.Device.failed c.loop-done.source) (omega arith) (λ t. c.in_ok-flush.ensures.same t.1) c.loop-done.invariant.left
