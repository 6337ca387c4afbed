use Rattle.std.proofs.Common.{◌≡◌, ℕ, ◌+◌, ◌-◌, ◌*◌, List, arith, sym, subst, ◌∙◌}
use Rattle.luks_area.specs.Ranges.{part}
use Rattle.luks_keeping.proofs.ClearFacts.{next_front, next_gone, next_rest}
use Rattle.luks_keeping.proofs.second_places.clear_places.Goals as goal

-- the front before the sector `n` stays, which is one more than those that are left
front_as : (u v : List ℕ) (m n : ℕ) → m + 1 ≡ n → part v 0 (n * 512) ≡ part u 0 (n * 512) → part v 0 ((m + 1) * 512) ≡ part u 0 ((m + 1) * 512)
front_as u v m n is same = subst (λ (k : ℕ). part v 0 (k * 512) ≡ part u 0 (k * 512)) (sym is) same

pub loop-left-preserved : goal.loop-left-preserved
loop-left-preserved g c =
    let u : List ℕ = g.T.Device.bytes c.args.target.now in
    let v : List ℕ = g.T.Device.bytes c.loop-left.target in
    let w : List ℕ = g.T.Device.bytes c.clear_place.new.target in
    let m : ℕ = c.loop-left.left - 1 in
    let is : m + 1 ≡ c.loop-left.left = omega arith in
    let inside = c.loop-left.invariant.inside in
    record {
      most = omega arith;
      inside = omega (arith, inside);
      size = c.in_ok-clear_place.ensures.size ∙ c.loop-left.invariant.size;
      count = c.in_ok-clear_place.ensures.count ∙ c.loop-left.invariant.count;
      settled = λ tells. c.in_ok-clear_place.ensures.settled tells;
      rest = λ tells. next_rest c.args.which u v c.args.limit m (front_as u v m c.loop-left.left is (c.loop-left.invariant.front tells)) w (c.loop-left.invariant.rest tells) (c.in_ok-clear_place.ensures.rest tells);
      front = λ tells. next_front c.args.which u v c.args.limit m (front_as u v m c.loop-left.left is (c.loop-left.invariant.front tells)) w (c.in_ok-clear_place.ensures.rest tells);
      gone = λ tells.
          next_gone c.args.which u v c.args.limit m (front_as u v m c.loop-left.left is (c.loop-left.invariant.front tells)) w (c.in_ok-clear_place.ensures.gone tells) (c.in_ok-clear_place.ensures.zeros tells)
          (λ p x high. c.loop-left.invariant.gone tells p x (omega (arith, high, is)));
    }

pub returns-in_err-clear_place-clause-rest : goal.returns-in_err-clear_place-clause-rest
returns-in_err-clear_place-clause-rest g c = λ tells.
    let u : List ℕ = g.T.Device.bytes c.args.target.now in
    let v : List ℕ = g.T.Device.bytes c.loop-left.target in
    let m : ℕ = c.loop-left.left - 1 in
    let is : m + 1 ≡ c.loop-left.left = omega arith in
    next_rest c.args.which u v c.args.limit m (front_as u v m c.loop-left.left is (c.loop-left.invariant.front tells)) (g.T.Device.bytes c.clear_place.new.target) (c.loop-left.invariant.rest tells) (c.clear_place.ensures.rest tells)

pub returns-clause-gone : goal.returns-clause-gone
returns-clause-gone g c = λ tells p x. c.loop-left.invariant.gone tells p x (omega arith)
