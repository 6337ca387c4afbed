use Rattle.std.proofs.Common.{◌≡◌, List, [], length, arith, refl, sym, ap, ◌∙◌, subst}
use Rattle.luks_area.specs.Device.{unchanged-same, unchanged-then}
use Rattle.luks_rebuilding.specs.Found.{AreCopies}
use Rattle.luks_rebuilding.specs.Shares.{copies}
use Rattle.luks_rebuilding.specs.declared.place.Place.{Place}
use Rattle.luks_rebuilding.specs.declared.standing.Standing.{Standing}
use Rattle.luks_rebuilding.proofs.StandingFacts.{copies_next, copies_right, gathers_all, gathers_next, gathers_none, grown_long, later_long, right_later, AreRight, Gathers}
use Rattle.luks_rebuilding.proofs.standing.standing_copies.Goals as goal

pub loop-left-init : goal.loop-left-init
loop-left-init g c =
    let all : c.as_slice-left.result.now ≡ copies = c.as_slice-left.ensures in
    let none : c.new-found.result.items ≡ [] = c.new-found.ensures in
    let long : length c.as_slice-left.result.now ≡ 18 = ap length all in
    let empty : length c.new-found.result.items ≡ 0 = ap length none in
    record {
      unchanged = unchanged-same _;
      count = refl;
      right = subst AreRight (sym all) copies_right;
      room = omega (arith, long, empty);
      copies = subst AreCopies (sym none) (λ x is. absurd is);
      gathers = λ t.
          let v = g.D.Device.bytes c.args.source.now in
          subst (λ (l : List Place). Gathers v l c.new-found.result.items) (sym all) (subst (Gathers v copies) (sym none) (gathers_none v));
    }

pub loop-left-preserved : goal.loop-left-preserved
loop-left-preserved g c =
    let old : List Standing = c.loop-left.found.items in
    let new : List Standing = c.add_standing.new.found.items in
    let grown = grown_long _ old new c.in_ok-add_standing.ensures.grown in
    let less = later_long c.loop-left.left.now c.in-len1-up.len_at_least in
    let room = c.loop-left.invariant.room in
    record {
      unchanged = unchanged-then c.loop-left.invariant.unchanged c.in_ok-add_standing.ensures.unchanged;
      count = c.in_ok-add_standing.ensures.count ∙ c.loop-left.invariant.count;
      right = right_later c.loop-left.left.now c.loop-left.invariant.right;
      room = omega (arith, grown, less, room);
      copies = copies_next c.loop-left.left.now _ old new c.in-len1-up.len_at_least c.loop-left.invariant.right c.loop-left.invariant.copies c.in_ok-add_standing.ensures.grown;
      gathers = λ t. gathers_next (g.D.Device.bytes c.args.source.now) (g.D.Device.bytes c.loop-left.source) c.loop-left.left.now _ old new
          (c.loop-left.invariant.unchanged.same t) c.in-len1-up.len_at_least (c.loop-left.invariant.gathers t) (c.in_ok-add_standing.ensures.added t);
    }

pub returns-clause-standing : goal.returns-clause-standing
returns-clause-standing g c = λ t. gathers_all (g.D.Device.bytes c.args.source.now) c.loop-left.left.now c.loop-left.found.items c.in_default.len_below (c.loop-left.invariant.gathers t)
