use Rattle.std.proofs.Common.{◌<◌, ◌∙◌, ℕ, List, Bool, length, length-set, sym, subst, arith, refl}
use Rattle.luks_area.specs.Device.{unchanged-same, unchanged-then}
use Rattle.luks_area.proofs.RangeFacts.{same_but-same, same_but-then}
use Rattle.luks_keeping.specs.Places.{AreInside}
use Rattle.luks_keeping.proofs.PlaceFacts.{one_of}
use Rattle.luks_keeping.proofs.ReadFacts.{next_left, no_areas_left, source_left}
use Rattle.luks_keeping.proofs.reading_on.rescue_areas.Goals as goal

pub rescue_place-requires-clause-there : goal.rescue_place-requires-clause-there
rescue_place-requires-clause-there g c = subst (AreInside c.args.places.now) (sym c.loop-n.invariant.kept.size) c.requires.there

pub rescue_place-requires-clause-within : goal.rescue_place-requires-clause-within
rescue_place-requires-clause-within g c = subst (AreInside c.args.places.now) (sym c.loop-n.invariant.size) c.requires.within

pub loop-n-init : goal.loop-n-init
loop-n-init g c = record {
  kept = unchanged-same c.args.source.now;
  size = refl;
  count = refl;
  failing = omega arith;
  settled = λ tells. c.requires.settled tells;
  long = refl;
  left = no_areas_left (g.S.Device.tells × g.T.Device.tells) c.args.places.now (g.S.Device.bytes c.args.source.now) (g.T.Device.bytes c.args.target.now) (g.S.Device.failed c.args.source.now) _;
  rest = λ tells. same_but-same _ (g.T.Device.bytes c.args.target.now);
}

pub returns-in_err-keyslots-clause-rest : goal.returns-in_err-keyslots-clause-rest
returns-in_err-keyslots-clause-rest g c = λ tells.
    same_but-then (c.loop-n.invariant.rest tells) (one_of c.args.places.now c.loop-n.n (c.rescue_place.ensures.rest tells))

pub loop-n-preserved : goal.loop-n-preserved
loop-n-preserved g c =
    let s : List ℕ = g.S.Device.bytes c.args.source.now in
    let w : List ℕ = g.T.Device.bytes c.rescue_place.new.target in
    let mid : ℕ = g.S.Device.failed c.loop-n.source in
    let after : ℕ = g.S.Device.failed c.rescue_place.new.source in
    let lost : Bool = c.in_ok-keyslots.field-0 in
    let within : c.loop-n.n < length c.loop-n.keyslots = omega (arith, c.loop-n.invariant.long) in
    record {
      kept = unchanged-then c.loop-n.invariant.kept c.in_ok-keyslots.ensures.kept;
      size = c.in_ok-keyslots.ensures.size ∙ c.loop-n.invariant.size;
      count = c.in_ok-keyslots.ensures.count.1 ∙ c.loop-n.invariant.count;
      failing = (let before = c.loop-n.invariant.failing in let rose = c.in_ok-keyslots.ensures.count.0 in omega (arith, before, rose));
      settled = λ tells. c.in_ok-keyslots.ensures.settled tells;
      long = simp length-set c.loop-n.invariant.long;
      left = next_left c.args.places.now c.requires.apart (g.S.Device.tells × g.T.Device.tells) s (g.T.Device.bytes c.loop-n.target) w c.loop-n.n (g.S.Device.failed c.args.source.now) mid after
          c.loop-n.keyslots lost within c.in_ok-keyslots.ensures.told.0 c.in_ok-keyslots.ensures.told.1 (λ t. c.in_ok-keyslots.ensures.rest t.1) c.loop-n.invariant.left
          (source_left (g.S.Device.tells × g.T.Device.tells) c.args.places.now c.loop-n.n s (g.S.Device.bytes c.loop-n.source) w mid after (λ t. c.loop-n.invariant.kept.same t.0) c.in_ok-keyslots.ensures.rescued);
      rest = λ tells.
          same_but-then (c.loop-n.invariant.rest tells) (one_of c.args.places.now c.loop-n.n (c.in_ok-keyslots.ensures.rest tells));
    }
