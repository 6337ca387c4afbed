use Rattle.std.proofs.Common.{◌≡◌, ℕ, List, sym, subst, ◌∙◌, arith}
use Rattle.luks_area.specs.Device.{unchanged-then}
use Rattle.luks_area.specs.Ranges.{part}
use Rattle.luks_area.proofs.RangeFacts.{same_but-then}
use Rattle.luks_keeping.specs.Places.{AreInside}
use Rattle.luks_keeping.proofs.PlaceFacts.{next_copied, one_of}
use Rattle.luks_keeping.proofs.copying.copy_areas.Goals as goal

pub copy_place-requires-clause-there : goal.copy_place-requires-clause-there
copy_place-requires-clause-there g c = subst (AreInside c.args.places.now) (sym c.loop-n.invariant.kept.size) c.requires.there

pub copy_place-requires-clause-within : goal.copy_place-requires-clause-within
copy_place-requires-clause-within g c = subst (AreInside c.args.places.now) (sym c.loop-n.invariant.size) c.requires.within

pub returns-in_err-copy_place-clause-rest : goal.returns-in_err-copy_place-clause-rest
returns-in_err-copy_place-clause-rest g c = λ tells.
    same_but-then (c.loop-n.invariant.rest tells) (one_of c.args.places.now c.loop-n.n (c.copy_place.ensures.rest tells))

pub loop-n-preserved : goal.loop-n-preserved
loop-n-preserved g c = record {
  kept = unchanged-then c.loop-n.invariant.kept c.in_ok-copy_place.ensures.kept;
  size = c.in_ok-copy_place.ensures.size ∙ c.loop-n.invariant.size;
  source_count = c.in_ok-copy_place.ensures.count.0 ∙ c.loop-n.invariant.source_count;
  count = c.in_ok-copy_place.ensures.count.1 ∙ c.loop-n.invariant.count;
  settled = λ tells. c.in_ok-copy_place.ensures.settled tells;
  copied = λ source tells.
      let s : List ℕ = g.S.Device.bytes c.args.source.now in
      let w : List ℕ = g.T.Device.bytes c.copy_place.new.target in
      next_copied c.args.places.now c.requires.apart s (g.T.Device.bytes c.loop-n.target) w c.loop-n.n (c.loop-n.invariant.copied source tells)
      (c.in_ok-copy_place.ensures.rest tells)
      (λ a is. subst (λ (l : List ℕ). part w a.start a.len ≡ part l a.start a.len) (c.loop-n.invariant.kept.same source) (c.in_ok-copy_place.ensures.copied source tells a is));
  rest = λ tells.
      same_but-then (c.loop-n.invariant.rest tells) (one_of c.args.places.now c.loop-n.n (c.in_ok-copy_place.ensures.rest tells));
}

pub returns-clause-copied : goal.returns-clause-copied
returns-clause-copied g c = λ source tells n a is. c.loop-n.invariant.copied source tells n a (let low = is.0 in omega (arith, low)) is
