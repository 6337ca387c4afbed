use Rattle.std.proofs.Common.{◌≡◌, ℕ, List, sym, subst, ◌∙◌, arith}
use Rattle.luks_area.specs.Device.{unchanged-then}
use Rattle.luks_area.specs.Ranges.{part}
use Rattle.luks_area.proofs.RangeFacts.{same_but-then}
use Rattle.luks1_rebuilding.specs.Used.{AreInside}
use Rattle.luks1_rebuilding.proofs.UsedFacts.{next_copied, one_of}
use Rattle.luks1_rebuilding.proofs.key_areas.copy_areas.Goals as goal

pub copy_slot-requires-clause-there : goal.copy_slot-requires-clause-there
copy_slot-requires-clause-there g c = subst (AreInside c.args.fields.now) (sym c.loop-n.invariant.kept.size) c.requires.there

pub copy_slot-requires-clause-within : goal.copy_slot-requires-clause-within
copy_slot-requires-clause-within g c = subst (AreInside c.args.fields.now) (sym c.loop-n.invariant.size) c.requires.within

pub returns-in_err-copy_slot-clause-rest : goal.returns-in_err-copy_slot-clause-rest
returns-in_err-copy_slot-clause-rest g c = λ tells.
    same_but-then (c.loop-n.invariant.rest tells) (one_of c.args.fields.now c.loop-n.n (c.copy_slot.ensures.rest tells))

pub loop-n-preserved : goal.loop-n-preserved
loop-n-preserved g c = record {
  kept = unchanged-then c.loop-n.invariant.kept c.in_ok-copy_slot.ensures.kept;
  size = c.in_ok-copy_slot.ensures.size ∙ c.loop-n.invariant.size;
  source_count = c.in_ok-copy_slot.ensures.count.0 ∙ c.loop-n.invariant.source_count;
  count = c.in_ok-copy_slot.ensures.count.1 ∙ c.loop-n.invariant.count;
  settled = λ tells. c.in_ok-copy_slot.ensures.settled tells;
  copied = λ source tells.
      let s : List ℕ = g.S.Device.bytes c.args.source.now in
      let w : List ℕ = g.T.Device.bytes c.copy_slot.new.target in
      next_copied c.args.fields.now c.requires.apart s (g.T.Device.bytes c.loop-n.target) w c.loop-n.n (c.loop-n.invariant.copied source tells)
      (c.in_ok-copy_slot.ensures.rest tells)
      (λ a is. subst (λ (l : List ℕ). part w a.start a.len ≡ part l a.start a.len) (c.loop-n.invariant.kept.same source) (c.in_ok-copy_slot.ensures.copied source tells a is));
  rest = λ tells.
      same_but-then (c.loop-n.invariant.rest tells) (one_of c.args.fields.now c.loop-n.n (c.in_ok-copy_slot.ensures.rest tells));
}

pub returns-clause-copied : goal.returns-clause-copied
returns-clause-copied g c = λ source tells n a is. c.loop-n.invariant.copied source tells n a (let low = is.numbered in omega (arith, low)) is
