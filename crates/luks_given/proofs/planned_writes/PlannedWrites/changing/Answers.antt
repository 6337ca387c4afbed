use Rattle.std.proofs.Common.{◌≡◌, ℕ, ◌+◌, ◌-◌, List, length, refl, subst, sym, ap, ◌∙◌, arith}
use Rattle.std.proofs.lemmas.List.{drop_all}
use Rattle.luks_area.specs.Ranges.{part}
use Rattle.luks_area.proofs.RangeFacts.{length-part_inside}
use Rattle.luks_given.specs.Parts.{IsPlaced}
use Rattle.luks_given.specs.Planned.{planned_bytes}
use Rattle.luks_given.proofs.PartFacts.{placed-fits, placed-part}
use Rattle.luks_given.proofs.PlayFacts.{standing-more}
use Rattle.luks_given.proofs.planned_writes.PlannedWrites.changing.Goals as goal

pub loop-len-init : goal.loop-len-init
loop-len-init g c =
    let from : List ℕ = c.args.from.now in
    let n : ℕ = length from in
    let none : n - n ≡ 0 = omega arith in
    record {
      most = omega arith;
      rest = drop_all n from (omega arith) ∙ sym (ap (part (planned_bytes c.args.self.now) (c.args.at + n)) none);
    }

pub overflow_add-place : goal.overflow_add-place
overflow_add-place g c =
    let self = c.args.self.now in
    let fits = placed-fits self.parts.now c.args.at (length c.args.from.now) c.args.k self.total (length self.held.now) self.apart self.ends self.counted
    (subst (λ rs. IsPlaced rs 0 c.args.at (c.args.at + length c.args.from.now) c.args.k) (sym self.same) c.requires) in
    let inside = fits.0 in
    let short = self.fits in
    let most = c.loop-len.invariant.most in
    let below = c.last_sector-start.ensures.below in
    omega (arith, inside, short, most, below)

pub overflow_add-first : goal.overflow_add-first
overflow_add-first g c =
    let self = c.args.self.now in
    let fits = placed-fits self.parts.now c.args.at (length c.args.from.now) c.args.k self.total (length self.held.now) self.apart self.ends self.counted
    (subst (λ rs. IsPlaced rs 0 c.args.at (c.args.at + length c.args.from.now) c.args.k) (sym self.same) c.requires) in
    let room = fits.1 in
    let most = c.loop-len.invariant.most in
    let below = c.last_sector-start.ensures.below in
    omega (arith, room, most, below)

pub are_zeros-requires-clause-placed : goal.are_zeros-requires-clause-placed
are_zeros-requires-clause-placed g c =
    let from : List ℕ = c.args.from.now in
    let len : ℕ = c.loop-len.len in
    let start : ℕ = c.last_sector-start.result in
    let below = c.last_sector-start.ensures.below in
    let most = c.loop-len.invariant.most in
    let m : ℕ = len - start in
    let long : length (part from start m) ≡ m = length-part_inside from start m (omega (arith, most, below)) in
    subst (λ n. IsPlaced g.K.Given.parts 0 (c.args.at + start) ((c.args.at + start) + n) (c.args.k + start)) (sym long)
    (placed-part g.K.Given.parts c.args.at (length from) c.args.k start m (omega (arith, most, below)) c.requires)

pub loop-len-preserved : goal.loop-len-preserved
loop-len-preserved g c =
    let from : List ℕ = c.args.from.now in
    let len : ℕ = c.loop-len.len in
    let start : ℕ = c.last_sector-start.result in
    let below = c.last_sector-start.ensures.below in
    let most = c.loop-len.invariant.most in
    let v : List ℕ = planned_bytes c.args.self.now in
    let m : ℕ = len - start in
    let long : length (part from start m) ≡ m = length-part_inside from start m (omega (arith, most, below)) in
    record {
      most = omega (arith, most, below);
      rest = standing-more v c.args.at from start len (omega (arith, below)) most
          (c.if-not-are_zeros.ensures refl ∙ ap (part v (c.args.at + start)) long) c.loop-len.invariant.rest;
    }
