use Rattle.std.proofs.Common.{◌≡◌, ℕ, ◌+◌, ◌-◌, List, length, take, drop, subst, sym, ap, ◌∙◌, arith}
use Rattle.luks_area.specs.Ranges.{part}
use Rattle.luks_given.specs.Parts.{IsPlaced}
use Rattle.luks_given.specs.Plan.{furthest, played}
use Rattle.luks_given.proofs.PartFacts.{placed-fits, read-placed}
use Rattle.luks_given.proofs.planned_writes.PlannedWrites.read_held.Goals as goal

pub overflow_add-k : goal.overflow_add-k
overflow_add-k g c =
    let self = c.args.self.now in
    let fits = placed-fits self.parts.now c.args.at (length c.args.into.now) c.args.k self.total (length self.held.now) self.apart self.ends self.counted
    (subst (λ rs. IsPlaced rs 0 c.args.at (c.args.at + length c.args.into.now) c.args.k) (sym self.same) c.requires) in
    let room = fits.1 in
    omega (arith, room)

pub slice_bounds-copy_from_slice-end : goal.slice_bounds-copy_from_slice-end
slice_bounds-copy_from_slice-end g c =
    let self = c.args.self.now in
    let fits = placed-fits self.parts.now c.args.at (length c.args.into.now) c.args.k self.total (length self.held.now) self.apart self.ends self.counted
    (subst (λ rs. IsPlaced rs 0 c.args.at (c.args.at + length c.args.into.now) c.args.k) (sym self.same) c.requires) in
    let room = fits.1 in
    omega (arith, room)

pub play-requires-clause-within : goal.play-requires-clause-within
play-requires-clause-within g c =
    let self = c.args.self.now in
    let fits = placed-fits self.parts.now c.args.at (length c.args.into.now) c.args.k self.total (length self.held.now) self.apart self.ends self.counted
    (subst (λ rs. IsPlaced rs 0 c.args.at (c.args.at + length c.args.into.now) c.args.k) (sym self.same) c.requires) in
    let inside = fits.0 in
    let short = self.fits in
    let long = c.copy_from_slice.ensures.len in
    omega (arith, inside, short, long)

pub returns : goal.returns
returns g c =
    let self = c.args.self.now in
    let n : ℕ = length c.args.into.now in
    let at : ℕ = c.args.at in
    let v : List ℕ = g.K.Given.bytes in
    let is : IsPlaced self.parts.now 0 at (at + n) c.args.k = subst (λ rs. IsPlaced rs 0 at (at + n) c.args.k) (sym self.same) c.requires in
    let fits = placed-fits self.parts.now at n c.args.k self.total (length self.held.now) self.apart self.ends self.counted is in
    let inside = fits.0 in
    let both = read-placed self.parts.now at n c.args.k self.held.now v is self.known self.counted in
    let calls = c.as_slice.ensures.value in
    let bytes = c.as_slice-2.ensures.value in
    let long = c.copy_from_slice.ensures.len in
    let few : furthest c.as_slice.result.now ≡ furthest self.calls.items = ap furthest calls in
    let last = self.last in
    let whole = self.whole in
    let count : (c.args.k + n) - c.args.k ≡ n = omega arith in
    let there : c.copy_from_slice.new.self ≡ part v at (length c.copy_from_slice.new.self) =
    c.copy_from_slice.ensures.after ∙ ap (λ m. take m (drop c.args.k self.held.now)) count ∙ both.1 ∙ ap (part v at) (sym long) in
    c.play.ensures v (omega (arith, few, last, whole)) (omega (arith, inside, whole, long)) there
    ∙ ap (part (played c.as_slice.result.now c.as_slice-2.result.now v) at) long
    ∙ ap (λ cs. part (played cs c.as_slice-2.result.now v) at n) calls
    ∙ ap (λ bs. part (played self.calls.items bs v) at n) bytes
