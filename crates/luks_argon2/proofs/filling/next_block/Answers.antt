use Rattle.std.proofs.Common.{◌≡◌, ℕ, ◌+◌, ◌-◌, ◌*◌, ◌%◌, ◌≤◌, ◌<◌, List, [], get_or, arith, ap, mod-lt, refl, ◌∙◌}
use Rattle.luks_argon2.specs.Argon2.{next_block}
use Rattle.luks_argon2.specs.Memory.{work_of}
use Rattle.luks_argon2.proofs.SegmentFacts.{kept_next, next_first, next_later, reference_held, round_again, four_at_least}
use Rattle.luks_argon2.proofs.filling.next_block.Goals as goal

pub returns-then-slice-lt4-clause-kept : goal.returns-then-slice-lt4-clause-kept
returns-then-slice-lt4-clause-kept c = λ k r ne few.
    let g : ℕ = c.args.shape.segment in
    let q : ℕ = 4 * g in
    let n : ℕ = c.args.slice * g + c.args.i in
    let some : 0 < q = omega arith in
    rw c.place_of-place.ensures.exact
    (kept_next c.args.memory.now c.args.memory.now q c.args.lane (n % q) c.put.new.block (mod-lt n some) (λ k r ne few. refl) k r ne few)

pub returns-else-slice-lt4-clause-kept : goal.returns-else-slice-lt4-clause-kept
returns-else-slice-lt4-clause-kept c = λ k r ne few.
    let g : ℕ = c.args.shape.segment in
    let q : ℕ = 4 * g in
    let n : ℕ = c.args.slice * g + c.args.i in
    let some : 0 < q = omega arith in
    rw c.place_of-place.ensures.exact
    (kept_next c.args.memory.now c.args.memory.now q c.args.lane (n % q) c.put_over.new.block (mod-lt n some) (λ k r ne few. refl) k r ne few)

pub returns-then-slice-lt4-clause-made : goal.returns-then-slice-lt4-clause-made
returns-then-slice-lt4-clause-made c = λ lanes own held others word.
    let g : ℕ = c.args.shape.segment in
    let memory : List (List ℕ) = c.args.memory.now in
    let l : ℕ = c.args.lane in
    let s : ℕ = c.args.slice in
    let n : ℕ = s * g + c.args.i in
    let at = c.reference-lane_there in
    let previous = ap (λ (k : ℕ). get_or memory k []) c.place_of-previous.ensures.exact ∙ held (n - 1) (omega arith) (omega arith) in
    let there = ap (λ (k : ℕ). get_or memory k []) c.place_of-there.ensures.exact
    ∙ reference_held memory own lanes (4 * g) c.args.shape.lanes s g l at.result.0 at.result.1 n held others at.ensures.lane_in at.ensures.from (omega (arith, at.ensures.near))
    (λ e. let h = at.ensures.own e in omega (arith, h)) at.ensures.other in
    let made : c.put.new.block ≡ next_block (work_of c.args.shape) lanes own s l c.args.i =
    next_first (work_of c.args.shape) lanes own s l c.args.i c.args.word at.result _ _ c.put.new.block c.if-slice-lt4.true
    word at.ensures.exact previous there (c.put.ensures ∙ c.compress.ensures) in
    rw (c.place_of-place.ensures.exact, made) refl

pub returns-else-slice-lt4-clause-made : goal.returns-else-slice-lt4-clause-made
returns-else-slice-lt4-clause-made c = λ lanes own held others word.
    let g : ℕ = c.args.shape.segment in
    let memory : List (List ℕ) = c.args.memory.now in
    let l : ℕ = c.args.lane in
    let s : ℕ = c.args.slice in
    let n : ℕ = s * g + c.args.i in
    let at = c.reference-lane_there in
    let enough : 4 * g ≤ s * g = four_at_least s g c.if-slice-lt4.false in
    let previous = ap (λ (k : ℕ). get_or memory k []) c.place_of-previous.ensures.exact ∙ held (n - 1) (omega arith) (omega arith) in
    let there = ap (λ (k : ℕ). get_or memory k []) c.place_of-there.ensures.exact
    ∙ reference_held memory own lanes (4 * g) c.args.shape.lanes s g l at.result.0 at.result.1 n held others at.ensures.lane_in at.ensures.from (omega (arith, at.ensures.near))
    (λ e. let h = at.ensures.own e in omega (arith, h)) at.ensures.other in
    let ring : n % (4 * g) ≡ (n - 4 * g) % (4 * g) = round_again n (4 * g) (omega (arith, enough)) in
    let old = ap (λ (k : ℕ). get_or memory k []) (c.place_of-place.ensures.exact ∙ ap (λ (r : ℕ). l * (4 * g) + r) ring)
    ∙ held (n - 4 * g) (omega arith) (omega (arith, enough)) in
    let made : c.put_over.new.block ≡ next_block (work_of c.args.shape) lanes own s l c.args.i =
    next_later (work_of c.args.shape) lanes own s l c.args.i c.args.word at.result _ _ _ _ c.put_over.new.block c.if-slice-lt4.false
    word at.ensures.exact previous there c.compress.ensures old c.put_over.ensures in
    rw (c.place_of-place.ensures.exact, made) refl
