use Rattle.std.proofs.Common.{◌≡◌, ◌≢◌, ℕ, ◌+◌, ◌*◌, ◌%◌, ◌<◌, ◌≤◌, max, arith, refl, ◌∙◌, mod-lt, inl, inr}
use Rattle.std.proofs.lemmas.Bool.{cases_lt}
use Rattle.luks_argon2.specs.Argon2.{Work}
use Rattle.luks_argon2.specs.Memory.{work_of}
use Rattle.luks_argon2.proofs.SliceFacts.{before_lane, slice_added_at}
use Rattle.luks_argon2.proofs.filling.fill_slice.Goals as goal

pub all-preserved : goal.all-preserved
all-preserved c =
    let s : ℕ = c.args.slice in
    let g : ℕ = c.args.shape.segment in
    let q : ℕ = 4 * g in
    let l : ℕ = c.all.lane in
    let w : Work = work_of c.args.shape in
    let some : 0 < q = omega arith in
    let two : 2 ≤ g = omega arith in
    let inside = c.all-test.true in
    let inv = c.all.invariant in record {
      done = λ lanes held k lt.
          let before = before_lane c.all.memory c.args.memory.now w lanes q c.args.shape.lanes s g l refl refl two inside held (inv.done lanes held) inv.kept in
          elim (cases_lt k l) [
            | inl a ↦
                let d = inv.done lanes held k a in
                let ne : k ≢ l = λ e. omega (arith, a, e) in
                (d.0, λ m from to. c.fill_segment.ensures.kept k (m % q) ne (mod-lt m some) ∙ d.1 m from to)
            | inr b ↦
                let e : l ≡ k = omega arith in
                rw (← e) (c.fill_segment.ensures.long lanes before, c.fill_segment.ensures.own lanes before)
          ];
      kept = λ k r le few.
          let ne : k ≢ l = λ e. omega (arith, le, e) in
          c.fill_segment.ensures.kept k r ne few ∙ inv.kept k r (omega (arith, le)) few;
    }

pub returns : goal.returns
returns c = λ lanes held l inside.
    let s : ℕ = c.args.slice in
    let g : ℕ = c.args.shape.segment in
    let two : 2 ≤ g = omega arith in
    let all : c.args.shape.lanes ≤ c.all.lane = omega arith in
    let d = c.all.invariant.done lanes held l (omega (arith, all, inside)) in
    let e : (s + 1) * g ≡ s * g + g = omega arith in
    let m : max 2 (s * g + g) ≡ s * g + g = omega (arith, two) in
    rw (slice_added_at (work_of c.args.shape) lanes s l inside, e, m) d
