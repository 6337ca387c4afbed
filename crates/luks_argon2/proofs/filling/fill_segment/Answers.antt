use Rattle.std.proofs.Common.{◌≡◌, ℕ, ◌+◌, ◌*◌, ◌%◌, ◌<◌, max, arith, refl, ◌∙◌, mod-lt, length}
use Rattle.luks_argon2.specs.Argon2.{Work, extended}
use Rattle.luks_argon2.specs.Memory.{work_of}
use Rattle.luks_argon2.proofs.SegmentFacts.{extended_none, others_kept, pairs_next, place_fits, segment_next, segment_waits}
use Rattle.luks_argon2.proofs.filling.fill_segment.Goals as goal
use Rattle.luks_argon2.proofs.filling.fill_segment.Goals.{then-n-ge2, else-n-ge2}

pub each-init : goal.each-init
each-init c = record {
  own = λ lanes before.
      let s : ℕ = c.args.slice in
      let g : ℕ = c.args.shape.segment in
      let e : s * g + 0 ≡ s * g = omega arith in
      rw (e, extended_none (work_of c.args.shape) lanes s c.args.lane) (before.0, before.1);
  kept = λ k r ne few. refl;
  pairs = λ free more. absurd (omega (arith, more));
}

pub each-preserved : goal.each-preserved
each-preserved c =
    let s : ℕ = c.args.slice in
    let g : ℕ = c.args.shape.segment in
    let q : ℕ = 4 * g in
    let l : ℕ = c.args.lane in
    let i : ℕ = c.each.i in
    let n : ℕ = s * g + i in
    let w : Work = work_of c.args.shape in
    let some : 0 < q = omega arith in
    let fits : l * q + n % q < length c.each.memory = let h = place_fits l c.args.shape.lanes g (n % q) c.requires.lane_in (mod-lt n some) in omega (arith, h) in
    let made = c.refresh.ensures c.each.invariant.pairs in record {
      own = λ lanes before.
          let inv = c.each.invariant.own lanes before in
          elim c.if-n-ge2.branch [
            | then-n-ge2 x ↦
                let many = x.if-n-ge2.true in
                let whole : max 2 n ≡ n = omega (arith, many) in
                let others = others_kept c.each.memory c.args.memory.now lanes q c.args.shape.lanes s g l some c.each.invariant.kept before.2 in
                let next = x.memory-is ∙ x.fill_one.ensures.made lanes (extended w lanes s l i) (λ m from to. inv.1 m from (omega (arith, whole, to))) others made in
                segment_next w lanes c.each.memory c.if-n-ge2.memory q s l i some many fits inv.0 inv.1 next
            | else-n-ge2 x ↦ rw x.memory-is (segment_waits w lanes c.each.memory q s l i (omega (arith, x.if-n-ge2.false)) inv.0 inv.1)
          ];
      kept = λ k r ne few. elim c.if-n-ge2.branch [
        | then-n-ge2 x ↦ rw x.memory-is (x.fill_one.ensures.kept k r ne few ∙ c.each.invariant.kept k r ne few)
        | else-n-ge2 x ↦ rw x.memory-is (c.each.invariant.kept k r ne few)
      ];
      pairs = pairs_next w s l i c.refresh.new.pairs made;
    }
