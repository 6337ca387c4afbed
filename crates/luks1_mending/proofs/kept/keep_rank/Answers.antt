use Rattle.std.proofs.Common.{◌≡◌, ℕ, ◌+◌, List, Bool, subst, sym, arith}
use Rattle.luks1_mending.specs.Judging.{set_of, AreKeptSoFar}
use Rattle.luks1_mending.proofs.KeptFacts.{so_far_next, so_far_set, so_far_without}
use Rattle.luks1_mending.proofs.kept.keep_rank.Goals as goal
use Rattle.luks1_mending.proofs.kept.keep_rank.Goals.{then-is_next, else-is_next}

pub loop-n-preserved : goal.loop-n-preserved
loop-n-preserved c =
    let h = c.args.header.now in
    elim c.if-is_next.branch [
      | then-is_next w ↦ so_far_set h c.args.key_bytes c.args.total c.args.rank c.loop-n.n c.loop-n.kept c.if-is_next.kept c.loop-n.invariant w.if-is_next.ensures.next (omega (arith, c.loop-n.auto)) w.kept-is
      | else-is_next w ↦ subst (λ (l : List Bool). AreKeptSoFar h c.args.key_bytes c.args.total c.args.rank (c.loop-n.n + 1) (set_of l)) (sym w.kept-is)
          (so_far_without h c.args.key_bytes c.args.total c.args.rank c.loop-n.n (set_of c.loop-n.kept) c.loop-n.invariant w.if-is_next.ensures.passed)
    ]

pub returns : goal.returns
returns c =
    let last : 8 ≡ c.loop-n.n = (let low = c.loop-n-test.false in let high = c.loop-n.auto.n-end in omega (arith, low, high)) in
    so_far_next c.args.header.now c.args.key_bytes c.args.total c.args.rank (set_of c.loop-n.kept)
    (subst (λ (i : ℕ). AreKeptSoFar c.args.header.now c.args.key_bytes c.args.total c.args.rank i (set_of c.loop-n.kept)) (sym last) c.loop-n.invariant)
