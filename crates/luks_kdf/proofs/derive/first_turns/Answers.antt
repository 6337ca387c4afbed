use Rattle.std.proofs.Common.{◌≡◌, ◌≤◌, ◌+◌, ◌-◌, ◌*◌, length, arith, ap, ◌∙◌, inl, inr}
use Rattle.std.proofs.lemmas.Bool.{cases_lt}
use Rattle.std.proofs.Math.Nat.{mul-le-mul_right}
use Rattle.luks_kdf.proofs.RowFacts.{block_at-before, block_at-written}
use Rattle.luks_kdf.proofs.derive.first_turns.Goals as goal

pub loop-i-preserved : goal.loop-i-preserved
loop-i-preserved g c key k below held =
    let len = g.H.HashFn.LEN in
    let i = c.loop-i.i in
    let is_at = ap (λ n. i * n) c.LEN.ensures in
    let is_k : i * c.LEN-in-loop-i.result + c.LEN-in-loop-i-2.result - i * c.LEN.result ≡ len =
    rw (c.LEN.ensures, c.LEN-in-loop-i.ensures, c.LEN-in-loop-i-2.ensures) (omega arith) in
    let room : (i + 1) * len ≤ length c.loop-i.blocks =
    omega (arith, mul-le-mul_right len c.loop-i-test.true, c.requires.whole, c.loop-i.auto.blocks) in
    elim (cases_lt k i) [
      | inl lt ↦
          block_at-before len i k _ _ c.loop-i.blocks _ is_at room lt ∙ c.loop-i.invariant key k lt held
      | inr ge ↦
          let this : k ≡ i = omega arith in
          rw this (block_at-written len i _ _ c.loop-i.blocks _ is_at is_k c.tag_numbered.auto.out room ∙ c.tag_numbered.ensures key held)
    ]
