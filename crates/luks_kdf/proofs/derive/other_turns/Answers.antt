use Rattle.std.proofs.Common.{◌≡◌, ◌≤◌, ◌+◌, ◌-◌, ◌*◌, length, refl, arith, ap, ◌∙◌, inl, inr}
use Rattle.std.proofs.lemmas.Bool.{cases_lt}
use Rattle.std.proofs.Math.Nat.{mul-le-mul_right}
use Rattle.luks_kdf.specs.Derivation.{hmac, turns_xored}
use Rattle.luks_kdf.proofs.RowFacts.{block_at-before, block_at-after, block_at-written, block_at-read}
use Rattle.luks_kdf.proofs.derive.other_turns.Goals as goal

pub loop-i-init : goal.loop-i-init
loop-i-init g c = ((λ k lt. refl), (λ k le. refl), λ key k le lt held. absurd (omega arith))

pub loop-i-preserved : goal.loop-i-preserved
loop-i-preserved g c =
    let len = g.H.HashFn.LEN in
    let i = c.loop-i.i in
    let before = c.loop-i.invariant in
    let is_at = ap (λ n. i * n) c.LEN.ensures in
    let is_k : i * c.LEN-in-loop-i.result + c.LEN-in-loop-i-2.result - i * c.LEN.result ≡ len =
    rw (c.LEN.ensures, c.LEN-in-loop-i.ensures, c.LEN-in-loop-i-2.ensures) (omega arith) in
    let room : (i + 1) * len ≤ length c.loop-i.blocks =
    omega (arith, mul-le-mul_right len c.loop-i-test.true, c.requires.whole, c.loop-i.auto.blocks) in (
      (λ k lt. block_at-before len i k _ _ c.loop-i.blocks _ is_at room (omega (arith, lt, c.loop-i.auto.i)) ∙ before.0 k lt),
      (λ k le. block_at-after len i k _ _ c.loop-i.blocks _ is_at is_k c.run_turns.auto.block room (omega (arith, le)) ∙ before.1 k (omega (arith, le))),
      λ key k le below held. elim (cases_lt k i) [
        | inl lt ↦ block_at-before len i k _ _ c.loop-i.blocks _ is_at room lt ∙ before.2 key k le lt held
        | inr ge ↦
            let this : k ≡ i = omega arith in
            rw this (block_at-written len i _ _ c.loop-i.blocks _ is_at is_k c.run_turns.auto.block room ∙ c.run_turns.ensures key held
            ∙ ap (λ b. turns_xored (hmac g.H.HashFn.digest g.H.HashFn.BLOCK key) b (c.args.iterations - 1))
            (c.copy_from_slice.ensures.after ∙ block_at-read len i _ _ c.loop-i.blocks is_at is_k ∙ before.1 i (omega arith)))
      ],
    )

pub returns-clause-before : goal.returns-clause-before
returns-clause-before g c = c.loop-i.invariant.0

pub returns-clause-turned : goal.returns-clause-turned
returns-clause-turned g c = λ key i le lt held. c.loop-i.invariant.2 key i le (omega (arith, lt, c.loop-i-test.false)) held
