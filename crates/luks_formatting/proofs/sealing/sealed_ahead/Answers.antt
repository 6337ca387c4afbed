use Rattle.std.proofs.Common.{◌≡◌, ℕ, List, length, arith, ap, rules, subst}
use Rattle.luks_area.specs.Memory.{memory_bytes}
use Rattle.luks_area.specs.declared.area.Area.{Area}
use Rattle.luks_formatting.specs.Encrypting.{used_bytes}
use Rattle.luks_formatting.specs.NewPlan.{IsSealedAhead}
use Rattle.luks_formatting.proofs.AheadFacts.{alone_sealed}
use Rattle.luks_formatting.proofs.sealing.sealed_ahead.Goals as goal

pub returns-in-Ok : goal.returns-in-Ok
returns-in-Ok c =
    let area = memory_bytes c.seal_area_within.new.device in
    let n : ℕ = c.next_multiple_of-len.result in
    let alone : ℕ → Area = λ m. record { start = 0; len = m } in
    let same : n ≡ used_bytes (length c.args.key.now) = omega arith in
    let long : length area ≡ used_bytes (length c.args.key.now) = search rules in
    subst (λ (k : List ℕ). IsSealedAhead (length c.args.key.now) c.args.plan.now c.args.passphrase.now.bytes.now k c.args.random.now area) c.new.ensures
    (alone_sealed (length c.args.key.now) c.args.plan.now (record { start = 0; len = n }) c.args.passphrase.now.bytes.now c.new.result c.args.random.now area (ap alone same) long (c.in-Ok.ensures.sealed tt))
