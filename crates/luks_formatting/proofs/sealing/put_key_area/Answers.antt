use Rattle.std.proofs.Common.{◌≡◌, ◌≤◌, ◌+◌, ℕ, List, length, Option, MatchOption, Bor, arith, subst}
use Rattle.std.proofs.lemmas.Result.{on_ok_weaker}
use Rattle.luks_area.specs.Ranges.{IsAt, SameBut}
use Rattle.luks_area.proofs.RangeFacts.{same_but-same_outside}
use Rattle.luks_formatting.specs.NewPlan.{IsSealable, IsSealedAhead}
use Rattle.luks_formatting.proofs.AheadFacts.{written_sealed}
use Rattle.luks_formatting.proofs.sealing.put_key_area.Goals as goal

pub returns-in-Some-clause-sealed : goal.returns-in-Some-clause-sealed
returns-in-Some-clause-sealed g c tells =
    let bytes = g.D.Device.bytes in
    let plan = c.args.plan.now in
    let v = bytes c.args.device.now in
    let ahead : IsSealedAhead (length c.args.key.now) plan c.args.passphrase.now c.args.key.now c.args.random.now c.in-Some.bytes.now =
    subst (λ (o : Option (Bor (List ℕ))). MatchOption o (IsSealable (length c.args.key.now) plan) (λ b. IsSealedAhead (length c.args.key.now) plan c.args.passphrase.now c.args.key.now c.args.random.now b.now)) c.in-Some.is c.requires.sealable in
    let within = c.requires.within in
    let size : length v ≡ g.D.Device.size c.args.device.now = g.met.D.Device.sized c.args.device.now tells in
    let inside : plan.area.start + plan.area.len ≤ length v = omega (arith, within, size) in
    on_ok_weaker c.write_range.result
    (λ is. written_sealed (length c.args.key.now) plan c.args.passphrase.now c.args.key.now c.args.random.now c.in-Some.bytes.now v (bytes c.write_range.new.device) c.requires.key_bytes c.requires.stripes c.requires.large inside ahead is)
    (c.write_range.ensures.wrote tells)

pub returns-in-Some-clause-rest : goal.returns-in-Some-clause-rest
returns-in-Some-clause-rest g c tells =
    let bytes = g.D.Device.bytes in
    let plan = c.args.plan.now in
    let ahead : IsSealedAhead (length c.args.key.now) plan c.args.passphrase.now c.args.key.now c.args.random.now c.in-Some.bytes.now =
    subst (λ (o : Option (Bor (List ℕ))). MatchOption o (IsSealable (length c.args.key.now) plan) (λ b. IsSealedAhead (length c.args.key.now) plan c.args.passphrase.now c.args.key.now c.args.random.now b.now)) c.in-Some.is c.requires.sealable in
    subst (λ (n : ℕ). SameBut (IsAt plan.area.start n) (bytes c.args.device.now) (bytes c.write_range.new.device)) ahead.long (same_but-same_outside (c.write_range.ensures.outside tells))
