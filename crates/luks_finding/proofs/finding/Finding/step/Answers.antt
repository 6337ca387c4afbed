use Rattle.std.proofs.Common.{◌≡◌, ℕ, ◌+◌, ◌-◌, ◌*◌, List, length, min, sym, subst, arith}
use Rattle.luks_finding.specs.Finding.{TellsNext}
use Rattle.luks_finding.specs.Telling.{starts_of, TellsAt}
use Rattle.luks_finding.specs.declared.finding.Step.{Step}
use Rattle.luks_finding.proofs.BlockFacts.{next-told, none-block, tells-step}
use Rattle.luks_finding.proofs.finding.Finding.step.Goals as goal

pub returns-in_ok-told-in-Some-clause-next : goal.returns-in_ok-told-in-Some-clause-next
returns-in_ok-told-in-Some-clause-next g c = λ t.
    let v : List ℕ = g.D.Device.bytes c.args.device.now in
    let sector : ℕ = c.args.self.now.sector in
    let next : ℕ = sector + c.in-Some.index + 1 in
    let told = c.in_ok-told-in-Some.told in
    let T : List ℕ → Type 0 = λ w. TellsAt w (512 * (sector + c.in-Some.index)) told in
    let S : Step → Type 0 = λ step. TellsNext v sector next step in
    let first = rw c.in-Some.is at c.in_ok-index.ensures.found t in
    subst S (sym c.from.ensures) (tells-step v sector next told
    (next-told v sector c.min-len.result c.in-Some.index (starts_of told) first (subst T (c.in_ok-index.ensures.unchanged.same t) (c.in_ok-told-in-Some.ensures.told t))))

pub returns-in-None-clause-next : goal.returns-in-None-clause-next
returns-in-None-clause-next g c = λ t.
    let v : List ℕ = g.D.Device.bytes c.args.device.now in
    let sector : ℕ = c.args.self.now.sector in
    let long : length v ≡ g.D.Device.size c.args.device.now = g.met.D.Device.sized c.args.device.now t in
    let is : c.min-len.result ≡ min (length v - 512 * sector) (512 * c.args.self.now.sectors) = omega (arith, long) in
    let none = rw c.in-None.is at c.in_ok-index.ensures.found t in
    none-block v sector c.args.self.now.sectors c.min-len.result c.sectors_in-in-None.result is c.sectors_in-in-None.ensures.fewest none
