use Rattle.std.proofs.Common.{◌≡◌, ℕ, ◌+◌, ◌<◌, List, length, false, refl, sym, subst, arith}
use Rattle.luks_finding.specs.Readable.{IsBlock, UntoldAt}
use Rattle.luks_finding.proofs.FurtherFacts.{judged-further, none-before, none-in-block, read-on, read-over}
use Rattle.luks_finding.proofs.finding.Finding.step_on.Goals as goal

pub returns-in_ok-further-in-Some-default-Some-clause-told : goal.returns-in_ok-further-in-Some-default-Some-clause-told
returns-in_ok-further-in-Some-default-Some-clause-told g c = λ t passed so_far.
    let v : List ℕ = g.D.Device.bytes c.args.device.now in
    let sector : ℕ = c.args.self.now.sector in
    let index : ℕ = c.in-Some-default-Some.index in
    let f = c.in_ok-further-in-Some-default-Some.further in
    let U : List ℕ → Type 0 = λ w. UntoldAt w (sector + index) c.args.told.now f in
    let first = rw c.in-Some-default-Some.field-0-1-is at c.in-Some-default-Some.ensures.found t in
    let judged = subst U (c.in-Some-default-Some.ensures.unchanged.same t) (c.in_ok-further-in-Some-default-Some.ensures.judged t) in
    judged-further v passed sector (sector + index) c.args.told.now f _ (omega arith) (none-before v sector c.in-Some-default-Some.field-0-0 index first) judged
    c.in_ok-further-in-Some-default-Some.ensures.inside so_far

pub returns-in-Some-default-None-clause-told : goal.returns-in-Some-default-None-clause-told
returns-in-Some-default-None-clause-told g c = λ t passed so_far.
    let v : List ℕ = g.D.Device.bytes c.args.device.now in
    let sector : ℕ = c.args.self.now.sector in
    let count : ℕ = c.sectors_in-in-Some-default-None.result in
    let len : ℕ = c.in-Some-default-None.bytes in
    let long : length v ≡ g.D.Device.size c.args.device.now = g.met.D.Device.sized c.args.device.now t in
    let block : IsBlock (length v) sector len = subst (λ (n : ℕ). IsBlock n sector len) (sym long) c.in-Some-default-None.ensures.len in
    let none = rw c.in-Some-default-None.field-0-1-is at c.in-Some-default-None.ensures.found t in
    read-on v passed sector (sector + count) c.args.told.now (omega arith) (none-in-block v sector len count block c.sectors_in-in-Some-default-None.ensures.fewest none) so_far

pub returns-in-None-clause-told : goal.returns-in-None-clause-told
returns-in-None-clause-told g c = λ t passed so_far.
    let v : List ℕ = g.D.Device.bytes c.args.device.now in
    let sector : ℕ = c.args.self.now.sector in
    let to : ℕ = c.first_behind-to.result in
    let further : sector < to = c.first_behind-to.ensures.further in
    read-over v passed (record { from = sector; to = to; is_read = false }) sector to c.args.told.now (omega arith) (omega (arith, further)) refl
    (λ n s low high sign. omega (arith, low, high)) so_far
