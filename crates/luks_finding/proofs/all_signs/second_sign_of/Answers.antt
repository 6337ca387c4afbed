use Rattle.std.proofs.Common.{◌≡◌, ℕ, ◌+◌, ◌-◌, ◌*◌, ◌/◌, ◌<◌, sym, ◌∙◌, arith}
use Rattle.std.proofs.lemmas.Bool.{false≢true}
use Rattle.luks_finding.proofs.AllSignsFacts.{second-kind, second-kind-none, second-kind-outside}
use Rattle.luks_finding.proofs.CopyFacts.{listed-some}
use Rattle.luks_finding.proofs.MetadataFacts.{listed-sectors}
use Rattle.luks_finding.proofs.all_signs.second_sign_of.Goals as goal

pub returns-then-size-header-clause-all : goal.returns-then-size-header-clause-all
returns-then-size-header-clause-all g c = λ t.
    second-kind-outside (g.D.Device.bytes c.args.device.now) (512 * c.args.header) c.args.size (c.requires.whole t) (omega arith)

pub returns-then-branch-clause-all : goal.returns-then-branch-clause-all
returns-then-branch-clause-all g c = λ t.
    let size : ℕ = c.args.size in
    let sectors : 512 * (size / 512) ≡ size = listed-sectors size c.requires.listed in
    let k : ℕ = c.args.header - size / 512 in
    let back : 512 * k + size ≡ 512 * c.args.header = omega (arith, sectors) in
    let none = listed-some size c.requires.listed in
    let some : 0 < size = omega (arith, none) in
    let has = c.in_ok-has_metadata.ensures.has t in
    second-kind (g.D.Device.bytes c.args.device.now) (512 * c.args.header) k size (c.requires.whole t) some back (has.0 c.if-branch.true)

pub returns-else-branch-clause-all : goal.returns-else-branch-clause-all
returns-else-branch-clause-all g c = λ t.
    let size : ℕ = c.args.size in
    let sectors : 512 * (size / 512) ≡ size = listed-sectors size c.requires.listed in
    let k : ℕ = c.args.header - size / 512 in
    let back : 512 * k + size ≡ 512 * c.args.header = omega (arith, sectors) in
    let has = c.in_ok-has_metadata.ensures.has t in
    second-kind-none (g.D.Device.bytes c.args.device.now) (512 * c.args.header) k size (c.requires.whole t) back
    (λ is. false≢true (sym c.if-branch.false ∙ has.1 is))
