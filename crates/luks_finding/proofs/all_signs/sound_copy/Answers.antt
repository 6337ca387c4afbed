use Rattle.std.proofs.Common.{◌≡◌, ℕ, ◌+◌, ◌-◌, ◌*◌, ◌/◌, List, sym, ◌∙◌, arith}
use Rattle.std.proofs.lemmas.Bool.{false≢true}
use Rattle.luks_finding.proofs.AllSignsFacts.{signs-sound, signs-unsound}
use Rattle.luks_finding.proofs.MetadataFacts.{listed-sectors}
use Rattle.luks_finding.proofs.all_signs.sound_copy.Goals as goal

pub returns-then-branch-clause-all : goal.returns-then-branch-clause-all
returns-then-branch-clause-all g c = λ t.
    let v : List ℕ = g.D.Device.bytes c.args.device.now in
    let size : ℕ = c.args.size in
    let sectors : 512 * (size / 512) ≡ size = listed-sectors size c.requires.listed in
    let k : ℕ = c.args.sector - size / 512 in
    let back : 512 * k + size ≡ 512 * c.args.sector = omega (arith, sectors) in
    let sound = c.in_ok-is_sound.ensures.sound t in
    signs-sound v (512 * c.args.sector) k size back (c.requires.none t) (c.requires.no_text t) (c.requires.named t) (sound.0 c.if-branch.true)

pub returns-else-branch-clause-all : goal.returns-else-branch-clause-all
returns-else-branch-clause-all g c = λ t.
    let v : List ℕ = g.D.Device.bytes c.args.device.now in
    let size : ℕ = c.args.size in
    let sectors : 512 * (size / 512) ≡ size = listed-sectors size c.requires.listed in
    let k : ℕ = c.args.sector - size / 512 in
    let back : 512 * k + size ≡ 512 * c.args.sector = omega (arith, sectors) in
    let sound = c.in_ok-is_sound.ensures.sound t in
    signs-unsound v (512 * c.args.sector) size (512 * k) back (c.requires.none t) (c.requires.no_text t) (c.requires.named t)
    (λ is. false≢true (sym c.if-branch.false ∙ sound.1 is))
