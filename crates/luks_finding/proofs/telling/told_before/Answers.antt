use Rattle.std.proofs.Common.{◌≡◌, ℕ, ◌+◌, ◌-◌, ◌*◌, ◌/◌, List, sym, ◌∙◌, subst, arith}
use Rattle.std.proofs.lemmas.Bool.{false≢true}
use Rattle.luks_finding.specs.Telling.{HasNearer}
use Rattle.luks_finding.proofs.MetadataFacts.{listed-sectors}
use Rattle.luks_finding.proofs.ToldFacts.{told-copy, told-nearer, told-unsound}
use Rattle.luks_finding.proofs.telling.told_before.Goals as goal

pub returns-then-not-branch-clause-told : goal.returns-then-not-branch-clause-told
returns-then-not-branch-clause-told g c = λ t.
    let v : List ℕ = g.D.Device.bytes c.args.device.now in
    let size : ℕ = c.args.size in
    let sectors : 512 * (size / 512) ≡ size = listed-sectors size c.requires.listed in
    let k : ℕ = c.args.sector - size / 512 in
    let back : 512 * k + size ≡ 512 * c.args.sector = omega (arith, sectors) in
    let sound = c.in_ok-is_sound.ensures.sound t in
    told-unsound v (512 * c.args.sector) size (512 * k) back (c.requires.none t) (c.requires.no_text t) (c.requires.named t)
    (λ is. false≢true (sym c.if-not-branch.true ∙ sound.1 is))

pub returns-then-branch-clause-told : goal.returns-then-branch-clause-told
returns-then-branch-clause-told g c = λ t.
    let v : List ℕ = g.D.Device.bytes c.args.device.now in
    let size : ℕ = c.args.size in
    let sectors : 512 * (size / 512) ≡ size = listed-sectors size c.requires.listed in
    let k : ℕ = c.args.sector - size / 512 in
    let back : 512 * k + size ≡ 512 * c.args.sector = omega (arith, sectors) in
    let H : List ℕ → Type 0 = λ w. HasNearer w (512 * k) size in
    let nearer = c.in_ok-has_nearer.ensures.nearer t in
    told-nearer v (512 * c.args.sector) k size back (c.requires.none t) (c.requires.no_text t) (c.requires.named t)
    (subst H (c.in_ok-is_sound.ensures.unchanged.same t) (nearer.0 c.if-branch.true))

pub returns-clause-told : goal.returns-clause-told
returns-clause-told g c = λ t.
    let v : List ℕ = g.D.Device.bytes c.args.device.now in
    let size : ℕ = c.args.size in
    let sectors : 512 * (size / 512) ≡ size = listed-sectors size c.requires.listed in
    let k : ℕ = c.args.sector - size / 512 in
    let back : 512 * k + size ≡ 512 * c.args.sector = omega (arith, sectors) in
    let H : List ℕ → Type 0 = λ w. HasNearer w (512 * k) size in
    let same = c.in_ok-is_sound.ensures.unchanged.same t in
    let sound = c.in_ok-is_sound.ensures.sound t in
    let nearer = c.in_ok-has_nearer.ensures.nearer t in
    told-copy v (512 * c.args.sector) k size back (c.requires.none t) (c.requires.no_text t) (c.requires.named t)
    (sound.0 c.if-not-branch.false)
    (λ has. false≢true (sym c.if-branch.false ∙ nearer.1 (subst H (sym same) has)))
