use Rattle.std.proofs.Common.{◌≡◌, ℕ, ◌+◌, ◌-◌, ◌*◌, ◌/◌, List, sym, ◌∙◌, subst, arith}
use Rattle.std.proofs.lemmas.Bool.{false≢true}
use Rattle.luks_finding.specs.Starts.{IsExplained}
use Rattle.luks_finding.specs.Telling.{second_copy, HasNearer}
use Rattle.luks_finding.proofs.MetadataFacts.{listed-sectors}
use Rattle.luks_finding.proofs.ToldFacts.{has-before, second-another, second-before, second-first, second-outside, second-told, sound-before}
use Rattle.luks_finding.proofs.telling.second_start.Goals as goal

pub returns-then-size-header-clause-told : goal.returns-then-size-header-clause-told
returns-then-size-header-clause-told g c = λ t.
    second-outside (g.D.Device.bytes c.args.device.now) (512 * c.args.header) c.args.size (c.requires.whole t) (omega arith)

pub returns-then-begins_with-clause-told : goal.returns-then-begins_with-clause-told
returns-then-begins_with-clause-told g c = λ t.
    second-first (g.D.Device.bytes c.args.device.now) c.args.beginning.now (512 * c.args.header) c.args.size (c.requires.whole t) (c.requires.beginning t)
    (c.begins_with.ensures.0 c.if-begins_with.true)

pub returns-then-branch-clause-told : goal.returns-then-branch-clause-told
returns-then-branch-clause-told g c = λ t.
    let v : List ℕ = g.D.Device.bytes c.args.device.now in
    let size : ℕ = c.args.size in
    let sectors : 512 * (size / 512) ≡ size = listed-sectors size c.requires.listed in
    let k : ℕ = c.args.header - size / 512 in
    let back : 512 * k + size ≡ 512 * c.args.header = omega (arith, sectors) in
    let sound = c.in_ok-is_sound.ensures.sound t in
    second-before v (512 * c.args.header) k size (c.requires.whole t) back
    (sound-before v (512 * c.args.header) k size c.requires.listed back (sound.0 c.if-branch.true))

pub returns-then-branch-2-clause-told : goal.returns-then-branch-2-clause-told
returns-then-branch-2-clause-told g c = λ t.
    let v : List ℕ = g.D.Device.bytes c.args.device.now in
    let size : ℕ = c.args.size in
    let sectors : 512 * (size / 512) ≡ size = listed-sectors size c.requires.listed in
    let k : ℕ = c.args.header - size / 512 in
    let back : 512 * k + size ≡ 512 * c.args.header = omega (arith, sectors) in
    let H : List ℕ → Type 0 = λ w. HasNearer w (512 * k) size in
    let nearer = c.in_ok-has_nearer.ensures.nearer t in
    second-before v (512 * c.args.header) k size (c.requires.whole t) back
    (has-before v (512 * c.args.header) k size c.requires.listed back (subst H (c.in_ok-is_sound.ensures.unchanged.same t) (nearer.0 c.if-branch-2.true)))

pub returns-then-branch-3-clause-told : goal.returns-then-branch-3-clause-told
returns-then-branch-3-clause-told g c = λ t.
    let v : List ℕ = g.D.Device.bytes c.args.device.now in
    let size : ℕ = c.args.size in
    let sectors : 512 * (size / 512) ≡ size = listed-sectors size c.requires.listed in
    let k : ℕ = c.args.header - size / 512 in
    let back : 512 * k + size ≡ 512 * c.args.header = omega (arith, sectors) in
    let E : List ℕ → Type 0 = λ w. IsExplained w (512 * k) (second_copy size) in
    let same : g.D.Device.bytes c.has_nearer.new.device ≡ v = c.in_ok-has_nearer.ensures.unchanged.same t ∙ c.in_ok-is_sound.ensures.unchanged.same t in
    let explained = c.in_ok-is_explained.ensures.explained t in
    second-another v (512 * c.args.header) k size (c.requires.whole t) back (subst E same (explained.0 c.if-branch-3.true))

pub returns-clause-told : goal.returns-clause-told
returns-clause-told g c = λ t.
    let v : List ℕ = g.D.Device.bytes c.args.device.now in
    let size : ℕ = c.args.size in
    let sectors : 512 * (size / 512) ≡ size = listed-sectors size c.requires.listed in
    let k : ℕ = c.args.header - size / 512 in
    let back : 512 * k + size ≡ 512 * c.args.header = omega (arith, sectors) in
    let H : List ℕ → Type 0 = λ w. HasNearer w (512 * k) size in
    let E : List ℕ → Type 0 = λ w. IsExplained w (512 * k) (second_copy size) in
    let before : g.D.Device.bytes c.is_sound.new.device ≡ v = c.in_ok-is_sound.ensures.unchanged.same t in
    let same : g.D.Device.bytes c.has_nearer.new.device ≡ v = c.in_ok-has_nearer.ensures.unchanged.same t ∙ before in
    let sound = c.in_ok-is_sound.ensures.sound t in
    let nearer = c.in_ok-has_nearer.ensures.nearer t in
    let explained = c.in_ok-is_explained.ensures.explained t in
    second-told v c.args.beginning.now (512 * c.args.header) k size (c.requires.whole t) back (c.requires.beginning t)
    (λ is. false≢true (sym c.if-begins_with.false ∙ c.begins_with.ensures.1 is))
    (λ is. false≢true (sym c.if-branch.false ∙ sound.1 is))
    (λ has. false≢true (sym c.if-branch-2.false ∙ nearer.1 (subst H (sym before) has)))
    (λ is. false≢true (sym c.if-branch-3.false ∙ explained.1 (subst E (sym same) is)))
