use Rattle.std.proofs.Common.{ℕ, ◌*◌, List, sym, ◌∙◌, subst}
use Rattle.std.proofs.lemmas.Bool.{false≢true}
use Rattle.luks_finding.specs.Starts.{IsExplained}
use Rattle.luks_finding.specs.Telling.{first_copy}
use Rattle.luks_finding.proofs.ToldFacts.{first-another, first-header, first-other, first-told}
use Rattle.luks_finding.proofs.telling.first_start.Goals as goal

pub returns-then-begins_with-clause-told : goal.returns-then-begins_with-clause-told
returns-then-begins_with-clause-told g c = λ t.
    first-other (g.D.Device.bytes c.args.device.now) c.args.beginning.now (512 * c.args.header) c.args.size (c.requires.whole t) (c.requires.beginning t)
    (c.begins_with.ensures.0 c.if-begins_with.true)

pub returns-then-branch-clause-told : goal.returns-then-branch-clause-told
returns-then-branch-clause-told g c = λ t.
    first-header (g.D.Device.bytes c.args.device.now) (512 * c.args.header) ((c.in_ok-begins_volume.ensures.begins t).0 c.if-branch.true)

pub returns-then-branch-2-clause-told : goal.returns-then-branch-2-clause-told
returns-then-branch-2-clause-told g c = λ t.
    let E : List ℕ → Type 0 = λ w. IsExplained w (512 * c.args.header) (first_copy c.args.size) in
    let explained = c.in_ok-is_explained.ensures.explained t in
    first-another (g.D.Device.bytes c.args.device.now) (512 * c.args.header) c.args.size (c.requires.whole t)
    (subst E (c.in_ok-begins_volume.ensures.unchanged.same t) (explained.0 c.if-branch-2.true))

pub returns-clause-told : goal.returns-clause-told
returns-clause-told g c = λ t.
    let E : List ℕ → Type 0 = λ w. IsExplained w (512 * c.args.header) (first_copy c.args.size) in
    let begins = c.in_ok-begins_volume.ensures.begins t in
    let explained = c.in_ok-is_explained.ensures.explained t in
    first-told (g.D.Device.bytes c.args.device.now) c.args.beginning.now c.args.header c.args.size (c.requires.whole t) (c.requires.beginning t)
    (λ is. false≢true (sym c.if-begins_with.false ∙ c.begins_with.ensures.1 is))
    (λ is. false≢true (sym c.if-branch.false ∙ begins.1 is))
    (λ is. false≢true (sym c.if-branch-2.false ∙ explained.1 (subst E (sym (c.in_ok-begins_volume.ensures.unchanged.same t)) is)))
