use Rattle.std.proofs.Common.{◌*◌, sym, ◌∙◌}
use Rattle.std.proofs.lemmas.Bool.{false≢true}
use Rattle.luks_finding.proofs.AllSignsFacts.{first-kind, first-kind-none}
use Rattle.luks_finding.proofs.all_signs.first_sign_of.Goals as goal

pub returns-then-branch-clause-all : goal.returns-then-branch-clause-all
returns-then-branch-clause-all g c = λ t.
    let has = c.in_ok-has_metadata.ensures.has t in
    first-kind (g.D.Device.bytes c.args.device.now) c.args.header c.args.size (has.0 c.if-branch.true)

pub returns-else-branch-clause-all : goal.returns-else-branch-clause-all
returns-else-branch-clause-all g c = λ t.
    let has = c.in_ok-has_metadata.ensures.has t in
    first-kind-none (g.D.Device.bytes c.args.device.now) (512 * c.args.header) c.args.size (c.requires.whole t)
    (λ is. false≢true (sym c.if-branch.false ∙ has.1 is))
