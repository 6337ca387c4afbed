use Rattle.std.proofs.Common.{◌≡◌, ℕ, List, [], ◌∷◌, ◌+◌, ◌-◌, length, ap, ◌∙◌, arith}
use Rattle.luks_area.specs.Ranges.{part}
use Rattle.luks_finding.proofs.MetadataFacts.{last-zero}
use Rattle.luks_finding.proofs.metadata.may_hold_text.Goals as goal

pub returns-clause-text : goal.returns-clause-text
returns-clause-text g c = λ t text j.
    let v : List ℕ = g.D.Device.bytes c.args.device.now in
    let long : length v ≡ g.D.Device.size c.args.device.now = g.met.D.Device.sized c.args.device.now t in
    let last : part v (c.args.at + (c.args.len - 1)) 1 ≡ 0 ∷ [] = last-zero v text c.args.at c.args.len c.requires.some (omega (arith, long)) j in
    let read : c.read_at-2.new.into ≡ 0 ∷ [] =
    c.in_ok-read_at-2.ensures.read t ∙ ap (λ w. part w (c.args.at + (c.args.len - 1)) 1) (c.in_ok-read_at.ensures.unchanged.same t) ∙ last in
    rw read at c.eq.ensures
