use Rattle.std.proofs.Common.{◌≡◌, drop}
use Rattle.serde_json.specs.View.{view}
use Rattle.luks_wider.specs.WideWalk.{first_place}
use Rattle.luks_wider.proofs.walk.first_among.Given as goal

abbrev pub invariant-loop-section : goal.invariant-loop-section
invariant-loop-section l = first_place l.test (view l.value) l.sections
    ≡ first_place l.test (view l.value) (drop l.section-index l.sections)
