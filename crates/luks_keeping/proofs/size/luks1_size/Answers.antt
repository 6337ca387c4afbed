use Rattle.std.proofs.Common.{◌≡◌, max, rules, sym, subst}
use Rattle.luks_reading.specs.declared.report.Data.{Data}
use Rattle.luks_keeping.specs.Backup.{IsLuks1Size}
use Rattle.luks_keeping.proofs.EndFacts.{size_elsewhere, size_here}
use Rattle.luks_keeping.proofs.size.luks1_size.Goals as goal

pub returns-in-Here : goal.returns-in-Here
returns-in-Here c = λ h is. (
    let below = c.areas_end-end.ensures h is in
    let most : c.max.result ≡ max c.areas_end-end.result c.payload_place.result = search rules in
    subst (λ (d : Data). IsLuks1Size h d c.max.result) (sym c.in-Here.is)
    (size_here h c.areas_end-end.result c.max.result c.payload_place.result below (c.payload_place.ensures h is) most))

pub returns-in-Elsewhere : goal.returns-in-Elsewhere
returns-in-Elsewhere c = λ h is.
    subst (λ (d : Data). IsLuks1Size h d c.areas_end-end.result) (sym c.in-Elsewhere.is) (size_elsewhere h c.areas_end-end.result (c.areas_end-end.ensures h is))
