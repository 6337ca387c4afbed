-- The area of a keyslot, as its object says it.
use Rattle.std.proofs.Common.{◌≡◌, ℕ, ◌<◌, ap, ◌∙◌, Some}
use Rattle.std.specs.Prelude.{codes, option_and_then}
use Rattle.serde_json.specs.Data.{Data as Value}
use Rattle.serde_json.specs.Find.{get}
use Rattle.luks_meta.specs.Faults.{object_at}
use Rattle.luks_meta.specs.Reading.{decimal_in}
use Rattle.luks_rules.specs.declared.table.Section.TheVariants.{Keyslots}
use Rattle.luks2_edit_laws.specs.Metadata.{IsKeyArea}

pub area_of_object : (j d : Value) (n start len : ℕ) → n < 32 → object_at j Keyslots n ≡ Some d
    → decimal_in (option_and_then (get (codes "offset")) (get (codes "area") d)) ≡ Some start
    → decimal_in (option_and_then (get (codes "size")) (get (codes "area") d)) ≡ Some len → IsKeyArea j n (record { start = start; len = len })
area_of_object j d n start len low is begins long = (
  low,
  ap (λ o. decimal_in (option_and_then (get (codes "offset")) (option_and_then (get (codes "area")) o))) is ∙ begins,
  ap (λ o. decimal_in (option_and_then (get (codes "size")) (option_and_then (get (codes "area")) o))) is ∙ long,
)
