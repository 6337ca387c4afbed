-- The objects inside a keyslot that is read.
use Rattle.std.proofs.Common.{◌≡◌, true, Option, Some, None, option_map, option_and_then, is_some, refl}
use Rattle.serde_json.specs.Data.{Data}
use Rattle.serde_json.specs.Find.{as_object}
use Rattle.luks_rules.specs.declared.table.Outer.TheVariants as outer
use Rattle.luks_rules.specs.declared.table.Member.TheVariants as name
use Rattle.luks_rules.specs.Table.{keyslot_rows}
use Rattle.luks_rules.specs.Reading.{object}
use Rattle.luks_rules.specs.Faults.{outer_at}
use Rattle.luks_rules.specs.Accepted.{IsRead}
use Rattle.luks_meta.proofs.RowsRead.{at_top}

-- ---- the objects inside

mapped : {A B : Type 0} (f : A → B) (o : Option A) → is_some (option_map f o) ≡ true → is_some o ≡ true
mapped f None h = h
mapped f (Some x) h = refl

pub af_home : (d : Data) → IsRead keyslot_rows d → is_some (option_and_then as_object (outer_at d outer.Af)) ≡ true
af_home d read = mapped (λ m. object) _ (at_top keyslot_rows d name.Af _ read refl refl refl)

pub area_home : (d : Data) → IsRead keyslot_rows d → is_some (option_and_then as_object (outer_at d outer.Area)) ≡ true
area_home d read = mapped (λ m. object) _ (at_top keyslot_rows d name.Area _ read refl refl refl)

pub kdf_home : (d : Data) → IsRead keyslot_rows d → is_some (option_and_then as_object (outer_at d outer.Kdf)) ≡ true
kdf_home d read = mapped (λ m. object) _ (at_top keyslot_rows d name.Kdf _ read refl refl refl)
