-- What the metadata asks of who uses the volume (LUKS2 On-Disk Format 1.1, 3.5; as an object, as cryptsetup 2.6 writes it).
use Rattle.std.specs.Prelude.{codes, Bool, true, ◌&&◌, Option, option_and_then, is_some}
use Rattle.std.specs.Option.{option_map_or}
use Rattle.serde_json.specs.Data.{Data}
use Rattle.serde_json.specs.Find.{get, as_object}
use Rattle.luks_rules.specs.declared.table.Section.TheVariants.{Config}
use Rattle.luks_rules.specs.Faults.{section_at}
use Rattle.luks_underway.specs.Segments.{are_flags}

abbrev pub requirements_in : Data → Option Data
requirements_in j = option_and_then (get (codes "requirements")) (section_at j Config)

abbrev pub mandatory_in : Data → Option Data
mandatory_in j = option_and_then (get (codes "mandatory")) (requirements_in j)

-- they aren't there, or are an object whose array of texts isn't there or is one
abbrev pub are_requirements : Data → Bool
are_requirements j = option_map_or (λ d. is_some (as_object d) && are_flags (get (codes "mandatory") d)) (requirements_in j) true
