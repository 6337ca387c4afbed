-- The faults of a value that is to be in an area: those of its members, and that it nests deeper than
-- a text may that is read.
use Rattle.std.specs.Prelude.{ℕ, ◌<◌}
use Rattle.serde_json.specs.Data.{Data, depth}
use Rattle.serde_json.specs.Read.{max_depth}
use Rattle.luks_rules.specs.declared.fault.MetaFault.{MetaFault}
use Rattle.luks_rules.specs.declared.fault.MetaFault.TheVariants.{BadJson}
use Rattle.luks_rules.specs.MetaFault.{IsDataFault}

abbrev pub IsValueFault : ℕ → Data → MetaFault → Type 0
IsValueFault len j BadJson = max_depth < depth j
IsValueFault len j f = IsDataFault len j f
