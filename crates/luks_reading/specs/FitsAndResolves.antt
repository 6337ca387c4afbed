-- What a well formed volume is sure of.
use Rattle.std.specs.Prelude.{ℕ, List, length}
use Rattle.serde_json.specs.Data.{Data as Value}
use Rattle.luks_area.specs.Area.{Fit}
use Rattle.luks2_header.specs.Selection.{luks2, Chosen}
use Rattle.luks2_header.specs.declared.selection.Copies.{Copies}
use Rattle.luks_meta.specs.Accepted.{Resolves}
use Rattle.luks_meta.specs.MetaFault.{Json}
use Rattle.luks_reading.specs.declared.report.Data.{Data}
use Rattle.luks_reading.specs.Checked.{AreaOf}
use Rattle.luks_reading.specs.Header.{json_at}

-- the JSON area holds a value, whose names resolve
pub record HoldsNames (json : List ℕ) : Type 0 where
  pub value : Value
  pub holds : Json json value
  pub resolves : Resolves value

-- each area of the volume `v` is inside it, every two of different names are disjoint, and of LUKS2
-- every name in the metadata of the copy that counts resolves
pub record FitsAndResolves (v : List ℕ) (payload : Data) : Type 0 where
  pub fit : Fit (AreaOf v payload) (length v)
  pub names : (o : ℕ) (copies : Copies) → Chosen v (luks2 o copies) → HoldsNames (json_at v o)
