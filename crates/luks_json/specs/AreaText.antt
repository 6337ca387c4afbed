-- The JSON area of LUKS2: its text, and the value that it holds.
use Rattle.std.specs.Prelude.{◌≡◌, ◌≢◌, ℕ, ◌<◌, List, ◌∷◌, ◌++◌, All, replicate, codes, Some, None, IsUtf8}
use Rattle.serde_json.specs.Data.{Data}
use Rattle.serde_json.specs.Read.{read}
use Rattle.luks_json.specs.declared.fault.JsonFault.{JsonFault}
use Rattle.luks_json.specs.declared.fault.JsonFault.TheVariants as fault

-- LUKS2 1.1, section 3.1, "JSON area": the area holds the text, which is a JSON object and so begins with a brace, and is
-- ended by a zero byte. What is left of the area is zeros.
pub record JsonText (area text : List ℕ) : Type 0 where
  pub rest : List ℕ
  pub begins : text ≡ 123 ∷ rest
  pub whole : All (λ c. c ≢ 0) text
  pub zeros : ℕ
  pub ended : 0 < zeros
  pub filled : area ≡ text ++ replicate zeros 0

-- the area holds the text of the value (LUKS2 On-Disk Format 1.1, 2.2; RFC 8259)
pub record Json (area : List ℕ) (j : Data) : Type 0 where
  pub text : List ℕ
  pub placed : JsonText area text
  pub utf8 : IsUtf8 text
  pub reads : read text ≡ Some j

-- a text is in the area, and it isn't UTF-8 or no value
pub record IsBadJson (area : List ℕ) : Type 0 where
  pub text : List ℕ
  pub placed : JsonText area text
  pub bad : IsUtf8 text → read text ≡ None

-- what an area is refused for: `Memory` only where a text is in it
abbrev pub IsJsonFault : List ℕ → JsonFault → Type 0
IsJsonFault area fault.JsonArea = (text : List ℕ) → JsonText area text → ⊥
IsJsonFault area fault.BadJson = IsBadJson area
IsJsonFault area fault.Memory = (text : List ℕ) × JsonText area text

-- how a fault is written
abbrev pub fault_text : JsonFault → List ℕ
fault_text fault.JsonArea = codes "JsonArea"
fault_text fault.BadJson = codes "BadJson"
fault_text fault.Memory = codes "Memory"
