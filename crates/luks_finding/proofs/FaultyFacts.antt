-- What a fault of metadata says of the question whether it has none.
use Rattle.std.proofs.Common.{◌≢◌, ◌↔◌, List, ℕ, IfOk, IsTrue}
use Rattle.std.proofs.lemmas.Bool.{false≢true}
use Rattle.luks_area.specs.First.{IsLeast}
use Rattle.luks_rules.specs.declared.fault.MetaFault.TheVariants as meta
use Rattle.luks_wider.specs.Wide.{IsWiderFault}
use Rattle.luks_wider.specs.WideFaults.{no_memory, wide_key}
use Rattle.luks_wider.specs.declared.fault.WideFault.{WideFault}
use Rattle.luks_wider.specs.declared.fault.WideFault.TheVariants as wide
use Rattle.luks_finding.specs.Faults.{faulty}
use Rattle.luks_finding.proofs.MetadataFacts.{IsFaultless}

-- of the first fault it is that there is one
pub faulty_told : (area : List ℕ) (f : WideFault) → (f ≢ no_memory → IsLeast wide_key (IsWiderFault area) f) → IfOk (faulty f) (λ is. IsTrue is ↔ IsFaultless area)
faulty_told area (wide.Meta meta.Memory) least = tt
faulty_told area other least = (λ t. absurd (false≢true t), λ none. absurd (none other (least (λ e. cc)).0))
