-- The region that a keyslot needs is one.
use Rattle.std.proofs.Common.{ℕ, List, Option, Some, None, IfNone, subst}
use Rattle.serde_json.specs.Data.{Data}
use Rattle.luks_rules.proofs.AreaFaults.{one_value}
use Rattle.luks_rules.specs.Accepted.{IsMeta}
use Rattle.luks_fragments.specs.Kinds.{HasRegion, NeedsRegion, framed}
use Rattle.luks_fragments.specs.Made.{area_of}
use Rattle.luks_fragments.specs.declared.kinds.Kind.TheVariants as kind

-- where the value is known, the region is that of its keyslot
pub region_here : (object : List ℕ) (j : Data) (n : ℕ) → IsMeta (area_of (framed kind.Keyslot object)) j → NeedsRegion object n → HasRegion j n
region_here object j n here x = subst (λ i. HasRegion i n) (one_value (area_of (framed kind.Keyslot object)) x.value j x.accepted.json here.json) x.region

-- what follows where nothing is there
pub none_then : {X P Q : Type 0} (r : Option X) → (P → Q) → IfNone r P → IfNone r Q
none_then (Some x) f none = tt
none_then None f none = f none
