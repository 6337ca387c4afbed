-- The faults of a value that is to be in an area, from those of its members and its nesting.
use Rattle.std.proofs.Common.{◌≡◌, ◌↔◌, Bool, true, false, ◌<◌, ◌≤◌, ℕ, ◌∷◌, [], Result, Ok, Err, OnOk, IfErr, sym, ◌∙◌, inl, inr, arith}
use Rattle.std.proofs.lemmas.Bool.{cases_lt, true≢false}
use Rattle.serde_json.specs.Data.{Data, depth}
use Rattle.serde_json.specs.Read.{max_depth}
use Rattle.luks_area.specs.First.{IsLeast, NotAfter}
use Rattle.luks_rules.specs.declared.fault.MetaFault.{MetaFault}
use Rattle.luks_rules.specs.declared.fault.MetaFault.TheVariants as fault
use Rattle.luks_rules.specs.Held.{IsHeld}
use Rattle.luks_rules.specs.MetaFault.{IsDataFault, IsFaultless, meta_key}
use Rattle.luks_rules.specs.Valued.{IsValueFault}
use Rattle.luks_rules.proofs.Accepting.{content_of}
use Rattle.luks_rules.proofs.AreaFaults.{data_none}
use Rattle.luks_rules.proofs.Refusing.{faultless_of}

-- a number that isn't within another is above it
pub above : (b : Bool) (d n : ℕ) → b ≡ false → (b ≡ true) ↔ (d ≤ n) → n < d
above b d n off within = elim (cases_lt n d) [
  | inl more ↦ more
  | inr low ↦ absurd (true≢false (sym (within.1 low) ∙ off))
]

-- of a value that nests too deep
pub deep_least : (len : ℕ) (j : Data) → max_depth < depth j → IsLeast meta_key (IsValueFault len j) fault.BadJson
deep_least len j deep = (deep, by)
  where
    by : (g : MetaFault) → IsValueFault len j g → NotAfter (2 ∷ []) (meta_key g)
    by fault.JsonArea h = absurd h
    by fault.BadJson h = (omega arith, λ _. tt)
    by fault.NotWhole h = (omega arith, λ e. absurd (omega arith))
    by (fault.Shape path) h = (omega arith, λ e. absurd (omega arith))
    by (fault.Kind path) h = (omega arith, λ e. absurd (omega arith))
    by (fault.NoSuchName path) h = (omega arith, λ e. absurd (omega arith))
    by (fault.Assigned path) h = (omega arith, λ e. absurd (omega arith))
    by fault.Sizes h = (omega arith, λ e. absurd (omega arith))
    by (fault.AreaTooSmall n) h = (omega arith, λ e. absurd (omega arith))
    by (fault.Region name) h = (omega arith, λ e. absurd (omega arith))
    by fault.Memory h = (omega arith, λ e. absurd (omega arith))

-- of any other its faults are those of its members
into_members : (len : ℕ) (j : Data) → depth j ≤ max_depth → (g : MetaFault) → IsValueFault len j g → IsDataFault len j g
into_members len j low fault.BadJson h = absurd (omega (arith, low, h))
into_members len j low fault.JsonArea h = h
into_members len j low fault.NotWhole h = h
into_members len j low (fault.Shape path) h = h
into_members len j low (fault.Kind path) h = h
into_members len j low (fault.NoSuchName path) h = h
into_members len j low (fault.Assigned path) h = h
into_members len j low fault.Sizes h = h
into_members len j low (fault.AreaTooSmall n) h = h
into_members len j low (fault.Region name) h = h
into_members len j low fault.Memory h = h

from_members : (len : ℕ) (j : Data) (g : MetaFault) → IsDataFault len j g → IsValueFault len j g
from_members len j fault.BadJson h = elim h [ ]
from_members len j fault.JsonArea h = h
from_members len j fault.NotWhole h = h
from_members len j (fault.Shape path) h = h
from_members len j (fault.Kind path) h = h
from_members len j (fault.NoSuchName path) h = h
from_members len j (fault.Assigned path) h = h
from_members len j fault.Sizes h = h
from_members len j (fault.AreaTooSmall n) h = h
from_members len j (fault.Region name) h = h
from_members len j fault.Memory h = h

members_least : (len : ℕ) (j : Data) (f : MetaFault) → depth j ≤ max_depth → IsLeast meta_key (IsDataFault len j) f → IsLeast meta_key (IsValueFault len j) f
members_least len j f low least = (from_members len j f least.0, λ g h. least.1 g (into_members len j low g h))

-- ---- what the judge of its members answers

pub judged_held : {X : Type 0} (len : ℕ) (j : Data) (r : Result X MetaFault) → depth j ≤ max_depth → OnOk r (IsFaultless len j) → OnOk r (IsHeld len j)
judged_held len j (Ok x) low h = record { nests = low; content = content_of len j h }
judged_held len j (Err f) low h = tt

pub judged_fault : {X : Type 0} (len : ℕ) (j : Data) (r : Result X MetaFault) → depth j ≤ max_depth → IfErr r (λ f. IsLeast meta_key (IsDataFault len j) f) → IfErr r (λ f. IsLeast meta_key (IsValueFault len j) f)
judged_fault len j (Ok x) low h = tt
judged_fault len j (Err f) low h = members_least len j f low h

-- a value that is held has no fault
pub judged_only : {X : Type 0} (len : ℕ) (j : Data) (r : Result X MetaFault) → IfErr r (λ f. IsLeast meta_key (IsDataFault len j) f) → IsHeld len j → IfErr r (λ f. ⊥)
judged_only len j (Ok x) h held = tt
judged_only len j (Err f) h held = data_none len j (faultless_of len j held.content) f h.0
