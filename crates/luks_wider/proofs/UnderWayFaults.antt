-- The faults of an area in which something is under way: those of its members, and where it contradicts itself.
use Rattle.std.proofs.Common.{◌≡◌, ◌≢◌, ℕ, ◌<◌, Bool, true, false, List, ◌∷◌, sym, ap, subst, ◌∙◌, arith}
use Rattle.std.proofs.lemmas.Bool.{and_parts, false≢true, ltb-true}
use Rattle.serde_json.specs.Data.{Data}
use Rattle.arrayvec.specs.declared.array_string.ArrayString.{ArrayString}
use Rattle.luks_area.specs.First.{IsLeast, NotAfter}
use Rattle.luks_json.specs.AreaText.{Json}
use Rattle.luks_rules.specs.declared.fault.MetaFault.{MetaFault}
use Rattle.luks_rules.specs.declared.fault.MetaFault.TheVariants as fault
use Rattle.luks_rules.specs.MetaFault.{meta_key, meta_row}
use Rattle.luks_rules.proofs.AreaFaults.{one_value}
use Rattle.luks_contradictions.specs.Consistent.{IsConsistent}
use Rattle.luks_contradictions.specs.Contradicted.{contradiction_path, contradicts, IsNamed}
use Rattle.luks_contradictions.specs.declared.contradiction.Contradiction.{Contradiction}
use Rattle.luks_contradictions.specs.declared.contradiction.Contradiction.TheVariants.{Keyslot, Requirements, Segment, Segments}
use Rattle.luks_contradictions.proofs.Consistency.{consistent_of, nowhere_of}
use Rattle.luks_wider.specs.Accepted.{IsUnderWayArea, IsWideRules}
use Rattle.luks_wider.specs.WideFaults.{HasContradiction, IsUnderWayFault, IsWideMetaFault, no_memory, wide_key}
use Rattle.luks_wider.specs.declared.fault.WideFault.{WideFault}
use Rattle.luks_wider.specs.declared.fault.WideFault.TheVariants.{Meta, UnderWay}

-- each fault of the members comes before what contradicts itself
row_before : (f : MetaFault) → meta_row f < 12
row_before fault.JsonArea = omega arith
row_before fault.BadJson = omega arith
row_before fault.NotWhole = omega arith
row_before (fault.Shape path) = omega arith
row_before (fault.Kind path) = omega arith
row_before (fault.NoSuchName path) = omega arith
row_before (fault.Assigned path) = omega arith
row_before fault.Sizes = omega arith
row_before (fault.AreaTooSmall n) = omega arith
row_before (fault.Region name) = omega arith
row_before fault.Memory = omega arith

before_contradiction : (f : MetaFault) (path : List ℕ) → NotAfter (meta_key f) (12 ∷ path)
before_contradiction f path = let h = row_before f in (omega (arith, h), λ e. absurd (omega (arith, h, e)))

pub other_fault : (f : MetaFault) → Meta f ≢ no_memory → f ≢ fault.Memory
other_fault f off = λ e. off (ap Meta e)

pub meta_least : (area : List ℕ) (f : MetaFault) → (f ≢ fault.Memory → IsLeast meta_key (IsWideMetaFault area) f) → Meta f ≢ no_memory → IsLeast wide_key (IsUnderWayFault area) (Meta f)
meta_least area f least off = let l = least (other_fault f off) in (l.0, λ g h. by l g h)
  where
    by : IsLeast meta_key (IsWideMetaFault area) f → (g : WideFault) → IsUnderWayFault area g → NotAfter (wide_key (Meta f)) (wide_key g)
    by l (Meta g) h = l.1 g h
    by l (UnderWay path) h = before_contradiction f path.bytes

-- the fault of the members that it is
abbrev inner : WideFault → MetaFault
inner (Meta f) = f
inner (UnderWay path) = fault.JsonArea

pub is_memory : (f : MetaFault) → Meta f ≡ no_memory → f ≡ fault.Memory
is_memory f e = ap inner e

abbrev is_meta : WideFault → Bool
is_meta (Meta f) = true
is_meta (UnderWay path) = false

pub not_memory : (path : ArrayString 32) → UnderWay path ≡ no_memory → ⊥
not_memory path e = false≢true (ap is_meta e)

-- the value in which the place contradicts itself is that of the area
of_value : (area : List ℕ) (j : Data) → Json area j → (path : List ℕ) → HasContradiction area path → (p : Contradiction) × (contradicts j p ≡ true) × (path ≡ contradiction_path p)
of_value area j json path h =
    let same : h.value ≡ j = one_value area h.value j h.json json in
    (h.at.place, subst (λ i. contradicts i h.at.place ≡ true) same h.at.holds, h.at.is)

pub contradiction_least : (area : List ℕ) (j : Data) → Json area j → ((f : MetaFault) → IsWideMetaFault area f → ⊥) → (p : Contradiction) (path : ArrayString 32)
    → IsLeast contradiction_path (λ q. contradicts j q ≡ true) p → path.bytes ≡ contradiction_path p → IsLeast wide_key (IsUnderWayFault area) (UnderWay path)
contradiction_least area j json none p path least is =
    (record { value = j; json = json; at = record { place = p; holds = least.0; is = is } }, by)
  where
    by : (g : WideFault) → IsUnderWayFault area g → NotAfter (wide_key (UnderWay path)) (wide_key g)
    by (Meta f) h = absurd (none f h)
    by (UnderWay other) h =
        let q = of_value area j json other.bytes h in
        (omega arith, λ _. rw (is, q.2) (least.1 q.0 q.1))

-- a place that contradicts itself has a path
pub named_of : (j : Data) (p : Contradiction) → contradicts j p ≡ true → IsNamed p
named_of j Requirements h = tt
named_of j (Keyslot n) h = ltb-true n 32 (and_parts _ _ h).0
named_of j Segments h = tt
named_of j (Segment n) h = ltb-true n 32 (and_parts _ _ h).0

pub none_found : (area : List ℕ) (j : Data) → Json area j → ((f : MetaFault) → IsWideMetaFault area f → ⊥) → ((p : Contradiction) → contradicts j p ≡ false)
    → (g : WideFault) → IsUnderWayFault area g → ⊥
none_found area j json none off (Meta f) h = none f h
none_found area j json none off (UnderWay path) h = let q = of_value area j json path.bytes h in false≢true (sym (off q.0) ∙ q.1)

-- what is accepted contradicts itself nowhere
pub accepted_nowhere : (area : List ℕ) (i j : Data) → Json area i → IsUnderWayArea area j → (p : Contradiction) → contradicts i p ≡ true → ⊥
accepted_nowhere area i j json a p h =
    let same : i ≡ j = one_value area i j json a.json in
    let at : contradicts j p ≡ true = subst (λ d. contradicts d p ≡ true) same h in
    false≢true (sym (nowhere_of j a.rules.segments a.consistent p) ∙ at)

pub consistent_in : (len : ℕ) (j : Data) → IsWideRules len j → ((p : Contradiction) → contradicts j p ≡ false) → IsConsistent j
consistent_in len j rules off = consistent_of j rules.segments off
