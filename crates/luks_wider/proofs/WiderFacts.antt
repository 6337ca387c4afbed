-- The faults of an area by the wider reading are those of the one reading or of the other.
use Rattle.std.proofs.Common.{◌≡◌, ℕ, List, length, subst}
use Rattle.serde_json.specs.Data.{Data}
use Rattle.luks_area.specs.First.{IsLeast, NotAfter}
use Rattle.luks_json.specs.AreaText.{IsBadJson, Json, JsonText}
use Rattle.luks_json.proofs.AreaKinds.{not_bad}
use Rattle.luks_rules.specs.Accepted.{IsMeta}
use Rattle.luks_rules.specs.MetaFault.{IsMetaFault, meta_key}
use Rattle.luks_rules.specs.declared.fault.MetaFault.{MetaFault}
use Rattle.luks_rules.proofs.AreaFaults.{one_value}
use Rattle.luks_underway.specs.Kinds.{IsUnderWay}
use Rattle.luks_wider.specs.Accepted.{IsUnderWayArea, IsWide, narrow as narrow_of, under_way as under_way_of}
use Rattle.luks_wider.specs.Wide.{HasUnderWay, IsNarrowFault, IsWiderFault, under_way, narrow}
use Rattle.luks_wider.specs.WideFaults.{IsUnderWayFault, wide_key}
use Rattle.luks_wider.specs.declared.fault.WideFault.{WideFault}
use Rattle.luks_wider.specs.declared.fault.WideFault.TheVariants.{Meta, UnderWay}
use Rattle.luks_contradictions.proofs.UnderWayFacts.{not_under_way}

-- nothing is under way in an area that is accepted
pub none_of_accepted : (area : List ℕ) (j : Data) → IsMeta area j → HasUnderWay area → ⊥
none_of_accepted area j m h =
    let same : h.value ≡ j = one_value area h.value j h.json m.json in
    not_under_way (length area) j m.content (subst IsUnderWay same h.is)

-- what is read of an area in which something is under way is that value
pub is_under : (area : List ℕ) (j : Data) → HasUnderWay area → Json area j → IsUnderWay j
is_under area j h json = subst IsUnderWay (one_value area h.value j h.json json) h.is

pub least_under : (area : List ℕ) (f : WideFault) → HasUnderWay area → IsLeast wide_key (IsUnderWayFault area) f → IsLeast wide_key (IsWiderFault area) f
least_under area f h least = (under_way h least.0, λ g w. elim w [ under_way k i ↦ least.1 g i | narrow none i ↦ absurd (none h) ])

pub least_narrow : (area : List ℕ) (f : MetaFault) → (HasUnderWay area → ⊥) → IsLeast meta_key (IsMetaFault area) f → IsLeast wide_key (IsWiderFault area) (Meta f)
least_narrow area f none least = (narrow none least.0, λ g w. elim w [ under_way k i ↦ absurd (none k) | narrow other i ↦ by g i ])
  where
    by : (g : WideFault) → IsNarrowFault area g → NotAfter (wide_key (Meta f)) (wide_key g)
    by (Meta g) i = least.1 g i
    by (UnderWay path) i = absurd i

pub under_faultless : (area : List ℕ) → HasUnderWay area → ((g : WideFault) → IsUnderWayFault area g → ⊥) → (f : WideFault) → IsWiderFault area f → ⊥
under_faultless area h none f w = elim w [ under_way k i ↦ none f i | narrow other i ↦ other h ]

pub narrow_faultless : (area : List ℕ) → (HasUnderWay area → ⊥) → ((g : MetaFault) → IsMetaFault area g → ⊥) → (f : WideFault) → IsWiderFault area f → ⊥
narrow_faultless area other none f w = elim w [ under_way k i ↦ other k | narrow h i ↦ by f i ]
  where
    by : (g : WideFault) → IsNarrowFault area g → ⊥
    by (Meta g) i = none g i
    by (UnderWay path) i = i

-- ---- what is accepted by the wider reading

-- the value that was read is the one that is accepted
pub wide_value : (area : List ℕ) (i j : Data) → Json area i → IsWide area j → i ≡ j
wide_value area i j json (narrow_of m) = one_value area i j json m.json
wide_value area i j json (under_way_of k c) = one_value area i j json k

pub wide_under : (area : List ℕ) (j : Data) → HasUnderWay area → IsWide area j → IsUnderWayArea area j
wide_under area j h (narrow_of m) = absurd (none_of_accepted area j m h)
wide_under area j h (under_way_of k c) = record { json = k; rules = c.rules; consistent = c.consistent }

pub wide_narrow : (area : List ℕ) (j : Data) → (HasUnderWay area → ⊥) → IsWide area j → IsMeta area j
wide_narrow area j other (narrow_of m) = m
wide_narrow area j other (under_way_of k c) = absurd (other (record { value = j; json = k; is = c.under_way }))

-- nothing is under way in an area that holds no text, or one that is no value
pub none_without_text : (area : List ℕ) → ((text : List ℕ) → JsonText area text → ⊥) → HasUnderWay area → ⊥
none_without_text area none h = none h.json.text h.json.placed

pub none_in_bad : (area : List ℕ) → IsBadJson area → HasUnderWay area → ⊥
none_in_bad area bad h = not_bad area h.value h.json bad
