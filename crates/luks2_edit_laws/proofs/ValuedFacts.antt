-- A value is held exactly where it has no fault.
use Rattle.std.proofs.Common.{◌≡◌, ℕ, ◌≤◌, [], false, Option, Some, None, refl, arith, inl, inr}
use Rattle.std.proofs.lemmas.Bool.{cases_lt, false_from_ne_true}
use Rattle.serde_json.specs.Data.{Data as Value, depth}
use Rattle.serde_json.specs.Read.{max_depth}
use Rattle.luks_area.specs.declared.area.AreaName.TheVariants.{Slot}
use Rattle.luks_rules.specs.declared.fault.MetaFault.{MetaFault}
use Rattle.luks_rules.specs.declared.fault.MetaFault.TheVariants as fault
use Rattle.luks_rules.specs.Faults.{has_fault, place_path}
use Rattle.luks_rules.specs.Held.{IsHeld}
use Rattle.luks_rules.specs.MetaFault.{IsDataFault, IsFaultless}
use Rattle.luks_rules.specs.Valued.{IsValueFault}
use Rattle.luks_rules.proofs.Accepting.{content_of}
use Rattle.luks_rules.proofs.AreaFaults.{data_none}
use Rattle.luks_rules.proofs.Refusing.{faultless_of}
use Rattle.luks_rules.proofs.RowFaults.{judged_least}
use Rattle.luks_rules.proofs.Walking.{least_place, no_place}

-- what is held has none
pub held_valued : (len : ℕ) (j : Value) → IsHeld len j → (f : MetaFault) → IsValueFault len j f → ⊥
held_valued len j held fault.BadJson bad = let low = held.nests in absurd (omega (arith, low, bad))
held_valued len j held fault.JsonArea bad = bad
held_valued len j held fault.NotWhole bad = data_none len j (faultless_of len j held.content) fault.NotWhole bad
held_valued len j held (fault.Shape path) bad = data_none len j (faultless_of len j held.content) (fault.Shape path) bad
held_valued len j held (fault.Kind path) bad = data_none len j (faultless_of len j held.content) (fault.Kind path) bad
held_valued len j held (fault.NoSuchName path) bad = data_none len j (faultless_of len j held.content) (fault.NoSuchName path) bad
held_valued len j held (fault.Assigned path) bad = data_none len j (faultless_of len j held.content) (fault.Assigned path) bad
held_valued len j held fault.Sizes bad = data_none len j (faultless_of len j held.content) fault.Sizes bad
held_valued len j held (fault.AreaTooSmall n) bad = data_none len j (faultless_of len j held.content) (fault.AreaTooSmall n) bad
held_valued len j held (fault.Region name) bad = data_none len j (faultless_of len j held.content) (fault.Region name) bad
held_valued len j held fault.Memory bad = bad

-- a fault of its members is one
of_members : (len : ℕ) (j : Value) (f : MetaFault) → IsDataFault len j f → IsValueFault len j f
of_members len j fault.JsonArea bad = bad
of_members len j fault.BadJson bad = absurd bad
of_members len j fault.NotWhole bad = bad
of_members len j (fault.Shape path) bad = bad
of_members len j (fault.Kind path) bad = bad
of_members len j (fault.NoSuchName path) bad = bad
of_members len j (fault.Assigned path) bad = bad
of_members len j fault.Sizes bad = bad
of_members len j (fault.AreaTooSmall n) bad = bad
of_members len j (fault.Region name) bad = bad
of_members len j fault.Memory bad = bad

-- what follows of each case of an option
by_case : {P : Type 0} (o : Option P) (A : Type 0) → (None ≡ o → A) → ((q : P) → Some q ≡ o → A) → A
by_case None A none some = none refl
by_case (Some q) A none some = some q refl

-- what has none is held
module _ (len : ℕ) (j : Value) (none : (f : MetaFault) → IsValueFault len j f → ⊥) where
  off : (f : MetaFault) → IsDataFault len j f → ⊥
  off f bad = none f (of_members len j f bad)

  faultless : IsFaultless len j
  faultless = record {
    whole = false_from_ne_true _ (λ e. off fault.NotWhole e);
    places = λ t p is. by_case _ (has_fault t j p ≡ false) (λ e. no_place t j e p is)
        (λ q e. absurd (off _ (judged_least t j q (record { bytes = place_path q; spare = [] }) (least_place t j q e) refl len).1));
    sizes = false_from_ne_true _ (λ e. off fault.Sizes e);
    areas = λ n lt. false_from_ne_true _ (λ e. off (fault.AreaTooSmall n) (lt, e));
    region = λ n lt. false_from_ne_true _ (λ e. off (fault.Region (Slot n)) (lt, e));
  }

  nested : depth j ≤ max_depth
  nested = elim (cases_lt max_depth (depth j)) [ inl deep ↦ absurd (none fault.BadJson deep) | inr low ↦ low ]

  pub valued_held : IsHeld len j
  valued_held = record { nests = nested; content = content_of len j faultless }
