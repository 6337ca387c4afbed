-- An area without a fault holds a value that is accepted: each fault can be decided.
use Rattle.std.proofs.Common.{◌≡◌, ℕ, ◌↔◌, List, [], length, refl, ◌⊎◌, inl, inr}
use Rattle.std.proofs.lemmas.Bool.{false_from_ne_true}
use Rattle.serde_json.specs.Data.{Data}
use Rattle.luks_area.specs.declared.area.AreaName.TheVariants.{Slot}
use Rattle.luks_rules.specs.declared.fault.MetaFault.{MetaFault}
use Rattle.luks_rules.specs.declared.fault.MetaFault.TheVariants as fault
use Rattle.luks_rules.specs.declared.place.Place.{Place}
use Rattle.luks_rules.specs.declared.place.Test.{Test}
use Rattle.luks_rules.specs.declared.place.Test.TheVariants as test
use Rattle.luks_json.specs.AreaText.{IsBadJson, Json, JsonText}
use Rattle.luks_json.proofs.AreaKinds.{kind_of}
use Rattle.luks_rules.specs.Accepted.{IsMeta}
use Rattle.luks_rules.specs.Faults.{place_path}
use Rattle.luks_rules.specs.MetaFault.{HasPath, IsFaultless, IsMetaFault}
use Rattle.luks_rules.proofs.Accepting.{content_of}
use Rattle.luks_rules.proofs.AreaFaults.{accepted_none}

-- ---- an area without a fault

module _ (area : List ℕ) (h : (f : MetaFault) → IsMetaFault area f → ⊥) where
  value_there : ((j : Data) × Json area j) ⊎ IsBadJson area ⊎ ((text : List ℕ) → JsonText area text → ⊥) → (j : Data) × Json area j
  value_there (inl p) = p
  value_there (inr (inl bad)) = absurd (h fault.BadJson bad)
  value_there (inr (inr none)) = absurd (h fault.JsonArea none)

  module _ (j : Data) (json : Json area j) where
    path_off : (t : Test) (p : Place) → HasPath t j (place_path p) → ⊥
    path_off test.Shape p q = h (fault.Shape (record { bytes = place_path p; spare = [] })) (record { value = j; json = json; fault = q })
    path_off test.Kind p q = h (fault.Kind (record { bytes = place_path p; spare = [] })) (record { value = j; json = json; fault = q })
    path_off test.NoSuchName p q = h (fault.NoSuchName (record { bytes = place_path p; spare = [] })) (record { value = j; json = json; fault = q })
    path_off test.Assigned p q = h (fault.Assigned (record { bytes = place_path p; spare = [] })) (record { value = j; json = json; fault = q })

    faultless : IsFaultless (length area) j
    faultless = record {
      whole = false_from_ne_true _ (λ e. h fault.NotWhole (record { value = j; json = json; fault = e }));
      places = λ t p is. false_from_ne_true _ (λ e. path_off t p (record { place = p; faulty = record { place = is; fault = e }; is = refl }));
      sizes = false_from_ne_true _ (λ e. h fault.Sizes (record { value = j; json = json; fault = e }));
      areas = λ n lt. false_from_ne_true _ (λ e. h (fault.AreaTooSmall n) (record { value = j; json = json; fault = (lt, e) }));
      region = λ n lt. false_from_ne_true _ (λ e. h (fault.Region (Slot n)) (record { value = j; json = json; fault = (lt, e) }));
    }

  accepted : (j : Data) × IsMeta area j
  accepted =
      let p = value_there (kind_of area) in
      (p.0, record { json = p.1; content = content_of (length area) p.0 (faultless p.0 p.1) })

-- metadata has no fault exactly where it is accepted
pub metadata_faultless : (area : List ℕ) → ((f : MetaFault) → IsMetaFault area f → ⊥) ↔ ((j : Data) × IsMeta area j)
metadata_faultless area = (accepted area, λ m. accepted_none area m.0 m.1)
