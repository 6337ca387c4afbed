-- A volume has a first fault or none, and a keyslot a first refusal or none, whatever counts of it.
use Rattle.std.proofs.Common.{◌≡◌, ◌⊎◌, ℕ, ◌<◌, List, length, Some, subst, inl, inr}
use Rattle.std.specs.Prelude.{◌↔◌}
use Rattle.serde_json.specs.Data.{Data as Value}
use Rattle.luks_area.specs.Ranges.{part}
use Rattle.luks2_header.specs.Header2.{header_at}
use Rattle.luks2_header.specs.Selection.{Choice, Chosen, luks1, luks2, nothing}
use Rattle.luks_json.specs.AreaText.{IsBadJson, Json, JsonText}
use Rattle.luks_json.specs.Number.{number_of, number_text}
use Rattle.luks_making.specs.Naming.{IsDigestOf}
use Rattle.luks_rules.specs.declared.fault.MetaFault.{MetaFault}
use Rattle.luks_rules.specs.Accepted.{IsMeta}
use Rattle.luks_rules.specs.MetaFault.{IsMetaFault}
use Rattle.luks_slot.specs.declared.allowed.Allowed.{Allowed}
use Rattle.luks_reading.specs.declared.check_fault.CheckFault.{CheckFault}
use Rattle.luks_reading.specs.declared.open_fault.OpenFault.{OpenFault}
use Rattle.luks_reading.specs.declared.report.Data.{Data}
use Rattle.luks_reading.specs.Answer.{AnswerWithin, IsRefusalWithin, IsRefusalAsWithin, open_key, Opened, opened_to, refused}
use Rattle.luks_reading.specs.Checked.{check_key, First, IsFault, IsFaultAs, WellFormed}
use Rattle.luks_reading.specs.Header.{json_at}
use Rattle.luks_laws.proofs.AnswerFacts.{answer_unrefused}
use Rattle.luks_laws.proofs.DecidedFacts.{carry_least, LeastOrNone}
use Rattle.luks_laws.proofs.HeaderDecisions1.{luks1_least_or_none}
use Rattle.luks_laws.proofs.HeaderDecisions2.{luks2_least_or_none}
use Rattle.luks_laws.proofs.KeyslotDecisions1.{luks1_refusal_or_none}
use Rattle.luks_laws.proofs.KeyslotDecisions2.{luks2_refusal_or_none}
use Rattle.luks_laws.proofs.SelectDecisions.{other_least_or_none, select_refusal_or_none}

module _ (kinds : (json : List ℕ) → ((j : Value) × Json json j) ⊎ IsBadJson json ⊎ ((text : List ℕ) → JsonText json text → ⊥))
    (good : (json : List ℕ) (j : Value) → Json json j → IsBadJson json → ⊥)
    (one : (json : List ℕ) (i j : Value) → Json json i → Json json j → i ≡ j)
    (some : (v : List ℕ) → (c : Choice) × Chosen v c) (only : (v : List ℕ) (b c : Choice) → Chosen v b → Chosen v c → b ≡ c) where
  -- ---- the volume

  -- by what counts a volume has a first fault or none
  least_as : (v : List ℕ) (payload : Data) (c : Choice) → Chosen v c → LeastOrNone CheckFault check_key (IsFaultAs v payload c)
  least_as v payload luks1 chosen = luks1_least_or_none (part v 0 592) payload (length v)
  least_as v payload (luks2 o copies) chosen = luks2_least_or_none kinds good one (header_at v o) (json_at v o) payload (length v)
  least_as v payload nothing chosen = other_least_or_none v chosen

  -- a volume has a first fault, or it is well formed
  pub first_or_well_formed : (v : List ℕ) (payload : Data) → (((f : CheckFault) → IsFault v payload f → ⊥) → WellFormed v payload)
      → ((f : CheckFault) × First v payload f) ⊎ WellFormed v payload
  first_or_well_formed v payload formed =
      let c = some v in
      elim (carry_least CheckFault check_key (IsFaultAs v payload c.0) (IsFault v payload) (λ f is. record { choice = c.0; chosen = c.1; fault = is })
      (λ f x. subst (λ d. IsFaultAs v payload d f) (only v x.choice c.0 x.chosen c.1) x.fault) (least_as v payload c.0 c.1)) [
        | inl first ↦ inl first
        | inr none ↦ inr (formed none)
      ]

  -- ---- a keyslot

  module _ (says : (text : List ℕ) (n : ℕ) → number_of text ≡ Some n → (text ≡ number_text n) × (n < 32))
      (metadata : (json : List ℕ) → ((f : MetaFault) → IsMetaFault json f → ⊥) ↔ ((j : Value) × IsMeta json j))
      (digest : (json : List ℕ) (j : Value) → IsMeta json j → (n m k : ℕ) → IsDigestOf j n m → IsDigestOf j n k → m ≡ k) where
    -- by what counts of a volume a keyslot has a first refusal or none
    refusal_as : (allowed : Allowed) (v : List ℕ) (n : ℕ) (c : Choice) → Chosen v c → LeastOrNone OpenFault open_key (IsRefusalAsWithin allowed v n c)
    refusal_as allowed v n luks1 chosen = luks1_refusal_or_none allowed.older (part v 0 592) (length v) n
    refusal_as allowed v n (luks2 o copies) chosen = luks2_refusal_or_none kinds good one says metadata digest allowed (header_at v o) (json_at v o) (length v) n
    refusal_as allowed v n nothing chosen = select_refusal_or_none v chosen

    -- a keyslot has a first refusal or none
    refusal_or_none : (allowed : Allowed) (v : List ℕ) (n : ℕ) → LeastOrNone OpenFault open_key (IsRefusalWithin allowed v n)
    refusal_or_none allowed v n =
        let c = some v in
        carry_least OpenFault open_key (IsRefusalAsWithin allowed v n c.0) (IsRefusalWithin allowed v n) (λ f is. record { choice = c.0; chosen = c.1; fault = is })
        (λ f x. subst (λ d. IsRefusalAsWithin allowed v n d f) (only v x.choice c.0 x.chosen c.1) x.fault) (refusal_as allowed v n c.0 c.1)

    -- the first refusal, or what the plan gives
    pub some_answer : (allowed : Allowed) (v : List ℕ) (n : ℕ) (p : List ℕ) → (a : Opened) × AnswerWithin allowed v n p a
    some_answer allowed v n p = elim (refusal_or_none allowed v n) [
      | inl first ↦ (refused first.0, first.1)
      | inr none ↦ (let x = answer_unrefused says metadata some allowed v n p none in (opened_to x.0, x.1))
    ]
