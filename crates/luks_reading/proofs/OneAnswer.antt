-- A keyslot has one answer.
use Rattle.std.proofs.Common.{◌≡◌, ℕ, ◌≤◌, List, [], ◌∷◌, Option, Some, None, Result, Ok, Err, IfOk, IfErr, ◌↔◌, inl, inr, refl, ap, subst, sym, ◌∙◌, arith}
use Rattle.serde_json.specs.Data.{Data as Value}
use Rattle.luks_area.specs.First.{NotAfter, IsLeast}
use Rattle.luks_area.specs.Ranges.{part}
use Rattle.luks2_header.specs.Selection.{Choice, luks1, luks2, nothing, Chosen}
use Rattle.luks_rules.specs.declared.fault.MetaFault.{MetaFault}
use Rattle.luks_meta.specs.Accepted.{IsMeta}
use Rattle.luks_meta.specs.MetaFault.{Json, IsMetaFault}
use Rattle.luks_meta.specs.Naming.{IsDigestOf}
use Rattle.luks_slot.specs.declared.allowed.Allowed.{Allowed}
use Rattle.luks_slot.specs.declared.plan.SlotPlan.{SlotPlan}
use Rattle.luks_reading.specs.declared.open_fault.OpenFault.{OpenFault}
use Rattle.luks_reading.specs.declared.open_fault.OpenFault.TheVariants.{Meta, Device, Memory}
use Rattle.luks_reading.specs.Answer.{open_key, AnswerWithin, HasPlanAs, IsRefusalWithin, IsRefusalAsWithin, IsRefusedByWithin, Opened, OpensWithin, refused, opens, no_key, opened_to}
use Rattle.luks_reading.specs.Agreement.{Agrees, IsSameAnswer}
use Rattle.luks_reading.specs.Header.{json_at}
use Rattle.luks_reading.proofs.OpenFaults.{IsOwn, ending}
use Rattle.luks_reading.proofs.SamePlans.{SameFields, same_answer}
use Rattle.luks_reading.proofs.Luks1Plans.{one_luks1_plan}
use Rattle.luks_reading.proofs.Luks2Plans.{one_luks2_plan}

-- keys that stand neither after the other are one
same_key : (xs ys : List ℕ) → NotAfter xs ys → NotAfter ys xs → xs ≡ ys
same_key [] [] a b = refl
same_key [] (y ∷ ys) a b = absurd b
same_key (x ∷ xs) [] a b = absurd a
same_key (x ∷ xs) (y ∷ ys) a b =
    let low : x ≤ y = a.0 in
    let high : y ≤ x = b.0 in
    let e : x ≡ y = omega (arith, low, high) in
    ap (λ z. z ∷ xs) e ∙ ap (λ zs. y ∷ zs) (same_key xs ys (a.1 e) (b.1 (sym e)))

-- of two least members of a set each has the other's key
pub least_once : {F : Type 0} (key : F → List ℕ) (faults : F → Type 0) (f g : F) → IsLeast key faults f → IsLeast key faults g → key f ≡ key g
least_once key faults f g x y = same_key (key f) (key g) (x.1 g y.0) (y.1 f x.0)

-- ---- by the laws of the parts

module _
    (one : (v : List ℕ) (b c : Choice) → Chosen v b → Chosen v c → b ≡ c)
    (value : (json : List ℕ) (i k : Value) → Json json i → Json json k → i ≡ k)
    (metadata : (json : List ℕ) → ((f : MetaFault) → IsMetaFault json f → ⊥) ↔ ((j : Value) × IsMeta json j))
    (digest : (json : List ℕ) (j : Value) → IsMeta json j → (n m k : ℕ) → IsDigestOf j n m → IsDigestOf j n k → m ≡ k)
  where
    one_plan : (allowed : Allowed) (v : List ℕ) (n : ℕ) (c : Choice) (a b : SlotPlan) → HasPlanAs v n c a → HasPlanAs v n c b
        → ((f : OpenFault) → IsRefusalAsWithin allowed v n c f → ⊥) → SameFields a b
    one_plan allowed v n luks1 a b x y clear = one_luks1_plan (part v 0 592) n a b x y
    one_plan allowed v n (luks2 o copies) a b x y clear =
        let json = json_at v o in
        let meta = (metadata json).0 (λ f is. clear (Meta f) is) in
        one_luks2_plan json meta.0 n a b (record {
          value = λ i holds. value json meta.0 i meta.1.json holds;
          digest = λ m k p q. digest json meta.0 meta.1 n m k p q;
        }) x y
    one_plan allowed v n nothing a b x y clear = absurd x

    -- the plans of a keyslot give one key
    pub found_once : (allowed : Allowed) (v : List ℕ) (n : ℕ) (p : List ℕ) (a b : Option (List ℕ)) → OpensWithin allowed v n p a → OpensWithin allowed v n p b → a ≡ b
    found_once allowed v n p a b x y =
        let e : y.choice ≡ x.choice = one v y.choice x.choice y.chosen x.chosen in
        let plan = subst (λ c. HasPlanAs v n c y.plan) e y.is in
        sym x.key ∙ same_answer x.plan y.plan v p (one_plan allowed v n x.choice x.plan y.plan x.is plan x.unrefused) ∙ y.key

    -- an answer that is a key or none rules out each refusal
    clash : (allowed : Allowed) (v : List ℕ) (n : ℕ) (p : List ℕ) (f : OpenFault) (found : Option (List ℕ)) → AnswerWithin allowed v n p (refused f) → OpensWithin allowed v n p found → ⊥
    clash allowed v n p f found x y =
        y.unrefused f (subst (λ c. IsRefusalAsWithin allowed v n c f) (one v x.0.choice y.choice x.0.chosen y.chosen) x.0.fault)

    pub one_answer : (allowed : Allowed) (v : List ℕ) (n : ℕ) (p : List ℕ) (a b : Opened) → AnswerWithin allowed v n p a → AnswerWithin allowed v n p b → IsSameAnswer a b
    one_answer allowed v n p (opens k) (opens l) x y = let same = found_once allowed v n p (Some k) (Some l) x y in cc
    one_answer allowed v n p (opens k) no_key x y = let same = found_once allowed v n p (Some k) None x y in absurd (cc)
    one_answer allowed v n p (opens k) (refused g) x y = clash allowed v n p g (Some k) y x
    one_answer allowed v n p no_key (opens l) x y = let same = found_once allowed v n p None (Some l) x y in absurd (cc)
    one_answer allowed v n p no_key no_key x y = tt
    one_answer allowed v n p no_key (refused g) x y = clash allowed v n p g None y x
    one_answer allowed v n p (refused f) (opens l) x y = clash allowed v n p f (Some l) x y
    one_answer allowed v n p (refused f) no_key x y = clash allowed v n p f None x y
    one_answer allowed v n p (refused f) (refused g) x y = least_once open_key (IsRefusalWithin allowed v n) f g x y

-- ---- so a call's answer is the only one

ok_agrees : (found : Option (List ℕ)) (a : Opened) → IsSameAnswer a (opened_to found) → Agrees a (Ok found)
ok_agrees (Some k) (opens l) e = ap Some (sym e)
ok_agrees (Some k) no_key e = absurd e
ok_agrees (Some k) (refused f) e = e
ok_agrees None (opens l) e = absurd e
ok_agrees None no_key e = refl
ok_agrees None (refused f) e = e

-- a refusal by a fault of the volume's own
own_agrees : (f : OpenFault) (a : Opened) → IsOwn f → IsSameAnswer a (refused f) → Agrees a (Err f)
own_agrees f (refused g) own e = own.same g e
own_agrees f other own e = absurd e

-- the device's failure and a failed allocation agree with each answer
device_agrees : (a : Opened) → Agrees a (Err Device)
device_agrees (opens k) = tt
device_agrees no_key = tt
device_agrees (refused g) = tt

memory_agrees : (a : Opened) → Agrees a (Err Memory)
memory_agrees (opens k) = tt
memory_agrees no_key = tt
memory_agrees (refused g) = tt

pub err_agrees : (allowed : Allowed) (v : List ℕ) (n : ℕ) (p : List ℕ) → ((a b : Opened) → AnswerWithin allowed v n p a → AnswerWithin allowed v n p b → IsSameAnswer a b)
    → (f : OpenFault) → IsRefusedByWithin allowed v n p f → (a : Opened) → AnswerWithin allowed v n p a → Agrees a (Err f)
err_agrees allowed v n p one f why a y = elim (ending f) [
  | inl device ↦ subst (λ g. Agrees a (Err g)) (sym device) (device_agrees a)
  | inr other ↦ (elim other [
    | inl memory ↦ subst (λ g. Agrees a (Err g)) (sym memory) (memory_agrees a)
    | inr own ↦ own_agrees f a own (one a (refused f) y (own.refused allowed v n p why))
  ])
]

pub agrees : (allowed : Allowed) (v : List ℕ) (n : ℕ) (p : List ℕ) → ((a b : Opened) → AnswerWithin allowed v n p a → AnswerWithin allowed v n p b → IsSameAnswer a b)
    → (r : Result (Option (List ℕ)) OpenFault) → IfOk r (λ found. AnswerWithin allowed v n p (opened_to found)) → IfErr r (IsRefusedByWithin allowed v n p)
    → (a : Opened) → AnswerWithin allowed v n p a → Agrees a r
agrees allowed v n p one (Ok found) gives why a y = ok_agrees found a (one a (opened_to found) y gives)
agrees allowed v n p one (Err f) gives why a y = err_agrees allowed v n p one f why a y
