-- Opening a volume has one answer.
use Rattle.std.proofs.Common.{◌≡◌, ℕ, List, [], ◌∷◌, ◌++◌, All, Option, Some, None, Result, Ok, Err, IfOk, IfErr, inl, inr, refl, ap, subst, sym, ◌∙◌}
use Rattle.std.proofs.lemmas.List.Elements.{All-head, All-tail}
use Rattle.luks2_header.specs.Selection.{Choice, luks1, luks2, nothing}
use Rattle.luks2_header.proofs.ChoiceFacts.{choices_agree}
use Rattle.luks_rules.proofs.AreaFaults.{one_value}
use Rattle.luks_slot.specs.declared.allowed.Allowed.{Allowed}
use Rattle.luks_reading.specs.declared.open_fault.OpenFault.{OpenFault}
use Rattle.luks_reading.specs.declared.open_fault.OpenFault.TheVariants.{Device, Memory}
use Rattle.luks_reading.specs.Answer.{open_key, AnswerWithin, opens}
use Rattle.luks_reading.specs.Agreement.{AgreesUnlocked, IsSameUnlocking}
use Rattle.luks_reading.specs.Header.{json_at}
use Rattle.luks_reading.specs.Unlocking.{luks2_order, GivesFirst, IsVolumeRefusedBy, IsVolumeRefusal, IsVolumeRefusalAs, IsOrderAs, DoesNotOpen, Unlocked, UnlockAnswer, Unlocks, locked, gives}
use Rattle.luks_reading.proofs.OpenFaults.{IsOwn, ending}
use Rattle.luks_reading.proofs.OneAnswer.{least_once}
use Rattle.luks_reading.proofs.VolumeLaws.{one_answer}

-- ---- the first of a list is one

later_shut : (S : ℕ → Type 0) (xs ys : List ℕ) (n : ℕ) → All S (xs ++ n ∷ ys) → S n
later_shut S [] ys n shut = All-head S n ys shut
later_shut S (x ∷ xs) ys n shut = later_shut S xs ys n (All-tail S x (xs ++ n ∷ ys) shut)

-- the heads and the tails of lists that are one
same_head : (x y : ℕ) (xs ys : List ℕ) → x ∷ xs ≡ y ∷ ys → x ≡ y
same_head x y xs ys e = cc

same_tail : (x y : ℕ) (xs ys : List ℕ) → x ∷ xs ≡ y ∷ ys → xs ≡ ys
same_tail x y xs ys e = cc

same_first : (S : ℕ → Type 0) (O : ℕ → List ℕ → Type 0) (xs ys us ws : List ℕ) (n m : ℕ) (k l : List ℕ)
    → ((i : ℕ) (key : List ℕ) → S i → O i key → ⊥)
    → xs ++ n ∷ us ≡ ys ++ m ∷ ws → All S xs → All S ys → O n k → O m l → n ≡ m
same_first S O [] [] us ws n m k l apart e sx sy on om = same_head n m us ws e
same_first S O [] (y ∷ ys) us ws n m k l apart e sx sy on om =
    let same : n ≡ y = same_head n y us (ys ++ m ∷ ws) e in
    absurd (apart n k (subst S (sym same) (All-head S y ys sy)) on)
same_first S O (x ∷ xs) [] us ws n m k l apart e sx sy on om =
    let same : x ≡ m = same_head x m (xs ++ n ∷ us) ws e in
    absurd (apart m l (subst S same (All-head S x xs sx)) om)
same_first S O (x ∷ xs) (y ∷ ys) us ws n m k l apart e sx sy on om =
    same_first S O xs ys us ws n m k l apart (same_tail x y (xs ++ n ∷ us) (ys ++ m ∷ ws) e) (All-tail S x xs sx) (All-tail S y ys sy) on om

pair_is : (x y : ℕ × List ℕ) → x.0 ≡ y.0 → x.1 ≡ y.1 → x ≡ y
pair_is x y p q = ap (λ n. (n, x.1)) p ∙ ap (λ k. (y.0, k)) q

gives_once : (S : ℕ → Type 0) (O : ℕ → List ℕ → Type 0) (order : List ℕ) (a b : Option (ℕ × List ℕ))
    → ((i : ℕ) (key : List ℕ) → S i → O i key → ⊥) → ((i : ℕ) (k l : List ℕ) → O i k → O i l → k ≡ l)
    → GivesFirst S O order a → GivesFirst S O order b → a ≡ b
gives_once S O order None None apart one x y = refl
gives_once S O order None (Some f) apart one x y =
    absurd (apart f.0 f.1 (later_shut S y.earlier y.later f.0 (subst (All S) y.stands x)) y.key)
gives_once S O order (Some f) None apart one x y =
    absurd (apart f.0 f.1 (later_shut S x.earlier x.later f.0 (subst (All S) x.stands y)) x.key)
gives_once S O order (Some f) (Some g) apart one x y =
    let number : f.0 ≡ g.0 = same_first S O x.earlier y.earlier x.later y.later f.0 g.0 f.1 g.1 apart (sym x.stands ∙ y.stands) x.all_shut y.all_shut x.key y.key in
    let key : f.1 ≡ g.1 = one g.0 f.1 g.1 (subst (λ n. O n f.1) number x.key) y.key in
    ap Some (pair_is f g number key)

-- ---- one answer

same_order : (v : List ℕ) (c : Choice) (a b : List ℕ) → IsOrderAs v c a → IsOrderAs v c b → a ≡ b
same_order v luks1 a b x y = x ∙ sym y
same_order v (luks2 o copies) a b x y =
    x.1.1 ∙ ap luks2_order (one_value (json_at v o) x.0 y.0 x.1.0 y.1.0) ∙ sym y.1.1
same_order v nothing a b x y = absurd x

unlocks_once : (allowed : Allowed) (v p : List ℕ) (a b : Option (ℕ × List ℕ)) → Unlocks allowed v p a → Unlocks allowed v p b → a ≡ b
unlocks_once allowed v p a b x y =
    let same : y.order ≡ x.order = same_order v x.choice y.order x.order
    (subst (λ c. IsOrderAs v c y.order) (choices_agree v y.choice x.choice y.chosen x.chosen) y.ordered) x.ordered in
    gives_once (DoesNotOpen allowed v p) (λ n k. AnswerWithin allowed v n p (opens k)) x.order a b
    (λ n k shut key. shut k key) (λ n k l f g. one_answer allowed v n p (opens k) (opens l) f g)
    x.gives (subst (λ order. GivesFirst (DoesNotOpen allowed v p) (λ n k. AnswerWithin allowed v n p (opens k)) order b) same y.gives)

clash : (allowed : Allowed) (v p : List ℕ) (f : OpenFault) (found : Option (ℕ × List ℕ)) → UnlockAnswer allowed v p (locked f) → Unlocks allowed v p found → ⊥
clash allowed v p f found x y =
    y.unrefused f (subst (λ c. IsVolumeRefusalAs v c f) (choices_agree v x.0.choice y.choice x.0.chosen y.chosen) x.0.fault)

pub one_unlocking : (allowed : Allowed) (v p : List ℕ) (a b : Unlocked) → UnlockAnswer allowed v p a → UnlockAnswer allowed v p b → IsSameUnlocking a b
one_unlocking allowed v p (gives found) (gives other) x y = unlocks_once allowed v p found other x y
one_unlocking allowed v p (gives found) (locked g) x y = clash allowed v p g found y x
one_unlocking allowed v p (locked f) (gives other) x y = clash allowed v p f other x y
one_unlocking allowed v p (locked f) (locked g) x y = least_once open_key (IsVolumeRefusal v) f g x y

-- ---- so a call's answer is the only one

own_agrees : (f : OpenFault) (a : Unlocked) → IsOwn f → IsSameUnlocking a (locked f) → AgreesUnlocked a (Err f)
own_agrees f (gives found) own e = absurd e
own_agrees f (locked g) own e = own.same g e

device_agrees : (a : Unlocked) → AgreesUnlocked a (Err Device)
device_agrees (gives found) = tt
device_agrees (locked g) = tt

memory_agrees : (a : Unlocked) → AgreesUnlocked a (Err Memory)
memory_agrees (gives found) = tt
memory_agrees (locked g) = tt

ok_agrees : (found : Option (ℕ × List ℕ)) (a : Unlocked) → IsSameUnlocking a (gives found) → AgreesUnlocked a (Ok found)
ok_agrees found (gives other) e = sym e
ok_agrees found (locked g) e = e

pub err_agrees : (allowed : Allowed) (v p : List ℕ) (f : OpenFault) → IsVolumeRefusedBy v f → (a : Unlocked) → UnlockAnswer allowed v p a → AgreesUnlocked a (Err f)
err_agrees allowed v p f why a y = elim (ending f) [
  | inl device ↦ subst (λ g. AgreesUnlocked a (Err g)) (sym device) (device_agrees a)
  | inr other ↦ (elim other [
    | inl memory ↦ subst (λ g. AgreesUnlocked a (Err g)) (sym memory) (memory_agrees a)
    | inr own ↦ own_agrees f a own (one_unlocking allowed v p a (locked f) y (own.locked v why))
  ])
]

pub agrees : (allowed : Allowed) (v p : List ℕ) (r : Result (Option (ℕ × List ℕ)) OpenFault) → IfOk r (Unlocks allowed v p) → IfErr r (IsVolumeRefusedBy v)
    → (a : Unlocked) → UnlockAnswer allowed v p a → AgreesUnlocked a r
agrees allowed v p (Ok found) opened why a y = ok_agrees found a (one_unlocking allowed v p a (gives found) y opened)
agrees allowed v p (Err f) opened why a y = err_agrees allowed v p f why a y
