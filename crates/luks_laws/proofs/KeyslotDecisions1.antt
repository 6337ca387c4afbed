-- A keyslot of a LUKS1 volume has a refusal or none.
use Rattle.std.proofs.Common.{◌≡◌, Bool, true, false, ℕ, List, [], ◌∷◌, ◌++◌, map, refl, sym, ap, ◌∙◌, arith, inl, inr}
use Rattle.std.proofs.lemmas.Bool.{cases_eq, cases_lt}
use Rattle.luks1_header.specs.declared.fault.HeadFault.{HeadFault}
use Rattle.luks1_header.specs.declared.fault.HeadFault.TheVariants as head
use Rattle.luks1_header.specs.declared.fault.IterationsOf.TheVariants as of
use Rattle.luks1_header.specs.Header1.{active_word, disabled_word, entry, entry_stripes}
use Rattle.luks_rules.specs.Faults.{Among}
use Rattle.luks_slot.specs.Allowance.{without_memory}
use Rattle.luks_slot.specs.declared.allowed.Allowed.{Allowed}
use Rattle.luks_slot.specs.declared.plan.AreaCipher.{AreaCipher}
use Rattle.luks_slot.specs.declared.plan.AreaCipher.TheVariants.{Apart, Whole}
use Rattle.luks_slot.specs.declared.plan.Derivation.{Derivation}
use Rattle.luks_slot.specs.declared.plan.Derivation.TheVariants.{Argon2, Pbkdf2}
use Rattle.luks_slot.specs.declared.plan.SlotPlan.{SlotPlan}
use Rattle.luks_slot.specs.Refusal.{is_allowed_cipher, is_argon2_refused, is_key_size, is_known_derivation, is_known_hash, slot_refusal_within}
use Rattle.luks_reading.specs.declared.open_fault.OpenFault.{OpenFault}
use Rattle.luks_reading.specs.declared.open_fault.OpenFault.TheVariants as opening
use Rattle.luks_reading.specs.Answer.{IsLuks1HeadRefusal, IsLuks1Refusal, open_key}
use Rattle.luks_reading.specs.Plans.{HasLuks1Plan, IsLuks1Cipher, IsLuks1Derivation}
use Rattle.luks_laws.proofs.DecidedFacts.{among_left, among_map, among_right, both_decided, Decided, LeastOrNone, least_or_none, less_decided, at_most_decided}
use Rattle.luks_laws.proofs.HeaderDecisions1.{among_texts, head_fault_decided, lacks_iterations_decided, unknown_state_decided, whole_faults}
use Rattle.luks_laws.proofs.PlanDecisions.{among_slots, AreAlike, area_past_decided, of_keyslot, PlanOrNone, refused_within_decided, slot_faults}
use Rattle.luks_laws.proofs.PlanFacts1.{has_luks1_plan}

-- ---- the header

head_refusal_decided : (h : List ℕ) (n : ℕ) (f : HeadFault) → Decided (IsLuks1HeadRefusal h n f)
head_refusal_decided h n head.TooShort = inr (λ bad. bad.0)
head_refusal_decided h n head.NotLuks = both_decided _ _ (inl tt) (head_fault_decided h head.NotLuks)
head_refusal_decided h n head.Version = both_decided _ _ (inl tt) (head_fault_decided h head.Version)
head_refusal_decided h n head.NoSoundCopy = inr (λ bad. bad.0)
head_refusal_decided h n (head.Text t) = both_decided _ _ (inl tt) (head_fault_decided h (head.Text t))
head_refusal_decided h n head.Uuid = both_decided _ _ (inl tt) (head_fault_decided h head.Uuid)
head_refusal_decided h n (head.SlotState m) = both_decided _ _ (less_decided n 8) (both_decided _ _ (cases_eq m n) (unknown_state_decided (entry h n)))
head_refusal_decided h n head.KeyBytes = both_decided _ _ (inl tt) (head_fault_decided h head.KeyBytes)
head_refusal_decided h n (head.Stripes m) = both_decided _ _ (less_decided n 8) (both_decided _ _ (cases_eq m n) (cases_eq (entry_stripes (entry h n)) 0))
head_refusal_decided h n (head.Iterations (of.Slot m)) = both_decided _ _ (less_decided n 8) (both_decided _ _ (cases_eq m n) (lacks_iterations_decided (entry h n)))
head_refusal_decided h n (head.Iterations of.Digest) = both_decided _ _ (inl tt) (head_fault_decided h (head.Iterations of.Digest))
head_refusal_decided h n head.Device = inr (λ bad. bad.0)
head_refusal_decided h n head.Memory = inr (λ bad. bad.0)

-- the faults that may stand
of_entry : ℕ → List HeadFault
of_entry n = head.SlotState n ∷ head.Stripes n ∷ head.Iterations (of.Slot n) ∷ []

heads_of : ℕ → List HeadFault
heads_of n = whole_faults ++ of_entry n

among_whole : (n : ℕ) (f : HeadFault) → Among f whole_faults → Among f (heads_of n)
unfolding heads_of
among_whole n f at = among_left f whole_faults (of_entry n) at

among_entry : (n : ℕ) (f : HeadFault) → Among f (of_entry n) → Among f (heads_of n)
unfolding heads_of
among_entry n f at = among_right f whole_faults (of_entry n) at

among_heads : (h : List ℕ) (n : ℕ) (f : HeadFault) → IsLuks1HeadRefusal h n f → Among f (heads_of n)
unfolding whole_faults of_entry
among_heads h n head.TooShort bad = absurd bad.0
among_heads h n head.NotLuks bad = among_whole n _ (inr (inl refl))
among_heads h n head.Version bad = among_whole n _ (inr (inr (inl refl)))
among_heads h n head.NoSoundCopy bad = absurd bad.0
among_heads h n (head.Text t) bad = among_whole n _ (among_texts t)
among_heads h n head.Uuid bad = among_whole n _ (inr (inr (inr (inr (inr (inr (inr (inl refl))))))))
among_heads h n (head.SlotState m) bad = among_entry n _ (inl (ap head.SlotState bad.1.0))
among_heads h n head.KeyBytes bad = among_whole n _ (inr (inr (inr (inr (inr (inr (inr (inr (inl refl)))))))))
among_heads h n (head.Stripes m) bad = among_entry n _ (inr (inl (ap head.Stripes bad.1.0)))
among_heads h n (head.Iterations (of.Slot m)) bad = among_entry n _ (inr (inr (inl (ap (λ k. head.Iterations (of.Slot k)) bad.1.0))))
among_heads h n (head.Iterations of.Digest) bad = among_whole n _ (inr (inr (inr (inr (inr (inr (inr (inr (inr (inl refl))))))))))
among_heads h n head.Device bad = absurd bad.0
among_heads h n head.Memory bad = absurd bad.0

-- ---- the plan

same_refused : (h e : List ℕ) (a b : Derivation) (allowed : Allowed) → IsLuks1Derivation h e a → IsLuks1Derivation h e b → is_argon2_refused allowed.memory a ≡ is_argon2_refused allowed.memory b
same_refused h e (Pbkdf2 k i s) (Pbkdf2 l j t) allowed x y = refl
same_refused h e (Pbkdf2 k i s) (Argon2 c) allowed x y = absurd y
same_refused h e (Argon2 c) b allowed x y = absurd x

same_known : (older : Bool) (h e : List ℕ) (a b : Derivation) → IsLuks1Derivation h e a → IsLuks1Derivation h e b → is_known_derivation older a ≡ is_known_derivation older b
same_known older h e (Pbkdf2 k i s) (Pbkdf2 l j t) x y = ap (λ name. is_known_hash older name) (x.0 ∙ sym y.0)
same_known older h e (Pbkdf2 k i s) (Argon2 c) x y = absurd y
same_known older h e (Argon2 c) b x y = absurd x

same_cipher : (older : Bool) (n m : ℕ) (h : List ℕ) (a b : AreaCipher) → n ≡ m → IsLuks1Cipher h a → IsLuks1Cipher h b
    → (is_allowed_cipher older a ≡ is_allowed_cipher older b) × (is_key_size a n ≡ is_key_size b m)
same_cipher false n m h (Apart c e) (Apart k l) size x y = let name = x.0 ∙ sym y.0 in let mode = x.1 ∙ sym y.1 in (simp (name, mode), simp (name, mode, size))
same_cipher true n m h (Apart c e) (Apart k l) size x y = let name = x.0 ∙ sym y.0 in let mode = x.1 ∙ sym y.1 in (simp (name, mode), simp (name, mode, size))
same_cipher older n m h (Apart c e) (Whole t) size x y = absurd y
same_cipher older n m h (Whole t) b size x y = absurd x

-- two plans of a keyslot are refused alike
same_within : (allowed : Allowed) (h : List ℕ) (n : ℕ) (a b : SlotPlan) → HasLuks1Plan h n a → HasLuks1Plan h n b → slot_refusal_within allowed a ≡ slot_refusal_within allowed b
same_within allowed h n a b x y =
    let refused = same_refused h (entry h n) a.derivation b.derivation allowed x.is.derivation y.is.derivation in
    let known = same_known allowed.older h (entry h n) a.derivation b.derivation x.is.derivation y.is.derivation in
    let bytes : a.area_key_bytes ≡ b.area_key_bytes = x.is.area_key_bytes ∙ sym y.is.area_key_bytes in
    let both = same_cipher allowed.older a.area_key_bytes b.area_key_bytes h a.cipher b.cipher bytes x.is.cipher y.is.cipher in
    let cipher = both.0 in
    let size = both.1 in
    let splitter = x.is.splitter_hash ∙ sym y.is.splitter_hash in
    let digest = x.is.digest.hash ∙ sym y.is.digest.hash in
    simp (refused, known, cipher, size, splitter, digest)

module _ (h : List ℕ) (n : ℕ) where
  -- a keyslot has a plan where it has a number below 8
  pub find_plan : PlanOrNone (HasLuks1Plan h n)
  find_plan = elim (cases_lt n 8) [
    | inl low ↦ inl (has_luks1_plan h n low)
    | inr high ↦ inr (λ plan x. let low = x.numbered in absurd (omega (arith, low, high)))
  ]

  -- its plans are alike
  pub alike_plans : (a b : SlotPlan) → HasLuks1Plan h n a → HasLuks1Plan h n b → AreAlike a b
  alike_plans a b x y = record {
    start = x.is.start ∙ sym y.is.start;
    len = x.is.len ∙ sym y.is.len;
    refusal_within = λ allowed. same_within allowed h n a b x y;
  }

-- ---- the keyslot

luks1_refusal_decided : (older : Bool) (h : List ℕ) (total n : ℕ) (f : OpenFault) → Decided (IsLuks1Refusal older h total n f)
luks1_refusal_decided older h total n (opening.Head f) = head_refusal_decided h n f
luks1_refusal_decided older h total n (opening.Meta f) = inr (λ bad. bad)
luks1_refusal_decided older h total n opening.NoSuchSlot = at_most_decided 8 n
luks1_refusal_decided older h total n opening.SlotFree = both_decided _ _ (less_decided n 8) (cases_eq (active_word (entry h n)) disabled_word)
luks1_refusal_decided older h total n opening.Outside = area_past_decided (HasLuks1Plan h n) (find_plan h n) (alike_plans h n) total
luks1_refusal_decided older h total n (opening.Slot f) = refused_within_decided (HasLuks1Plan h n) (find_plan h n) (alike_plans h n) (without_memory older) f
luks1_refusal_decided older h total n opening.Device = inr (λ bad. bad)
luks1_refusal_decided older h total n opening.Memory = inr (λ bad. bad)

open_candidates : ℕ → List OpenFault
open_candidates n = map opening.Head (heads_of n) ++ of_keyslot

among_own : (n : ℕ) (f : OpenFault) → Among f of_keyslot → Among f (open_candidates n)
unfolding open_candidates
among_own n f at = among_right f (map opening.Head (heads_of n)) of_keyslot at

among_opens : (older : Bool) (h : List ℕ) (total n : ℕ) (f : OpenFault) → IsLuks1Refusal older h total n f → Among f (open_candidates n)
unfolding open_candidates of_keyslot
among_opens older h total n (opening.Head f) bad = among_left _ (map opening.Head (heads_of n)) of_keyslot (among_map opening.Head f (heads_of n) (among_heads h n f bad))
among_opens older h total n (opening.Meta f) bad = absurd bad
among_opens older h total n opening.NoSuchSlot bad = among_own n _ (inl refl)
among_opens older h total n opening.SlotFree bad = among_own n _ (inr (inl refl))
among_opens older h total n opening.Outside bad = among_own n _ (inr (inr (inl refl)))
among_opens older h total n (opening.Slot f) bad = among_own n _ (inr (inr (inr (among_map opening.Slot f slot_faults (among_slots f)))))
among_opens older h total n opening.Device bad = absurd bad
among_opens older h total n opening.Memory bad = absurd bad

pub luks1_refusal_or_none : (older : Bool) (h : List ℕ) (total n : ℕ) → LeastOrNone OpenFault open_key (IsLuks1Refusal older h total n)
luks1_refusal_or_none older h total n =
    least_or_none OpenFault open_key (IsLuks1Refusal older h total n) (luks1_refusal_decided older h total n) (open_candidates n) (among_opens older h total n)
