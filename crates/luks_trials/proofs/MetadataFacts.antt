-- Which keyslots of metadata open, by the plan that was read of one.
use Rattle.std.proofs.Common.{◌≡◌, ◌↔◌, ℕ, ◌*◌, ◌≤◌, List, Bool, true, false, Option, Some, unwrap_or, refl, sym, ap, subst, ◌∙◌, arith}
use Rattle.serde_json.specs.Data.{Data}
use Rattle.luks_area.specs.declared.area.Area.{Area}
use Rattle.luks_meta.specs.Accepted.{IsMeta}
use Rattle.luks_meta.specs.Faults.{object_at}
use Rattle.luks_meta.specs.Says.{small_at}
use Rattle.luks_rules.proofs.AreaFaults.{accepted_none}
use Rattle.luks_rules.specs.declared.table.Member.TheVariants as name
use Rattle.luks_rules.specs.declared.table.Outer.TheVariants as outer
use Rattle.luks_rules.specs.declared.table.Section.TheVariants.{Keyslots}
use Rattle.luks_slot.specs.declared.allowed.Allowed.{Allowed}
use Rattle.luks_slot.specs.declared.plan.AreaCipher.{AreaCipher}
use Rattle.luks_slot.specs.declared.plan.AreaCipher.TheVariants.{Apart, Whole}
use Rattle.luks_slot.specs.declared.plan.Derivation.{Derivation}
use Rattle.luks_slot.specs.declared.plan.Derivation.TheVariants.{Pbkdf2, Argon2}
use Rattle.luks_slot.specs.declared.plan.SlotPlan.{SlotPlan}
use Rattle.luks_slot.specs.Ciphers.{cipher_of, is_size_of}
use Rattle.luks_slot.specs.Opening.{area_key_by}
use Rattle.luks_slot.specs.Refusal.{is_allowed_cipher, is_argon2, is_argon2_refused, is_known_derivation, is_known_hash}
use Rattle.luks_reading.proofs.Luks2Plans.{one_luks2_plan, IsOnly}
use Rattle.luks_reading.proofs.PlanFacts.{no_pbkdf2}
use Rattle.luks_reading.proofs.SamePlans.{same_answer, same_refusal_within, SameFields}
use Rattle.luks_reading.specs.Plans.{HasLuks2Plan, IsLuks2Derivation}
use Rattle.luks_trials.specs.Alike.{IsAlike, IsAlikeCipher, IsAlikeDerivation}
use Rattle.luks_trials.specs.Metadata.{OpensAt}
use Rattle.luks_trials.specs.Trials.{most_stripes, most_turns, IsCheapDerivation, IsCheapPlan, IsOpenedPlan}

-- ---- plans that say the same open alike

alike_as : (allowed : Allowed) (v p : List ℕ) (a b : SlotPlan) → SameFields a b → (IsCheapPlan b → IsCheapPlan a) → IsOpenedPlan allowed b v p → IsOpenedPlan allowed a v p
alike_as allowed v p a b same cheap x = record {
  cheap = cheap x.cheap;
  key = x.key;
  opens = record {
    inside = (let start = same.start in let len = same.len in let inside = x.opens.inside in omega (arith, start, len, inside));
    accepted = same_refusal_within allowed a b same ∙ x.opens.accepted;
    is = x.opens.is ∙ sym (same_answer a b v p same);
  };
}

-- ---- the one plan of a keyslot

same_number : (o : Option ℕ) (a b : ℕ) → o ≡ Some a → o ≡ Some b → a ≡ b
same_number o a b p q = ap (λ v. unwrap_or v a) (sym p ∙ q)

same_object : (o : Option Data) (a b : Data) → o ≡ Some a → o ≡ Some b → a ≡ b
same_object o a b p q = ap (λ v. unwrap_or v a) (sym p ∙ q)

cost_same : (d : Data) (a b : Derivation) → IsLuks2Derivation d a → IsLuks2Derivation d b → IsCheapDerivation a → IsCheapDerivation b
cost_same d (Pbkdf2 k i s) (Pbkdf2 l j t) x y few = subst (λ (m : ℕ). m ≤ most_turns) (same_number (small_at d outer.Kdf name.Iterations) i j x.2 y.2) few
cost_same d (Pbkdf2 k i s) (Argon2 c) x y few = absurd (no_pbkdf2 d c y x.0)
cost_same d (Argon2 c) (Pbkdf2 k i s) x y few = absurd (no_pbkdf2 d c x y.0)
cost_same d (Argon2 c) (Argon2 f) x y few =
    let time = same_number (small_at d outer.Kdf name.Time) c.time f.time x.1 y.1 in
    let memory = same_number (small_at d outer.Kdf name.Memory) c.memory f.memory x.2 y.2 in
    subst (λ (m : ℕ). f.time * m ≤ most_turns) memory (subst (λ (t : ℕ). t * c.memory ≤ most_turns) time few)

module _ (json : List ℕ) (j : Data) (n : ℕ) (only : IsOnly json j n) (a b : SlotPlan) (x : HasLuks2Plan json n a) (y : HasLuks2Plan json n b) where
  same_plan : SameFields b a
  same_plan = one_luks2_plan json j n b a only y x

  derivation_there : IsLuks2Derivation y.object a.derivation
  derivation_there =
      let ex : x.value ≡ j = sym (only.value x.value x.holds) in
      let ey : y.value ≡ j = sym (only.value y.value y.holds) in
      let there_x = subst (λ i. object_at i Keyslots n ≡ Some x.object) ex x.there in
      let there_y = subst (λ i. object_at i Keyslots n ≡ Some y.object) ey y.there in
      let same : x.object ≡ y.object = same_object (object_at j Keyslots n) x.object y.object there_x there_y in
      subst (λ o. IsLuks2Derivation o a.derivation) same x.is.derivation

  pub cheap_same : IsCheapPlan a → IsCheapPlan b
  cheap_same cheap = record {
    derivation = cost_same y.object a.derivation b.derivation derivation_there y.is.derivation cheap.derivation;
    digest = subst (λ (m : ℕ). m ≤ most_turns) (sym same_plan.digest_iterations) cheap.digest;
    stripes = subst (λ (m : ℕ). m ≤ most_stripes) (sym same_plan.stripes) cheap.stripes;
  }

-- what is told of the plan is told of the metadata
pub opens_at : (allowed : Allowed) (v p json : List ℕ) (n : ℕ) (j : Data) → IsMeta json j → IsOnly json j n → (plan : SlotPlan) → HasLuks2Plan json n plan
    → IsOpenedPlan allowed plan v p ↔ OpensAt allowed v p json n
opens_at allowed v p json n j meta only plan has = (
  (λ x. record { faultless = accepted_none json j meta; plan = plan; is = has; opened = x }),
  (λ x. alike_as allowed v p plan x.plan (one_luks2_plan json j n plan x.plan only has x.is) (cheap_same json j n only x.plan plan x.is has) x.opened),
)

-- ---- plans of two metadata that say the same

argon2_of : (a b : Derivation) → IsAlikeDerivation a b → is_argon2 a ≡ is_argon2 b
argon2_of (Pbkdf2 k i s) (Pbkdf2 l j t) x = refl
argon2_of (Pbkdf2 k i s) (Argon2 c) x = absurd x
argon2_of (Argon2 c) (Pbkdf2 k i s) x = absurd x
argon2_of (Argon2 c) (Argon2 f) x = refl

refused_of : (a b : Derivation) (kib : ℕ) → IsAlikeDerivation a b → is_argon2_refused kib a ≡ is_argon2_refused kib b
refused_of (Pbkdf2 k i s) (Pbkdf2 l j t) kib x = refl
refused_of (Pbkdf2 k i s) (Argon2 c) kib x = absurd x
refused_of (Argon2 c) (Pbkdf2 k i s) kib x = absurd x
refused_of (Argon2 c) (Argon2 f) kib x = (let memory = x.2 in let cpus = x.3 in let salt = x.4 in simp (memory, cpus, salt))

known_of : (a b : Derivation) → IsAlikeDerivation a b → (older : Bool) → is_known_derivation older a ≡ is_known_derivation older b
known_of (Pbkdf2 k i s) (Pbkdf2 l j t) x older = ap (is_known_hash older) x.0
known_of (Pbkdf2 k i s) (Argon2 c) x older = absurd x
known_of (Argon2 c) (Pbkdf2 k i s) x older = absurd x
known_of (Argon2 c) (Argon2 f) x older = refl

key_of : (a b : Derivation) → IsAlikeDerivation a b → (n : ℕ) (p : List ℕ) → area_key_by a n p ≡ area_key_by b n p
key_of (Pbkdf2 k i s) (Pbkdf2 l j t) x n p = (let hash = x.0 in let turns = x.1 in let salt = x.2 in simp (hash, turns, salt))
key_of (Pbkdf2 k i s) (Argon2 c) x n p = absurd x
key_of (Argon2 c) (Pbkdf2 k i s) x n p = absurd x
key_of (Argon2 c) (Argon2 f) x n p =
    (let kind = x.0 in let time = x.1 in let memory = x.2 in let cpus = x.3 in let salt = x.4 in simp (kind, time, memory, cpus, salt))

cost_of : (a b : Derivation) → IsAlikeDerivation a b → IsCheapDerivation b → IsCheapDerivation a
cost_of (Pbkdf2 k i s) (Pbkdf2 l j t) x few = subst (λ (m : ℕ). m ≤ most_turns) (sym x.1) few
cost_of (Pbkdf2 k i s) (Argon2 c) x few = absurd x
cost_of (Argon2 c) (Pbkdf2 k i s) x few = absurd x
cost_of (Argon2 c) (Argon2 f) x few =
    subst (λ (m : ℕ). c.time * m ≤ most_turns) (sym x.2) (subst (λ (t : ℕ). t * f.memory ≤ most_turns) (sym x.1) few)

allowed_of : (a b : AreaCipher) → IsAlikeCipher a b → (older : Bool) → is_allowed_cipher older a ≡ is_allowed_cipher older b
allowed_of (Apart n m) b x older = absurd x
allowed_of (Whole t) (Apart n m) x older = absurd x
allowed_of (Whole t) (Whole u) x false = (let text = x in simp text)
allowed_of (Whole t) (Whole u) x true = (let text = x in simp text)

sector_cipher_of : (a b : AreaCipher) → IsAlikeCipher a b → cipher_of a ≡ cipher_of b
sector_cipher_of (Apart n m) b x = absurd x
sector_cipher_of (Whole t) (Apart n m) x = absurd x
sector_cipher_of (Whole t) (Whole u) x = (let text = x in simp text)

alike_fields : (a b : SlotPlan) → IsAlike a b → SameFields a b
alike_fields a b x = record {
  argon2 = argon2_of a.derivation b.derivation x.derivation;
  argon2_refused = λ kib. refused_of a.derivation b.derivation kib x.derivation;
  known = known_of a.derivation b.derivation x.derivation;
  key = key_of a.derivation b.derivation x.derivation;
  cipher = allowed_of a.cipher b.cipher x.cipher;
  sector_cipher = sector_cipher_of a.cipher b.cipher x.cipher;
  key_size = λ n. ap (λ c. is_size_of c n) (sector_cipher_of a.cipher b.cipher x.cipher);
  start = ap (λ (q : Area). q.start) x.area;
  len = ap (λ (q : Area). q.len) x.area;
  area_key_bytes = x.area_key_bytes;
  key_bytes = x.key_bytes;
  stripes = x.stripes;
  splitter_hash = x.splitter_hash;
  digest_hash = x.digest.hash;
  digest_iterations = x.digest.iterations;
  digest_salt = x.digest.salt;
  digest_stored = x.digest.stored;
}

pub alike_opens : (allowed : Allowed) (v p : List ℕ) (a b : SlotPlan) → IsAlike a b → IsOpenedPlan allowed b v p → IsOpenedPlan allowed a v p
alike_opens allowed v p a b x = alike_as allowed v p a b (alike_fields a b x) (λ cheap. record {
  derivation = cost_of a.derivation b.derivation x.derivation cheap.derivation;
  digest = subst (λ (m : ℕ). m ≤ most_turns) (sym x.digest.iterations) cheap.digest;
  stripes = subst (λ (m : ℕ). m ≤ most_stripes) (sym x.stripes) cheap.stripes;
})
