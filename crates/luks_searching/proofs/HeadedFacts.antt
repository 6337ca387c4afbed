-- Which keyslots open of a volume with another header.
use Rattle.std.proofs.Common.{◌≡◌, ◌↔◌, ℕ, ◌+◌, ◌<◌, ◌≤◌, List, length, Option, Some, None, Result, Ok, Err, IfErr, IfNone, IfOk, IfSome, IsTrue, true, false, Bool, refl, sym, ap, subst, ◌∙◌, arith, if◌then◌else◌}
use Rattle.luks_area.specs.Ranges.{part}
use Rattle.luks_area.proofs.RangeFacts.{length-part_inside}
use Rattle.luks1_header.specs.Header1.{active_word, enabled_word, entry, entry_iterations, entry_stripes, mk_digest_iterations_of, IsCommon, IsEntry, IsLuks1}
use Rattle.luks1_header.specs.Written.{WritesLuks1}
use Rattle.luks1_header.specs.declared.luks1.Luks1.{Luks1}
use Rattle.luks1_header.specs.declared.luks1.Luks1Slot.{Luks1Slot}
use Rattle.luks1_header.specs.declared.luks1.SlotState.{SlotState}
use Rattle.luks1_header.specs.declared.luks1.SlotState.TheVariants.{Disabled, Enabled}
use Rattle.luks1_mending.specs.Made.{IsMade}
use Rattle.luks1_mending.specs.Taken.{IsFieldFault}
use Rattle.luks1_mending.specs.declared.given.Given.{Given}
use Rattle.luks1_mending.proofs.HeaderFacts.{made_header}
use Rattle.luks_slot.specs.Allowance.{none_allowed, without_memory}
use Rattle.luks_slot.specs.Ciphers.{cipher_of, keyed}
use Rattle.luks_slot.specs.Distance.{digest_of, slot_digest}
use Rattle.luks_slot.specs.Opening.{area_key, area_key_by, candidate, slot_key, stripes_in}
use Rattle.luks_slot.specs.Refusal.{is_argon2, slot_refusal}
use Rattle.luks_slot.proofs.RefusalFacts.{accepted_within, refusal_at_none}
use Rattle.luks_slot.specs.declared.fault.SlotFault.{SlotFault}
use Rattle.luks_slot.specs.declared.fault.SlotFault.TheVariants as slot
use Rattle.luks_slot.specs.declared.plan.Derivation.{Derivation}
use Rattle.luks_slot.specs.declared.plan.Derivation.TheVariants.{Argon2, Pbkdf2}
use Rattle.luks_slot.specs.declared.plan.SlotPlan.{SlotPlan}
use Rattle.luks_reading.specs.PlanAnswers.{IsOpenable}
use Rattle.luks_reading.specs.Plans.{HasLuks1Plan, IsLuks1Derivation, IsLuks1Plan}
use Rattle.luks_reading.specs.declared.open_fault.OpenFault.{OpenFault}
use Rattle.luks_reading.specs.declared.open_fault.OpenFault.TheVariants as fault
use Rattle.luks_reading.proofs.Luks1Plans.{one_luks1_plan}
use Rattle.luks_reading.proofs.SamePlans.{same_answer, same_refusal_within, SameFields}
use Rattle.luks1_rebuilding.specs.Gives.{IsRefusedKept}
use Rattle.luks1_rebuilding.specs.KeyAreas.{header_of}
use Rattle.luks1_rebuilding.specs.Tried.{IsMadeOf}
use Rattle.luks1_rebuilding.specs.Used.{any_slot, slot_at}
use Rattle.luks1_rebuilding.proofs.HeadedFacts.{area_is, header_is, made_headed}
use Rattle.luks1_rebuilding.proofs.MadeFacts.{behind}
use Rattle.luks1_rebuilding.proofs.OpeningFacts.{enabled_there, kept_entry_of, made_faultless, says_of, tells_opening, tells_shut}
use Rattle.luks1_rebuilding.proofs.PlanFacts.{plan_here, plan_there, SaysKept}
use Rattle.luks1_rebuilding.specs.Headed.{headed}
use Rattle.luks_searching.specs.Headed.{GivesDigest, GivesNoDigest, GivesOneDigest, IsCheap, OpensHeaded}
use Rattle.luks_trials.specs.Faults.{IsCutShort, IsCutWithoutMemory}
use Rattle.luks_trials.specs.Trials.{most_stripes, most_turns, IsCheapDerivation, IsCheapPlan, IsOpenedPlan, IsTriedPlan, TakesMemory}
use Rattle.luks_trials.specs.declared.fault.SearchFault.{SearchFault}
use Rattle.luks_trials.specs.declared.fault.SearchFault.TheVariants as search
use Rattle.luks_trials.specs.declared.tally.Tally.{Tally}

-- ---- plans that say the same give the same digest

same_back : {a b : SlotPlan} → SameFields a b → SameFields b a
same_back s = record {
  argon2 = sym s.argon2;
  argon2_refused = λ memory. sym (s.argon2_refused memory);
  known = λ older. sym (s.known older);
  key = λ n p. sym (s.key n p);
  cipher = λ older. sym (s.cipher older);
  sector_cipher = sym s.sector_cipher;
  key_size = λ n. sym (s.key_size n);
  start = sym s.start;
  len = sym s.len;
  area_key_bytes = sym s.area_key_bytes;
  key_bytes = sym s.key_bytes;
  stripes = sym s.stripes;
  splitter_hash = sym s.splitter_hash;
  digest_hash = sym s.digest_hash;
  digest_iterations = sym s.digest_iterations;
  digest_salt = sym s.digest_salt;
  digest_stored = sym s.digest_stored;
}

same_area_key : (a b : SlotPlan) (p : List ℕ) → SameFields a b → area_key a p ≡ area_key b p
unfolding area_key
same_area_key a b p s =
    ap (λ bytes. keyed (cipher_of a.cipher) bytes) (ap (λ n. area_key_by a.derivation n p) s.area_key_bytes ∙ s.key b.area_key_bytes p)
    ∙ ap (λ cipher. keyed cipher (area_key_by b.derivation b.area_key_bytes p)) s.sector_cipher

same_stripes : (a b : SlotPlan) (p area : List ℕ) → SameFields a b → stripes_in a (area_key b p) area ≡ stripes_in b (area_key b p) area
unfolding stripes_in
same_stripes a b p area s = simp (s.key_bytes, s.stripes)

same_candidate : (a b : SlotPlan) (area p : List ℕ) → SameFields a b → candidate a area p ≡ candidate b area p
unfolding candidate
same_candidate a b area p s =
    let keys = same_area_key a b p s in
    let stripes = same_stripes a b p area s in
    simp (keys, stripes, s.splitter_hash, s.key_bytes, s.stripes)

same_slot_digest : (a b : SlotPlan) (area p : List ℕ) → SameFields a b → slot_digest a area p ≡ slot_digest b area p
unfolding slot_digest digest_of
same_slot_digest a b area p s =
    let candidates = same_candidate a b area p s in
    simp (candidates, s.digest_hash, s.digest_iterations, s.digest_salt, s.digest_stored)

same_given : (a b : SlotPlan) (v p : List ℕ) → SameFields a b → slot_digest a (part v a.area.start a.area.len) p ≡ slot_digest b (part v b.area.start b.area.len) p
same_given a b v p s =
    same_slot_digest a b (part v a.area.start a.area.len) p s
    ∙ ap (λ at. slot_digest b (part v at a.area.len) p) s.start
    ∙ ap (λ size. slot_digest b (part v b.area.start size) p) s.len

-- ---- an enabled keyslot of it

module _ (v h : List ℕ) (long : length h ≡ 592) (room : 592 ≤ length v) (g : Given) (d : Luks1) (made : IsMade h (length v) g d)
    (n : ℕ) (lt : n < 8) (b : List ℕ) (put : WritesLuks1 b d) (s : Luks1Slot) (here : s ≡ slot_at d n) (on : s.state ≡ Enabled) (plan : SlotPlan)
    (is : (i e : List ℕ) → IsCommon i d.common → IsEntry e s → IsLuks1Plan i e plan)
    (judged : (i e : List ℕ) → IsCommon i d.common → IsEntry e s → active_word e ≡ enabled_word → IsOpenable plan)
    (inside : plan.area.start + plan.area.len ≤ length v) where
  on_there : (slot_at d n).state ≡ Enabled
  on_there = ap (λ (q : Luks1Slot). q.state) (sym here) ∙ on

  header : IsLuks1 b d
  header = made_header h (length v) g d made b put

  entry_there : IsEntry (entry b n) s
  entry_there = subst (IsEntry (entry b n)) (sym here) (header.slots.each n any_slot lt)

  has_plan : HasLuks1Plan b n plan
  has_plan = record { numbered = lt; is = is b (entry b n) header.common entry_there }

  entry_here : IsEntry (entry h n) (slot_at d n)
  entry_here = (kept_entry_of h (length v) g d made n lt on_there).says

  of_volume : IsMadeOf (headed v h) g d
  of_volume = made_headed v h g d long room made

  says : SaysKept (headed v h) g n b
  says = says_of (headed v h) g d of_volume b put n lt (subst (λ i. IsEntry (entry i n) (slot_at d n)) (sym (header_is v h long)) entry_here)

  -- its area lies behind the header
  area_behind : 592 ≤ plan.area.start
  area_behind =
      let start = has_plan.is.start in
      let sector = (put.slots n any_slot lt).fields.key_material_offset in
      let first = behind h (length v) g d made n _ (record { numbered = lt; enabled = on_there; is = refl }) in
      omega (arith, start, sector, first)

  same_area : part (headed v h) plan.area.start plan.area.len ≡ part v plan.area.start plan.area.len
  same_area = area_is v h long plan.area.start plan.area.len area_behind

  -- the numbers by which it is cheap
  iterations_are : (q : Derivation) → IsLuks1Derivation b (entry b n) q → IsCheapDerivation q ↔ (entry_iterations (entry h n) ≤ most_turns)
  iterations_are (Pbkdf2 hash iterations salt) z =
      let one = z.1 in
      let two = (put.slots n any_slot lt).fields.iterations in
      let three = entry_here.fields.iterations in
      ((λ few. omega (arith, one, two, three, few)), (λ few. omega (arith, one, two, three, few)))
  iterations_are (Argon2 costs) z = absurd z

  stripes_are : plan.stripes ≡ entry_stripes (entry h n)
  stripes_are = has_plan.is.stripes ∙ (put.slots n any_slot lt).fields.stripes ∙ sym entry_here.fields.stripes

  turns_are : plan.digest.iterations ≡ mk_digest_iterations_of h
  turns_are = has_plan.is.digest.iterations ∙ says.digest_iterations ∙ ap mk_digest_iterations_of (header_is v h long)

  cheap_here : IsCheapPlan plan → IsCheap h n
  cheap_here x = record {
    digest = subst (λ (m : ℕ). m ≤ most_turns) turns_are x.digest;
    iterations = (iterations_are plan.derivation has_plan.is.derivation).0 x.derivation;
    stripes = subst (λ (m : ℕ). m ≤ most_stripes) stripes_are x.stripes;
  }

  cheap_there : IsCheap h n → IsCheapPlan plan
  cheap_there x = record {
    derivation = (iterations_are plan.derivation has_plan.is.derivation).1 x.iterations;
    digest = subst (λ (m : ℕ). m ≤ most_turns) (sym turns_are) x.digest;
    stripes = subst (λ (m : ℕ). m ≤ most_stripes) (sym stripes_are) x.stripes;
  }

  module _ (p : List ℕ) where
    opened_here : IsOpenedPlan none_allowed plan v p → OpensHeaded v h g p n
    opened_here x = record {
      cheap = cheap_here x.cheap;
      opens = (tells_opening d n lt b put s here on plan is judged (headed v h) g of_volume p (Ok (Some x.key)) (Ok true) tt (sym (refusal_at_none plan) ∙ x.opens.accepted)
          (x.opens.is ∙ ap (λ a. slot_key plan a p) (sym same_area)) refl).0 refl;
    }

    by_refusal : (o : Option SlotFault) → slot_refusal plan ≡ o → OpensHeaded v h g p n → IsOpenedPlan none_allowed plan v p
    by_refusal (Some f) refused x =
        absurd ((x.opens.gives false).unrefused (fault.Slot f) (record { plan = plan; is = plan_here says plan has_plan; refused = refusal_at_none plan ∙ refused }))
    by_refusal None accepted x =
        let gives = x.opens.gives false in
        let alike = same_answer plan gives.plan (headed v h) p (one_luks1_plan b n plan gives.plan has_plan (plan_there says gives.plan gives.is)) in
        record {
          cheap = cheap_there x.cheap;
          key = x.opens.key;
          opens = record {
            inside = inside;
            accepted = refusal_at_none plan ∙ accepted;
            is = sym (ap (λ a. slot_key plan a p) (sym same_area) ∙ alike ∙ gives.key);
          };
        }

    pub opens_headed : IsOpenedPlan none_allowed plan v p ↔ OpensHeaded v h g p n
    opens_headed = (opened_here, by_refusal (slot_refusal plan) refl)

    -- what its stripes give
    unrefused : slot_refusal plan ≡ None → (older : Bool) (f : OpenFault) → IsRefusedKept older (headed v h) g n f → ⊥
    unrefused none older (fault.Head f) bad = bad
    unrefused none older (fault.Meta f) bad = bad
    unrefused none older fault.NoSuchSlot bad = bad
    unrefused none older fault.SlotFree bad = bad
    unrefused none older fault.Outside bad = bad
    unrefused none older (fault.Slot f) bad =
        let alike = same_refusal_within (without_memory older) plan bad.plan (one_luks1_plan b n plan bad.plan has_plan (plan_there says bad.plan bad.is)) in
        let fine = accepted_within (without_memory older) plan none in
        let refused = bad.refused in
        absurd (cc)
    unrefused none older fault.Device bad = bad
    unrefused none older fault.Memory bad = bad

    gives_it : IsTriedPlan none_allowed plan → GivesDigest v h g p n (slot_digest plan (part v plan.area.start plan.area.len) p)
    gives_it x = record {
      cheap = cheap_here x.cheap;
      made = made_faultless (header_of (headed v h)) (length (headed v h)) g d of_volume;
      in_use = record {
        kept = (kept_entry_of (header_of (headed v h)) (length (headed v h)) g d of_volume n lt on_there).kept;
        enabled = (kept_entry_of (header_of (headed v h)) (length (headed v h)) g d of_volume n lt on_there).enabled;
      };
      plan = plan;
      is = plan_here says plan has_plan;
      unrefused = unrefused (sym (refusal_at_none plan) ∙ x.accepted);
      gives = ap (λ a. slot_digest plan a p) (sym same_area);
    }

    one_given : (other : List ℕ) → GivesDigest v h g p n other → other ≡ slot_digest plan (part v plan.area.start plan.area.len) p
    one_given other x =
        x.gives ∙ same_given x.plan plan (headed v h) p (same_back (one_luks1_plan b n plan x.plan has_plan (plan_there says x.plan x.is)))
        ∙ ap (λ a. slot_digest plan a p) same_area

    pub given_headed : (digest : List ℕ) → IsTriedPlan none_allowed plan → digest ≡ slot_digest plan (part v plan.area.start plan.area.len) p → GivesOneDigest v h g p n digest
    given_headed digest x is = record { it = subst (GivesDigest v h g p n) (sym is) (gives_it x); one = λ other y. one_given other y ∙ sym is }

    tried_by : (o : Option SlotFault) → slot_refusal plan ≡ o → (digest : List ℕ) → GivesDigest v h g p n digest → IsTriedPlan none_allowed plan
    tried_by (Some f) refused digest x =
        absurd (x.unrefused false (fault.Slot f) (record { plan = plan; is = plan_here says plan has_plan; refused = refusal_at_none plan ∙ refused }))
    tried_by None accepted digest x = record { cheap = cheap_there x.cheap; accepted = refusal_at_none plan ∙ accepted }

    pub untried_headed : (IsTriedPlan none_allowed plan → ⊥) → GivesNoDigest v h g p n
    untried_headed none digest x = none (tried_by (slot_refusal plan) refl digest x)

-- a keyslot of it that isn't enabled opens by none
pub shut_headed : (v h : List ℕ) (g : Given) (d : Luks1) → length h ≡ 592 → 592 ≤ length v → IsMade h (length v) g d → (n : ℕ) → n < 8
    → (s : Luks1Slot) → s ≡ slot_at d n → s.state ≡ Disabled → (p : List ℕ) → OpensHeaded v h g p n → ⊥
shut_headed v h g d long room made n lt s here off p x =
    let t : IsTrue false = (tells_shut (headed v h) g d (made_headed v h g d long room made) n lt s here off p).1 x.opens in cc

-- nor gives a digest
pub shut_gives : (v h : List ℕ) (g : Given) (d : Luks1) → length h ≡ 592 → 592 ≤ length v → IsMade h (length v) g d → (n : ℕ) → n < 8
    → (s : Luks1Slot) → s ≡ slot_at d n → s.state ≡ Disabled → (p : List ℕ) → GivesNoDigest v h g p n
shut_gives v h g d long room made n lt s here off p digest x =
    let on = enabled_there (header_of (headed v h)) (length (headed v h)) g d (made_headed v h g d long room made) n lt x.in_use.kept x.in_use.enabled in
    absurd (no_state (slot_at d n).state on (ap (λ (q : Luks1Slot). q.state) (sym here) ∙ off))
  where
    no_state : (t : SlotState) → t ≡ Enabled → t ≡ Disabled → ⊥
    no_state t on disabled = cc

-- nor does one of a header that isn't made
pub unmade_headed : (v h : List ℕ) (g : Given) → length h ≡ 592 → (n : ℕ) (p : List ℕ) → OpensHeaded v h g p n → (f : _) → IsFieldFault h g f → ⊥
unmade_headed v h g long n p x f bad = x.opens.made f (subst (λ i. IsFieldFault i g f) (sym (header_is v h long)) bad)

pub unmade_gives : (v h : List ℕ) (g : Given) → length h ≡ 592 → (n : ℕ) (p : List ℕ) (f : _) → IsFieldFault h g f → GivesNoDigest v h g p n
unmade_gives v h g long n p f bad digest x = x.made f (subst (λ i. IsFieldFault i g f) (sym (header_is v h long)) bad)

-- what is told of a keyslot by its plan is told of it by the header
pub told_by : {F : Type 0} (r : Result (Option ℕ) F) (A B : Type 0) → A ↔ B → IfOk r (λ bits. (bits ≡ Some 0) ↔ A) → IfOk r (λ bits. (bits ≡ Some 0) ↔ B)
told_by (Ok bits) A B same told = ((λ e. same.0 (told.0 e)), (λ x. told.1 (same.1 x)))
told_by (Err f) A B same told = tt

-- what Argon2 refuses isn't accepted
never_argon2 : (t : Bool) (o : Option SlotFault) → t ≡ true → (if t then Some slot.Argon2 else o) ≡ None → ⊥
never_argon2 t o holds accepted = (let refused = ap (λ (b : Bool). if b then Some slot.Argon2 else o) holds in cc)

-- where nothing is allowed, no memory is taken
pub bare_cut : (plan : SlotPlan) (tally : Tally) (f : SearchFault) → TakesMemory none_allowed plan f → IsCutShort tally f → IsCutWithoutMemory tally f
bare_cut plan tally search.Memory takes cut = never_argon2 (is_argon2 plan.derivation) _ takes.1 (sym (refusal_at_none plan) ∙ takes.0)
bare_cut plan tally search.Device takes cut = cut
bare_cut plan tally search.Spent takes cut = cut

pub err_cut : {A : Type 0} (plan : SlotPlan) (tally : Tally) (r : Result A SearchFault) → IfErr r (TakesMemory none_allowed plan) → IfErr r (IsCutShort tally)
    → IfErr r (IsCutWithoutMemory tally)
err_cut {A} plan tally (Ok a) takes cut = tt
err_cut {A} plan tally (Err f) takes cut = bare_cut plan tally f takes cut

-- the stored digest of a plan of LUKS1 has 20 bytes
pub stored_twenty : (h : List ℕ) (total : ℕ) (g : Given) (d : Luks1) → IsMade h total g d → (b : List ℕ) → WritesLuks1 b d → (n : ℕ) → n < 8
    → (s : Luks1Slot) → s ≡ slot_at d n → (plan : SlotPlan) → ((i e : List ℕ) → IsCommon i d.common → IsEntry e s → IsLuks1Plan i e plan)
    → length plan.digest.stored.now ≡ 20
stored_twenty h total g d made b put n lt s here plan is =
    let header : IsLuks1 b d = made_header h total g d made b put in
    let there : IsEntry (entry b n) s = subst (IsEntry (entry b n)) (sym here) (header.slots.each n any_slot lt) in
    let long = header.long in
    ap length (is b (entry b n) header.common there).digest.stored ∙ length-part_inside b 112 20 (omega (arith, long))

-- ---- what is said of what is found, and of where nothing is

pub found_so : {A F : Type 0} (r : Result (Option A) F) (P Q : A → Type 0) → ((x : A) → P x → Q x) → IfOk r (λ o. IfSome o P) → IfOk r (λ o. IfSome o Q)
found_so {A} {F} (Ok (Some x)) P Q so p = so x p
found_so {A} {F} (Ok None) P Q so p = tt
found_so {A} {F} (Err f) P Q so p = tt

pub found_both : {A F : Type 0} (r : Result (Option A) F) (P R Q : A → Type 0) → ((x : A) → P x → R x → Q x) → IfOk r (λ o. IfSome o P) → IfOk r (λ o. IfSome o R)
    → IfOk r (λ o. IfSome o Q)
found_both {A} {F} (Ok (Some x)) P R Q so p q = so x p q
found_both {A} {F} (Ok None) P R Q so p q = tt
found_both {A} {F} (Err f) P R Q so p q = tt

pub none_so : {A F : Type 0} (r : Result (Option A) F) (X Y : Type 0) → (X → Y) → IfOk r (λ o. IfNone o X) → IfOk r (λ o. IfNone o Y)
none_so {A} {F} (Ok (Some x)) X Y so p = tt
none_so {A} {F} (Ok None) X Y so p = so p
none_so {A} {F} (Err f) X Y so p = tt

pub some_of : {A : Type 0} (o : Option A) (x : A) (P : A → Type 0) → o ≡ Some x → IfSome o P → P x
some_of {A} o x P is p = subst (λ (q : Option A). IfSome q P) is p

pub none_at : {A : Type 0} (o : Option A) (X : Type 0) → o ≡ None → IfNone o X → X
none_at {A} o X is p = subst (λ (q : Option A). IfNone q X) is p

pub some_so : {A : Type 0} (o : Option A) (P Q : A → Type 0) → ((x : A) → P x → Q x) → IfSome o P → IfSome o Q
some_so {A} (Some x) P Q so p = so x p
some_so {A} None P Q so p = tt

pub none_as : {A : Type 0} (o : Option A) (X Y : Type 0) → (X → Y) → IfNone o X → IfNone o Y
none_as {A} (Some x) X Y so p = tt
none_as {A} None X Y so p = so p
