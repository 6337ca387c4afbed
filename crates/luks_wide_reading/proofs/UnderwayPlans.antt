-- The refusals of a keyslot that holds a key, step by step, and what its plan gives, where something is under way in the metadata.
use Rattle.std.proofs.Common.{◌≡◌, ◌≢◌, ℕ, ◌<◌, List, [], ◌∷◌, length, codes, true, false, refl, sym, ap, ◌∙◌, arith, subst, Option, Some, None, IfOk, IfErr, IfSome}
use Rattle.serde_json.specs.Data.{Data}
use Rattle.luks_area.specs.Device.{count_after, CountsFailure}
use Rattle.luks_area.specs.First.{NotAfter, IsLeast}
use Rattle.luks_json.specs.AreaText.{Json}
use Rattle.luks_rules.specs.declared.table.Member.TheVariants as name
use Rattle.luks_rules.specs.declared.table.Outer.TheVariants as outer
use Rattle.luks_rules.specs.declared.table.Section.TheVariants.{Keyslots}
use Rattle.luks_rules.specs.Accepted.{HasObject, IsRead}
use Rattle.luks_rules.specs.Faults.{member_at, object_at, type_at}
use Rattle.luks_rules.specs.Table.{keyslot_rows}
use Rattle.luks_meta.specs.declared.keyslots.Keyslot.{Keyslot}
use Rattle.luks_meta.specs.Says.{priority_field, TellsKeyslot}
use Rattle.luks_slot.specs.declared.allowed.Allowed.{Allowed}
use Rattle.luks_slot.specs.declared.fault.SlotFault.{SlotFault}
use Rattle.luks_slot.specs.declared.plan.SlotPlan.{SlotPlan}
use Rattle.luks_slot.specs.Refusal.{slot_refusal_within}
use Rattle.luks_reading.specs.declared.open_fault.OpenFault.{OpenFault}
use Rattle.luks_reading.specs.declared.open_fault.OpenFault.TheVariants.{Device, Outside, Slot, NoSuchSlot, Memory}
use Rattle.luks_reading.specs.Answer.{slot_row}
use Rattle.luks_reading.specs.Failures.{is_open_failure}
use Rattle.luks_reading.specs.PlanAnswers.{IsOfDevice, IsOpenable, IsPlanAccepted, IsPlanRefusal, PlanOpens, PlanRefused, PlanTakesMemory}
use Rattle.luks_reading.specs.Plans.{HasLuks2Plan, IsLuks2Plan}
use Rattle.luks_reading.proofs.Luks1Refusals.{sooner, together}
use Rattle.luks_reading.proofs.Luks2PlanNumbers.{has_turns, in_limits, long_enough}
use Rattle.luks_reading.proofs.Luks2Plans.{IsOnly, one_luks2_plan}
use Rattle.luks_reading.proofs.SamePlans.{same_answer, same_refusal_within}
use Rattle.luks_underway.specs.Kinds.{has_reencrypt}
use Rattle.luks_underway.specs.Slots.{IsWideKeyslot, plain, reencrypt}
use Rattle.luks_wider.specs.Accepted.{IsWideRules}
use Rattle.luks_wide_reading.specs.declared.open_fault.WideOpenFault.{WideOpenFault}
use Rattle.luks_wide_reading.specs.declared.open_fault.WideOpenFault.TheVariants.{Open, NoKey}
use Rattle.luks_wide_reading.specs.declared.trying.Rank.{Rank}
use Rattle.luks_wide_reading.specs.declared.trying.Rank.TheVariants.{Preferred, Normal}
use Rattle.luks_wide_reading.specs.Faults.{is_wide_open_failure, wide_open_key}
use Rattle.luks_wide_reading.specs.Opening.{HasNoKey, IsUnderwayRefusal, UnderwayOpens, UnderwayRefused, UnderwayTakesMemory}
use Rattle.luks_wide_reading.specs.Trying.{is_of_rank, is_ranked, UnderwayTried, passed_over}

-- ---- the keyslot

-- a keyslot of the type `luks2` meets the rows of one that holds a key
pub keyed_rows : (d : Data) → IsWideKeyslot d → type_at d outer.Top ≡ Some (codes "luks2") → IsRead keyslot_rows d
keyed_rows d (plain read) is = read
keyed_rows d (reencrypt r) is = absurd (let other : Some (codes "reencrypt") ≡ Some (codes "luks2") = sym r.typed ∙ is in cc)

-- and isn't one of the type `reencrypt`
pub keyed : (j d : Data) (n : ℕ) → object_at j Keyslots n ≡ Some d → type_at d outer.Top ≡ Some (codes "luks2") → has_reencrypt j n ≡ false
keyed j d n there is = rw (there, is) refl

pub unkeyed : (j d : Data) (n : ℕ) → object_at j Keyslots n ≡ Some d → type_at d outer.Top ≡ Some (codes "reencrypt") → has_reencrypt j n ≡ true
unkeyed j d n there is = rw (there, is) refl

-- its numbers lie where their rules say
pub wide_judged : (len n : ℕ) (j d : Data) (plan : SlotPlan) → IsWideRules len j → n < 32 → object_at j Keyslots n ≡ Some d
    → type_at d outer.Top ≡ Some (codes "luks2") → IsLuks2Plan j n d plan → IsOpenable plan
wide_judged len n j d plan rules numbered there is x =
    let held : HasObject j Keyslots n d = record { numbered = refl; named = numbered; is = there } in
    let key = in_limits 1 128 (member_at d outer.Top name.KeySize) plan.key_bytes x.key_bytes in
    let stored = long_enough 20 64 (member_at x.digest.object outer.Top name.Digest) plan.digest.stored.now x.digest.stored in
    let large = rules.large n d plan.key_bytes plan.stripes plan.area.len held (keyed_rows d (rules.keyslots n d held) is) x.key_bytes x.stripes x.len in
    record {
      turns = has_turns d plan.derivation x.derivation;
      digest_turns = (in_limits 1 4294967295 (member_at x.digest.object outer.Top name.Iterations) plan.digest.iterations x.digest.iterations).0;
      digest_length = stored.1;
      some_bytes = key.0;
      at_most_128 = key.1;
      some_stripes = (in_limits 1 4294967295 (member_at d outer.Af name.Stripes) plan.stripes x.stripes).0;
      sectors = omega (arith, large);
    }

-- ---- its refusals

same_slot : (allowed : Allowed) (json : List ℕ) (j : Data) (n : ℕ) (a b : SlotPlan) (f g : SlotFault) → IsOnly json j n → HasLuks2Plan json n a → HasLuks2Plan json n b
    → slot_refusal_within allowed a ≡ Some f → slot_refusal_within allowed b ≡ Some g → f ≡ g
same_slot allowed json j n a b f g only x y p q = let same = same_refusal_within allowed a b (one_luks2_plan json j n a b only x y) in cc

is_there : (json : List ℕ) (j : Data) (n : ℕ) (plan : SlotPlan) (i : Data) → IsOnly json j n → HasLuks2Plan json n plan → Json json i
    → (n < 32 → object_at i Keyslots n ≡ None) → ⊥
is_there json j n plan i only x holds gone =
    let e : i ≡ x.value = sym (only.value i holds) ∙ only.value x.value x.holds in
    let none = subst (λ k. object_at k Keyslots n ≡ None) e (gone x.numbered) in
    let there = x.there in
    cc

holds_key : (json : List ℕ) (j : Data) (n : ℕ) → IsOnly json j n → has_reencrypt j n ≡ false → HasNoKey json n → ⊥
holds_key json j n only key x =
    let is = subst (λ i. has_reencrypt i n ≡ true) (sym (only.value x.value x.holds)) x.is in
    cc

-- the keyslot `n` of the value `j` of the area holds a key, and has that plan
pub record IsPlanned (json : List ℕ) (j : Data) (n : ℕ) (plan : SlotPlan) : Type 0 where
  pub only : IsOnly json j n
  pub key : has_reencrypt j n ≡ false
  pub is : HasLuks2Plan json n plan

plan_first : (allowed : Allowed) (json : List ℕ) (total n : ℕ) (j : Data) (plan : SlotPlan) (f : OpenFault) → IsPlanned json j n plan
    → IsPlanRefusal allowed plan total f → IsLeast wide_open_key (IsUnderwayRefusal allowed json total n) (Open f)
plan_first allowed json total n j plan Outside p x = (record { plan = plan; is = p.is; past = x }, after)
  where
    after : (g : WideOpenFault) → IsUnderwayRefusal allowed json total n g → NotAfter (wide_open_key (Open Outside)) (wide_open_key g)
    after NoKey y = absurd (holds_key json j n p.only p.key y)
    after (Open NoSuchSlot) y = absurd (is_there json j n plan y.value p.only p.is y.holds y.absent)
    after (Open Outside) y = together 6 6 [] [] refl tt
    after (Open (Slot g)) y = sooner 6 7 [] (slot_row g ∷ []) (omega arith)
    after (Open other) y = absurd y
plan_first allowed json total n j plan (Slot f) p x = (record { plan = plan; is = p.is; refused = x.1 }, after)
  where
    after : (g : WideOpenFault) → IsUnderwayRefusal allowed json total n g → NotAfter (wide_open_key (Open (Slot f))) (wide_open_key g)
    after NoKey y = absurd (holds_key json j n p.only p.key y)
    after (Open NoSuchSlot) y = absurd (is_there json j n plan y.value p.only p.is y.holds y.absent)
    after (Open Outside) y =
        let same = one_luks2_plan json j n plan y.plan p.only p.is y.is in
        let start = same.start in
        let len = same.len in
        let inside = x.0 in
        let past = y.past in
        absurd (omega (arith, start, len, inside, past))
    after (Open (Slot g)) y =
        let e : f ≡ g = same_slot allowed json j n plan y.plan f g p.only p.is y.is x.1 y.refused in
        together 7 7 (slot_row f ∷ []) (slot_row g ∷ []) refl (together (slot_row f) (slot_row g) [] [] (ap slot_row e) tt)
    after (Open other) y = absurd y
plan_first allowed json total n j plan other p x = absurd x

plan_unrefused : (allowed : Allowed) (json : List ℕ) (total n : ℕ) (j : Data) (plan : SlotPlan) → IsPlanned json j n plan → IsPlanAccepted allowed plan total
    → (f : WideOpenFault) → IsUnderwayRefusal allowed json total n f → ⊥
plan_unrefused allowed json total n j plan p x NoKey y = holds_key json j n p.only p.key y
plan_unrefused allowed json total n j plan p x (Open NoSuchSlot) y = is_there json j n plan y.value p.only p.is y.holds y.absent
plan_unrefused allowed json total n j plan p x (Open Outside) y =
    let same = one_luks2_plan json j n plan y.plan p.only p.is y.is in
    let start = same.start in
    let len = same.len in
    let inside = x.inside in
    let past = y.past in
    omega (arith, start, len, inside, past)
plan_unrefused allowed json total n j plan p x (Open (Slot g)) y =
    let same = same_refusal_within allowed plan y.plan (one_luks2_plan json j n plan y.plan p.only p.is y.is) in
    let accepted = x.accepted in
    let refused = y.refused in
    absurd (cc)
plan_unrefused allowed json total n j plan p x (Open other) y = y

pub plan_opens : (allowed : Allowed) (json v : List ℕ) (n : ℕ) (j : Data) (plan : SlotPlan) (p : List ℕ) (found : Option (List ℕ)) → IsPlanned json j n plan
    → PlanOpens allowed plan v p found → UnderwayOpens allowed json v n p found
plan_opens allowed json v n j plan p found planned x = record {
  plan = plan;
  is = planned.is;
  unrefused = plan_unrefused allowed json (length v) n j plan planned (record { inside = x.inside; accepted = x.accepted });
  key = sym x.is;
}

plan_takes : (allowed : Allowed) (json : List ℕ) (total n : ℕ) (j : Data) (plan : SlotPlan) → IsPlanned json j n plan
    → PlanTakesMemory allowed plan total → UnderwayTakesMemory allowed json total n
plan_takes allowed json total n j plan p x =
    record { plan = plan; is = p.is; unrefused = plan_unrefused allowed json total n j plan p x.accepted; argon2 = x.argon2 }

pub plan_refused : (allowed : Allowed) (json : List ℕ) (total n : ℕ) (j : Data) (plan : SlotPlan) (f : OpenFault) → IsPlanned json j n plan
    → PlanRefused allowed plan total f → UnderwayRefused allowed json total n (Open f)
plan_refused allowed json total n j plan f p x = (
  λ own. plan_first allowed json total n j plan f p (x.0 own),
  λ e. plan_takes allowed json total n j plan p (x.1 (let same : f ≡ Memory = cc in same)),
)

-- a keyslot that isn't there, and one that holds no key

pub absent_refused : (allowed : Allowed) (json : List ℕ) (total n : ℕ) (j : Data) → Json json j → (n < 32 → object_at j Keyslots n ≡ None)
    → UnderwayRefused allowed json total n (Open NoSuchSlot)
absent_refused allowed json total n j holds gone = (λ own. (record { value = j; holds = holds; absent = gone }, after), λ e. absurd (cc))
  where
    after : (g : WideOpenFault) → IsUnderwayRefusal allowed json total n g → NotAfter (wide_open_key (Open NoSuchSlot)) (wide_open_key g)
    after NoKey y = sooner 3 4 [] [] (omega arith)
    after (Open NoSuchSlot) y = together 3 3 [] [] refl tt
    after (Open Outside) y = sooner 3 6 [] [] (omega arith)
    after (Open (Slot g)) y = sooner 3 7 [] (slot_row g ∷ []) (omega arith)
    after (Open other) y = absurd y

pub unkeyed_refused : (allowed : Allowed) (json : List ℕ) (total n : ℕ) (j d : Data) → ((i : Data) → Json json i → j ≡ i) → Json json j → n < 32
    → object_at j Keyslots n ≡ Some d → has_reencrypt j n ≡ true → UnderwayRefused allowed json total n NoKey
unkeyed_refused allowed json total n j d one holds low there is = (λ own. (record { value = j; holds = holds; numbered = low; is = is }, after), λ e. absurd (cc))
  where
    after : (g : WideOpenFault) → IsUnderwayRefusal allowed json total n g → NotAfter (wide_open_key NoKey) (wide_open_key g)
    after NoKey y = together 4 4 [] [] refl tt
    after (Open NoSuchSlot) y = absurd (let none = subst (λ i. object_at i Keyslots n ≡ None) (sym (one y.value y.holds)) (y.absent low) in cc)
    after (Open Outside) y = sooner 4 6 [] [] (omega arith)
    after (Open (Slot g)) y = sooner 4 7 [] (slot_row g ∷ []) (omega arith)
    after (Open other) y = absurd y

-- ---- what it opens to

-- a keyslot opens to one key
pub plan_one : (allowed : Allowed) (json v : List ℕ) (n : ℕ) (j : Data) (plan : SlotPlan) (p : List ℕ) (found other : Option (List ℕ)) → IsPlanned json j n plan
    → PlanOpens allowed plan v p found → UnderwayOpens allowed json v n p other → other ≡ found
plan_one allowed json v n j plan p found other planned x y =
    sym y.key ∙ sym (same_answer plan y.plan v p (one_luks2_plan json j n plan y.plan planned.only planned.is y.is)) ∙ sym x.is

pub underway_tried : (allowed : Allowed) (json v : List ℕ) (n : ℕ) (p : List ℕ) (found : Option (List ℕ))
    → ((other : Option (List ℕ)) → UnderwayOpens allowed json v n p other → other ≡ found) → UnderwayOpens allowed json v n p found → UnderwayTried allowed json v n p found
underway_tried allowed json v n p (Some k) one x = x
underway_tried allowed json v n p None one x = λ k y. let e = one (Some k) y in absurd (cc)

-- one that is refused doesn't open
pub refused_tried : (allowed : Allowed) (json v : List ℕ) (n : ℕ) (p : List ℕ) (f : WideOpenFault) → UnderwayRefused allowed json (length v) n f
    → IfOk (passed_over f) (UnderwayTried allowed json v n p)
refused_tried allowed json v n p (Open Device) x = tt
refused_tried allowed json v n p (Open Memory) x = tt
refused_tried allowed json v n p other x = λ k y. y.unrefused other (x.0 refl).0

pub passed_kinds : (f : WideOpenFault) → IfErr (passed_over f) IsOfDevice
passed_kinds (Open Device) = tt
passed_kinds (Open Memory) = tt
passed_kinds other = tt

pub passed_none : (P : List ℕ → Type 0) (f : WideOpenFault) → IfOk (passed_over f) (λ found. IfSome found P)
passed_none P (Open Device) = tt
passed_none P (Open Memory) = tt
passed_none P other = tt

pub passed_memory : (P : Type 0) (f : WideOpenFault) → (f ≡ Open Memory → P) → IfErr (passed_over f) (λ g. g ≡ Memory → P)
passed_memory P (Open Device) take = λ e. absurd (cc)
passed_memory P (Open Memory) take = λ e. take refl
passed_memory P other take = tt

pub passed_count : (f : WideOpenFault) (old new : ℕ) → new ≡ count_after (is_wide_open_failure f) old → CountsFailure is_open_failure (passed_over f) old new
passed_count (Open Device) old new is = is
passed_count (Open Memory) old new is = is
passed_count other old new is = is

pub passed_no_memory : (f : WideOpenFault) → f ≢ Open Memory → IfErr (passed_over f) (λ g. g ≢ Memory)
passed_no_memory (Open Device) other_fault = λ e. cc
passed_no_memory (Open Memory) other_fault = absurd (other_fault refl)
passed_no_memory other other_fault = tt

-- ---- when it is tried

pub keyed_rank : (rank : Rank) (j d : Data) (n : ℕ) (k : Keyslot) → object_at j Keyslots n ≡ Some d → TellsKeyslot d k
    → is_of_rank rank j n ≡ is_ranked rank (priority_field k.priority)
keyed_rank Preferred j d n k there tells = rw (there, tells.0, tells.2) refl
keyed_rank Normal j d n k there tells = rw (there, tells.0, tells.2) refl

pub unkeyed_rank : (rank : Rank) (j : Data) (n : ℕ) → has_reencrypt j n ≡ true → is_of_rank rank j n ≡ false
unkeyed_rank Preferred j n is = rw is refl
unkeyed_rank Normal j n is = rw is refl

pub absent_rank : (rank : Rank) (j : Data) (n : ℕ) → object_at j Keyslots n ≡ None → is_of_rank rank j n ≡ false
absent_rank Preferred j n is = rw is refl
absent_rank Normal j n is = rw is refl
