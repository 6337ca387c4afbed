-- The numbers of a LUKS2 keyslot and of its digest lie where their rules say.
use Rattle.std.proofs.Common.{◌≡◌, ℕ, ◌<◌, ◌≤◌, List, length, refl, subst, arith, Bool, true, false, Option, Some, None, option_and_then, if◌then◌else◌}
use Rattle.std.proofs.lemmas.Bool.Decides.{nat_tests}
use Rattle.serde_json.specs.Data.{Data}
use Rattle.luks_meta.specs.Accepted.{IsContent}
use Rattle.luks_meta.specs.Encoded.{encoded_of}
use Rattle.luks_rules.specs.declared.table.Member.TheVariants as name
use Rattle.luks_rules.specs.declared.table.Outer.TheVariants as outer
use Rattle.luks_rules.specs.declared.table.Section.TheVariants.{Keyslots}
use Rattle.luks_meta.specs.Faults.{object_at}
use Rattle.luks_meta.specs.Says.{member_at}
use Rattle.luks_slot.specs.declared.plan.Derivation.{Derivation}
use Rattle.luks_slot.specs.declared.plan.Derivation.TheVariants.{Pbkdf2, Argon2}
use Rattle.luks_slot.specs.declared.plan.SlotPlan.{SlotPlan}
use Rattle.luks_slot.specs.Opening.{HasIterations}
use Rattle.luks_reading.specs.PlanAnswers.{IsOpenable}
use Rattle.luks_reading.specs.Plans.{IsLuks2Derivation, IsLuks2Plan}
use Rattle.luks_meta.specs.Reading.{kept, is_between, number_in, number_of, bytes_in, text_of}

kept_passes : {A : Type 0} (test : A → Bool) (o : Option A) (x : A) → option_and_then (kept test) o ≡ Some x → test x ≡ true
kept_passes test None x e = absurd (cc)
kept_passes test (Some y) x e = elim (test y) as (λ b. test y ≡ b → (if b then Some y else None) ≡ Some x → test x ≡ true) [
  | true ↦ λ is same. let one : y ≡ x = cc in subst (λ z. test z ≡ true) one is
  | false ↦ λ is same. absurd (cc)
] refl e

between : (least most n : ℕ) → is_between least most n ≡ true → (least ≤ n) × (n ≤ most)
between least most n e = (grind (arith, nat_tests), grind (arith, nat_tests))

pub in_limits : (least most : ℕ) (v : Option Data) (n : ℕ) → number_in least most v ≡ Some n → (least ≤ n) × (n ≤ most)
in_limits least most v n e = between least most n (kept_passes (is_between least most) (number_of v) n e)

pub long_enough : (least most : ℕ) (v : Option Data) (b : List ℕ) → bytes_in least most v ≡ Some b → (least ≤ length b) × (length b ≤ most)
long_enough least most v b e =
    between least most (length b) (kept_passes (λ c. is_between least most (length c)) (option_and_then encoded_of (text_of v)) b e)

-- a keyslot's derivation has an iteration
pub has_turns : (d : Data) (a : Derivation) → IsLuks2Derivation d a → HasIterations a
has_turns d (Pbkdf2 hash iterations salt) x = (in_limits 1 4294967295 (member_at d outer.Kdf name.Iterations) iterations x.2).0
has_turns d (Argon2 costs) x =
    ((in_limits 1 4294967295 (member_at d outer.Kdf name.Time) costs.time x.1).0, (long_enough 1 128 (member_at d outer.Kdf name.Salt) costs.salt.now x.4).1)

-- the plan of a keyslot of accepted metadata is judged
pub luks2_judged : (len n : ℕ) (j d : Data) (plan : SlotPlan) → IsContent len j → n < 32 → object_at j Keyslots n ≡ Some d
    → IsLuks2Plan j n d plan → IsOpenable plan
luks2_judged len n j d plan content numbered there x =
    let key = in_limits 1 128 (member_at d outer.Top name.KeySize) plan.key_bytes x.key_bytes in
    let held = long_enough 20 64 (member_at x.digest.object outer.Top name.Digest) plan.digest.stored.now x.digest.stored in
    let large = content.large n d plan.key_bytes plan.stripes plan.area.len (record { numbered = refl; named = numbered; is = there }) x.key_bytes x.stripes x.len in
    record {
      turns = has_turns d plan.derivation x.derivation;
      digest_turns = (in_limits 1 4294967295 (member_at x.digest.object outer.Top name.Iterations) plan.digest.iterations x.digest.iterations).0;
      digest_length = held.1;
      some_bytes = key.0;
      at_most_128 = key.1;
      some_stripes = (in_limits 1 4294967295 (member_at d outer.Af name.Stripes) plan.stripes x.stripes).0;
      sectors = omega (arith, large);
    }
