-- What a digest says of a key that it takes, and which of the digests takes one.
use Rattle.std.proofs.Common.{◌≡◌, ℕ, suc, ◌+◌, ◌<◌, ◌≤◌, List, [], ◌∷◌, length, Bool, true, false, Some, None, below_more, refl, sym, ap, subst, ◌∙◌, arith}
use Rattle.std.specs.Prelude.{◌==◌, not}
use Rattle.std.specs.List.{list_any}
use Rattle.std.proofs.lemmas.Bool.{false≢true}
use Rattle.std.proofs.lemmas.Bool.Decides.{Decides-eqb, nat_tests}
use Rattle.std.proofs.lemmas.Option.{same_Some}
use Rattle.serde_json.specs.Data.{Data as Value}
use Rattle.luks_json.specs.Names.{numbers_of_array}
use Rattle.luks_rules.specs.declared.table.Member.TheVariants as name
use Rattle.luks_rules.specs.declared.table.Outer.TheVariants as outer
use Rattle.luks_rules.specs.declared.table.Section.TheVariants.{Digests}
use Rattle.luks_rules.specs.Faults.{member_at}
use Rattle.luks_meta.specs.declared.digests.Digest.{Digest}
use Rattle.luks_meta.specs.Objects.{IsMissing, IsObject}
use Rattle.luks_meta.specs.Says.{TellsDigest}
use Rattle.luks_slot.specs.declared.fault.SlotFault.TheVariants.{Hash}
use Rattle.luks_slot.specs.declared.plan.DigestPlan.{DigestPlan}
use Rattle.luks_slot.specs.Refusal.{is_known_hash}
use Rattle.luks_reading.specs.KeyDigests.{IsLuks2KeyLength, SaysDigest}
use Rattle.luks2_edit_laws.specs.Likes.{HasNoDigestFor, IsAssigned, IsUnknownTo, MayMeetUnknown, MeetsKey, MeetsNone, TakesKey}
use Rattle.luks2_edit_laws.proofs.OpenFacts.{same_meeting, SameDigest}
use Rattle.luks2_judging.specs.Keys.{IsMetBy, IsTakenBy}

-- ---- what is said of one digest is one thing

said_once : (d : Value) (a b : DigestPlan) → SaysDigest d a → SaysDigest d b → SameDigest a b
said_once d a b x y = record {
  hash = same_Some a.hash.now b.hash.now (sym x.hash ∙ y.hash);
  iterations = same_Some a.iterations b.iterations (sym x.iterations ∙ y.iterations);
  salt = same_Some a.salt.now b.salt.now (sym x.salt ∙ y.salt);
  stored = same_Some a.stored.now b.stored.now (sym x.stored ∙ y.stored);
}

takes_once : (j : Value) (m len : ℕ) (a b : DigestPlan) → TakesKey j m len a → TakesKey j m len b → SameDigest a b
takes_once j m len a b x y =
    let object : y.object ≡ x.object = same_Some y.object x.object (sym y.there.is ∙ x.there.is) in
    said_once x.object a b x.says (subst (λ d. SaysDigest d b) object y.says)

-- ---- of a digest that is told

module _ (j : Value) (m : ℕ) (k : Digest) (plan : DigestPlan) (low : m < 32) (told : IsObject TellsDigest j Digests m k) (says : SaysDigest told.object plan) where
  pub takes_here : (len : ℕ) → IsLuks2KeyLength j m len → TakesKey j m len plan
  takes_here len long = record { object = told.object; there = record { numbered = refl; named = low; is = told.is }; says = says; long = long }

  pub met_key : (older : Bool) (key : List ℕ) → IsLuks2KeyLength j m (length key) → IsMetBy older plan key → MeetsKey older j key m
  met_key older key long met = record { digest = plan; takes = takes_here (length key) long; known = met.known; meets = met.meets }

  pub key_met : (older : Bool) (key : List ℕ) → MeetsKey older j key m → IsMetBy older plan key
  key_met older key x =
      let s = takes_once j m (length key) plan x.digest (takes_here (length key) x.takes.long) x.takes in
      record { known = ap (is_known_hash older) s.hash ∙ x.known; meets = same_meeting plan x.digest key s ∙ x.meets }

-- one that isn't there takes no key
pub missing_takes : (j : Value) (m len : ℕ) (digest : DigestPlan) → IsMissing j Digests m → TakesKey j m len digest → ⊥
missing_takes j m len digest missing x = absurd (let both : None ≡ Some x.object = sym (missing x.there.named) ∙ x.there.is in cc)

-- ---- the segments of a digest

same_number : (n : ℕ) → (n == n) ≡ true
same_number n = (Decides-eqb n n).1 refl

-- a list that isn't empty has a number
record HasListed (xs : List ℕ) : Type 0 where
  number : ℕ
  lists : list_any (λ n. n == number) xs ≡ true

listed_of : (xs : List ℕ) → not (length xs == 0) ≡ true → HasListed xs
listed_of [] some = absurd (false≢true some)
listed_of (x ∷ xs) some = record { number = x; lists = rw same_number refl }

more_listed : (n : ℕ) → not (suc n == 0) ≡ true
more_listed n = grind (arith, nat_tests)

some_listed : (xs : List ℕ) (s : ℕ) → list_any (λ n. n == s) xs ≡ true → not (length xs == 0) ≡ true
some_listed [] s lists = absurd (false≢true lists)
some_listed (x ∷ xs) s lists = more_listed (length xs)

module _ (j : Value) (m : ℕ) (k : Digest) (low : m < 32) (told : IsObject TellsDigest j Digests m k) where
  pub assigned_of : not (length k.segments.items == 0) ≡ true → IsAssigned j m
  assigned_of some =
      let l = listed_of k.segments.items some in
      record {
        segment = l.number;
        is = record { numbered = low; object = told.object; there = told.is; segments = k.segments.items; told = told.tells_members.6; lists = l.lists };
      }

  pub some_assigned : IsAssigned j m → not (length k.segments.items == 0) ≡ true
  some_assigned x =
      let object : x.is.object ≡ told.object = same_Some x.is.object told.object (sym x.is.there ∙ told.is) in
      let segments : x.is.segments ≡ k.segments.items = same_Some x.is.segments k.segments.items
      (sym x.is.told ∙ ap (λ d. numbers_of_array (member_at d outer.Top name.Segments)) object ∙ told.tells_members.6) in
      subst (λ xs. not (length xs == 0) ≡ true) segments (some_listed x.is.segments x.segment x.is.lists)

-- to one that isn't there none is
pub missing_assigned : (j : Value) (m : ℕ) → IsMissing j Digests m → IsAssigned j m → ⊥
missing_assigned j m missing x = absurd (let both : None ≡ Some x.is.object = sym (missing x.is.numbered) ∙ x.is.there in cc)

-- ---- why the key meets none, digest by digest

-- one of them takes a key of so many bytes
pub record IsSomeTaken (j : Value) (len : ℕ) : Type 0 where
  pub number : ℕ
  pub digest : DigestPlan
  pub takes : TakesKey j number len digest

-- of those before the digest `n` each that takes the key has a known hash; one was found that does, or none does
pub record IsUnmetSoFar (older : Bool) (j : Value) (key : List ℕ) (n : ℕ) (taken : Bool) : Type 0 where
  pub known : (m : ℕ) → m < n → IsUnknownTo older j key m → ⊥
  pub some : taken ≡ true → IsSomeTaken j (length key)
  pub none : taken ≡ false → (m : ℕ) → m < n → (digest : DigestPlan) → TakesKey j m (length key) digest → ⊥

module _ (older : Bool) (j : Value) (key : List ℕ) where
  pub unmet_begin : IsUnmetSoFar older j key 0 false
  unmet_begin = record { known = λ m low. absurd (omega (arith, low)); some = λ is. absurd (false≢true is); none = λ is m low. absurd (omega (arith, low)) }

  known_here : (n : ℕ) → IsTakenBy older j n (length key) true → IsUnknownTo older j key n → ⊥
  known_here n t x =
      let s = takes_once j n (length key) t.digest x.digest t.takes x.takes in
      false≢true (sym x.unknown ∙ sym (ap (is_known_hash older) s.hash) ∙ t.is)

  pub unmet_taken : (n : ℕ) (taken : Bool) → IsUnmetSoFar older j key n taken → IsTakenBy older j n (length key) true → IsUnmetSoFar older j key (n + 1) true
  unmet_taken n taken x t = record {
    known = below_more (λ m. IsUnknownTo older j key m → ⊥) n x.known (known_here n t);
    some = λ is. record { number = n; digest = t.digest; takes = t.takes };
    none = λ is. absurd (false≢true (sym is));
  }

  pub unmet_passed : (n : ℕ) (taken : Bool) → IsUnmetSoFar older j key n taken → ((digest : DigestPlan) → TakesKey j n (length key) digest → ⊥) → IsUnmetSoFar older j key (n + 1) taken
  unmet_passed n taken x not = record {
    known = below_more (λ m. IsUnknownTo older j key m → ⊥) n x.known (λ u. not u.digest u.takes);
    some = x.some;
    none = λ is. below_more (λ m. (digest : DigestPlan) → TakesKey j m (length key) digest → ⊥) n (x.none is) not;
  }

  pub unmet_unknown : (n : ℕ) → IsTakenBy older j n (length key) false → ((m : ℕ) → MeetsKey older j key m → ⊥) → MayMeetUnknown older j key Hash
  unmet_unknown n t none = record { is = refl; number = n; unknown = record { digest = t.digest; takes = t.takes; unknown = t.is }; none = none }

  pub unmet_wrong : (end : ℕ) → 32 ≤ end → IsUnmetSoFar older j key end true → ((m : ℕ) → MeetsKey older j key m → ⊥) → MeetsNone older j key
  unmet_wrong end past x none =
      let some = x.some refl in
      record {
        number = some.number;
        digest = some.digest;
        takes = some.takes;
        known = λ m u. (let low = u.takes.there.named in x.known m (omega (arith, past, low)) u);
        none = none;
      }

  pub unmet_long : (end : ℕ) → 32 ≤ end → IsUnmetSoFar older j key end false → HasNoDigestFor j (length key)
  unmet_long end past x = λ m digest takes. (let low = takes.there.named in x.none refl m (omega (arith, past, low)) digest takes)
