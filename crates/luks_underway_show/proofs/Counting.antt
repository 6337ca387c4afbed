-- What is listed of the numbers below one, and the least of which a test holds.
use Rattle.std.proofs.Common.{◌≡◌, ℕ, zero, suc, ◌+◌, ◌<◌, List, [], ◌++◌, codes, Bool, true, false, cond, Option, Some, None, IfSome, MatchOption, is_some, refl, sym, ◌∙◌, arith, add-one, inl, inr}
use Rattle.std.specs.Option.{option_map_or}
use Rattle.std.proofs.lemmas.Bool.{cases_eq, false≢true}
use Rattle.serde_json.specs.Data.{Data}
use Rattle.serde_json.specs.Find.{get}
use Rattle.luks_json.specs.Arrays.{names}
use Rattle.luks_json.specs.Number.{number_text}
use Rattle.luks_rules.specs.declared.table.Section.TheVariants.{Digests, Keyslots}
use Rattle.luks_rules.specs.Faults.{object_at}
use Rattle.luks_rules.specs.Naming.{IsDigestOf}
use Rattle.luks_underway.specs.Sides.{is_named}
use Rattle.luks_underway_show.specs.Shown.{keyslot_digest, least_below, listed_below}

-- of no number nothing is
pub listed_none : (listed : ℕ → List ℕ) → listed_below listed 0 ≡ []
unfolding listed_below
listed_none listed = refl

pub listed_more : (listed : ℕ → List ℕ) (n : ℕ) → listed_below listed n ++ listed n ≡ listed_below listed (n + 1)
unfolding listed_below
listed_more listed n = rw (add-one n) refl

-- the test holds of none below `n`, or of this one
abbrev IsLeastOf : (ℕ → Bool) → ℕ → Option ℕ → Type 0
IsLeastOf test n o = MatchOption o ((m : ℕ) → m < n → test m ≡ false) (λ m. (m < n) × (test m ≡ true))

abbrev next_least : Bool → ℕ → Option ℕ → Option ℕ
next_least b n o = option_map_or (λ m. Some m) o (cond b (Some n) None)

least_step : (test : ℕ → Bool) (n : ℕ) (b : Bool) (o : Option ℕ) → test n ≡ b → IsLeastOf test n o → IsLeastOf test (suc n) (next_least b n o)
least_step test n b (Some m) is least = (let lt = least.0 in omega (arith, lt), least.1)
least_step test n true None is least = (omega arith, is)
least_step test n false None is least = λ m below. elim (cases_eq m n) [
  | inl same ↦ rw same is
  | inr other ↦ least m (omega (arith, below, other))
]

pub least_is : (test : ℕ → Bool) (n : ℕ) → IsLeastOf test n (least_below test n)
unfolding least_below
least_is test zero = λ m below. absurd (omega (arith, below))
least_is test (suc n) = least_step test n (test n) (least_below test n) refl (least_is test n)

abbrev Held : (Data → Bool) → Option Data → Type 0
Held f o = (d : Data) × (o ≡ Some d) × (f d ≡ true)

held : (f : Data → Bool) (o : Option Data) → option_map_or f o false ≡ true → Held f o
held f None is = absurd (false≢true is)
held f (Some d) is = (d, refl, is)

abbrev lists_keyslot : ℕ → Data → Bool
lists_keyslot n d = names (number_text n) (get (codes "keyslots") d)

named : (j : Data) (n m : ℕ) → IsDigestOf j n m → is_named j (codes "keyslots") n m ≡ true
named j n m of = rw of.is of.lists

digest_by : (j : Data) (n : ℕ) (r o : Option ℕ) → n < 32 → is_some (object_at j Keyslots n) ≡ true → IfSome r (IsDigestOf j n)
    → ((m : ℕ) → IsDigestOf j n m → r ≡ Some m) → IsLeastOf (is_named j (codes "keyslots") n) 32 o → o ≡ r
digest_by j n None None below there some only least = refl
digest_by j n (Some m) None below there some only least = absurd (false≢true (sym (least m some.numbered) ∙ named j n m some))
digest_by j n r (Some k) below there some only least =
    let one = held (lists_keyslot n) (object_at j Digests k) least.1 in
    sym (only k (record { named = below; keyslot = there; numbered = least.0; object = one.0; is = one.1; lists = one.2 }))

-- the one digest that names a keyslot is the least one
pub digest_is : (j : Data) (n : ℕ) (r : Option ℕ) → n < 32 → is_some (object_at j Keyslots n) ≡ true → IfSome r (IsDigestOf j n)
    → ((m : ℕ) → IsDigestOf j n m → r ≡ Some m) → keyslot_digest j n ≡ r
digest_is j n r below there some only =
    digest_by j n r (keyslot_digest j n) below there some only (least_is (is_named j (codes "keyslots") n) 32)
