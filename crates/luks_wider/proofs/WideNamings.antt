-- The digest that names a keyslot, in a value that meets the rules of what is under way.
use Rattle.std.proofs.Common.{◌≡◌, ℕ, ◌<◌, ◌≤◌, Bool, true, false, Option, Some, None, MatchOption, codes, is_some, IfSome, refl, sym, ap, ◌∙◌, inl, inr, arith}
use Rattle.std.proofs.lemmas.Bool.{cases_Bool, false≢true}
use Rattle.serde_json.specs.Data.{Data}
use Rattle.serde_json.specs.Find.{get}
use Rattle.luks_json.specs.Arrays.{names}
use Rattle.luks_json.specs.Number.{number_text}
use Rattle.luks_rules.specs.declared.table.Section.TheVariants.{Digests, Keyslots}
use Rattle.luks_rules.specs.Accepted.{HasObject}
use Rattle.luks_rules.specs.Faults.{object_at}
use Rattle.luks_rules.specs.Naming.{IsDigestOf}
use Rattle.luks_rules.specs.Sizes.{IsFirst}
use Rattle.luks_underway.specs.Kinds.{has_reencrypt, is_reencrypt}
use Rattle.luks_underway.specs.Sides.{is_named}
use Rattle.luks_contradictions.specs.Counts.{digests_of}
use Rattle.luks_contradictions.proofs.Counted.{one_counted, some_counted}
use Rattle.luks_contradictions.proofs.UnderWayFacts.{held_by}
use Rattle.luks_wider.specs.Accepted.{IsWideAccepted}

-- the digest has the keyslot's name
abbrev names_it : Data → ℕ → ℕ → Bool
names_it j n m = is_named j (codes "keyslots") n m

-- what was looked for among the digests
abbrev IsSought : Data → ℕ → Option ℕ → Type 0
IsSought j n o = MatchOption o ((m : ℕ) → m < 32 → names_it j n m ≡ false) (IsFirst (names_it j n))

pub digest_some : (j : Data) (n : ℕ) (d : Data) → n < 32 → object_at j Keyslots n ≡ Some d → (o : Option ℕ) → IsSought j n o → IfSome o (IsDigestOf j n)
digest_some j n d less is None none = tt
digest_some j n d less is (Some m) first =
    let h = held_by (λ e. names (number_text n) (get (codes "keyslots") e)) (object_at j Digests m) first.holds in
    record { named = less; keyslot = rw is refl; numbered = first.below; object = h.0; is = h.1; lists = h.2 }

named_at : (j : Data) (n m : ℕ) → IsDigestOf j n m → names_it j n m ≡ true
named_at j n m d = rw d.is d.lists

few : (j : Data) → IsWideAccepted j → (n : ℕ) (d : Data) → HasObject j Keyslots n d → digests_of j (codes "keyslots") n ≤ 1
few j a n d h = elim (cases_Bool (is_reencrypt d)) [
  | inl is ↦ a.rules.resolves.reencryption n d h is
  | inr other ↦ let one = a.rules.resolves.keyslots n d h other in omega (arith, one)
]

pub digest_only : (j : Data) → IsWideAccepted j → (n : ℕ) (d : Data) → n < 32 → object_at j Keyslots n ≡ Some d → (o : Option ℕ) → IsSought j n o
    → (m : ℕ) → IsDigestOf j n m → o ≡ Some m
digest_only j a n d less is None none m h = absurd (false≢true (sym (none m h.numbered) ∙ named_at j n m h))
digest_only j a n d less is (Some k) first m h =
    ap Some (one_counted (names_it j n) 32 k m (few j a n d (record { numbered = refl; named = less; is = is })) first.below h.numbered first.holds (named_at j n m h))

pub digest_there : (j : Data) → IsWideAccepted j → (n : ℕ) (d : Data) → n < 32 → object_at j Keyslots n ≡ Some d → (o : Option ℕ) → IsSought j n o
    → has_reencrypt j n ≡ false → is_some o ≡ true
digest_there j a n d less is None none other =
    let plain : is_reencrypt d ≡ false = rw is at other in
    let one = a.rules.resolves.keyslots n d (record { numbered = refl; named = less; is = is }) plain in
    let s = some_counted (names_it j n) 32 (omega (arith, one)) in
    absurd (false≢true (sym (none s.0 s.1) ∙ s.2))
digest_there j a n d less is (Some k) first other = refl
