-- The salts of keyslots, and how they stand to each other.
use Rattle.std.proofs.Common.{◌≡◌, ◌↔◌, ℕ, ◌<◌, List, length, Option, Some, None, slice_index_or, IsTrue, refl, sym, ap, subst, ◌∙◌}
use Rattle.std.proofs.lemmas.List.{get_or_default}
use Rattle.serde_json.specs.Data.{Data as Value}
use Rattle.luks_rules.proofs.AreaFaults.{one_value}
use Rattle.luks_meta.specs.Content.{content}
use Rattle.luks_rules.specs.Faults.{member_at}
use Rattle.luks_rules.specs.Reading.{bytes_in}
use Rattle.luks_rules.specs.declared.table.Member.TheVariants as member
use Rattle.luks_rules.specs.declared.table.Outer.TheVariants.{Kdf}
use Rattle.luks_reading.specs.Header.{json_at, IsHeader}
use Rattle.luks_reading.specs.declared.header.Header.{Header}
use Rattle.luks_reading.specs.declared.header.Header.TheVariants.{Luks1, Luks2}
use Rattle.luks_keeping.specs.Compared.{HasSalt2, HasSaltAs, IsCompared, IsUsedSalt, StandsSo}
use Rattle.luks_keeping.specs.Laid.{choice_of}
use Rattle.luks_keeping.specs.Outlines.{IsOutline}
use Rattle.luks_keeping.specs.SameKeys.{Shares}
use Rattle.luks_keeping.specs.Salts.{FindsSalt, HasHeaderSalt, HoldsKeeping, IsListedSalt, IsSameOrOlder}
use Rattle.luks_keeping.specs.declared.outline.Outline.{Outline}
use Rattle.luks_keeping.specs.declared.salts.Salt.{Salt}
use Rattle.luks_keeping.specs.declared.comparison.Comparison.{Comparison}
use Rattle.luks_keeping.specs.declared.comparison.Keeping.{Keeping}
use Rattle.luks_keeping.specs.declared.comparison.Keeping.TheVariants.{Absent, Same, Older, Missing, Removed, Damaged}
use Rattle.luks_keeping.proofs.KeyFacts.{shares_digest, shares_header}
use Rattle.luks_keeping.proofs.LaidFacts.{chosen_of}

-- ---- one salt

some_same : {A : Type 0} (x y : A) → Some x ≡ Some y → x ≡ y
some_same x y e = cc

one_salt2 : (j : Value) (n : ℕ) (s t : List ℕ) → HasSalt2 j n s → HasSalt2 j n t → s ≡ t
one_salt2 j n s t x y =
    let same : x.object ≡ y.object = some_same x.object y.object (sym x.is ∙ y.is) in
    some_same s t (sym x.salted ∙ ap (λ o. bytes_in 1 128 (member_at o Kdf member.Salt)) same ∙ y.salted)

one_salt : (h : Header) (n : ℕ) (s t : List ℕ) → HasHeaderSalt h n s → HasHeaderSalt h n t → s ≡ t
one_salt (Luks1 bytes) n s t x y = sym x.salted ∙ y.salted
one_salt (Luks2 copy) n s t x y = one_salt2 (content copy.meta) n s t x y

-- ---- as it is listed

there : (o : Option Salt) (x : Salt) → o ≡ Some x → IsListedSalt o x.bytes.items
there o x e = subst (λ (q : Option Salt). IsListedSalt q x.bytes.items) (sym e) refl

gone : (o : Option Salt) → o ≡ None → (s : List ℕ) → IsListedSalt o s → ⊥
gone o e s y = subst (λ (q : Option Salt). IsListedSalt q s) e y

only : (o : Option Salt) (x : Salt) → o ≡ Some x → (s : List ℕ) → IsListedSalt o s → x.bytes.items ≡ s
only o x e s y = subst (λ (q : Option Salt). IsListedSalt q s) e y

-- two keyslots that are there
pub both_there : (o p : Option Salt) (x y : Salt) → o ≡ Some x → p ≡ Some y → (state : Keeping) → IsSameOrOlder x.bytes.items y.bytes.items state
    → StandsSo (IsListedSalt o) (IsListedSalt p) state
both_there o p x y e f Same same = (x.bytes.items, (there o x e, subst (IsListedSalt p) (sym same) (there p y f)))
both_there o p x y e f Older other = ((x.bytes.items, there o x e), (y.bytes.items, there p y f), λ s here stands. other (only o x e s here ∙ sym (only p y f s stands)))
both_there o p x y e f state other = absurd other

-- one of them alone, or neither
pub first_there : (o p : Option Salt) (x : Salt) → o ≡ Some x → p ≡ None → StandsSo (IsListedSalt o) (IsListedSalt p) Removed
first_there o p x e f = ((x.bytes.items, there o x e), gone p f)

pub second_there : (o p : Option Salt) (y : Salt) → o ≡ None → p ≡ Some y → StandsSo (IsListedSalt o) (IsListedSalt p) Missing
second_there o p y e f = (gone o e, (y.bytes.items, there p y f))

pub none_there : (o p : Option Salt) → o ≡ None → p ≡ None → StandsSo (IsListedSalt o) (IsListedSalt p) Absent
none_there o p e f = (gone o e, gone p f)

-- whatever follows the list's end
pub stands_at : (o p : List (Option Salt)) (n : ℕ) (d e : Option Salt) (state : Keeping) → n < length o → n < length p
    → StandsSo (IsListedSalt (slice_index_or o n d)) (IsListedSalt (slice_index_or p n e)) state
    → StandsSo (IsListedSalt (slice_index_or o n None)) (IsListedSalt (slice_index_or p n None)) state
stands_at o p n d e state low under x =
    subst (λ (q : Option Salt). StandsSo (IsListedSalt q) (IsListedSalt (slice_index_or p n None)) state) (get_or_default o n d None low)
    (subst (λ (q : Option Salt). StandsSo (IsListedSalt (slice_index_or o n d)) (IsListedSalt q) state) (get_or_default p n e None under) x)

-- the salt that is listed is the header's
salt_in : (has : List ℕ → Type 0) (o : Option Salt) → FindsSalt has o → (s : List ℕ) → IsListedSalt o s → has s
salt_in has None found s x = absurd x
salt_in has (Some salt) found s x = subst has x found

salt_out : (has : List ℕ → Type 0) (o : Option Salt) → ((s t : List ℕ) → has s → has t → s ≡ t) → FindsSalt has o → (s : List ℕ) → has s → IsListedSalt o s
salt_out has None one found s x = absurd (found s x)
salt_out has (Some salt) one found s x = one salt.bytes.items s found x

-- ---- the same of volumes

salt_to : (b : List ℕ) (h : Header) → IsHeader b h → (n : ℕ) (s : List ℕ) → HasHeaderSalt h n s → HasSaltAs b (choice_of h) n s
salt_to b (Luks1 bytes) is n s x = subst (λ (l : List ℕ). IsUsedSalt l n s) is.1 x
salt_to b (Luks2 copy) is n s x = record { value = content copy.meta; holds = is.metadata.json; has = x }

salt_from : (b : List ℕ) (h : Header) → IsHeader b h → (n : ℕ) (s : List ℕ) → HasSaltAs b (choice_of h) n s → HasHeaderSalt h n s
salt_from b (Luks1 bytes) is n s x = subst (λ (l : List ℕ). IsUsedSalt l n s) (sym is.1) x
salt_from b (Luks2 copy) is n s x =
    subst (λ (j : Value). HasSalt2 j n s) (one_value (json_at b copy.header.hdr_offset) x.value (content copy.meta) x.holds is.metadata.json) x.has

module _
    (P Q P' Q' : List ℕ → Type 0) (p : (s : List ℕ) → P s → P' s) (p' : (s : List ℕ) → P' s → P s)
    (q : (s : List ℕ) → Q s → Q' s) (q' : (s : List ℕ) → Q' s → Q s)
  where
    stands_as : (state : Keeping) → StandsSo P Q state → StandsSo P' Q' state
    stands_as Absent x = (λ s y. x.0 s (p' s y), λ s y. x.1 s (q' s y))
    stands_as Same x = (x.0, (p x.0 x.1.0, q x.0 x.1.1))
    stands_as Older x = ((x.0.0, p x.0.0 x.0.1), (x.1.0, q x.1.0 x.1.1), λ s y z. x.2 s (p' s y) (q' s z))
    stands_as Missing x = (λ s y. x.0 s (p' s y), (x.1.0, q x.1.0 x.1.1))
    stands_as Removed x = ((x.0.0, p x.0.0 x.0.1), λ s y. x.1 s (q' s y))
    stands_as Damaged x = absurd x

pub is_compared : (h k : Header) (o p : Outline) → IsOutline h o → IsOutline k p → (c : Comparison) → (IsTrue c.same_key ↔ Shares o.identity p.identity) → HoldsKeeping o.salts p.salts 32 c.keyslots
    → (b t : List ℕ) → IsHeader b h → IsHeader t k → IsCompared b t c
is_compared h k o p own others c key held b t is other = record {
  choice = choice_of h;
  chosen = chosen_of b h is;
  other = choice_of k;
  counts = chosen_of t k other;
  key = (
    λ e. shares_digest b t h k o.identity p.identity own.identity others.identity is other (key.0 e),
    λ x. key.1 (shares_header b t h k o.identity p.identity own.identity others.identity is other x),
  );
  each = λ n low.
      stands_as (IsListedSalt (slice_index_or o.salts n None)) (IsListedSalt (slice_index_or p.salts n None)) (HasSaltAs b (choice_of h) n) (HasSaltAs t (choice_of k) n)
      (λ s x. salt_to b h is n s (salt_in (HasHeaderSalt h n) (slice_index_or o.salts n None) (own.salts.each n low) s x))
      (λ s x. salt_out (HasHeaderSalt h n) (slice_index_or o.salts n None) (one_salt h n) (own.salts.each n low) s (salt_from b h is n s x))
      (λ s x. salt_to t k other n s (salt_in (HasHeaderSalt k n) (slice_index_or p.salts n None) (others.salts.each n low) s x))
      (λ s x. salt_out (HasHeaderSalt k n) (slice_index_or p.salts n None) (one_salt k n) (others.salts.each n low) s (salt_from t k other n s x))
      _ (held.each n low);
}
