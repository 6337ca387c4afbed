-- What is said of two devices after calls that changed nothing of them is said of them before.
use Rattle.std.proofs.Common.{◌≡◌, ℕ, List, Bool, true, false, refl, sym, subst, ◌∙◌}
use Rattle.std.proofs.lemmas.Bool.{true≢false}
use Rattle.luks_writing.specs.TwoDevices.{CountsAfter, IsOneFailure}
use Rattle.luks_keeping_commands.specs.TwoFiles.{pair_of, NoneFailed, Pair}

-- a pair before such calls, and after them
pub record IsBefore (tells : Type 0) (first then : Pair) : Type 0 where
  pub source : tells → then.source ≡ first.source
  pub old : tells → then.old ≡ first.old
  pub total : then.total ≡ first.total
  pub source_before : then.source_before ≡ first.source_before
  pub before : then.before ≡ first.before
  pub new : then.new ≡ first.new
  pub source_after : then.source_after ≡ first.source_after
  pub after : then.after ≡ first.after

module _ (tells : Type 0) (first then : Pair) (x : IsBefore tells first then) where
  -- what is said of their bytes
  pub lifted : (P : List ℕ → List ℕ → Type 0) → (tells → P then.source then.old) → tells → P first.source first.old
  lifted P said told = subst (λ (l : List ℕ). P l first.old) (x.source told) (subst (λ (l : List ℕ). P then.source l) (x.old told) (said told))

  -- and with what is left
  pub lifted_new : (P : List ℕ → List ℕ → List ℕ → Type 0) → (tells → P then.source then.old then.new) → tells → P first.source first.old first.new
  lifted_new P said told =
      subst (λ (l : List ℕ). P l first.old first.new) (x.source told)
      (subst (λ (l : List ℕ). P then.source l first.new) (x.old told) (subst (λ (l : List ℕ). P then.source then.old l) x.new (said told)))

  pub none_after : NoneFailed then → NoneFailed first
  none_after n = (sym x.source_after ∙ n.0 ∙ x.source_before, sym x.after ∙ n.1 ∙ x.before)

  pub same_after : (tells → then.new ≡ then.old) → tells → first.new ≡ first.old
  same_after said told = sym x.new ∙ said told ∙ x.old told

  pub one_after : IsOneFailure then.source_before then.source_after then.before then.after → IsOneFailure first.source_before first.source_after first.before first.after
  one_after f =
      subst (λ (n : ℕ). IsOneFailure n first.source_after first.before first.after) x.source_before
      (subst (λ (n : ℕ). IsOneFailure then.source_before n first.before first.after) x.source_after
      (subst (λ (n : ℕ). IsOneFailure then.source_before then.source_after n first.after) x.before
      (subst (λ (n : ℕ). IsOneFailure then.source_before then.source_after then.before n) x.after f)))

-- a pair of devices before such calls of both
pub after_both : {D : Type 0} (tells : Type 0) (size : D → ℕ) (bytes : D → List ℕ) (failed : D → ℕ) (source later source_new old mid new : D)
    → (tells → bytes later ≡ bytes source) → failed later ≡ failed source → (tells → bytes mid ≡ bytes old) → size mid ≡ size old → failed mid ≡ failed old
    → IsBefore tells (pair_of size bytes failed source source_new old new) (pair_of size bytes failed later source_new mid new)
after_both {D} tells size bytes failed source later source_new old mid new one counted two long again = record {
  source = one;
  old = two;
  total = long;
  source_before = counted;
  before = again;
  new = refl;
  source_after = refl;
  after = refl;
}

-- and of the source alone
pub after_source : {D : Type 0} (tells : Type 0) (size : D → ℕ) (bytes : D → List ℕ) (failed : D → ℕ) (source later source_new old new : D)
    → (tells → bytes later ≡ bytes source) → failed later ≡ failed source
    → IsBefore tells (pair_of size bytes failed source source_new old new) (pair_of size bytes failed later source_new old new)
after_source {D} tells size bytes failed source later source_new old new one counted =
    after_both tells size bytes failed source later source_new old old new one counted (λ t. refl) refl refl

-- and of the other
pub after_other : {D : Type 0} (tells : Type 0) (size : D → ℕ) (bytes : D → List ℕ) (failed : D → ℕ) (source source_new old mid new : D)
    → (tells → bytes mid ≡ bytes old) → size mid ≡ size old → failed mid ≡ failed old
    → IsBefore tells (pair_of size bytes failed source source_new old new) (pair_of size bytes failed source source_new mid new)
after_other {D} tells size bytes failed source source_new old mid new two long again =
    after_both tells size bytes failed source source source_new old mid new (λ t. refl) refl two long again

-- no call failed where the fault is no device's
pub counted_own : (b : Bool) (s t u w : ℕ) → b ≡ false → CountsAfter b s t u w → (t ≡ s) × (w ≡ u)
counted_own true s t u w own count = absurd (true≢false own)
counted_own false s t u w own count = count

-- what equals the first of two equals the second
pub turned : {A : Type 0} {a b c : A} → a ≡ c → a ≡ b → b ≡ c
turned x y = sym y ∙ x
