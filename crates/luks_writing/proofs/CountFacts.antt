-- The counts of two devices, of which one alone was called.
use Rattle.std.proofs.Common.{◌≡◌, ℕ, Bool, true, false, refl, inl, subst}
use Rattle.luks_area.specs.Device.{count_after}
use Rattle.luks_writing.specs.TwoDevices.{CountsAfter, IsOneFailure}

-- the first was called
pub counts_first : (b : Bool) (s t u : ℕ) → t ≡ count_after b s → CountsAfter b s t u u
counts_first true s t u e = inl (e, refl)
counts_first false s t u e = (e, refl)

-- none failed
pub counts_none : (b : Bool) (s t u : ℕ) → b ≡ false → t ≡ s → CountsAfter b s t u u
counts_none true s t u off e = absurd (let no = off in cc)
counts_none false s t u off e = (e, refl)

-- one of the two failed, and the first hadn't before
pub one_failure : {s t u v w : ℕ} → t ≡ s → IsOneFailure t u v w → IsOneFailure s u v w
one_failure {u = u} {v = v} {w = w} same one = subst (λ (n : ℕ). IsOneFailure n u v w) same one
