-- Each copy's part of what may be hashed: there is one, and all parts together aren't more than the whole.
use Rattle.std.proofs.Common.{◌≡◌, ℕ, suc, ◌*◌, ◌/◌, ◌≤◌, List, [], ◌∷◌, length, inl, inr, arith, sym, ap, ◌∙◌, subst}
use Rattle.std.proofs.Math.Nat.{div-add-mod}
use Rattle.luks_rebuilding.specs.Found.{AreStanding}
use Rattle.luks_rebuilding.specs.Shares.{copies, whole, Counts, IsShare, StandsAt}
use Rattle.luks_rebuilding.specs.declared.place.Effort.{Effort}
use Rattle.luks_rebuilding.specs.declared.place.Place.{Place}
use Rattle.luks_rebuilding.specs.declared.standing.Standing.{Standing}

-- there is one number of them
pub counts_once : (Is : Place → Type 0) (ps : List Place) (m n : ℕ) → Counts Is ps m → Counts Is ps n → m ≡ n
counts_once Is [] m n x y = x ∙ sym y
counts_once Is (p ∷ ps) m n (inl x) (inl y) = x.2 ∙ ap (λ k. suc k) (counts_once Is ps x.1 y.1 x.3 y.3) ∙ sym y.2
counts_once Is (p ∷ ps) m n (inl x) (inr y) = absurd (y.0 x.0)
counts_once Is (p ∷ ps) m n (inr x) (inl y) = absurd (x.0 y.0)
counts_once Is (p ∷ ps) m n (inr x) (inr y) = counts_once Is ps m n x.1 y.1

-- and one part
pub one_share : (v : List ℕ) (effort : Effort) (m n : ℕ) → IsShare v effort m → IsShare v effort n → m ≡ n
one_share v effort m n x y = x.is ∙ ap (λ k. whole effort / k) (counts_once (StandsAt v) copies x.count y.count x.counts y.counts) ∙ sym y.is

-- what stands was counted
pub share_of : (v : List ℕ) (found : List Standing) (effort : Effort) (most : ℕ) → AreStanding v found → most ≡ whole effort / length found → IsShare v effort most
share_of v found effort most x is = record { count = length found; counts = x.counted; is = is }

-- so many parts of a number aren't more than it
parts_fit : (n all : ℕ) → n * (all / n) ≤ all
parts_fit n all =
    let sum = div-add-mod all n in
    omega (arith, sum)

pub shares_fit : (v : List ℕ) (effort : Effort) (most count : ℕ) → IsShare v effort most → Counts (StandsAt v) copies count → count * most ≤ whole effort
shares_fit v effort most count x counts =
    let same : x.count ≡ count = counts_once (StandsAt v) copies x.count count x.counts counts in
    subst (λ (m : ℕ). count * m ≤ whole effort) (sym (x.is ∙ ap (λ k. whole effort / k) same)) (parts_fit count (whole effort))
