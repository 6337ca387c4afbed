-- The order of preference among eight keyslots, on plain ranks and numbers.
use Rattle.std.proofs.Common.{◌≡◌, ◌≢◌, ◌⊎◌, ℕ, ◌+◌, ◌*◌, ◌<◌, inl, inr, arith}
use Rattle.std.proofs.lemmas.Bool.{cases_lt}

-- the keyslot of rank `p` and number `m` comes before that of rank `q` and number `n`
abbrev pub Before : ℕ → ℕ → ℕ → ℕ → Type 0
Before p m q n = (p < q) ⊎ ((p ≡ q) × (m < n))

-- of two keyslots one comes before the other
pub one_before : (p m q n : ℕ) → m ≢ n → Before p m q n ⊎ Before q n p m
one_before p m q n other = elim (cases_lt p q) [
  | inl less ↦ inl (inl less)
  | inr more ↦ elim (cases_lt q p) [
    | inl less ↦ inr (inl less)
    | inr same ↦ elim (cases_lt m n) [
      | inl low ↦ inl (inr (omega arith, low))
      | inr high ↦ inr (inr (omega arith, omega (arith, other)))
    ]
  ]
]

-- a keyslot doesn't come before itself
pub not_self : (p m q n : ℕ) → Before p m q n → p ≡ q → m ≡ n → ⊥
not_self p m q n (inl less) same_rank same = omega arith
not_self p m q n (inr x) same_rank same = (let low = x.1 in omega (arith, low))

-- places in the order, eight of a rank
pub place_before : (p m q n : ℕ) → m < 8 → Before p m q n → p * 8 + m < q * 8 + n
place_before p m q n low (inl less) = omega arith
place_before p m q n low (inr x) = (let same = x.0 in let below = x.1 in omega (arith, same, below))

-- one that comes before the place behind (r, i) comes before that place, or at it
pub before_or_at : (p m r i : ℕ) → Before p m r (i + 1) → Before p m r i ⊎ ((p ≡ r) × (m ≡ i))
before_or_at p m r i (inl less) = inl (inl less)
before_or_at p m r i (inr x) = elim (cases_lt m i) [
  | inl low ↦ inl (inr (x.0, low))
  | inr high ↦ inr (x.0, (let below = x.1 in omega (arith, below, high)))
]

pub before_further : (p m r i : ℕ) → Before p m r i → Before p m r (i + 1)
before_further p m r i (inl less) = inl less
before_further p m r i (inr x) = inr (x.0, (let below = x.1 in omega (arith, below)))

-- behind all eight of a rank the next rank begins
pub before_next : (p m r : ℕ) → Before p m r 8 → Before p m (r + 1) 0
before_next p m r (inl less) = inl (omega arith)
before_next p m r (inr x) = inl (let same = x.0 in omega (arith, same))

pub before_end : (p m r : ℕ) → m < 8 → Before p m (r + 1) 0 → Before p m r 8
before_end p m r low (inl less) = elim (cases_lt p r) [
  | inl below ↦ inl below
  | inr over ↦ inr (omega arith, low)
]
before_end p m r low (inr x) = (let none = x.1 in absurd (omega (arith, none)))
