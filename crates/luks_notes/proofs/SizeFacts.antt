-- The sizes that a copy may have, one after the other.
use Rattle.std.proofs.Common.{◌≡◌, ℕ, ◌-◌, ◌≤◌, List, [], ◌∷◌, length, take, drop, get_or, arith, refl, sym, subst}
use Rattle.std.proofs.lemmas.List.{take_rest}
use Rattle.luks2_header.specs.Sizes.{listed_sizes, IsListed}

-- each of these is listed
abbrev pub AreListed : List ℕ → Type 0
AreListed [] = Unit {0}
AreListed (s ∷ ss) = IsListed s × AreListed ss

-- all nine are
pub sizes_listed : AreListed listed_sizes
sizes_listed = (refl, (refl, (refl, (refl, (refl, (refl, (refl, (refl, (refl, tt)))))))))

-- the first is
pub listed_first : (ss : List ℕ) (d : ℕ) → 1 ≤ length ss → AreListed ss → IsListed (get_or ss 0 d)
listed_first [] d some listed = absurd (omega (arith, some))
listed_first (s ∷ ss) d some listed = listed.0

-- and so are those behind it
pub listed_later : (ss : List ℕ) → AreListed ss → AreListed (take (length ss - 1) (drop 1 ss))
listed_later [] listed = tt
listed_later (s ∷ ss) listed = subst AreListed (sym (take_rest (s ∷ ss) 1)) listed.1
