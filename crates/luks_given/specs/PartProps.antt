-- What is said of ranges is a fact: it has one proof at most.
use Rattle.std.specs.Prelude.{ℕ, ◌+◌, List, [], ◌∷◌}
use Rattle.std.specs.Coded.{coded_list, coded_ℕ, le_prop, ×_prop, Coded-set, Unit-prop}
use Rattle.luks_area.specs.Ranges.{part}
use Rattle.luks_given.specs.declared.parts.Part.{Part}
use Rattle.luks_given.specs.Parts.{AreApart, AreInside, AreParts}

-- that they are apart
pub apart-prop : (free : ℕ) (rs : List Part) → IsProp (AreApart free rs)
unfolding AreApart
apart-prop free [] = Unit-prop
apart-prop free (r ∷ rs) = ×_prop le_prop (apart-prop (r.at + r.len + 1) rs)

-- that each ends within so many bytes
pub inside-prop : (total : ℕ) (rs : List Part) → IsProp (AreInside total rs)
unfolding AreInside
inside-prop total [] = Unit-prop
inside-prop total (r ∷ rs) = ×_prop le_prop (inside-prop total rs)

-- that these are the bytes in them
pub parts-prop : (rs : List Part) (before : ℕ) (bytes v : List ℕ) → IsProp (AreParts rs before bytes v)
unfolding AreParts
parts-prop [] before bytes v = Unit-prop
parts-prop (r ∷ rs) before bytes v = ×_prop (Coded-set (coded_list coded_ℕ) (part v r.at r.len) (part bytes before r.len)) (parts-prop rs (before + r.len) bytes v)
