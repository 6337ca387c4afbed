-- Bytes of which some are hidden: words of private contracts.
use Rattle.std.specs.Prelude.{ℕ, List, ◌++◌, length, drop, min, replicate}

-- the bytes `v`, with zeros in the place of those before the place `p`
abbrev pub behind_zeros : List ℕ → ℕ → List ℕ
behind_zeros v p = replicate (min p (length v)) 0 ++ drop (min p (length v)) v
