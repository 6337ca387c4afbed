-- Askings for ranges of a volume, one after the other.
use mathlib.Core.Logic.{inl, inr}
use Rattle.std.specs.Prelude.{ℕ, List, [], ◌∷◌, ◌⊎◌, ⊤}
use Rattle.luks_area.specs.Ranges.{IsAt}
use Rattle.luks_given.specs.declared.parts.Part.{Part}
use Rattle.luks_given.specs.Parts.{AreApart, AreInside, HasPlace, IsWanted}

-- ranges of a volume of `total` bytes, with a gap between any two
pub record AreRanges (parts : List Part) (total : ℕ) : Type 0 where
  pub apart : AreApart 0 parts
  pub inside : AreInside total parts

-- a range that was wanted, and all ranges that the caller gives then
pub record Asking : Type 0 where
  pub wanted : Part
  pub given : List Part

-- a call that was given these ranges wanted one that isn't among them; it is given too then, and all that was given before
pub record IsAsking (parts : List Part) (total : ℕ) (asking : Asking) : Type 0 where
  pub wants : IsWanted parts total asking.wanted
  pub ranges : AreRanges asking.given total
  pub kept : (p : ℕ) → HasPlace parts p → HasPlace asking.given p
  pub has : (p : ℕ) → IsAt asking.wanted.at asking.wanted.len p → HasPlace asking.given p

-- the askings of a call that is made again and again, from the time on at which these ranges are given
unfoldable pub AreAskings : List Part → ℕ → List Asking → Type 0
AreAskings parts total [] = ⊤
AreAskings parts total (asking ∷ askings) = IsAsking parts total asking × AreAskings asking.given total askings

-- those of a call over two volumes: each is for a range of the one or of the other
unfoldable pub AreAskingsOfTwo : List Part → ℕ → List Part → ℕ → List (Asking ⊎ Asking) → Type 0
AreAskingsOfTwo source n parts total [] = ⊤
AreAskingsOfTwo source n parts total (inl asking ∷ askings) = IsAsking source n asking × AreAskingsOfTwo asking.given n parts total askings
AreAskingsOfTwo source n parts total (inr asking ∷ askings) = IsAsking parts total asking × AreAskingsOfTwo source n asking.given total askings
