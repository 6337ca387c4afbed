-- Which prints failed.
use Rattle.std.specs.Prelude.{◌≡◌, ℕ, ◌+◌, Result, MatchResult}

-- a print that failed raises the count by one, and no other does
abbrev pub CountsPrint : {T F : Type 0} → Result T F → ℕ → ℕ → Type 0
CountsPrint result old new = MatchResult result (λ _. new ≡ old) (λ _. new ≡ old + 1)
