-- The first fault: the least member of a set of faults.
-- A fault has a row of its table and a place within the row; both are numbers, written one after
-- the other as the fault's key, and keys are compared number by number.
use Rattle.std.specs.Prelude.{◌≡◌, ℕ, ◌≤◌, List, [], ◌∷◌, Result, Ok, Err}

-- the key `xs` comes before the key `ys`, or is the same
abbrev pub NotAfter : List ℕ → List ℕ → Type 0
NotAfter [] ys = Unit {0}
NotAfter (x ∷ xs) [] = ⊥
NotAfter (x ∷ xs) (y ∷ ys) = (x ≤ y) × (x ≡ y → NotAfter xs ys)

-- `f` is a fault of the set, and no fault of the set comes before it
abbrev pub IsLeast : {F : Type 0} → (F → List ℕ) → (F → Type 0) → F → Type 0
IsLeast {F} key faults f = faults f × ((g : F) → faults g → NotAfter (key f) (key g))

-- one row has been judged: `Ok` where the set has no fault of the row `k`, else the least fault of the row
abbrev pub JudgesRow : {F X : Type 0} → (F → ℕ) → (F → List ℕ) → (F → Type 0) → ℕ → Result X F → Type 0
JudgesRow {F} row place faults k (Ok x) = (g : F) → faults g → row g ≡ k → ⊥
JudgesRow {F} row place faults k (Err f) = (row f ≡ k) × faults f × ((g : F) → faults g → row g ≡ k → NotAfter (place f) (place g))
