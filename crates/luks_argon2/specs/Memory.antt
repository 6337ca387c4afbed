-- How the memory holds lanes that keep all their blocks: block n of lane l, as long as it is among the
-- last of its lane, is at place n % q of the q places of that lane.
use Rattle.std.specs.Prelude.{◌≡◌, ◌≢◌, ℕ, ◌+◌, ◌-◌, ◌*◌, ◌/◌, ◌%◌, ◌<◌, ◌≤◌, true, List, [], get_or, length, max}
use Rattle.luks_argon2.specs.Argon2.{Work, address_block, is_independent}
use Rattle.luks_argon2.specs.Indexing.{window_start}
use Rattle.luks_argon2.specs.declared.variant.Variant.{Variant}
use Rattle.luks_argon2.specs.declared.variant.Variant.TheVariants.{D, I, Id}
use Rattle.luks_argon2.specs.declared.shape.Shape.{Shape}

abbrev pub variant_number : Variant → ℕ
variant_number D = 0
variant_number I = 1
variant_number Id = 2

abbrev pub work_of : Shape → Work
work_of s = record { passes = s.passes; lanes = s.lanes; segment = s.segment; variant = variant_number s.variant }

-- the memory has the blocks a to b - 1 of lane l
abbrev pub HoldsLane : List (List ℕ) → ℕ → ℕ → List (List ℕ) → ℕ → ℕ → Type 0
HoldsLane memory q l lane a b = (n : ℕ) → a ≤ n → n < b → get_or memory (l * q + n % q) [] ≡ get_or lane n []

-- the memory has what slice s of lane l may refer to in the other lanes
abbrev pub HoldsOthers : List (List ℕ) → Shape → List (List (List ℕ)) → ℕ → ℕ → Type 0
HoldsOthers memory shape lanes s l = (k : ℕ) → k < shape.lanes → k ≢ l
    → HoldsLane memory (4 * shape.segment) k (get_or lanes k []) (window_start s shape.segment) (s * shape.segment)

-- the pairs are those of block i, and they are if they have been made for a block before it
abbrev pub HasPairs : Work → ℕ → ℕ → ℕ → List ℕ → Type 0
HasPairs w s l i pairs = is_independent w.variant s ≡ true → pairs ≡ address_block w s l (i / 128 + 1)

abbrev pub HasPairsBefore : Work → ℕ → ℕ → ℕ → List ℕ → Type 0
HasPairsBefore w s l i pairs = is_independent w.variant s ≡ true → 0 < i % 128 → pairs ≡ address_block w s l (i / 128 + 1)

-- the memory before slice s of lane l
abbrev pub IsBefore : List (List ℕ) → Shape → List (List (List ℕ)) → ℕ → ℕ → Type 0
IsBefore memory shape lanes s l =
    (length (get_or lanes l []) ≡ max 2 (s * shape.segment))
    × HoldsLane memory (4 * shape.segment) l (get_or lanes l []) (s * shape.segment - 4 * shape.segment) (max 2 (s * shape.segment))
    × HoldsOthers memory shape lanes s l

-- the memory before slice s, in all lanes
abbrev pub HoldsAll : List (List ℕ) → Shape → List (List (List ℕ)) → ℕ → Type 0
HoldsAll memory shape lanes s = (l : ℕ) → l < shape.lanes
    → (length (get_or lanes l []) ≡ max 2 (s * shape.segment))
    × HoldsLane memory (4 * shape.segment) l (get_or lanes l []) (s * shape.segment - 4 * shape.segment) (max 2 (s * shape.segment))
