-- Circuits of gates on bits.
use Rattle.std.specs.Prelude.{ℕ, List, [], ◌∷◌, map, slice_index, bit_and, bit_xor}

-- a gate takes wires by how many were added after them
pub data Gate : Type 0 where
  xor_of : (i j : ℕ) → Gate
  and_of : (i j : ℕ) → Gate
  not_of : (i : ℕ) → Gate

-- what a gate gives, the newest wire first
abbrev pub value_of : Gate → List ℕ → ℕ
value_of (xor_of i j) wires = bit_xor (slice_index wires i) (slice_index wires j)
value_of (and_of i j) wires = bit_and (slice_index wires i) (slice_index wires j)
value_of (not_of i) wires = bit_xor (slice_index wires i) 1

-- the wires after the gates
abbrev pub run : List Gate → List ℕ → List ℕ
run [] wires = wires
run (g ∷ gs) wires = run gs (value_of g wires ∷ wires)

-- those of them that leave the circuit, by their places
abbrev pub outcome : List Gate → List ℕ → List ℕ → List ℕ
outcome gates ends wires = map (slice_index (run gates wires)) ends
