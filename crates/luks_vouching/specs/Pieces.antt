-- The pieces of which two JSON areas are composed where few bytes of a sector differ: each of these bytes.
use Rattle.std.specs.Prelude.{◌≡◌, ℕ, zero, suc, ◌+◌, ◌*◌, ◌/◌, ◌%◌, ◌<◌, ◌≤◌, ◌==◌, ◌^◌, List, [], ◌∷◌, ◌++◌, ◌⊎◌, Bool, All, length, not, map, nat_le, slice_index, if◌then◌else◌}
use Rattle.std.specs.List.{filter, range_with_len}
use Rattle.luks_area.specs.Ranges.{part, written}
use Rattle.luks_vouching.specs.Composed.{sector_count}
use Rattle.luks_vouching.specs.declared.pieces.Piece.{Piece}

-- the areas differ in the byte at this place
abbrev pub differ_at : List ℕ → List ℕ → ℕ → Bool
differ_at first second p = not (slice_index first p == slice_index second p)

-- one byte as a piece
abbrev pub byte_piece : ℕ → Piece
byte_piece p = record { at = p; len = 1 }

-- those of the `count` bytes from a place on in which they differ
unfoldable pub bytes_from : List ℕ → List ℕ → ℕ → ℕ → List Piece
bytes_from first second from count =
    filter (λ piece. differ_at first second piece.at) (map byte_piece (range_with_len from count))

-- of the sector `k` each of these bytes, where they are 16 at most; else the whole sector
abbrev pub pieces_in : List ℕ → List ℕ → ℕ → List Piece
pieces_in first second k = if nat_le (length (bytes_from first second (512 * k) 512)) 16
    then bytes_from first second (512 * k) 512
    else (record { at = 512 * k; len = 512 } ∷ [])

-- of the first `n` sectors, and of all
abbrev pub pieces_before : List ℕ → List ℕ → ℕ → List Piece
pieces_before first second zero = []
pieces_before first second (suc n) = pieces_before first second n ++ pieces_in first second n

abbrev pub pieces : List ℕ → List ℕ → List Piece
pieces first second = pieces_before first second (sector_count first)

-- `j` with the piece of another area
abbrev pub with_piece : List ℕ → Piece → List ℕ → List ℕ
with_piece other piece j = written j piece.at (part other piece.at piece.len)

-- `j` with those pieces of the other area that this number names by its binary digits, the lowest first
abbrev pub numbered : List ℕ → List Piece → ℕ → List ℕ → List ℕ
numbered other [] n j = j
numbered other (piece ∷ rest) n j =
    numbered other rest (n / 2) (if n % 2 == 1 then with_piece other piece j else j)

-- how many compositions of these pieces there are
abbrev pub piece_count : List ℕ → List ℕ → ℕ
piece_count first second = 2 ^ length (pieces first second)

-- the composition of this number
abbrev pub of_pieces : List ℕ → List ℕ → ℕ → List ℕ
of_pieces first second n = numbered second (pieces first second) n first

-- it is composed of pieces
abbrev pub IsOfPieces : List ℕ → List ℕ → List ℕ → Type 0
IsOfPieces first second j = (n : ℕ) × (n < piece_count first second) × (j ≡ of_pieces first second n)

-- each piece lies inside an area of `total` bytes
abbrev pub AreInside : ℕ → List Piece → Type 0
AreInside total pieces_ = All (λ piece. piece.at + piece.len ≤ total) pieces_

-- `j` has of each piece the bytes of one of both areas, and where these have the same byte that one
pub record IsComposedOfPieces (first second j : List ℕ) : Type 0 where
  pub as_first : length j ≡ length first
  pub each : All (λ piece. (part j piece.at piece.len ≡ part first piece.at piece.len) ⊎ (part j piece.at piece.len ≡ part second piece.at piece.len)) (pieces first second)
  pub rest : (p : ℕ) → p < length j → slice_index first p ≡ slice_index second p → slice_index j p ≡ slice_index first p
