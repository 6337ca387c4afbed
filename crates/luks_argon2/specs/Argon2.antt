-- Argon2, version 0x13 (RFC 9106, 3.2), over lanes that keep all blocks they ever constructed.
use Rattle.std.specs.Prelude.{ℕ, zero, suc, ◌+◌, ◌-◌, ◌*◌, ◌/◌, ◌%◌, Bool, true, false, nat_eq, nat_lt, List, [], ◌∷◌, ◌++◌, get_or, length, map, replicate, slice_index, if◌then◌else◌}
use Rattle.std.specs.Int.{w32, to_le_bytes}
use Rattle.std.specs.List.{range_with_len}
use Rattle.luks_argon2.specs.Blake2b.{blake2b, digest_bytes, word_at}
use Rattle.luks_argon2.specs.VariableHash.{variable_hash}
use Rattle.luks_argon2.specs.BlockCompression.{block_of, compressed, xor_blocks}
use Rattle.luks_argon2.specs.Indexing.{reference}

-- passes, lanes, the length of a segment, and the variant: 0 for Argon2d, 1 for Argon2i, 2 for Argon2id
pub record Work : Type 0 where
  pub passes : ℕ
  pub lanes : ℕ
  pub segment : ℕ
  pub variant : ℕ

-- whether the references of slice s don't depend on the password (3.4.1)
unfoldable pub is_independent : ℕ → ℕ → Bool
is_independent variant s = if nat_eq variant 1 then true else if nat_eq variant 2 then nat_lt s 2 else false

-- the pairs of counter c in a segment (3.4.1.2)
unfoldable pub address_block : Work → ℕ → ℕ → ℕ → List ℕ
address_block w s l c =
    let input = s / 4 ∷ l ∷ s % 4 ∷ 4 * (w.lanes * w.segment) ∷ w.passes ∷ w.variant ∷ c ∷ replicate 121 0 in
    compressed (replicate 128 0) (compressed (replicate 128 0) input)

-- J_1 + 2 ^ 32 * J_2 of block i
unfoldable pub pair : Work → ℕ → ℕ → ℕ → List ℕ → ℕ
pair w s l i previous =
    if is_independent w.variant s then slice_index (address_block w s l (i / 128 + 1)) (i % 128) else slice_index previous 0

-- block i of slice s in lane l, where `own` is the lane so far and `lanes` are the lanes before the slice
unfoldable pub next_block : Work → List (List (List ℕ)) → List (List ℕ) → ℕ → ℕ → ℕ → List ℕ
next_block w lanes own s l i =
    let n = s * w.segment + i in
    let previous = get_or own (n - 1) [] in
    let j = pair w s l i previous in
    let at = reference s w.segment w.lanes l i j in
    let from = if nat_eq at.0 l then own else get_or lanes at.0 [] in
    let made = compressed previous (get_or from at.1 []) in
    if nat_lt s 4 then made else xor_blocks made (get_or own (n - 4 * w.segment) [])

-- lane l with the first i blocks of slice s; the first two blocks of a lane are there at the start
unfoldable pub extended : Work → List (List (List ℕ)) → ℕ → ℕ → ℕ → List (List ℕ)
extended w lanes s l zero = get_or lanes l []
extended w lanes s l (suc i) =
    let own = extended w lanes s l i in
    if nat_lt (s * w.segment + i) 2 then own else own ++ next_block w lanes own s l i ∷ []

-- all lanes after slice s
unfoldable pub slice_added : Work → List (List (List ℕ)) → ℕ → List (List (List ℕ))
slice_added w lanes s = map (λ l. extended w lanes s l w.segment) (range_with_len 0 w.lanes)

-- all lanes before slice s
unfoldable pub lanes_before : Work → List (List (List ℕ)) → ℕ → List (List (List ℕ))
lanes_before w first zero = first
lanes_before w first (suc s) = slice_added w (lanes_before w first s) s

-- ---- the whole (3.2)

-- a text under its length
abbrev pub counted : List ℕ → List ℕ
counted xs = to_le_bytes w32 (length xs) ++ xs

-- H_0 (3.2, step 1)
unfoldable pub first_digest : ℕ → ℕ → ℕ → ℕ → ℕ → List ℕ → List ℕ → List ℕ → List ℕ → List ℕ
first_digest variant lanes len memory passes password salt secret associated =
    blake2b 64 (to_le_bytes w32 lanes ++ (to_le_bytes w32 len ++ (to_le_bytes w32 memory ++ (to_le_bytes w32 passes
    ++ (to_le_bytes w32 0x13 ++ (to_le_bytes w32 variant ++ (counted password ++ (counted salt ++ (counted secret ++ counted associated)))))))))

unfoldable pub words_of : List ℕ → List ℕ
words_of bytes = block_of (λ k. word_at bytes (8 * k))

-- the first two blocks of lane l (3.2, steps 3 and 4)
unfoldable pub first_block : List ℕ → ℕ → ℕ → List ℕ
first_block digest column l = words_of (variable_hash 1024 (digest ++ (to_le_bytes w32 column ++ to_le_bytes w32 l)))

unfoldable pub first_lanes : List ℕ → ℕ → List (List (List ℕ))
first_lanes digest lanes = map (λ l. first_block digest 0 l ∷ first_block digest 1 l ∷ []) (range_with_len 0 lanes)

-- the last blocks of the first n lanes, xored (3.2, step 7)
unfoldable pub last_xored : List (List (List ℕ)) → ℕ → List ℕ
last_xored lanes zero = replicate 128 0
last_xored lanes (suc l) = let lane = get_or lanes l [] in xor_blocks (last_xored lanes l) (get_or lane (length lane - 1) [])

-- the tag of len bytes, from the first digest (3.2, steps 3 to 8)
unfoldable pub tag_from : Work → ℕ → List ℕ → List ℕ
tag_from w len digest =
    let end = lanes_before w (first_lanes digest w.lanes) (4 * w.passes) in
    variable_hash len (digest_bytes (last_xored end w.lanes) 128)

-- Argon2's tag of len bytes, with memory in KiB (3.2): a lane has floor (m / (4 * p)) blocks in each of
-- its four segments (step 2)
unfoldable pub argon2 : ℕ → ℕ → ℕ → ℕ → ℕ → List ℕ → List ℕ → List ℕ → List ℕ → List ℕ
argon2 variant lanes len memory passes password salt secret associated =
    let work : Work = record { passes = passes; lanes = lanes; segment = memory / (4 * lanes); variant = variant } in
    tag_from work len (first_digest variant lanes len memory passes password salt secret associated)
