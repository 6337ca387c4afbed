-- The window of the second block of a message of 192 bytes.
use Rattle.std.proofs.Common.{◌≡◌, ℕ, ◌<◌, ◌^◌, List, [], ◌∷◌, slice_index, refl, sym}
use Rattle.std.proofs.lemmas.Nat.{from_be_bytes-to_be_bytes_8}
use Rattle.sha2.specs.Sha512.{IsWindow, digest_bytes, schedule}
use Rattle.sha2.proofs.Schedule512.{IsWindow_first}
use Rattle.luks_rounds.specs.Wide.{last_block}
use Rattle.luks_rounds.proofs.FirstWindow.{below_sixteen}

-- eight words of a list end the same block
pub eight_words : (h : List ℕ)
    → last_block (slice_index h 0 ∷ slice_index h 1 ∷ slice_index h 2 ∷ slice_index h 3
    ∷ slice_index h 4 ∷ slice_index h 5 ∷ slice_index h 6 ∷ slice_index h 7 ∷ []) ≡ last_block h
unfolding digest_bytes
eight_words h = refl

-- the window of eight words of a hash value, and the padding after them
pub wide_window_is : (x0 x1 x2 x3 x4 x5 x6 x7 : ℕ)
    → x0 < 2 ^ 64 → x1 < 2 ^ 64 → x2 < 2 ^ 64 → x3 < 2 ^ 64 → x4 < 2 ^ 64 → x5 < 2 ^ 64 → x6 < 2 ^ 64 → x7 < 2 ^ 64
    → IsWindow (x0 ∷ x1 ∷ x2 ∷ x3 ∷ x4 ∷ x5 ∷ x6 ∷ x7 ∷ 0x8000000000000000 ∷ 0 ∷ 0 ∷ 0 ∷ 0 ∷ 0 ∷ 0 ∷ 1536 ∷ [])
    (schedule (last_block (x0 ∷ x1 ∷ x2 ∷ x3 ∷ x4 ∷ x5 ∷ x6 ∷ x7 ∷ [])) 64) 16
unfolding digest_bytes
wide_window_is x0 x1 x2 x3 x4 x5 x6 x7 h0 h1 h2 h3 h4 h5 h6 h7 =
    IsWindow_first (last_block (x0 ∷ x1 ∷ x2 ∷ x3 ∷ x4 ∷ x5 ∷ x6 ∷ x7 ∷ []))
    (x0 ∷ x1 ∷ x2 ∷ x3 ∷ x4 ∷ x5 ∷ x6 ∷ x7 ∷ 0x8000000000000000 ∷ 0 ∷ 0 ∷ 0 ∷ 0 ∷ 0 ∷ 0 ∷ 1536 ∷ []) refl
    (below_sixteen _ (sym (from_be_bytes-to_be_bytes_8 x0 h0)) (sym (from_be_bytes-to_be_bytes_8 x1 h1))
    (sym (from_be_bytes-to_be_bytes_8 x2 h2)) (sym (from_be_bytes-to_be_bytes_8 x3 h3))
    (sym (from_be_bytes-to_be_bytes_8 x4 h4)) (sym (from_be_bytes-to_be_bytes_8 x5 h5))
    (sym (from_be_bytes-to_be_bytes_8 x6 h6)) (sym (from_be_bytes-to_be_bytes_8 x7 h7))
    refl refl refl refl refl refl refl refl)
