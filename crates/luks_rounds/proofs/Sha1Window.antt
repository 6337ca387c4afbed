-- The window of the second block of a message of 84 bytes.
use Rattle.std.proofs.Common.{◌≡◌, ℕ, ◌<◌, ◌^◌, List, [], ◌∷◌, slice_index, refl, sym}
use Rattle.std.proofs.lemmas.Nat.{from_be_bytes-to_be_bytes_4}
use Rattle.sha1.specs.Sha1.{IsWindow, digest_bytes, schedule}
use Rattle.sha1.proofs.Schedule.{IsWindow_first}
use Rattle.luks_rounds.specs.Quad.{last_block}
use Rattle.luks_rounds.proofs.FirstWindow.{below_sixteen}

-- five words of a list end the same block
pub five_words : (h : List ℕ)
    → last_block (slice_index h 0 ∷ slice_index h 1 ∷ slice_index h 2 ∷ slice_index h 3 ∷ slice_index h 4 ∷ []) ≡ last_block h
unfolding digest_bytes
five_words h = refl

-- the window of five words of a hash value, and the padding after them
pub five_window_is : (x0 x1 x2 x3 x4 : ℕ) → x0 < 2 ^ 32 → x1 < 2 ^ 32 → x2 < 2 ^ 32 → x3 < 2 ^ 32 → x4 < 2 ^ 32
    → IsWindow (x0 ∷ x1 ∷ x2 ∷ x3 ∷ x4 ∷ 0x80000000 ∷ 0 ∷ 0 ∷ 0 ∷ 0 ∷ 0 ∷ 0 ∷ 0 ∷ 0 ∷ 0 ∷ 672 ∷ [])
    (schedule (last_block (x0 ∷ x1 ∷ x2 ∷ x3 ∷ x4 ∷ [])) 64) 16
unfolding digest_bytes
five_window_is x0 x1 x2 x3 x4 h0 h1 h2 h3 h4 =
    IsWindow_first (last_block (x0 ∷ x1 ∷ x2 ∷ x3 ∷ x4 ∷ []))
    (x0 ∷ x1 ∷ x2 ∷ x3 ∷ x4 ∷ 0x80000000 ∷ 0 ∷ 0 ∷ 0 ∷ 0 ∷ 0 ∷ 0 ∷ 0 ∷ 0 ∷ 0 ∷ 672 ∷ []) refl
    (below_sixteen _ (sym (from_be_bytes-to_be_bytes_4 x0 h0)) (sym (from_be_bytes-to_be_bytes_4 x1 h1))
    (sym (from_be_bytes-to_be_bytes_4 x2 h2)) (sym (from_be_bytes-to_be_bytes_4 x3 h3))
    (sym (from_be_bytes-to_be_bytes_4 x4 h4))
    refl refl refl refl refl refl refl refl refl refl refl)
