-- Bytes that are all zero.
use Rattle.std.proofs.Common.{◌≡◌, ℕ, List, All, length, replicate}
use Rattle.std.proofs.lemmas.List.Elements.{All-replicate}

-- zeros that were written are zero
pub zeros_are_zero : (old bytes : List ℕ) → bytes ≡ replicate (length old) 0 → All (λ byte. byte ≡ 0) bytes
zeros_are_zero old bytes is = rw is (All-replicate {X = ℕ} (λ byte. byte ≡ 0) (length old) 0 (λ _. 0))
