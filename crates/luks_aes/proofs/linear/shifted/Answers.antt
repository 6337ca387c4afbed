use Rattle.std.proofs.Common.{◌+◌, ◌*◌, ◌%◌, [], ◌∷◌, refl}
use Rattle.luks_aes.proofs.LinearFacts.{moved, moved-byte}
use Rattle.luks_aes.proofs.linear.shifted.Goals as goal

pub returns-clause-plane : goal.returns-clause-plane
returns-clause-plane c = record { long = refl; bytes = moved-byte (0 ∷ 5 ∷ 10 ∷ 15 ∷ 4 ∷ 9 ∷ 14 ∷ 3 ∷ 8 ∷ 13 ∷ 2 ∷ 7 ∷ 12 ∷ 1 ∷ 6 ∷ 11 ∷ []) (λ k. (k + 4 * (k % 4)) % 16) refl refl c.args.x c.requires }

pub returns-clause-bytes : goal.returns-clause-bytes
returns-clause-bytes c = moved (0 ∷ 5 ∷ 10 ∷ 15 ∷ 4 ∷ 9 ∷ 14 ∷ 3 ∷ 8 ∷ 13 ∷ 2 ∷ 7 ∷ 12 ∷ 1 ∷ 6 ∷ 11 ∷ []) (λ k. (k + 4 * (k % 4)) % 16) refl refl c.args.x c.requires
