use Rattle.std.proofs.Common.{◌+◌, ◌*◌, ◌%◌, [], ◌∷◌, refl}
use Rattle.luks_aes.proofs.LinearFacts.{moved, moved-byte}
use Rattle.luks_aes.proofs.linear.shifted_back.Goals as goal

pub returns-clause-plane : goal.returns-clause-plane
returns-clause-plane c = record { long = refl; bytes = moved-byte (0 ∷ 13 ∷ 10 ∷ 7 ∷ 4 ∷ 1 ∷ 14 ∷ 11 ∷ 8 ∷ 5 ∷ 2 ∷ 15 ∷ 12 ∷ 9 ∷ 6 ∷ 3 ∷ []) (λ k. (k + 12 * (k % 4)) % 16) refl refl c.args.x c.requires }

pub returns-clause-bytes : goal.returns-clause-bytes
returns-clause-bytes c = moved (0 ∷ 13 ∷ 10 ∷ 7 ∷ 4 ∷ 1 ∷ 14 ∷ 11 ∷ 8 ∷ 5 ∷ 2 ∷ 15 ∷ 12 ∷ 9 ∷ 6 ∷ 3 ∷ []) (λ k. (k + 12 * (k % 4)) % 16) refl refl c.args.x c.requires
