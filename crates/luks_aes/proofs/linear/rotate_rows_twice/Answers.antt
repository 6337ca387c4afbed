use Rattle.std.proofs.Common.{[], ◌∷◌, refl}
use Rattle.luks_aes.specs.Planes.{rotated_place}
use Rattle.luks_aes.proofs.LinearFacts.{moved, moved-byte}
use Rattle.luks_aes.proofs.linear.rotate_rows_twice.Goals as goal

pub returns-clause-plane : goal.returns-clause-plane
returns-clause-plane c = record { long = refl; bytes = moved-byte (2 ∷ 3 ∷ 0 ∷ 1 ∷ 6 ∷ 7 ∷ 4 ∷ 5 ∷ 10 ∷ 11 ∷ 8 ∷ 9 ∷ 14 ∷ 15 ∷ 12 ∷ 13 ∷ []) (rotated_place 2) refl refl c.args.x c.requires }

pub returns-clause-bytes : goal.returns-clause-bytes
returns-clause-bytes c = moved (2 ∷ 3 ∷ 0 ∷ 1 ∷ 6 ∷ 7 ∷ 4 ∷ 5 ∷ 10 ∷ 11 ∷ 8 ∷ 9 ∷ 14 ∷ 15 ∷ 12 ∷ 13 ∷ []) (rotated_place 2) refl refl c.args.x c.requires
