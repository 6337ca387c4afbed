use Rattle.std.proofs.Common.{[], ◌∷◌, refl}
use Rattle.luks_aes.specs.Planes.{rotated_place}
use Rattle.luks_aes.proofs.LinearFacts.{moved, moved-byte}
use Rattle.luks_aes.proofs.linear.rotate_rows.Goals as goal

pub returns-clause-plane : goal.returns-clause-plane
returns-clause-plane c = record { long = refl; bytes = moved-byte (1 ∷ 2 ∷ 3 ∷ 0 ∷ 5 ∷ 6 ∷ 7 ∷ 4 ∷ 9 ∷ 10 ∷ 11 ∷ 8 ∷ 13 ∷ 14 ∷ 15 ∷ 12 ∷ []) (rotated_place 1) refl refl c.args.x c.requires }

pub returns-clause-bytes : goal.returns-clause-bytes
returns-clause-bytes c = moved (1 ∷ 2 ∷ 3 ∷ 0 ∷ 5 ∷ 6 ∷ 7 ∷ 4 ∷ 9 ∷ 10 ∷ 11 ∷ 8 ∷ 13 ∷ 14 ∷ 15 ∷ 12 ∷ []) (rotated_place 1) refl refl c.args.x c.requires
