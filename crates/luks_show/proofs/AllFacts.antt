-- The further lines of keyslots and segments, piece by piece.
use Rattle.std.proofs.Common.{◌≡◌, ℕ, List, [], ◌∷◌, ◌++◌, refl, append_assoc, codes}
use Rattle.luks_show.specs.Texts.{line}

pub joined_argon2 : (n k t m p : List ℕ) →
    codes "costs " ++ (n ++ (codes " " ++ (k ++ (codes " time " ++ (t ++ (codes " memory " ++ (m ++ (codes " cpus " ++ (p ++ 10 ∷ [])))))))))
    ≡ codes "costs " ++ n ++ codes " " ++ k ++ codes " time " ++ t ++ codes " memory " ++ m ++ codes " cpus " ++ line p
joined_argon2 n k t m p = simp append_assoc refl

pub joined_encryption : (n c s t : List ℕ) →
    codes "encryption " ++ (n ++ (codes " " ++ (c ++ (codes " sector-size " ++ (s ++ (codes " iv-tweak " ++ (t ++ 10 ∷ [])))))))
    ≡ codes "encryption " ++ n ++ codes " " ++ c ++ codes " sector-size " ++ s ++ codes " iv-tweak " ++ line t
joined_encryption n c s t = simp append_assoc refl
