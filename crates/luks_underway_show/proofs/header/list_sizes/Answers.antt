use Rattle.std.proofs.Common.{◌≡◌, List, [], ◌∷◌, ◌++◌, codes, ℕ, refl, append_assoc}
use Rattle.std.proofs.Output.{has_written_of_eq}
use Rattle.luks_show.specs.Texts.{line}
use Rattle.luks_underway_show.proofs.header.list_sizes.Goals as goal

joined : (h k : List ℕ) → codes "header-size " ++ (h ++ (codes " keyslots-size " ++ (k ++ 10 ∷ []))) ≡ codes "header-size " ++ h ++ codes " keyslots-size " ++ line k
joined h k = simp append_assoc refl

pub returns : goal.returns
returns g c plain ok =
    has_written_of_eq _ _ _ _ _ (rw c.region_size-keyslots_size.ensures (joined _ _)) (c.writeln.ensures.writes plain ok)
