use Rattle.std.proofs.Common.{◌≡◌, ℕ, List, [], ◌∷◌, ◌++◌, append_assoc, codes}
use Rattle.std.proofs.Output.{has_written_of_eq}
use Rattle.std.specs.Fmt.{decimal}
use Rattle.luks_underway_show.proofs.segments.OpalLineDisplay.fmt.Goals as goal

-- the line, piece by piece
joined : (a n b r c k d s l : List ℕ) → a ++ (n ++ (b ++ (r ++ (c ++ (k ++ (d ++ (s ++ l))))))) ≡ a ++ n ++ b ++ r ++ c ++ k ++ d ++ (s ++ l)
joined a n b r c k d s l = simp append_assoc

pub returns-clause-writes : goal.returns-clause-writes
returns-clause-writes g c plain ok =
    let opal = c.args.self.now.1 in
    has_written_of_eq _ _ _ _ _
    (joined (codes "opal ") (decimal c.args.self.now.0) (codes " range ") (decimal opal.segment_number) (codes " key-bytes ") (decimal opal.key_size) (codes " size ") (decimal opal.segment_size) (10 ∷ []))
    (c.writeln.ensures.writes plain ok)
