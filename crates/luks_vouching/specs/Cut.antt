-- A JSON area of which what follows its text is taken as zeros (LUKS2 On-Disk Format 1.1, 3.1: the
-- text is ended by a zero byte, and what is left of the area is zeros).
use Rattle.std.specs.Prelude.{◌≡◌, ℕ, ◌-◌, ◌==◌, List, ◌++◌, ◌⊎◌, length, take, replicate}
use Rattle.std.specs.List.{position_or_len}

-- the text ends before the first zero byte, or with the area
abbrev pub text_end : List ℕ → ℕ
text_end area = position_or_len (λ c. c == 0) area

-- the area, cut where its text ends: all behind it is zeros
abbrev pub cut : List ℕ → List ℕ
cut area = take (text_end area) area ++ replicate (length area - text_end area) 0

-- one of two areas, cut
abbrev pub IsCut : List ℕ → List ℕ → List ℕ → Type 0
IsCut first second j = (j ≡ cut first) ⊎ (j ≡ cut second)
