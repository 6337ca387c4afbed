-- Numbers at the right of their column, and lines piece by piece.
use Rattle.std.proofs.Common.{◌≡◌, ℕ, ◌^◌, ◌-◌, ◌+◌, ◌<◌, List, [], ◌∷◌, ◌++◌, refl, append_assoc, arith, codes, false}
use Rattle.std.specs.Fmt.{decimal, format_spec, padded_integral}
use Rattle.std.proofs.Padding.{padded_integral_right}
use Rattle.luks_show.specs.Texts.{line}
use Rattle.std.proofs.lemmas.Bool.{lt-ltb}
use Rattle.luks_area.specs.declared.area.Area.{Area as TheArea}
use Rattle.luks_map.specs.declared.part.Part.{Part}
use Rattle.luks_map.specs.Texts.{part_text}
use Rattle.luks_map.specs.Drawing.{area_line, backup_line, column, end_line, gap_line, outside_text, overlap_text}

-- a number as `{n:>20}` writes it
abbrev pub right : ℕ → List ℕ
right n = padded_integral (format_spec 32 3 0 20 (2 ^ 64 - 1)) false [] (decimal n)

-- what `{n:>20}` writes
pub column_is : (n : ℕ) → right n ≡ column n
column_is n =
    padded_integral_right (format_spec 32 3 0 20 (2 ^ 64 - 1)) (decimal n) refl refl (λ e. omega (arith, e)) (λ e. omega (arith, e)) (omega arith)

-- ---- the lines, piece by piece

pub joined_gap : (p l o : List ℕ) →
    p ++ (codes " . " ++ (l ++ (codes "  gap" ++ (o ++ 10 ∷ []))))
    ≡ p ++ codes " . " ++ l ++ codes "  gap" ++ line o
joined_gap p l o = simp append_assoc refl

pub joined_end : (p n o : List ℕ) →
    p ++ (codes " -                       " ++ (n ++ (o ++ 10 ∷ [])))
    ≡ p ++ codes " -                       " ++ n ++ line o
joined_end p n o = simp append_assoc refl

pub joined_area : (p l t o m : List ℕ) →
    p ++ (codes " # " ++ (l ++ (codes "  " ++ (t ++ (o ++ (m ++ 10 ∷ []))))))
    ≡ p ++ codes " # " ++ l ++ codes "  " ++ t ++ o ++ line m
joined_area p l t o m = simp append_assoc refl

pub gap_drawn : (total from to : ℕ) → from < to →
    right from ++ (codes " . " ++ (right (to - from) ++ (codes "  gap" ++ (outside_text total to ++ 10 ∷ []))))
    ≡ gap_line total from to
gap_drawn total from to lt =
    rw (column_is from, column_is (to - from), lt-ltb from to lt) (joined_gap (column from) (column (to - from)) (outside_text total to))

pub end_drawn : (total at : ℕ) (name : List ℕ) →
    right at ++ (codes " -                       " ++ (name ++ (outside_text total at ++ 10 ∷ []))) ≡ end_line total at name
end_drawn total at name = rw (column_is at) (joined_end (column at) name (outside_text total at))

pub area_drawn : (total reached : ℕ) (part : Part) (a : TheArea) →
    right a.start ++ (codes " # " ++ (right a.len ++ (codes "  " ++ (part_text part ++ (outside_text total (a.start + a.len) ++ (overlap_text total reached a ++ 10 ∷ []))))))
    ≡ area_line total reached part a
area_drawn total reached part a =
    rw (column_is a.start, column_is a.len)
    (joined_area (column a.start) (column a.len) (part_text part) (outside_text total (a.start + a.len)) (overlap_text total reached a))

joined_backup : (p l n o : List ℕ) →
    p ++ (codes " = " ++ (l ++ (codes "  segment " ++ (n ++ (codes " backup" ++ (o ++ 10 ∷ []))))))
    ≡ p ++ codes " = " ++ l ++ codes "  segment " ++ n ++ codes " backup" ++ line o
joined_backup p l n o = simp append_assoc refl

pub backup_drawn : (total n : ℕ) (a : TheArea) →
    right a.start ++ (codes " = " ++ (right a.len ++ (codes "  segment " ++ (decimal n ++ (codes " backup" ++ (outside_text total (a.start + a.len) ++ 10 ∷ []))))))
    ≡ backup_line total n a
backup_drawn total n a =
    rw (column_is a.start, column_is a.len) (joined_backup (column a.start) (column a.len) (decimal n) (outside_text total (a.start + a.len)))
