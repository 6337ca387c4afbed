-- The lines of rows, one row more.
use Rattle.std.proofs.Common.{◌≡◌, ℕ, ◌+◌, ◌<◌, List, [], ◌∷◌, ◌++◌, length, take, get_or, ap, ◌∙◌, sym, refl, append_assoc, append-nil}
use Rattle.std.specs.Prelude.{max}
use Rattle.std.proofs.lemmas.List.{take_more}
use Rattle.luks_map.specs.declared.row.Row.{Row}
use Rattle.luks_map.specs.Rows.{place, reach}
use Rattle.luks_map.specs.Drawing.{gap_line, row_line, map_lines}

-- how far the rows reach, where those above reach to `reached`
abbrev pub reach_of : ℕ → List Row → ℕ
reach_of reached [] = reached
reach_of reached (r ∷ rs) = reach_of (max reached (reach r)) rs

pub reach_more : (reached : ℕ) (rs : List Row) (r : Row) → reach_of reached (rs ++ r ∷ []) ≡ max (reach_of reached rs) (reach r)
reach_more reached [] r = refl
reach_more reached (s ∷ rs) r = reach_more (max reached (reach s)) rs r

pub lines_more : (total reached : ℕ) (rs : List Row) (r : Row)
    → (map_lines total reached rs ++ gap_line total (reach_of reached rs) (place r)) ++ row_line total (reach_of reached rs) r ≡ map_lines total reached (rs ++ r ∷ [])
lines_more total reached [] r = sym (append-nil (gap_line total reached (place r) ++ row_line total reached r))
lines_more total reached (s ∷ rs) r =
    let front = gap_line total reached (place s) ++ row_line total reached s in
    let reaches = max reached (reach s) in
    let lines = map_lines total reaches rs in
    let gap = gap_line total (reach_of reaches rs) (place r) in
    let row = row_line total (reach_of reaches rs) r in
    ap (λ l. l ++ row) (append_assoc front lines gap) ∙ append_assoc front (lines ++ gap) row ∙ ap (λ l. front ++ l) (lines_more total reaches rs r)

-- one more of the rows
pub next_lines : (total n : ℕ) (rows : List Row) (d : Row) → n < length rows
    → (map_lines total 0 (take n rows) ++ gap_line total (reach_of 0 (take n rows)) (place (get_or rows n d))) ++ row_line total (reach_of 0 (take n rows)) (get_or rows n d)
    ≡ map_lines total 0 (take (n + 1) rows)
next_lines total n rows d lt = lines_more total 0 (take n rows) (get_or rows n d) ∙ ap (map_lines total 0) (sym (take_more rows n d lt))

pub next_reach : (n : ℕ) (rows : List Row) (d : Row) → n < length rows
    → max (reach_of 0 (take n rows)) (reach (get_or rows n d)) ≡ reach_of 0 (take (n + 1) rows)
next_reach n rows d lt = sym (reach_more 0 (take n rows) (get_or rows n d)) ∙ ap (reach_of 0) (sym (take_more rows n d lt))
