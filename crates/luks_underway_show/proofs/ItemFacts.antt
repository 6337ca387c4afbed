-- Texts of an array, as values and as what contracts see of them.
use Rattle.std.proofs.Common.{◌≡◌, ◌≤◌, ◌-◌, ◌==◌, List, [], ◌∷◌, ◌++◌, false, length, get_or, drop, take, ap, arith, codes, refl, sym, ◌∙◌}
use Rattle.std.proofs.lemmas.Bool.{false≢true}
use Rattle.std.proofs.lemmas.List.{take_all}
use Rattle.std.specs.List.{flat_map}
use Rattle.serde_json.specs.View.{items_view, view}
use Rattle.serde_json.specs.declared.value.Value.{Value}
use Rattle.luks_underway_show.specs.SegmentLines.{items_as_flags}
use Rattle.luks_underway_show.specs.Shown.{item_behind, item_shown, items_behind, items_shown}

behind_all : (vs : List Value) → items_behind (items_view vs) ≡ flat_map (λ v. item_behind (view v)) vs
behind_all [] = refl
behind_all (v ∷ vs) = ap (λ l. item_behind (view v) ++ l) (behind_all vs)

-- the first, and those behind it
pub first_and_later : (vs : List Value) (v : Value) → 1 ≤ length vs → v ≡ get_or vs 0 v
    → item_shown (view v) ++ flat_map (λ v. item_behind (view v)) (take (length vs - 1) (drop 1 vs)) ≡ items_shown (items_view vs)
first_and_later [] v some is = absurd (omega (arith, some))
first_and_later (w ∷ vs) v some is =
    let most : length vs ≤ length (w ∷ vs) - 1 = omega arith in
    let all : take (length (w ∷ vs) - 1) vs ≡ vs = take_all (length (w ∷ vs) - 1) vs most in
    ap (λ x. item_shown (view x) ++ flat_map (λ v. item_behind (view v)) (take (length (w ∷ vs) - 1) vs)) is
    ∙ ap (λ l. item_shown (view w) ++ flat_map (λ v. item_behind (view v)) l) all
    ∙ ap (λ l. item_shown (view w) ++ l) (sym (behind_all vs))

-- flags, where there are some
pub flags_there : (vs : List Value) → false ≡ (length vs == 0) → codes " flags " ++ items_shown (items_view vs) ≡ items_as_flags (items_view vs)
flags_there [] some = absurd (false≢true some)
flags_there (v ∷ vs) some = refl
