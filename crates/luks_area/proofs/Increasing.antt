-- Lists of named areas that grow at their end.
use Rattle.std.proofs.Common.{◌≡◌, List, [], ◌∷◌, ◌++◌, ◌⊎◌, inl, inr, refl, subst}
use Rattle.luks_area.specs.declared.area.Area.{Area}
use Rattle.luks_area.specs.declared.area.AreaName.{AreaName}
use Rattle.luks_area.specs.declared.areas.Entry.{Entry}
use Rattle.luks_area.specs.Area.{IsBefore}
use Rattle.luks_area.specs.Names.{HasArea, IsIncreasing}

-- what a list has after one more entry, it had before or the entry gives
pub has-append_one : (es : List Entry) (e : Entry) (n : AreaName) (a : Area)
    → HasArea (es ++ e ∷ []) n a → HasArea es n a ⊎ ((e.name ≡ n) × (e.area ≡ a))
has-append_one [] e n a (inl h) = inr h
has-append_one [] e n a (inr h) = absurd h
has-append_one (x ∷ es) e n a (inl h) = inl (inl h)
has-append_one (x ∷ es) e n a (inr h) =
    elim (has-append_one es e n a h) [ inl g ↦ inl (inr g) | inr g ↦ inr g ]

-- an entry whose name stands after all others keeps the order
pub increasing-append_one : (es : List Entry) (e : Entry) → IsIncreasing es
    → ((n : AreaName) (a : Area) → HasArea es n a → IsBefore n e.name) → IsIncreasing (es ++ e ∷ [])
increasing-append_one [] e h last = (λ n a g. absurd g, tt)
increasing-append_one (x ∷ es) e h last = (
  λ n a g. elim (has-append_one es e n a g) [
    | inl old ↦ h.0 n a old
    | inr new ↦ subst (λ m. IsBefore x.name m) new.0 (last x.name x.area (inl (refl, refl)))
  ],
  increasing-append_one es e h.1 (λ n a g. last n a (inr g)),
)
