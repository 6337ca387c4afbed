-- Lists of areas that grow towards all areas of a set, name by name.
use Rattle.std.proofs.Common.{◌≡◌, List, [], ◌∷◌, ◌++◌, ◌⊎◌, inl, inr, subst, ap, ◌∙◌, arith, ◌<◌, ◌≤◌}
use Rattle.luks_area.specs.declared.area.Area.{Area}
use Rattle.luks_area.specs.declared.area.AreaName.{AreaName}
use Rattle.luks_area.specs.declared.area.AreaName.TheVariants.{Head1}
use Rattle.luks_area.specs.declared.areas.Entry.{Entry}
use Rattle.luks_area.specs.Area.{IsBefore, name_kind, name_number}
use Rattle.luks_area.specs.Names.{HasArea}
use Rattle.luks_reading.specs.Listing.{Lists, ListsBelow}

pub same_area : (a b : Area) → a.start ≡ b.start → a.len ≡ b.len → a ≡ b
same_area a b p q =
    let one : a ≡ record { start = b.start; len = a.len } = ap (λ s. let r : Area = record { start = s; len = a.len } in r) p in
    let two : record { start = b.start; len = a.len } ≡ b = ap (λ l. let r : Area = record { start = b.start; len = l } in r) q in
    one ∙ two

-- what a list has after one more entry
pub has-cases : (es : List Entry) (e : Entry) (n : AreaName) (a : Area)
    → HasArea (es ++ e ∷ []) n a → HasArea es n a ⊎ ((e.name ≡ n) × (e.area ≡ a))
has-cases [] e n a (inl h) = inr h
has-cases [] e n a (inr h) = absurd h
has-cases (x ∷ es) e n a (inl h) = inl (inl h)
has-cases (x ∷ es) e n a (inr h) = elim (has-cases es e n a h) [ inl g ↦ inl (inr g) | inr g ↦ inr g ]

pub has-old : (es : List Entry) (e : Entry) (n : AreaName) (a : Area) → HasArea es n a → HasArea (es ++ e ∷ []) n a
has-old [] e n a h = absurd h
has-old (x ∷ es) e n a (inl h) = inl h
has-old (x ∷ es) e n a (inr h) = inr (has-old es e n a h)

pub has-new : (es : List Entry) (e : Entry) (n : AreaName) (a : Area) → (e.name ≡ n) × (e.area ≡ a) → HasArea (es ++ e ∷ []) n a
has-new [] e n a h = inl h
has-new (x ∷ es) e n a h = inr (has-new es e n a h)

-- nothing comes before the first name
pub lists-empty : (areas : AreaName → Area → Type 0) → ListsBelow [] areas Head1
lists-empty areas = record {
  below = λ n a h. absurd h;
  only = λ n a h. absurd h;
  all = λ n a h before. let low : name_kind n ≤ 0 = before.0 in let lt : name_number n < 0 = before.1 (omega (arith, low)) in absurd (omega (arith, lt));
}

-- one more name, with its area
pub lists-push : (es : List Entry) (areas : AreaName → Area → Type 0) (bound next : AreaName) (e : Entry)
    → ListsBelow es areas bound → ((n : AreaName) → IsBefore n bound → IsBefore n next)
    → areas e.name e.area → IsBefore e.name next
    → ((n : AreaName) (a : Area) → areas n a → IsBefore n next → IsBefore n bound ⊎ ((e.name ≡ n) × (e.area ≡ a)))
    → ListsBelow (es ++ e ∷ []) areas next
lists-push es areas bound next e h wider is before between = record {
  below = λ n a g. elim (has-cases es e n a g) [ inl old ↦ wider n (h.below n a old) | inr new ↦ subst (λ m. IsBefore m next) new.0 before ];
  only = λ n a g. elim (has-cases es e n a g) [
    | inl old ↦ h.only n a old
    | inr new ↦ subst (areas n) new.1 (subst (λ m. areas m e.area) new.0 is)
  ];
  all = λ n a g below. elim (between n a g below) [ inl old ↦ has-old es e n a (h.all n a g old) | inr new ↦ has-new es e n a new ];
}

-- names that no area of the set has are passed over
pub lists-skip : (es : List Entry) (areas : AreaName → Area → Type 0) (bound next : AreaName)
    → ListsBelow es areas bound → ((n : AreaName) → IsBefore n bound → IsBefore n next)
    → ((n : AreaName) (a : Area) → areas n a → IsBefore n next → IsBefore n bound) → ListsBelow es areas next
lists-skip es areas bound next h wider between = record {
  below = λ n a g. wider n (h.below n a g);
  only = h.only;
  all = λ n a g below. h.all n a g (between n a g below);
}

-- past the last name of the set the list has all of it
pub lists-all : (es : List Entry) (areas : AreaName → Area → Type 0) (bound : AreaName)
    → ListsBelow es areas bound → ((n : AreaName) (a : Area) → areas n a → IsBefore n bound) → Lists es areas
lists-all es areas bound h last = record { only = h.only; all = λ n a g. h.all n a g (last n a g) }
