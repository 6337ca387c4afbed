-- Fragments of a part of a volume are fragments of the volume.
use Rattle.std.proofs.Common.{◌≡◌, ◌⊎◌, inl, inr, ℕ, ◌+◌, ◌-◌, ◌/◌, ◌%◌, ◌<◌, ◌≤◌, nat_lt, Bool, true, false, cond, List, [], ◌∷◌, ◌++◌, Option, Some, None, IfSome, IfNone, length, sym, ap, subst, ◌∙◌, arith}
use Rattle.luks_area.proofs.RangeFacts.{part-part, length-part_inside}
use Rattle.luks_area.specs.Ranges.{part}
use Rattle.luks_fragments.specs.Fragments.{HasFragmentAt, HasName, HasNoneFrom, IsFirstFragment, IsFragmentAt, IsNamedAt, quoted}
use Rattle.luks_fragments.specs.declared.fragment.Fragment.{Fragment}
use Rattle.luks_seeking.specs.Seeking.{found_at, FindsIn, HasNoneBetween, IsFirstFound}
use Rattle.luks_fragments.specs.Kinds.{HasKind}
use Rattle.luks_fragments.specs.Objects.{IsObjectAt, closed, opened}
use Rattle.luks_fragments.specs.declared.kinds.Kind.{Kind}

short_of : (b : Bool) (x y z : ℕ) → length (0x22 ∷ (cond b (x ∷ []) (y ∷ z ∷ []) ++ 0x22 ∷ 0x3A ∷ [])) ≤ 5
short_of true x y z = omega arith
short_of false x y z = omega arith

-- a name in quotes with its colon has at most five bytes
quoted_short : (n : ℕ) → length (quoted n) ≤ 5
quoted_short n = short_of (nat_lt n 10) (48 + n) (48 + n / 10) (48 + n % 10)

-- what a search in a part answers
pub finds_in : (next : Option Fragment) (area : List ℕ) (from : ℕ) → IfSome next (IsFirstFragment area from) → IfNone next (HasNoneFrom area from) → FindsIn area from next
finds_in (Some f) area from some none = some
finds_in None area from some none = none

-- a fragment lies in the part
pub near_in : (next : Option Fragment) (area : List ℕ) (start from len : ℕ) → start ≤ from → length area ≡ len → IfSome next (IsFirstFragment area (from - start))
    → IfSome next (λ f. (from ≤ start + f.start) × (2 ≤ f.len) × (f.start + f.len ≤ len))
near_in (Some f) area start from len low long x =
    (let behind = x.behind in omega (arith, behind, low), x.is.fragment.object.some, let last = x.is.fragment.object.inside in omega (arith, last, long))
near_in None area start from len low long x = tt

module _ (v : List ℕ) (at len : ℕ) (inside : at + len ≤ length v) where
  long : length (part v at len) ≡ len
  long = length-part_inside v at len inside

  -- of an object, up to its end
  same_part : (s n k : ℕ) → s + n ≤ len → k ≤ n → part (part v at len) s k ≡ part v (at + s) k
  same_part s n k ends few = part-part v at len s k (omega (arith, ends, few))

  object_up : (s n : ℕ) → IsObjectAt (part v at len) s n → IsObjectAt v (at + s) n
  object_up s n x =
      let ends : s + n ≤ len = (let last = x.inside in omega (arith, last, long)) in
      record {
        some = x.some;
        short = x.short;
        inside = omega (arith, ends, inside);
        whole = subst (λ p. opened p ≤ closed p) (same_part s n n ends (omega arith)) x.whole;
        unclosed = λ k some few. subst (λ p. closed p < opened p) (same_part s n k ends (omega (arith, few))) (x.unclosed k some few);
        shallow = λ k few. subst (λ p. opened p ≤ closed p + 2) (same_part s n k ends few) (x.shallow k few);
      }

  object_down : (s n : ℕ) → s + n ≤ len → IsObjectAt v (at + s) n → IsObjectAt (part v at len) s n
  object_down s n ends x = record {
    some = x.some;
    short = x.short;
    inside = omega (arith, ends, long);
    whole = subst (λ p. opened p ≤ closed p) (sym (same_part s n n ends (omega arith))) x.whole;
    unclosed = λ k some few. subst (λ p. closed p < opened p) (sym (same_part s n k ends (omega (arith, few)))) (x.unclosed k some few);
    shallow = λ k few. subst (λ p. opened p ≤ closed p + 2) (sym (same_part s n k ends few)) (x.shallow k few);
  }

  -- a fragment of the part is one of the volume
  pub fragment_up : (s n : ℕ) (kind : Kind) → IsFragmentAt (part v at len) s n kind → IsFragmentAt v (at + s) n kind
  fragment_up s n kind x =
      let ends : s + n ≤ len = (let last = x.object.inside in omega (arith, last, long)) in
      record { object = object_up s n x.object; is = subst (λ p. HasKind p kind) (same_part s n n ends (omega arith)) x.is }

  -- one of the volume that ends in the part, or begins far enough before its end, is one of the part
  pub fragment_down : (s : ℕ) → (at + len ≡ length v) ⊎ (s + 4096 ≤ len) → HasFragmentAt v (at + s) → HasFragmentAt (part v at len) s
  fragment_down s near x =
      let ends : s + x.len ≤ len = elim near [
        | inl all ↦ (let last = x.fragment.object.inside in omega (arith, last, all))
        | inr far ↦ (let short = x.fragment.object.short in omega (arith, short, far))
      ] in
      record {
        len = x.len;
        kind = x.kind;
        fragment = record {
          object = object_down s x.len ends x.fragment.object;
          is = subst (λ p. HasKind p x.kind) (sym (same_part s x.len x.len ends (omega arith))) x.fragment.is;
        };
      }

  -- the name of an object whose name is in the part
  name_up : (s n : ℕ) → s ≤ len → IsNamedAt (part v at len) s n → IsNamedAt v (at + s) n
  name_up s n inside_part x = record {
    low = x.low;
    place = at + x.place;
    ends = (let last = x.ends in omega (arith, last));
    is = sym (part-part v at len x.place (length (quoted n)) (let last = x.ends in omega (arith, last, inside_part))) ∙ x.is;
  }

  name_down : (s n : ℕ) → s ≤ len → length (quoted n) ≤ s → IsNamedAt v (at + s) n → IsNamedAt (part v at len) s n
  name_down s n inside_part before x =
      let there : at + (x.place - at) ≡ x.place = (let last = x.ends in omega (arith, last, before)) in
      record {
        low = x.low;
        place = x.place - at;
        ends = (let last = x.ends in omega (arith, last, before));
        is = part-part v at len (x.place - at) (length (quoted n)) (let last = x.ends in omega (arith, last, before, inside_part))
            ∙ ap (λ p. part v p (length (quoted n))) there ∙ x.is;
      }

  -- the name is the same, where all of it is in the part
  pub has_name : (s : ℕ) (number : Option ℕ) → s ≤ len → (at ≡ 0) ⊎ (5 ≤ s) → HasName (part v at len) s number → HasName v (at + s) number
  has_name s (Some n) inside_part before x = name_up s n inside_part x
  has_name s None inside_part before x = λ n y.
      let short = quoted_short n in
      let fits : length (quoted n) ≤ s = elim before [
        | inl first ↦ (let last = y.ends in omega (arith, last, first))
        | inr far ↦ omega (arith, far, short)
      ] in
      x n (name_down s n inside_part fits y)

  there : (p : ℕ) → at ≤ p → HasFragmentAt v p → HasFragmentAt v (at + (p - at))
  there p behind x = subst (HasFragmentAt v) (omega (arith, behind)) x

  -- the first fragment of the part is that of the volume
  pub found_up : (from : ℕ) (f : Fragment) → (at + len ≡ length v) ⊎ (f.start + 4096 ≤ len) → at ≤ from → (at ≡ 0) ⊎ (from ≡ at + 8)
      → IsFirstFragment (part v at len) (from - at) f → IsFirstFound v from (found_at at f)
  found_up from f near low lead x =
      let behind = x.behind in
      let last = x.is.fragment.object.inside in
      record {
        behind = omega (arith, behind);
        fragment = fragment_up f.start f.len f.kind x.is.fragment;
        name = has_name f.start f.number (omega (arith, last, long)) (elim lead [ inl first ↦ inl first | inr eight ↦ inr (omega (arith, behind, eight)) ]) x.is.name;
        first = λ p from_on before y.
            x.first (p - at) (omega (arith, from_on)) (omega (arith, before, from_on, low))
            (fragment_down (p - at) (elim near [ inl all ↦ inl all | inr far ↦ inr (omega (arith, far, before)) ]) (there p (omega (arith, low, from_on)) y));
      }

  -- where the part has none, the volume has none to its end, or as far as one is seen whole
  pub none_up : (from : ℕ) → at + len ≡ length v → at ≤ from → HasNoneFrom (part v at len) (from - at) → HasNoneFrom v from
  none_up from all low x = λ p from_on y. x (p - at) (omega (arith, from_on)) (fragment_down (p - at) (inl all) (there p (omega (arith, low, from_on)) y))

  pub passes_none : (from : ℕ) → 8192 ≤ len → at ≤ from → from ≤ at + 8 → HasNoneFrom (part v at len) (from - at) → HasNoneBetween v from (at + (len - 4096))
  passes_none from some low high x = record {
    on = omega (arith, some, high);
    none = λ p from_on before y.
        x (p - at) (omega (arith, from_on)) (fragment_down (p - at) (inr (omega (arith, before, some))) (there p (omega (arith, low, from_on)) y));
  }

  pub passes_first : (from : ℕ) (f : Fragment) → 8192 ≤ len → at ≤ from → from ≤ at + 8 → len - 4096 ≤ f.start
      → IsFirstFragment (part v at len) (from - at) f → HasNoneBetween v from (at + (len - 4096))
  passes_first from f some low high far x = record {
    on = omega (arith, some, high);
    none = λ p from_on before y.
        x.first (p - at) (omega (arith, from_on)) (omega (arith, before, far, from_on, low))
        (fragment_down (p - at) (inr (omega (arith, before, some))) (there p (omega (arith, low, from_on)) y));
  }

-- none begins behind the last byte
pub none_behind : (v : List ℕ) (from : ℕ) → length v ≤ from → HasNoneFrom v from
none_behind v from behind = λ p from_on x. (let inside = x.fragment.object.inside in let some = x.fragment.object.some in absurd (omega (arith, behind, from_on, inside, some)))
