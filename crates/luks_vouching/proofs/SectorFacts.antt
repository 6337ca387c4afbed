-- The sectors of areas and of their compositions.
use Rattle.std.proofs.Common.{◌≡◌, ℕ, ◌+◌, ◌-◌, ◌*◌, ◌/◌, ◌%◌, ◌<◌, ◌≤◌, List, ◌++◌, inl, inr, length, take, drop, get_or, not, Bool, true, false, refl, sym, ap, ◌∙◌, arith, length-drop}
use Rattle.std.proofs.lemmas.List.{drop-drop, length-take-le, take-append-drop}
use Rattle.std.specs.Str.{bytes_eq}
use Rattle.std.proofs.lemmas.Bool.{false≢true}
use Rattle.std.proofs.lemmas.Slice.Eq.{bytes_eq-Decides}
use Rattle.std.proofs.lemmas.Grind.{same_number_lists}
use Rattle.std.proofs.Math.Nat.{div-add-mod, mod-lt}
use Rattle.std.proofs.Math.Seq.{take-add}
use Rattle.luks_area.specs.Ranges.{part}
use Rattle.luks_area.proofs.RangeFacts.{get_or-part, part-part}
use Rattle.luks_vouching.specs.Composed.{sector, IsComposed, IsNotLater}

-- the sectors of what follows the first m
pub sector_drop : (a : List ℕ) (m k : ℕ) → sector (drop (512 * m) a) k ≡ sector a (m + k)
sector_drop a m k =
    let there : 512 * m + 512 * k ≡ 512 * (m + k) = omega arith in
    ap (take 512) (drop-drop (512 * k) (512 * m) a) ∙ ap (λ n. take 512 (drop n a)) there

-- the sectors of the first m
pub sector_take : (a : List ℕ) (m k : ℕ) → k < m → sector (take (512 * m) a) k ≡ sector a k
sector_take a m k below =
    let inside : 512 * k + 512 ≤ 512 * m = omega arith in
    part-part a 0 (512 * m) (512 * k) 512 inside ∙ ap (λ n. part a n 512) (omega arith)

-- areas of one length with the same sectors are the same
pub same_sectors : (a j : List ℕ) → length j ≡ length a → ((k : ℕ) → 512 * k < length j → sector j k ≡ sector a k) → j ≡ a
same_sectors a j long same = same_number_lists j a long (λ i lt.
    let whole : 512 * (i / 512) + i % 512 ≡ i = div-add-mod i 512 in
    let rest : i % 512 < 512 = mod-lt i (omega arith) in
    let here : 512 * (i / 512) < length j = omega arith in
    ap (λ n. get_or j n 0) (sym whole) ∙ sym (get_or-part j (512 * (i / 512)) 512 (i % 512) rest)
    ∙ ap (λ l. get_or l (i % 512) 0) (same (i / 512) here)
    ∙ get_or-part a (512 * (i / 512)) 512 (i % 512) rest ∙ ap (λ n. get_or a n 0) whole)

-- the first m sectors, the next one, and the rest
pub next_front : (a : List ℕ) (m : ℕ) → take (512 * (m + 1)) a ≡ take (512 * m) a ++ sector a m
next_front a m =
    let n : 512 * (m + 1) ≡ 512 * m + 512 = omega arith in
    ap (λ k. take k a) n ∙ take-add (512 * m) 512 a

pub three_parts : (a : List ℕ) (m : ℕ) → a ≡ (take (512 * m) a ++ sector a m) ++ drop (512 * (m + 1)) a
three_parts a m = sym (take-append-drop (512 * (m + 1)) a) ∙ ap (λ l. l ++ drop (512 * (m + 1)) a) (next_front a m)

pub not_false : (r : Bool) → not r ≡ false → r ≡ true
not_false true e = refl
not_false false e = absurd (false≢true (sym e))

-- where the test of a sector fails both areas have the same
pub next_alike : (a b : List ℕ) (m : ℕ) → take (512 * m) a ≡ take (512 * m) b → not (bytes_eq (sector a m) (sector b m)) ≡ false
    → take (512 * (m + 1)) a ≡ take (512 * (m + 1)) b
next_alike a b m alike same =
    let next : sector a m ≡ sector b m = (bytes_eq-Decides (sector a m) (sector b m)).0 (not_false (bytes_eq (sector a m) (sector b m)) same) in
    next_front a m ∙ ap (λ l. l ++ sector a m) alike ∙ ap (λ l. take (512 * m) b ++ l) next ∙ sym (next_front b m)

pub sectors_differ : (a b : List ℕ) (m : ℕ) → not (bytes_eq (sector a m) (sector b m)) ≡ true → sector a m ≡ sector b m → ⊥
sectors_differ a b m differ same =
    let is : bytes_eq (sector a m) (sector b m) ≡ true = (bytes_eq-Decides (sector a m) (sector b m)).1 same in
    false≢true (sym (ap not is) ∙ differ)

module _ (a b j : List ℕ) (composed : IsComposed a b j) where
  -- what follows the first m sectors of a composition is one
  pub composed_rest : (m : ℕ) → IsComposed (drop (512 * m) a) (drop (512 * m) b) (drop (512 * m) j)
  composed_rest m = record {
    as_first = length-drop (512 * m) j ∙ ap (λ n. n - 512 * m) composed.as_first ∙ sym (length-drop (512 * m) a);
    as_second = length-drop (512 * m) j ∙ ap (λ n. n - 512 * m) composed.as_second ∙ sym (length-drop (512 * m) b);
    each = λ k lt.
        let long : length (drop (512 * m) j) ≡ length j - 512 * m = length-drop (512 * m) j in
        let below : 512 * (m + k) < length j = omega (arith, lt, long) in
        elim (composed.each (m + k) below) [
          | inl own ↦ inl (sector_drop j m k ∙ own ∙ sym (sector_drop a m k))
          | inr other ↦ inr (sector_drop j m k ∙ other ∙ sym (sector_drop b m k))
        ];
  }

  -- where both areas begin alike every composition does
  pub composed_front : (m : ℕ) → 512 * m ≤ length a → take (512 * m) a ≡ take (512 * m) b → take (512 * m) j ≡ take (512 * m) a
  composed_front m inside alike =
      let same : length j ≡ length a = composed.as_first in
      let long : length (take (512 * m) j) ≡ 512 * m = length-take-le (512 * m) j (omega (arith, inside, same)) in
      let front : length (take (512 * m) a) ≡ 512 * m = length-take-le (512 * m) a inside in
      same_sectors (take (512 * m) a) (take (512 * m) j) (long ∙ sym front) (λ k lt.
      let below : k < m = omega (arith, lt, long) in
      let there : 512 * k < length j = omega (arith, below, inside, same) in
      let one : sector a k ≡ sector b k = sym (sector_take a m k below) ∙ ap (λ l. sector l k) alike ∙ sector_take b m k below in
      sector_take j m k below
      ∙ (elim (composed.each k there) [
        | inl own ↦ own
        | inr other ↦ other ∙ sym one
      ]) ∙ sym (sector_take a m k below))

-- an area is a composition of itself and another
pub composed_own : (a b : List ℕ) → length b ≡ length a → IsComposed a b a
composed_own a b long = record { as_first = refl; as_second = sym long; each = λ k lt. inl refl }

-- of areas that are alike it is the only one
pub composed_alike : (a b j : List ℕ) → a ≡ b → IsComposed a b j → j ≡ a
composed_alike a b j same composed = same_sectors a j composed.as_first (λ k lt. elim (composed.each k lt) [
  | inl own ↦ own
  | inr other ↦ other ∙ ap (λ l. sector l k) (sym same)
])

-- the order of two compositions that begin alike
pub not_later_rest : (a j other : List ℕ) (m : ℕ) → take (512 * m) j ≡ take (512 * m) other
    → IsNotLater (drop (512 * m) a) (drop (512 * m) j) (drop (512 * m) other) → IsNotLater a j other
not_later_rest a j other m alike (inl same) =
    inl (sym (take-append-drop (512 * m) j) ∙ ap (λ l. l ++ drop (512 * m) j) alike ∙ ap (λ l. take (512 * m) other ++ l) same ∙ take-append-drop (512 * m) other)
not_later_rest a j other m alike (inr x) =
    let n : 512 * (m + x.number) ≡ 512 * m + 512 * x.number = omega arith in
    inr (record {
      number = m + x.number;
      alike = ap (λ k. take k j) n ∙ take-add (512 * m) (512 * x.number) j
          ∙ ap (λ l. l ++ take (512 * x.number) (drop (512 * m) j)) alike
          ∙ ap (λ l. take (512 * m) other ++ l) x.alike
          ∙ sym (take-add (512 * m) (512 * x.number) other) ∙ ap (λ k. take k other) (sym n);
      own = sym (sector_drop j m x.number) ∙ x.own ∙ sector_drop a m x.number;
      differs = λ is. x.differs (sector_drop other m x.number ∙ is ∙ sym (sector_drop a m x.number));
    })
