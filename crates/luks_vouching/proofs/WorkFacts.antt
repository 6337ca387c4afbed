-- How many areas are tried at most.
use Rattle.std.proofs.Common.{◌≡◌, ℕ, zero, suc, ◌+◌, ◌-◌, ◌*◌, ◌/◌, ◌^◌, ◌<◌, ◌≤◌, ◌⊎◌, List, [], ◌++◌, cond, inl, inr, length, take, not, refl, sym, ap, ◌∙◌, arith, subst, add-one, ltb}
use Rattle.std.specs.Str.{bytes_eq}
use Rattle.std.proofs.lemmas.Bool.{cases_Bool, cases_lt, cond_below, cond_above}
use Rattle.std.proofs.lemmas.List.{take_all}
use Rattle.std.proofs.lemmas.Slice.Eq.{bytes_eq-Decides}
use Rattle.std.proofs.Math.Nat.{mul-le-mul_right, pow-suc}
use Rattle.luks_vouching.specs.Composed.{bordered, differing, differing_before, sector, IsComposed, IsWholeSectors}
use Rattle.luks_vouching.specs.Cut.{cut, IsCut}
use Rattle.luks_vouching.specs.Pieces.{of_pieces, piece_count, IsOfPieces}
use Rattle.luks_vouching.specs.Tried.{bytes_of_all, bytes_of_borders, bytes_of_pieces, IsByBorder, IsNear, IsNearBorder, IsTried, IsTriedComposed, IsTriedOfPieces, IsTriedOfSectors}
use Rattle.luks_vouching.specs.Work.{AreAtMost, HashesFew}
use Rattle.luks_vouching.proofs.BorderFacts.{border_all}
use Rattle.luks_vouching.proofs.BoundFacts.{before_no, before_yes, border_same, near_before}
use Rattle.luks_vouching.proofs.SectorFacts.{next_front, not_false}

-- ---- numbers that name all of a kind

-- fewer of them
fewer : (P Q : List ℕ → Type 0) (n : ℕ) → ((j : List ℕ) → Q j → P j) → AreAtMost P n → AreAtMost Q n
fewer P Q n so x = (x.0, λ j q. x.1 j (so j q))

-- of none
none_of : (P : List ℕ → Type 0) → ((j : List ℕ) → P j → ⊥) → AreAtMost P 0
none_of P none = (λ k. [], λ j p. absurd (none j p))

-- of one
one_of : (P : List ℕ → Type 0) (x : List ℕ) → ((j : List ℕ) → P j → x ≡ j) → AreAtMost P 1
one_of P x is = (λ k. x, λ j p. (0, omega arith, is j p))

-- of either kind
either_of : (P Q : List ℕ → Type 0) (m n : ℕ) → AreAtMost P m → AreAtMost Q n → AreAtMost (λ j. P j ⊎ Q j) (m + n)
either_of P Q m n x y = (
  λ k. cond (ltb k m) (x.0 k) (y.0 (k - m)),
  λ j is. elim is [
    | inl p ↦ (let a = x.1 j p in let below : a.0 < m = a.1 in (a.0, omega (arith, below), sym (cond_below a.0 m (x.0 a.0) (y.0 (a.0 - m)) below) ∙ a.2))
    | inr q ↦ (
        let b = y.1 j q in
        let below : b.0 < n = b.1 in
        let at : (m + b.0) - m ≡ b.0 = omega arith in
        (m + b.0, omega (arith, below), sym (cond_above (m + b.0) m (x.0 (m + b.0)) (y.0 ((m + b.0) - m)) j (omega arith) (sym (ap y.0 at ∙ b.2))))
        )
  ],
)

-- of what is made of them
made_of : (P : List ℕ → Type 0) (n : ℕ) (make : List ℕ → List ℕ) → AreAtMost P n → AreAtMost (λ j. (i : List ℕ) × P i × (make i ≡ j)) n
made_of P n make x = (λ k. make (x.0 k), λ j p. let a = x.1 p.0 p.1 in (a.0, a.1, ap make a.2 ∙ p.2))

-- ---- all compositions of sectors

-- it is the first `n` sectors of a composition
abbrev IsFront : List ℕ → List ℕ → ℕ → List ℕ → Type 0
IsFront a b n x = (j : List ℕ) × IsComposed a b j × (take (512 * n) j ≡ x)

module _ (a b : List ℕ) where
  goes_on : (n : ℕ) → 512 * n < length a → (x : List ℕ) → IsFront a b (n + 1) x
      → ((i : List ℕ) × IsFront a b n i × (i ++ sector a n ≡ x)) ⊎ ((i : List ℕ) × IsFront a b n i × (i ++ sector b n ≡ x))
  goes_on n inside x front =
      let j : List ℕ = front.0 in
      let same : length j ≡ length a = front.1.as_first in
      elim (front.1.each n (omega (arith, inside, same))) [
        | inl own ↦ inl (take (512 * n) j, (j, front.1, refl), ap (λ l. take (512 * n) j ++ l) (sym own) ∙ sym (next_front j n) ∙ front.2)
        | inr other ↦ inr (take (512 * n) j, (j, front.1, refl), ap (λ l. take (512 * n) j ++ l) (sym other) ∙ sym (next_front j n) ∙ front.2)
      ]

  twice : (m : ℕ) → 2 ^ m + 2 ^ m ≡ 2 ^ (m + 1)
  twice m =
      let more : 2 ^ suc m ≡ 2 ^ m * 2 = pow-suc 2 m in
      let two : 2 ^ m + 2 ^ m ≡ 2 ^ m * 2 = omega arith in
      two ∙ sym more ∙ ap (λ k. 2 ^ k) (sym (add-one m))

  all_fronts : (n : ℕ) → 512 * n ≤ length a → AreAtMost (IsFront a b n) (2 ^ differing_before a b n)
  all_fronts zero inside = one_of (IsFront a b 0) [] (λ x front. front.2)
  all_fronts (suc n) inside =
      let before : AreAtMost (IsFront a b n) (2 ^ differing_before a b n) = all_fronts n (omega (arith, inside)) in
      let below : 512 * n < length a = omega (arith, inside) in
      let A : List ℕ → Type 0 = λ x. (i : List ℕ) × IsFront a b n i × (i ++ sector a n ≡ x) in
      let B : List ℕ → Type 0 = λ x. (i : List ℕ) × IsFront a b n i × (i ++ sector b n ≡ x) in
      let N : ℕ → Type 0 = λ k. AreAtMost (IsFront a b (n + 1)) (2 ^ k) in
      let next : N (differing_before a b (n + 1)) = elim (cases_Bool (not (bytes_eq (sector a n) (sector b n)))) [
        | inl differ ↦
            subst N (sym (before_yes a b n differ)) (subst (AreAtMost (IsFront a b (n + 1))) (twice (differing_before a b n))
            (fewer (λ x. A x ⊎ B x) (IsFront a b (n + 1)) (2 ^ differing_before a b n + 2 ^ differing_before a b n) (goes_on n below)
            (either_of A B (2 ^ differing_before a b n) (2 ^ differing_before a b n)
            (made_of (IsFront a b n) (2 ^ differing_before a b n) (λ i. i ++ sector a n) before)
            (made_of (IsFront a b n) (2 ^ differing_before a b n) (λ i. i ++ sector b n) before))))
        | inr alike ↦
            let same : sector a n ≡ sector b n = (bytes_eq-Decides (sector a n) (sector b n)).0 (not_false (bytes_eq (sector a n) (sector b n)) alike) in
            subst N (sym (before_no a b n alike))
            (fewer A (IsFront a b (n + 1)) (2 ^ differing_before a b n) (λ x front. elim (goes_on n below x front) [
              | inl own ↦ own
              | inr other ↦ (other.0, other.1, ap (λ l. other.0 ++ l) same ∙ other.2)
            ]) (made_of (IsFront a b n) (2 ^ differing_before a b n) (λ i. i ++ sector a n) before))
      ] in
      subst (λ k. AreAtMost (IsFront a b k) (2 ^ differing_before a b k)) (add-one n) next

  pub all_composed : IsWholeSectors a → AreAtMost (IsComposed a b) (2 ^ differing a b)
  all_composed whole =
      let is : 512 * (length a / 512) ≡ length a = whole in
      fewer (IsFront a b (length a / 512)) (IsComposed a b) (2 ^ differing a b)
      (λ j composed. (j, composed, take_all (512 * (length a / 512)) j (let same : length j ≡ length a = composed.as_first in omega (arith, same, is))))
      (all_fronts (length a / 512) (omega (arith, is)))

-- ---- compositions by one border

abbrev IsBorderTo : List ℕ → List ℕ → ℕ → List ℕ → Type 0
IsBorderTo a b n j = (m : ℕ) × (m ≤ n) × (bordered a b m ≡ j)

module _ (a b : List ℕ) where
  borders_to : (n : ℕ) → AreAtMost (IsBorderTo a b n) (differing_before a b n + 1)
  borders_to zero = one_of (IsBorderTo a b 0) (bordered a b 0) (λ j is.
      let le : is.0 ≤ 0 = is.1 in
      let none : 0 ≡ is.0 = omega (arith, le) in
      ap (bordered a b) none ∙ is.2)
  borders_to (suc n) =
      let before : AreAtMost (IsBorderTo a b n) (differing_before a b n + 1) = borders_to n in
      let N : ℕ → Type 0 = λ k. AreAtMost (IsBorderTo a b (n + 1)) (k + 1) in
      let O : List ℕ → Type 0 = λ j. bordered a b (n + 1) ≡ j in
      let or_next : (j : List ℕ) → IsBorderTo a b (n + 1) j → IsBorderTo a b n j ⊎ O j = λ j is. elim (cases_lt n is.0) [
        | inl past ↦ (let le : is.0 ≤ n + 1 = is.1 in let here : n + 1 ≡ is.0 = omega (arith, past, le) in inr (ap (bordered a b) here ∙ is.2))
        | inr within ↦ inl (is.0, omega (arith, within), is.2)
      ] in
      let next : N (differing_before a b (n + 1)) = elim (cases_Bool (not (bytes_eq (sector a n) (sector b n)))) [
        | inl differ ↦
            subst N (sym (before_yes a b n differ))
            (fewer (λ j. IsBorderTo a b n j ⊎ O j) (IsBorderTo a b (n + 1)) (differing_before a b n + 1 + 1) or_next
            (either_of (IsBorderTo a b n) O (differing_before a b n + 1) 1 before (one_of O (bordered a b (n + 1)) (λ j is. is))))
        | inr alike ↦
            subst N (sym (before_no a b n alike))
            (fewer (IsBorderTo a b n) (IsBorderTo a b (n + 1)) (differing_before a b n + 1) (λ j is. elim (or_next j is) [
              | inl one ↦ one
              | inr last ↦ (n, omega arith, sym (border_same a b n alike) ∙ last)
            ]) before)
      ] in
      subst (λ k. AreAtMost (IsBorderTo a b k) (differing_before a b k + 1)) (add-one n) next

  -- the last border up to `c` that is near enough, if there is one
  last_near : (most c : ℕ) → ((m : ℕ) → m ≤ c → IsNear most a b m → ⊥) ⊎ ((n : ℕ) × IsNear most a b n × ((m : ℕ) → m ≤ c → IsNear most a b m → m ≤ n))
  last_near most zero = elim (cases_lt most (bytes_of_borders a b 0)) [
    | inl far ↦ inl (λ m le near.
        let none : m ≡ 0 = omega (arith, le) in
        let near_none : IsNear most a b 0 = subst (IsNear most a b) none near in
        omega (arith, far, near_none))
    | inr near ↦ inr (0, omega (arith, near), λ m le is. le)
  ]
  last_near most (suc c) = elim (cases_lt most (bytes_of_borders a b (suc c))) [
    | inl far ↦
        let less : (m : ℕ) → m ≤ suc c → IsNear most a b m → m ≤ c = λ m le near. elim (cases_lt c m) [
          | inl past ↦ (let here : m ≡ suc c = omega (arith, le, past) in let is : IsNear most a b (suc c) = subst (IsNear most a b) here near in absurd (omega (arith, far, is)))
          | inr within ↦ omega (arith, within)
        ] in
        elim (last_near most c) [
          | inl none ↦ inl (λ m le near. none m (less m le near) near)
          | inr x ↦ inr (x.0, x.1, λ m le near. x.2 m (less m le near) near)
        ]
    | inr near ↦ inr (suc c, omega (arith, near), λ m le is. le)
  ]

-- so many borders are near enough
record NearBorders (most : ℕ) (a b : List ℕ) : Type 0 where
  count : ℕ
  all : AreAtMost (IsNearBorder most a b) count
  few : (count ≡ 0) ⊎ ((2 + 2 * count) * length a ≤ most)

near_borders : (most : ℕ) (a b : List ℕ) → length b ≡ length a → IsWholeSectors a → NearBorders most a b
near_borders most a b long whole =
    let c : ℕ = length a / 512 in
    let end : 512 * (length a / 512) ≡ length a = whole in
    let to_end : (m : ℕ) → IsNear most a b m → (k : ℕ) × (k ≤ length a / 512) × IsNear most a b k × (bordered a b k ≡ bordered a b m) = λ m near. elim (cases_lt (length a / 512) m) [
      | inl past ↦ (
        length a / 512,
        omega arith,
        near_before a b most (length a / 512) m (omega (arith, past)) near,
        border_all a b long (length a / 512) (omega (arith, end)) ∙ sym (border_all a b long m (omega (arith, end, past))),
      )
      | inr within ↦ (m, omega (arith, within), near, refl)
    ] in
    elim (last_near a b most (length a / 512)) [
      | inl none ↦ record {
        count = 0;
        all = none_of (IsNearBorder most a b) (λ j is. let x = to_end is.0 is.1 in none x.0 x.1 x.2);
        few = inl refl;
      }
      | inr last ↦ record {
        count = differing_before a b last.0 + 1;
        all = fewer (IsBorderTo a b last.0) (IsNearBorder most a b) (differing_before a b last.0 + 1)
            (λ j is. let x = to_end is.0 is.1 in (x.0, last.2 x.0 x.1 x.2, x.3 ∙ sym is.2)) (borders_to a b last.0);
        few = inr last.1;
      }
    ]

-- those with both fronts and the areas that are cut
both_few : (most m n len : ℕ) → 2 * len ≤ most → (m ≡ 0) ⊎ ((2 + 2 * m) * len ≤ most) → (n ≡ 0) ⊎ ((2 + 2 * n) * len ≤ most)
    → (2 + (m + n)) * len ≤ most
both_few most m n len two x y = elim (cases_lt m n) [
  | inl less ↦ elim y [
    | inl none ↦ absurd (omega (arith, none, less))
    | inr few ↦ (
        let le : 2 + (m + n) ≤ 2 + 2 * n = omega (arith, less) in
        let bytes : (2 + (m + n)) * len ≤ (2 + 2 * n) * len = mul-le-mul_right len le in
        omega (arith, bytes, few)
        )
  ]
  | inr past ↦ elim x [
    | inl none ↦ (
        let le : 2 + (m + n) ≤ 2 = omega (arith, none, past) in
        let bytes : (2 + (m + n)) * len ≤ 2 * len = mul-le-mul_right len le in
        omega (arith, bytes, two)
        )
    | inr few ↦ (
        let le : 2 + (m + n) ≤ 2 + 2 * m = omega (arith, past) in
        let bytes : (2 + (m + n)) * len ≤ (2 + 2 * m) * len = mul-le-mul_right len le in
        omega (arith, bytes, few)
        )
  ]
]

-- ---- all that is tried

module _ (most : ℕ) (a b : List ℕ) (whole : IsWholeSectors a) (long : length b ≡ length a) where
  two_cut : AreAtMost (IsCut a b) 2
  two_cut = either_of (λ j. j ≡ cut a) (λ j. j ≡ cut b) 1 1 (one_of (λ j. j ≡ cut a) (cut a) (λ j is. sym is)) (one_of (λ j. j ≡ cut b) (cut b) (λ j is. sym is))

  all_sectors : AreAtMost (IsTriedOfSectors most a b) (2 ^ differing a b)
  all_sectors = fewer (IsComposed a b) (IsTriedOfSectors most a b) (2 ^ differing a b) (λ j is. is.composed) (all_composed a b whole)

  all_pieces : AreAtMost (IsTriedOfPieces most a b) (piece_count a b)
  all_pieces = fewer (IsOfPieces a b) (IsTriedOfPieces most a b) (piece_count a b) (λ j is. is.1) (of_pieces a b, λ j is. (is.0, is.1, sym is.2))

  with_cut : (m n : ℕ) → AreAtMost (IsTriedOfSectors most a b) m → AreAtMost (IsTriedOfPieces most a b) n → AreAtMost (IsTried most a b) (2 + (m + n))
  with_cut m n x y =
      let either : List ℕ → Type 0 = λ j. IsCut a b j ⊎ IsTriedComposed most a b j in
      fewer either (IsTried most a b) (2 + (m + n)) (λ j is. is.1)
      (either_of (IsCut a b) (IsTriedComposed most a b) 2 (m + n) two_cut (either_of (IsTriedOfSectors most a b) (IsTriedOfPieces most a b) m n x y))

  by_borders : 2 * length a ≤ most → most < bytes_of_all a b → HashesFew most a b
  by_borders begin many =
      let x : NearBorders most a b = near_borders most a b long whole in
      let wholes : IsWholeSectors b = subst (λ n. 512 * (n / 512) ≡ n) (sym long) whole in
      let y : NearBorders most b a = near_borders most b a (sym long) wholes in
      let of_second : (y.count ≡ 0) ⊎ ((2 + 2 * y.count) * length a ≤ most) = subst (λ n. (y.count ≡ 0) ⊎ ((2 + 2 * y.count) * n ≤ most)) long y.few in
      let none : AreAtMost (IsTriedOfPieces most a b) 0 = none_of (IsTriedOfPieces most a b) (λ j is.
      let may = is.0 in
      let more : (2 + 2 ^ differing a b) * length a ≤ (2 + 2 ^ differing a b + piece_count a b) * length a = mul-le-mul_right (length a) (omega arith) in
      omega (arith, many, may, more)) in
      let near : AreAtMost (IsTriedOfSectors most a b) (x.count + y.count) =
      fewer (IsByBorder most a b) (IsTriedOfSectors most a b) (x.count + y.count) (λ j is. is.by_border many) (either_of (IsNearBorder most a b) (IsNearBorder most b a) x.count y.count x.all y.all) in
      let sum : (x.count + y.count) + 0 ≡ x.count + y.count = omega arith in
      record {
        count = 2 + (x.count + y.count);
        all = subst (λ n. AreAtMost (IsTried most a b) (2 + n)) sum (with_cut (x.count + y.count) 0 near none);
        few = both_few most x.count y.count (length a) begin x.few of_second;
      }

  begun_few : 2 * length a ≤ most → HashesFew most a b
  begun_few begin = elim (cases_lt most (bytes_of_pieces a b)) [
    | inl many ↦ elim (cases_lt most (bytes_of_all a b)) [
      | inl too_many ↦ by_borders begin too_many
      | inr few ↦ record {
        count = 2 + (2 ^ differing a b + 0);
        all = with_cut (2 ^ differing a b) 0 all_sectors (none_of (IsTriedOfPieces most a b) (λ j is. let may = is.0 in omega (arith, many, may)));
        few =
            let same : 2 + (2 ^ differing a b + 0) ≡ 2 + 2 ^ differing a b = omega arith in
            subst (λ n. n * length a ≤ most) (sym same) (omega (arith, few));
      }
    ]
    | inr few ↦ record {
      count = 2 + (2 ^ differing a b + piece_count a b);
      all = with_cut (2 ^ differing a b) (piece_count a b) all_sectors all_pieces;
      few =
          let same : 2 + (2 ^ differing a b + piece_count a b) ≡ 2 + 2 ^ differing a b + piece_count a b = omega arith in
          subst (λ n. n * length a ≤ most) (sym same) (omega (arith, few));
    }
  ]

  pub few_hashed : HashesFew most a b
  few_hashed = elim (cases_lt most (2 * length a)) [
    | inl far ↦ record {
      count = 0;
      all = none_of (IsTried most a b) (λ j is. let may = is.0 in omega (arith, far, may));
      few = omega arith;
    }
    | inr begin ↦ begun_few (omega (arith, begin))
  ]
