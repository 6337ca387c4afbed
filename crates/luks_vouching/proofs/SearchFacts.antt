-- The search through all compositions: what its branches answer.
use Rattle.std.proofs.Common.{◌≡◌, ℕ, ◌+◌, ◌-◌, ◌*◌, ◌<◌, ◌≤◌, List, [], ◌++◌, ◌⊎◌, inl, inr, length, take, drop, refl, sym, ap, ◌∙◌, arith, subst, append_assoc, length-append, length-drop}
use Rattle.std.proofs.lemmas.Bool.{cases_lt}
use Rattle.std.proofs.lemmas.List.{append-nil, drop_all, drop-append-le, length-take-le, take-append-le, take_rest}
use Rattle.std.proofs.Math.Seq.{drop-append_seam}
use borrow.Rule.Slice.PartMut.{put_mid}
use Rattle.sha2.specs.Sha256.{sha256}
use Rattle.luks_vouching.specs.Composed.{sector, IsComposed}
use Rattle.luks_vouching.specs.Tried.{IsFirstOfAll}
use Rattle.luks_vouching.proofs.SectorFacts.{composed_alike, composed_front, composed_own, composed_rest, next_front, not_later_rest, sector_drop, sector_take, three_parts}

-- the checksum is that of what is done and the area
abbrev pub MeetsAfter : List ℕ → List ℕ → List ℕ → Type 0
MeetsAfter sum done j = sum ≡ sha256 (done ++ j)

-- `J` begins with the sectors that both areas share, and then has the sector `x`
pub record Begins (a x whole : List ℕ) (m : ℕ) : Type 0 where
  pub front : take (512 * m) whole ≡ take (512 * m) a
  pub next : sector whole m ≡ x

module _ (a b sum done : List ℕ) (m : ℕ) (long : length b ≡ length a) (inside : 512 * m < length a)
    (alike : take (512 * m) a ≡ take (512 * m) b) where
  abbrev rest : List ℕ → List ℕ
  rest l = drop (512 * (m + 1)) l

  -- what was fed before the rest, where the next sector is `x`
  abbrev pub fed_with : List ℕ → List ℕ
  fed_with x = (done ++ take (512 * m) a) ++ x

  same_fed : (x whole : List ℕ) → Begins a x whole m → done ++ whole ≡ fed_with x ++ rest whole
  same_fed x whole begins =
      ap (λ l. done ++ l) (three_parts whole m ∙ ap (λ l. (l ++ sector whole m) ++ rest whole) begins.front ∙ ap (λ l. (take (512 * m) a ++ l) ++ rest whole) begins.next)
      ∙ sym (append_assoc done (take (512 * m) a ++ x) (rest whole))
      ∙ ap (λ l. l ++ rest whole) (sym (append_assoc done (take (512 * m) a) x))

  meets_rest : (x whole : List ℕ) → Begins a x whole m → MeetsAfter sum done whole → MeetsAfter sum (fed_with x) (rest whole)
  meets_rest x whole begins met = met ∙ ap sha256 (same_fed x whole begins)

  meets_whole : (x whole : List ℕ) → Begins a x whole m → MeetsAfter sum (fed_with x) (rest whole) → MeetsAfter sum done whole
  meets_whole x whole begins met = met ∙ ap sha256 (sym (same_fed x whole begins))

  -- a composition goes on with the one sector or the other
  goes_on : (j : List ℕ) → IsComposed a b j → Begins a (sector a m) j m ⊎ Begins a (sector b m) j m
  goes_on j composed =
      let front : take (512 * m) j ≡ take (512 * m) a = composed_front a b j composed m (omega (arith, inside)) alike in
      let same : length j ≡ length a = composed.as_first in
      elim (composed.each m (omega (arith, inside, same))) [
        | inl own ↦ inl (record { front = front; next = own })
        | inr other ↦ inr (record { front = front; next = other })
      ]

  same_begin : (x i j : List ℕ) → Begins a x i m → Begins a x j m → take (512 * (m + 1)) i ≡ take (512 * (m + 1)) j
  same_begin x i j p q =
      next_front i m ∙ ap (λ l. l ++ sector i m) (p.front ∙ sym q.front) ∙ ap (λ l. take (512 * m) j ++ l) (p.next ∙ sym q.next) ∙ sym (next_front j m)

  -- what begins so and goes on with a composition is one
  joined : (x whole : List ℕ) → length whole ≡ length a → ((x ≡ sector a m) ⊎ (x ≡ sector b m)) → Begins a x whole m
      → IsComposed (rest a) (rest b) (rest whole) → IsComposed a b whole
  joined x whole size which begins composed = record {
    as_first = size;
    as_second = size ∙ sym long;
    each = λ k lt. elim (cases_lt k m) [
      | inl below ↦ inl (sym (sector_take whole m k below) ∙ ap (λ l. sector l k) begins.front ∙ sector_take a m k below)
      | inr past ↦ elim (cases_lt m k) [
        | inl behind ↦
            let there : (m + 1) + (k - (m + 1)) ≡ k = omega (arith, behind) in
            let left : length (rest whole) ≡ length whole - 512 * (m + 1) = length-drop (512 * (m + 1)) whole in
            let low : 512 * (k - (m + 1)) < length (rest whole) = omega (arith, lt, left, behind) in
            let at : (l : List ℕ) → sector (rest l) (k - (m + 1)) ≡ sector l k = λ l. sector_drop l (m + 1) (k - (m + 1)) ∙ ap (sector l) there in
            elim (composed.each (k - (m + 1)) low) [
              | inl own ↦ inl (sym (at whole) ∙ own ∙ at a)
              | inr other ↦ inr (sym (at whole) ∙ other ∙ at b)
            ]
        | inr not_behind ↦
            let here : k ≡ m = omega (arith, past, not_behind) in
            elim which [
              | inl own ↦ inl (ap (sector whole) here ∙ begins.next ∙ own ∙ ap (sector a) (sym here))
              | inr other ↦ inr (ap (sector whole) here ∙ begins.next ∙ other ∙ ap (sector b) (sym here))
            ]
      ]
    ];
  }

  -- found with the first copy's sector
  pub found_first : (whole : List ℕ) → length whole ≡ length a → (sector a m ≡ sector b m → ⊥) → Begins a (sector a m) whole m
      → IsFirstOfAll (rest a) (rest b) (MeetsAfter sum (fed_with (sector a m))) (rest whole)
      → IsFirstOfAll a b (MeetsAfter sum done) whole
  found_first whole size differ begins found = record {
    composed = joined (sector a m) whole size (inl refl) begins found.composed;
    met = meets_whole (sector a m) whole begins found.met;
    earliest = λ other composed met. elim (goes_on other composed) [
      | inl own ↦
          not_later_rest a whole other (m + 1) (same_begin (sector a m) whole other begins own)
          (found.earliest (rest other) (composed_rest a b other composed (m + 1)) (meets_rest (sector a m) other own met))
      | inr second ↦ inr (record {
        number = m;
        alike = begins.front ∙ sym second.front;
        own = begins.next;
        differs = λ is. differ (sym is ∙ second.next);
      })
    ];
  }

  -- found with the second's, none with the first's
  pub found_second : (whole : List ℕ) → length whole ≡ length a
      → ((j : List ℕ) → IsComposed (rest a) (rest b) j → MeetsAfter sum (fed_with (sector a m)) j → ⊥) → Begins a (sector b m) whole m
      → IsFirstOfAll (rest a) (rest b) (MeetsAfter sum (fed_with (sector b m))) (rest whole)
      → IsFirstOfAll a b (MeetsAfter sum done) whole
  found_second whole size none begins found = record {
    composed = joined (sector b m) whole size (inr refl) begins found.composed;
    met = meets_whole (sector b m) whole begins found.met;
    earliest = λ other composed met. elim (goes_on other composed) [
      | inl own ↦ absurd (none (rest other) (composed_rest a b other composed (m + 1)) (meets_rest (sector a m) other own met))
      | inr second ↦
          not_later_rest a whole other (m + 1) (same_begin (sector b m) whole other begins second)
          (found.earliest (rest other) (composed_rest a b other composed (m + 1)) (meets_rest (sector b m) other second met))
    ];
  }

  -- none with either
  pub found_none : ((j : List ℕ) → IsComposed (rest a) (rest b) j → MeetsAfter sum (fed_with (sector a m)) j → ⊥)
      → ((j : List ℕ) → IsComposed (rest a) (rest b) j → MeetsAfter sum (fed_with (sector b m)) j → ⊥)
      → (j : List ℕ) → IsComposed a b j → MeetsAfter sum done j → ⊥
  found_none none_first none_second j composed met = elim (goes_on j composed) [
    | inl own ↦ none_first (rest j) (composed_rest a b j composed (m + 1)) (meets_rest (sector a m) j own met)
    | inr second ↦ none_second (rest j) (composed_rest a b j composed (m + 1)) (meets_rest (sector b m) j second met)
  ]

-- areas that are alike
pub only_found : (a b : List ℕ) (meets : List ℕ → Type 0) → a ≡ b → meets a → IsFirstOfAll a b meets a
only_found a b meets same met = record {
  composed = composed_own a b (ap length (sym same));
  met = met;
  earliest = λ other composed other_met. inl (sym (composed_alike a b other same composed));
}

pub only_none : (a b : List ℕ) (meets : List ℕ → Type 0) → a ≡ b → (meets a → ⊥) → (j : List ℕ) → IsComposed a b j → meets j → ⊥
only_none a b meets same none j composed met = none (subst meets (composed_alike a b j same composed) met)

-- ---- the same of the lists as the code cuts them

-- the front, the next sector and the rest
pub front_cut : (a : List ℕ) (m : ℕ) → take (m * 512) a ≡ take (512 * m) a
front_cut a m = let n : m * 512 ≡ 512 * m = omega arith in ap (λ k. take k a) n

pub next_cut : (a : List ℕ) (m : ℕ) → take (m * 512 + 512 - m * 512) (drop (m * 512) a) ≡ sector a m
next_cut a m =
    let size : m * 512 + 512 - m * 512 ≡ 512 = omega arith in
    let at : m * 512 ≡ 512 * m = omega arith in
    ap (λ n. take n (drop (m * 512) a)) size ∙ ap (λ p. take 512 (drop p a)) at

pub rest_cut : (a : List ℕ) (m : ℕ) → take (length a - (m * 512 + 512)) (drop (m * 512 + 512) a) ≡ drop (512 * (m + 1)) a
rest_cut a m =
    let at : m * 512 + 512 ≡ 512 * (m + 1) = omega arith in
    take_rest a (m * 512 + 512) ∙ ap (λ n. drop n a) at

-- what the recursion found, and what is put before it
pub put_before : (json found front : List ℕ) (n : ℕ) → length front ≡ n → n ≤ length json
    → front ++ drop (length front) (put_mid n (length json - n) json found) ≡ front ++ found
put_before json found front n long inside =
    let before : length (take n json) ≡ n = length-take-le n json inside in
    let left : length (drop n json) ≡ length json - n = length-drop n json in
    let none : drop (length json - n) (drop n json) ≡ [] = drop_all (length json - n) (drop n json) (omega (arith, left)) in
    ap (λ l. front ++ l) (
    ap (λ k. drop k (put_mid n (length json - n) json found)) (long ∙ sym before)
    ∙ drop-append_seam (take n json) (found ++ drop (length json - n) (drop n json))
    ∙ ap (λ l. found ++ l) none ∙ append-nil found)

-- what is put behind a place leaves that place inside
pub put_inside : (json found : List ℕ) (n k : ℕ) → n ≤ length json → n ≤ length (put_mid n k json found)
put_inside json found n k inside =
    let before : length (take n json) ≡ n = length-take-le n json inside in
    let all : length (put_mid n k json found) ≡ length (take n json) + length (found ++ drop k (drop n json)) = length-append (take n json) (found ++ drop k (drop n json)) in
    omega (arith, before, all)

module _ (front found whole : List ℕ) (m : ℕ) (long : length front ≡ 512 * (m + 1)) (is : whole ≡ front ++ found) where
  pub whole_front : take (512 * m) whole ≡ take (512 * m) front
  whole_front = ap (take (512 * m)) is ∙ take-append-le (512 * m) front found (omega (arith, long))

  pub whole_next : sector whole m ≡ sector front m
  whole_next =
      let left : length (drop (512 * m) front) ≡ length front - 512 * m = length-drop (512 * m) front in
      ap (λ l. sector l m) is ∙ ap (take 512) (drop-append-le (512 * m) front found (omega (arith, long)))
      ∙ take-append-le 512 (drop (512 * m) front) found (omega (arith, left, long))

  pub whole_rest : drop (512 * (m + 1)) whole ≡ found
  whole_rest = ap (drop (512 * (m + 1))) is ∙ ap (λ n. drop n (front ++ found)) (sym long) ∙ drop-append_seam front found

  pub whole_inside : 512 * (m + 1) ≤ length whole
  whole_inside = let all : length whole ≡ length front + length found = ap length is ∙ length-append front found in omega (arith, all, long)

-- of two lists the rests behind one place are of one length, and so they are
pub same_long : (a whole : List ℕ) (n : ℕ) → n ≤ length a → n ≤ length whole → length (drop n whole) ≡ length (drop n a) → length whole ≡ length a
same_long a whole n inside within same =
    let left : length (drop n a) ≡ length a - n = length-drop n a in
    let right : length (drop n whole) ≡ length whole - n = length-drop n whole in
    omega (arith, inside, within, same, left, right)

-- of equal lists
pub moved : (a c b d sum done i j : List ℕ) → a ≡ c → b ≡ d → i ≡ j → IsFirstOfAll a b (MeetsAfter sum done) i → IsFirstOfAll c d (MeetsAfter sum done) j
moved a c b d sum done i j p q r x =
    subst (λ l. IsFirstOfAll c d (MeetsAfter sum done) l) r (subst (λ l. IsFirstOfAll c l (MeetsAfter sum done) i) q (subst (λ l. IsFirstOfAll l b (MeetsAfter sum done) i) p x))

pub moved_none : (a c b d sum done : List ℕ) → a ≡ c → b ≡ d → ((j : List ℕ) → IsComposed a b j → MeetsAfter sum done j → ⊥)
    → (j : List ℕ) → IsComposed c d j → MeetsAfter sum done j → ⊥
moved_none a c b d sum done p q none j composed met =
    none j (subst (λ l. IsComposed l b j) (sym p) (subst (λ l. IsComposed c l j) (sym q) composed)) met
