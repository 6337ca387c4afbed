-- What clearing the first sectors of places leaves.
use Rattle.std.proofs.Common.{◌≡◌, ◌⊎◌, ℕ, ◌+◌, ◌-◌, ◌*◌, ◌/◌, ◌%◌, ◌<◌, ◌≤◌, ◌==◌, nat_le, List, length, min, replicate, get_or, if◌then◌else◌, Bool, true, false, refl, sym, ap, ◌∙◌, arith, inl, inr, subst}
use Rattle.std.proofs.lemmas.Bool.{cases_lt, eqb-true, leb-true, ne_eqb, false≢true}
use Rattle.std.proofs.lemmas.Grind.{same_number_lists}
use Rattle.std.proofs.lemmas.List.{get_or-replicate, length-replicate}
use Rattle.luks_area.specs.Ranges.{part, written, IsAt, SameBut}
use Rattle.luks_area.proofs.RangeFacts.{get_or-part, length-part_inside, part-part, part-same_but, same_but-either, same_but-same_outside, same_but-then, same_but-wider, same_outside-written}
use Rattle.luks2_header.proofs.CopyFacts.{among_pass, listed_at_least}
use Rattle.luks1_header.specs.Header1.{luks_magic}
use Rattle.luks2_header.specs.Header2.{magic_of, second_magic, IsSound}
use Rattle.luks2_header.specs.Sizes.{is_listed, listed_sizes, IsListed}
use Rattle.luks_writing.specs.Cleared.{IsCleared}
use Rattle.luks_keeping.proofs.ErasedFacts.{zeros_stand}
use Rattle.luks_keeping.proofs.OverFacts.{inside_stays}
use Rattle.luks_keeping.specs.Clearing.{IsBetween, IsOfOne, IsToClear, KeepsZeros, WipesInTurn}
use Rattle.luks_keeping.specs.SecondPlaces.{AreZeros, BeginsCopy, IsOfCopies, IsOfFirst, IsOfListed}
use Rattle.luks_keeping.specs.declared.second_places.Which.{Which}
use Rattle.luks_keeping.specs.declared.second_places.Which.TheVariants.{EachPlace, EachCopy}

-- ---- zeros

-- a byte of zeros
pub zero_in : (w : List ℕ) (at n p : ℕ) → part w at n ≡ replicate n 0 → IsAt at n p → get_or w p 0 ≡ 0
zero_in w at n p zeros here =
    let low = here.0 in
    let high = here.1 in
    let there : at + (p - at) ≡ p = omega (arith, low) in
    ap (λ k. get_or w k 0) (sym there) ∙ sym (get_or-part w at n (p - at) (omega (arith, low, high)))
    ∙ ap (λ l. get_or l (p - at) 0) zeros ∙ get_or-replicate n (p - at) 0 0 (omega (arith, low, high))

-- zeros that are written keep those that stand
pub keeps_zeros : (u w : List ℕ) (at n : ℕ) → SameBut (IsAt at n) u w → part w at n ≡ replicate n 0 → KeepsZeros u w
keeps_zeros u w at n same zeros p is = elim (cases_lt p at) [
  | inl before ↦ same.each p (λ here. let low = here.0 in absurd (omega (arith, low, before))) ∙ is
  | inr past ↦ elim (cases_lt p (at + n)) [
    | inl inside ↦ zero_in w at n p zeros (past, inside)
    | inr behind ↦ same.each p (λ here. let high = here.1 in absurd (omega (arith, high, behind))) ∙ is
  ]
]

-- a range of a volume that was filled with zeros
pub filled_same : (u w : List ℕ) (at n : ℕ) → at + n ≤ length u → w ≡ written u at (replicate n 0) → SameBut (IsAt at n) u w
filled_same u w at n inside is =
    let long : length (replicate {A = ℕ} n 0) ≡ n = length-replicate {A = ℕ} n 0 in
    subst (λ (l : List ℕ). SameBut (IsAt at n) u l) (sym is)
    (subst (λ (k : ℕ). SameBut (IsAt at k) u (written u at (replicate n 0))) long (same_but-same_outside (same_outside-written u at (replicate n 0) (omega (arith, long, inside)))))

pub filled_keeps : (u w : List ℕ) (at n : ℕ) → at + n ≤ length u → w ≡ written u at (replicate n 0) → KeepsZeros u w
filled_keeps u w at n inside is = keeps_zeros u w at n (filled_same u w at n inside is) (zeros_stand u w at n inside is)

-- ---- the listed places

pub listed_whole : (o : ℕ) → IsListed o → o % 512 ≡ 0
listed_whole o listed = eqb-true (o % 512) 0 (among_pass (λ y. (y % 512) == 0) listed_sizes o refl listed)

pub listed_most : (o : ℕ) → IsListed o → o ≤ 4194304
listed_most o listed = leb-true o 4194304 (among_pass (λ y. nat_le y 4194304) listed_sizes o refl listed)

pub to_clear_listed : (which : Which) (v : List ℕ) (o : ℕ) → IsToClear which v o → IsListed o
to_clear_listed EachPlace v o is = is
to_clear_listed EachCopy v o is = is.listed

-- a front that stays has the same places
pub to_clear_same : (which : Which) (u v : List ℕ) (o n : ℕ) → o + 6 ≤ n → part v 0 n ≡ part u 0 n → IsToClear which u o → IsToClear which v o
to_clear_same EachPlace u v o n inside same is = is
to_clear_same EachCopy u v o n inside same is = record { listed = is.listed; magic = inside_stays u v o 6 n inside same ∙ is.magic }

-- a listed place isn't the first copy's
other_magic : (o : ℕ) → 16384 ≤ o → magic_of o ≡ second_magic
other_magic o large = ap (λ (b : Bool). if b then luks_magic else second_magic) (ne_eqb o 0 (λ (is : o ≡ 0). omega (arith, is, large)))

pub sound_begins : (v : List ℕ) (o : ℕ) → IsListed o → IsSound v o → BeginsCopy v o
sound_begins v o listed sound =
    let there : o + 0 ≡ o = omega arith in
    let six : part (part v o 4096) 0 6 ≡ part v o 6 = part-part v o 4096 0 6 (omega arith) ∙ ap (λ k. part v k 6) there in
    record { listed = listed; magic = sym six ∙ sound.form.magic ∙ other_magic o (listed_at_least o listed) }

-- ---- one place after another, the last one first

-- before the first turn no place is to be cleared
pub none_cleared : (which : Which) (v : List ℕ) (limit n p : ℕ) → n ≡ 8193 ⊎ n ≡ limit / 512 → (x : IsOfFirst (IsToClear which v) limit p) → n * 512 ≤ x.place → ⊥
none_cleared which v limit n p (inl most) x high =
    let low = listed_most x.place (to_clear_listed which v x.place x.is) in
    omega (arith, most, low, high)
none_cleared which v limit n p (inr whole) x high =
    let sector = listed_whole x.place (to_clear_listed which v x.place x.is) in
    let within = x.within in
    omega (arith, whole, sector, within, high)

module _ (which : Which) (u v : List ℕ) (limit m : ℕ) (front : part v 0 ((m + 1) * 512) ≡ part u 0 ((m + 1) * 512)) where
  one_first : (p : ℕ) → IsOfOne which v limit (m * 512) p → IsOfFirst (IsToClear which u) limit p
  one_first p x = record { place = m * 512; is = to_clear_same which v u (m * 512) ((m + 1) * 512) (omega arith) (sym front) x.is; within = x.within; at = x.at }

  pub next_rest : (w : List ℕ) → SameBut (IsOfFirst (IsToClear which u) limit) u v → SameBut (IsOfOne which v limit (m * 512)) v w → SameBut (IsOfFirst (IsToClear which u) limit) u w
  next_rest w before same = same_but-then before (same_but-wider one_first same)

  pub next_front : (w : List ℕ) → SameBut (IsOfOne which v limit (m * 512)) v w → part w 0 (m * 512) ≡ part u 0 (m * 512)
  next_front w same =
      part-same_but 0 (m * 512) same (λ p here x. (let high = here.1 in let at = x.at.0 in absurd (omega (arith, high, at))))
      ∙ inside_stays u v 0 (m * 512) ((m + 1) * 512) (omega arith) front

  pub next_gone : (w : List ℕ) → AreZeros (IsOfOne which v limit (m * 512)) w → KeepsZeros v w
      → ((p : ℕ) (x : IsOfFirst (IsToClear which u) limit p) → (m + 1) * 512 ≤ x.place → get_or v p 0 ≡ 0)
      → (p : ℕ) (x : IsOfFirst (IsToClear which u) limit p) → m * 512 ≤ x.place → get_or w p 0 ≡ 0
  next_gone w cleared keeps before p x high = elim (cases_lt x.place ((m + 1) * 512)) [
    | inl here ↦ (
        let sector = listed_whole x.place (to_clear_listed which u x.place x.is) in
        let is : x.place ≡ m * 512 = omega (arith, sector, here, high) in
        cleared p (record {
          is = subst (IsToClear which v) is (to_clear_same which u v x.place ((m + 1) * 512) (omega (arith, is)) front x.is);
          within = subst (λ (o : ℕ). o + 512 ≤ limit) is x.within;
          at = subst (λ (o : ℕ). IsAt o 512 p) is x.at;
        }))
    | inr later ↦ keeps p (before p x later)
  ]

-- ---- all but these sectors

-- a byte of a whole sector that isn't a place's is of no place
pub between_sector : (size at len p : ℕ) → at % 512 ≡ 0 → 512 ≤ at → at + len ≤ size → len ≤ 512 → (len < 512 → at + len ≡ size) → ((len ≡ 512) × IsListed at → ⊥) → IsAt at len p → IsBetween size p
between_sector size at len p whole behind inside short cut other here = (
    let low = here.0 in
    let high = here.1 in
    record {
      behind = omega (arith, behind, low);
      below = omega (arith, high, inside);
      other = λ x. (
          let sector = listed_whole x.place x.is in
          let from = x.at.0 in
          let to = x.at.1 in
          let within = x.within in
          let is : x.place ≡ at = omega (arith, sector, whole, low, high, from, to, short) in
          elim (cases_lt len 512) [
            | inl small ↦ (let ends = cut small in omega (arith, ends, within, is, small))
            | inr large ↦ other (omega (arith, large, short), subst IsListed is x.is)
          ]);
    })

-- a place's first sector isn't between
pub not_between : (size at len p : ℕ) → (len ≡ 512) × IsListed at → at + len ≤ size → IsAt at len p → IsBetween size p → ⊥
not_between size at len p around inside here x =
    let long = around.0 in
    x.other (record { place = at; is = around.1; within = omega (arith, long, inside); at = subst (λ (n : ℕ). IsAt at n p) long here })

-- ---- the whole

decided : (b : Bool) → (b ≡ true) ⊎ (b ≡ true → ⊥)
decided true = inl refl
decided false = inr (λ e. false≢true e)

-- the place of a byte's own sector
own_place : (size p : ℕ) (x : IsOfListed size p) → x.place ≡ (p / 512) * 512
own_place size p x =
    let sector = listed_whole x.place x.is in
    let from = x.at.0 in
    let to = x.at.1 in
    omega (arith, sector, from, to)

own_at : (p : ℕ) → IsAt ((p / 512) * 512) 512 p
own_at p = (omega arith, omega arith)

listed_or_between : (size p : ℕ) → 512 ≤ p → p < size → IsOfListed size p ⊎ IsBetween size p
listed_or_between size p behind below = elim (decided (is_listed ((p / 512) * 512))) [
  | inl listed ↦ elim (cases_lt size ((p / 512) * 512 + 512)) [
    | inl short ↦ inr (record { behind = behind; below = below; other = λ x. (let is = own_place size p x in let within = x.within in omega (arith, is, within, short)) })
    | inr long ↦ inl (record { place = (p / 512) * 512; is = listed; within = long; at = own_at p })
  ]
  | inr other ↦ inr (record { behind = behind; below = below; other = λ x. other (subst IsListed (own_place size p x) x.is) })
]

pub all_zeros : (w : List ℕ) (n size : ℕ) → n ≡ min 512 size → size ≤ length w → part w 0 n ≡ replicate n 0 → AreZeros (IsOfListed size) w → AreZeros (IsBetween size) w → part w 0 size ≡ replicate size 0
all_zeros w n size small room first listed between =
    let long : length (part w 0 size) ≡ size = length-part_inside w 0 size (omega (arith, room)) in
    let zeros : length (replicate {A = ℕ} size 0) ≡ size = length-replicate {A = ℕ} size 0 in
    same_number_lists (part w 0 size) (replicate size 0) (omega (arith, long, zeros)) (λ p lt.
    let below : p < size = omega (arith, lt, long) in
    get_or-part w 0 size p below ∙ ap (λ k. get_or w k 0) (omega arith) ∙ elim (cases_lt p 512) [
      | inl front ↦ zero_in w 0 n p first (omega arith, omega (arith, front, below, small))
      | inr behind ↦ elim (listed_or_between size p behind below) [
        | inl x ↦ listed p x
        | inr x ↦ between p x
      ]
    ] ∙ sym (get_or-replicate size p 0 0 below))

-- ---- in turn

-- the places where a copy begins are listed
copies_within : (v : List ℕ) (size p : ℕ) → IsOfCopies v size p → IsOfListed size p
copies_within v size p x = record { place = x.place; is = x.is.listed; within = x.within; at = x.at }

pub copies_listed : (u v : List ℕ) (size : ℕ) → SameBut (IsOfCopies u size) u v → SameBut (IsOfListed size) u v
copies_listed u v size same = same_but-wider (copies_within u size) same

pub places_cleared : (u v w : List ℕ) (size : ℕ) → SameBut (IsOfCopies u size) u v → SameBut (IsOfListed size) v w → SameBut (IsOfListed size) u w
places_cleared u v w size copies places = same_but-then (copies_listed u v size copies) places

listed_below : (size p : ℕ) → IsOfListed size p → IsAt 0 size p
listed_below size p x = (omega arith, let within = x.within in let high = x.at.1 in omega (arith, within, high))

between_below : (size p : ℕ) → IsBetween size p → IsAt 0 size p
between_below size p x = (omega arith, let below = x.below in omega (arith, below))

listed_behind : (size p : ℕ) → IsOfListed size p → 512 ≤ p
listed_behind size p x = (let large = listed_at_least x.place x.is in let low = x.at.0 in omega (arith, large, low))

-- the first sector stays while others are written
front_stays : (u w : List ℕ) (n : ℕ) (places : ℕ → Type 0) → n ≤ 512 → ((p : ℕ) → places p → 512 ≤ p) → SameBut places u w → part w 0 n ≡ part u 0 n
front_stays u w n places small behind same =
    part-same_but 0 n same (λ p here x. (let high = here.1 in let low = behind p x in absurd (omega (arith, high, low, small))))

-- the first sector of a large volume
whole_first : (w : List ℕ) (n size : ℕ) → n ≡ min 512 size → 512 ≤ size → part w 0 n ≡ replicate n 0 → IsCleared w 0
whole_first w n size small large zeros =
    let is : n ≡ 512 = omega (arith, small, large) in
    subst (λ (k : ℕ). part w 0 k ≡ replicate k 0) is zeros

module _ (u v : List ℕ) (n size : ℕ) (small : n ≡ min 512 size) (first : SameBut (IsAt 0 n) u v) where
  pub first_rest : SameBut (IsAt 0 size) u v
  first_rest = same_but-wider (λ p here. (omega arith, let high = here.1 in omega (arith, high, small))) first

  first_wide : SameBut (IsAt 0 512) u v
  first_wide = same_but-wider (λ p here. (omega arith, let high = here.1 in omega (arith, high, small))) first

  pub first_turn : WipesInTurn size u v
  first_turn = inl first_wide

  module _ (zeros : part v 0 n ≡ replicate n 0) (w : List ℕ) (second : SameBut (IsOfListed size) v w) where
    pub second_rest : SameBut (IsAt 0 size) u w
    second_rest = same_but-then first_rest (same_but-wider (listed_below size) second)

    second_front : part w 0 n ≡ replicate n 0
    second_front = front_stays v w n (IsOfListed size) (omega (arith, small)) (listed_behind size) second ∙ zeros

    pub second_turn : 512 ≤ size → WipesInTurn size u w
    second_turn large = inr (whole_first w n size small large second_front, inl (same_but-either first_wide second))

    module _ (gone : AreZeros (IsOfListed size) w) (x : List ℕ) (last : SameBut (IsBetween size) w x) where
      pub last_rest : SameBut (IsAt 0 size) u x
      last_rest = same_but-then second_rest (same_but-wider (between_below size) last)

      pub last_front : part x 0 n ≡ replicate n 0
      last_front = front_stays w x n (IsBetween size) (omega (arith, small)) (λ p y. y.behind) last ∙ second_front

      pub last_gone : AreZeros (IsOfListed size) x
      last_gone p y = last.each p (λ z. z.other y) ∙ gone p y

      pub last_turn : 512 ≤ size → WipesInTurn size u x
      last_turn large = inr (whole_first x n size small large last_front, inr last_gone)
