-- The volumes of which a sign is at a place.
use Rattle.std.proofs.Common.{◌≡◌, ℕ, zero, suc, ◌+◌, ◌*◌, ◌<◌, ◌⊎◌, ◌==◌, if◌then◌else◌, List, [], ◌∷◌, length, get_or, Bool, true, false, Option, None, Some, inl, inr, refl, sym, ap, ◌∙◌, subst, arith}
use Rattle.std.proofs.lemmas.Bool.{eq-eqb, eqb-true, false≢true, or_cases}
use Rattle.std.proofs.lemmas.List.Folds.{list_any_at}
use Rattle.luks_area.specs.Ranges.{part}
use Rattle.luks2_header.specs.Header2.{IsSound}
use Rattle.luks2_header.specs.Sizes.{is_among}
use Rattle.luks_rebuilding.specs.declared.place.Place.{Place}
use Rattle.luks_finding.specs.Blocks.{BeginsText}
use Rattle.luks_finding.specs.Readable.{told_by_step, untold_of, AreUntoldAt, HasAllAt, HasKindAt}
use Rattle.luks_finding.specs.Finding.{step_of}
use Rattle.luks_finding.specs.Starts.{volume_at, BeginsVolume, HasMetadata, IsAmong, IsCopySign, IsMetadataSign, IsSign}
use Rattle.luks_finding.specs.Telling.{first_copy, joined, second_copy, starts_of, FindsSize, FindsWhole, IsFirstAt, IsSecondAt, IsWholeAt, NamesSize}
use Rattle.luks_finding.specs.declared.told.Told.{Told}
use Rattle.luks_finding.specs.declared.told.Told.TheVariants.{Nothing, One, Two}
use Rattle.luks_finding.proofs.MetadataFacts.{metadata-here, whole-one}
use Rattle.luks_finding.proofs.SignFacts.{copy-named, copy-sound, sign-copy, sign-header, sign-metadata}
use Rattle.luks_finding.proofs.ToldFacts.{header-there, second-there, sign-kind, whole-text}

-- ---- lists of none, one and two

pub signs-none : (v : List ℕ) (p : ℕ) → ((s : ℕ) → IsSign v s p → ⊥) → HasAllAt v p Nothing
signs-none v p none = record {
  signs = λ i lt. absurd (omega (arith, lt));
  rising = λ i j lt within. absurd (omega (arith, within));
  all = λ s sign. absurd (none s sign);
}

one-sign : (v : List ℕ) (p s : ℕ) → IsSign v s p → (i : ℕ) → i < length (s ∷ []) → IsSign v (get_or (s ∷ []) i 0) p
one-sign v p s sign zero lt = sign
one-sign v p s sign (suc i) lt = absurd (omega (arith, lt))

pub signs-one : (v : List ℕ) (p s : ℕ) → IsSign v s p → ((t : ℕ) → IsSign v t p → t ≡ s) → HasAllAt v p (One s)
signs-one v p s sign alone = record {
  signs = one-sign v p s sign;
  rising = λ i j lt within. absurd (omega (arith, lt, within));
  all = λ t other. record { index = 0; within = omega arith; is = sym (alone t other) };
}

two-signs : (v : List ℕ) (p s t : ℕ) → IsSign v s p → IsSign v t p → (i : ℕ) → i < length (s ∷ t ∷ []) → IsSign v (get_or (s ∷ t ∷ []) i 0) p
two-signs v p s t first second zero lt = first
two-signs v p s t first second (suc zero) lt = second
two-signs v p s t first second (suc (suc i)) lt = absurd (omega (arith, lt))

two-rising : (s t : ℕ) → s < t → (i j : ℕ) → i < j → j < length (s ∷ t ∷ []) → get_or (s ∷ t ∷ []) i 0 < get_or (s ∷ t ∷ []) j 0
two-rising s t below zero zero lt within = absurd (omega (arith, lt))
two-rising s t below zero (suc zero) lt within = below
two-rising s t below zero (suc (suc j)) lt within = absurd (omega (arith, within))
two-rising s t below (suc i) zero lt within = absurd (omega (arith, lt))
two-rising s t below (suc i) (suc zero) lt within = absurd (omega (arith, lt))
two-rising s t below (suc i) (suc (suc j)) lt within = absurd (omega (arith, within))

signs-two : (v : List ℕ) (p s t : ℕ) → s < t → IsSign v s p → IsSign v t p → ((u : ℕ) → IsSign v u p → (u ≡ s) ⊎ (u ≡ t)) → HasAllAt v p (Two s t)
signs-two v p s t below first second alone = record {
  signs = two-signs v p s t first second;
  rising = two-rising s t below;
  all = λ u sign. elim (alone u sign) [
    | inl one ↦ record { index = 0; within = omega arith; is = sym one }
    | inr two ↦ record { index = 1; within = omega arith; is = sym two }
  ];
}

-- ---- headers and second copies

pub signs-header : (v : List ℕ) (k : ℕ) → BeginsVolume v (512 * k) → HasAllAt v (512 * k) (One (512 * k))
signs-header v k begins =
    signs-one v (512 * k) (512 * k) (record { sector = k; there = refl; is = inl (record { here = refl; begins = begins }) }) (λ t sign. sym (sign-header v t (512 * k) begins sign))

pub signs-unnamed : (v : List ℕ) (p : ℕ) → (BeginsVolume v p → ⊥) → (BeginsText (part v p 8) → ⊥) → FindsSize v p None → HasAllAt v p Nothing
signs-unnamed v p none no_text unnamed = signs-none v p (λ s sign.
    let copy : IsCopySign v s p = sign-copy v s p none no_text sign in
    unnamed copy.size (copy-named v s p copy))

pub signs-unsound : (v : List ℕ) (p size start : ℕ) → start + size ≡ p → (BeginsVolume v p → ⊥) → (BeginsText (part v p 8) → ⊥) → NamesSize v p size
    → (IsSound (volume_at v start) size → ⊥) → HasAllAt v p Nothing
signs-unsound v p size start back none no_text named unsound = signs-none v p (λ s sign.
    let copy = copy-sound v s p size named (sign-copy v s p none no_text sign) in
    let there : p ≡ s + size = copy.0 in
    let same : s ≡ start = omega (arith, there, back) in
    unsound (subst (λ (n : ℕ). IsSound (volume_at v n) size) same copy.1))

pub signs-sound : (v : List ℕ) (p k size : ℕ) → 512 * k + size ≡ p → (BeginsVolume v p → ⊥) → (BeginsText (part v p 8) → ⊥) → NamesSize v p size
    → IsSound (volume_at v (512 * k)) size → HasAllAt v p (One (512 * k))
signs-sound v p k size back none no_text named sound = signs-one v p (512 * k)
    (record { sector = k; there = refl; is = inr (inl (record { size = size; listed = named.listed; there = sym back; sound = sound })) })
    (λ t sign.
    let copy = copy-sound v t p size named (sign-copy v t p none no_text sign) in
    let there : p ≡ t + size = copy.0 in
    omega (arith, there, back))

-- ---- metadata

-- no metadata is whole there
pub texts-none : (v : List ℕ) (p h : ℕ) → p ≡ h + 4096 → BeginsText (part v p 8) → FindsWhole v h None → HasAllAt v p Nothing
texts-none v p h behind text none = signs-none v p (λ s sign.
    let metadata : IsMetadataSign v s p = sign-metadata v s p text sign in
    none metadata.copy.size (metadata-here v s h metadata.copy (header-there v s p h behind metadata) metadata.has.whole))

-- too near to the disk's start for a binary header before it
pub texts-early : (v : List ℕ) (p : ℕ) → p < 4096 → BeginsText (part v p 8) → HasAllAt v p Nothing
texts-early v p early text = signs-none v p (λ s sign.
    let metadata : IsMetadataSign v s p = sign-metadata v s p text sign in
    let there : p ≡ s + metadata.copy.at + 4096 = metadata.there in
    omega (arith, there, early))

-- metadata of another copy with the same size and place is the same
metadata-as : (v : List ℕ) (s : ℕ) (a b : Place) → a.size ≡ b.size → a.at ≡ b.at → HasMetadata v s a → HasMetadata v s b
metadata-as v s a b size at has =
    let sized : HasMetadata v s (record { size = b.size; at = a.at }) = subst (λ (n : ℕ). HasMetadata v s (record { size = n; at = a.at })) size has in
    subst (λ (n : ℕ). HasMetadata v s (record { size = b.size; at = n })) at sized

-- that of a first copy
pub first-kind : (v : List ℕ) (k size : ℕ) → HasMetadata v (512 * k) (first_copy size) → HasKindAt (IsFirstAt (512 * k)) v (512 * k + 4096) (Some (512 * k))
first-kind v k size has = (
  refl,
  record {
    sector = k;
    there = refl;
    is = inr (inr (record { copy = first_copy size; there = omega arith; has = has }));
  },
  λ t kind sign. kind,
)

pub first-kind-none : (v : List ℕ) (h size : ℕ) → IsWholeAt v h size → (HasMetadata v h (first_copy size) → ⊥) → HasKindAt (IsFirstAt h) v (h + 4096) None
first-kind-none v h size whole none = λ s kind sign.
    let metadata : IsMetadataSign v s (h + 4096) = sign-metadata v s (h + 4096) (whole-text v h size whole) sign in
    let there : s + metadata.copy.at ≡ h = header-there v s (h + 4096) h refl metadata in
    let at : metadata.copy.at ≡ 0 = omega (arith, there, kind) in
    let same : metadata.copy.size ≡ size = whole-one v h metadata.copy.size size (metadata-here v s h metadata.copy there metadata.has.whole) whole in
    none (subst (λ (n : ℕ). HasMetadata v n (first_copy size)) kind (metadata-as v s metadata.copy (first_copy size) same at metadata.has))

-- that of a second one
pub second-kind : (v : List ℕ) (h k size : ℕ) → IsWholeAt v h size → 0 < size → 512 * k + size ≡ h → HasMetadata v (512 * k) (second_copy size)
    → HasKindAt (IsSecondAt h) v (h + 4096) (Some (512 * k))
second-kind v h k size whole some back has = (
  omega (arith, back, some),
  record {
    sector = k;
    there = refl;
    is = inr (inr (record { copy = second_copy size; there = ap (λ n. n + 4096) (sym back); has = has }));
  },
  λ t below sign. let there : t + size ≡ h = second-there v t h size whole below sign in omega (arith, there, back),
)

pub second-kind-outside : (v : List ℕ) (h size : ℕ) → IsWholeAt v h size → h < size → HasKindAt (IsSecondAt h) v (h + 4096) None
second-kind-outside v h size whole large = λ s below sign.
    let there : s + size ≡ h = second-there v s h size whole below sign in
    omega (arith, there, large)

pub second-kind-none : (v : List ℕ) (h k size : ℕ) → IsWholeAt v h size → 512 * k + size ≡ h → (HasMetadata v (512 * k) (second_copy size) → ⊥)
    → HasKindAt (IsSecondAt h) v (h + 4096) None
second-kind-none v h k size whole back none = λ s below sign.
    let metadata : IsMetadataSign v s (h + 4096) = sign-metadata v s (h + 4096) (whole-text v h size whole) sign in
    let there : s + metadata.copy.at ≡ h = header-there v s (h + 4096) h refl metadata in
    let behind : s + size ≡ h = second-there v s h size whole below sign in
    let same : metadata.copy.size ≡ size = whole-one v h metadata.copy.size size (metadata-here v s h metadata.copy there metadata.has.whole) whole in
    let at : metadata.copy.at ≡ size = omega (arith, there, behind) in
    let start : s ≡ 512 * k = omega (arith, behind, back) in
    none (subst (λ (n : ℕ). HasMetadata v n (second_copy size)) start (metadata-as v s metadata.copy (second_copy size) same at metadata.has))

-- both together
pub joined-all : (v : List ℕ) (h size : ℕ) (second first : Option ℕ) → IsWholeAt v h size → HasKindAt (IsSecondAt h) v (h + 4096) second
    → HasKindAt (IsFirstAt h) v (h + 4096) first → HasAllAt v (h + 4096) (joined second first)
joined-all v h size None None whole second first = signs-none v (h + 4096) (λ s sign.
    elim (sign-kind v s (h + 4096) h refl (sign-metadata v s (h + 4096) (whole-text v h size whole) sign)) [
      | inl is ↦ first s is sign
      | inr is ↦ second s is sign
    ])
joined-all v h size None (Some t) whole second first = signs-one v (h + 4096) t first.1 (λ s sign.
    elim (sign-kind v s (h + 4096) h refl (sign-metadata v s (h + 4096) (whole-text v h size whole) sign)) [
      | inl is ↦ first.2 s is sign
      | inr is ↦ absurd (second s is sign)
    ])
joined-all v h size (Some s) None whole second first = signs-one v (h + 4096) s second.1 (λ t sign.
    elim (sign-kind v t (h + 4096) h refl (sign-metadata v t (h + 4096) (whole-text v h size whole) sign)) [
      | inl is ↦ absurd (first t is sign)
      | inr is ↦ second.2 t is sign
    ])
joined-all v h size (Some s) (Some t) whole second first =
    let low : s < h = second.0 in
    let here : t ≡ h = first.0 in
    signs-two v (h + 4096) s t (omega (arith, low, here)) second.1 first.1 (λ u sign.
    elim (sign-kind v u (h + 4096) h refl (sign-metadata v u (h + 4096) (whole-text v h size whole) sign)) [
      | inl is ↦ inr (first.2 u is sign)
      | inr is ↦ inl (second.2 u is sign)
    ])

-- ---- those that weren't told

is_some : (told : List ℕ) (s : ℕ) → is_among s told ≡ true → IsAmong told s
is_some [] s is = absurd (cc)
is_some (x ∷ xs) s is = elim (or_cases (x == s) (is_among s xs) is) [
  | inl here ↦ record { index = 0; within = omega arith; is = eqb-true x s here }
  | inr later ↦
      let rest = is_some xs s later in
      let inside : rest.index < length xs = rest.within in
      record { index = suc rest.index; within = omega (arith, inside); is = rest.is }
]

is_none : (told : List ℕ) (s : ℕ) → is_among s told ≡ false → IsAmong told s → ⊥
is_none told s is among =
    let here : (get_or told among.index 0 == s) ≡ true = eq-eqb (get_or told among.index 0) s among.is in
    false≢true (sym is ∙ list_any_at (λ (size : ℕ). size == s) told among.index 0 among.within here)

-- all that a place tells is one, or one of two
at-one : (x s : ℕ) → IsAmong (x ∷ []) s → s ≡ x
at-one x s among = case_one x s among.index among.within among.is
  where
    case_one : (x s i : ℕ) → i < length (x ∷ []) → get_or (x ∷ []) i 0 ≡ s → s ≡ x
    case_one x s zero lt is = sym is
    case_one x s (suc i) lt is = absurd (omega (arith, lt))

only-one : (v : List ℕ) (p x : ℕ) → HasAllAt v p (One x) → (s : ℕ) → IsSign v s p → s ≡ x
only-one v p x has s sign = at-one x s (has.all s sign)

at-two : (x y s : ℕ) → IsAmong (x ∷ y ∷ []) s → (s ≡ x) ⊎ (s ≡ y)
at-two x y s among = case_two x y s among.index among.within among.is
  where
    case_two : (x y s i : ℕ) → i < length (x ∷ y ∷ []) → get_or (x ∷ y ∷ []) i 0 ≡ s → (s ≡ x) ⊎ (s ≡ y)
    case_two x y s zero lt is = inl (sym is)
    case_two x y s (suc zero) lt is = inr (sym is)
    case_two x y s (suc (suc i)) lt is = absurd (omega (arith, lt))

one-or-two : (v : List ℕ) (p x y : ℕ) → HasAllAt v p (Two x y) → (s : ℕ) → IsSign v s p → (s ≡ x) ⊎ (s ≡ y)
one-or-two v p x y has s sign = at-two x y s (has.all s sign)

-- a list of none, of one and of two that are all that weren't told
untold-none : (v : List ℕ) (p : ℕ) (told : List ℕ) → ((s : ℕ) → IsSign v s p → IsAmong told s) → AreUntoldAt v p told []
untold-none v p told all = record {
  signs = λ i lt. absurd (omega (arith, lt));
  fresh = λ i lt. absurd (omega (arith, lt));
  rising = λ i j lt within. absurd (omega (arith, within));
  all = λ s sign. inl (all s sign);
}

one-fresh : (told : List ℕ) (s : ℕ) → (IsAmong told s → ⊥) → (i : ℕ) → i < length (s ∷ []) → IsAmong told (get_or (s ∷ []) i 0) → ⊥
one-fresh told s fresh zero lt = fresh
one-fresh told s fresh (suc i) lt = absurd (omega (arith, lt))

untold-one : (v : List ℕ) (p : ℕ) (told : List ℕ) (x : ℕ) → IsSign v x p → (IsAmong told x → ⊥) → ((s : ℕ) → IsSign v s p → IsAmong told s ⊎ (s ≡ x)) → AreUntoldAt v p told (x ∷ [])
untold-one v p told x sign fresh all = record {
  signs = one-sign v p x sign;
  fresh = one-fresh told x fresh;
  rising = λ i j lt within. absurd (omega (arith, lt, within));
  all = λ s other. elim (all s other) [
    | inl old ↦ inl old
    | inr is ↦ inr (record { index = 0; within = omega arith; is = sym is })
  ];
}

two-fresh : (told : List ℕ) (s t : ℕ) → (IsAmong told s → ⊥) → (IsAmong told t → ⊥) → (i : ℕ) → i < length (s ∷ t ∷ []) → IsAmong told (get_or (s ∷ t ∷ []) i 0) → ⊥
two-fresh told s t first second zero lt = first
two-fresh told s t first second (suc zero) lt = second
two-fresh told s t first second (suc (suc i)) lt = absurd (omega (arith, lt))

-- one start
one-of : (v : List ℕ) (p : ℕ) (told : List ℕ) (x : ℕ) (b : Bool) → is_among x told ≡ b → HasAllAt v p (One x) → AreUntoldAt v p told (if b then [] else x ∷ [])
one-of v p told x true is has = untold-none v p told (λ s sign. subst (IsAmong told) (sym (only-one v p x has s sign)) (is_some told x is))
one-of v p told x false is has = untold-one v p told x (has.signs 0 (omega arith)) (is_none told x is) (λ s sign. inr (only-one v p x has s sign))

-- two
two-of : (v : List ℕ) (p : ℕ) (told : List ℕ) (x y : ℕ) (b c : Bool) → is_among x told ≡ b → is_among y told ≡ c → HasAllAt v p (Two x y)
    → AreUntoldAt v p told (if b then (if c then [] else y ∷ []) else x ∷ (if c then [] else y ∷ []))
two-of v p told x y true true first second has = untold-none v p told (λ s sign. elim (one-or-two v p x y has s sign) [
  | inl one ↦ subst (IsAmong told) (sym one) (is_some told x first)
  | inr two ↦ subst (IsAmong told) (sym two) (is_some told y second)
])
two-of v p told x y true false first second has = untold-one v p told y (has.signs 1 (omega arith)) (is_none told y second) (λ s sign. elim (one-or-two v p x y has s sign) [
  | inl one ↦ inl (subst (IsAmong told) (sym one) (is_some told x first))
  | inr two ↦ inr two
])
two-of v p told x y false true first second has = untold-one v p told x (has.signs 0 (omega arith)) (is_none told x first) (λ s sign. elim (one-or-two v p x y has s sign) [
  | inl one ↦ inr one
  | inr two ↦ inl (subst (IsAmong told) (sym two) (is_some told y second))
])
two-of v p told x y false false first second has = record {
  signs = two-signs v p x y (has.signs 0 (omega arith)) (has.signs 1 (omega arith));
  fresh = two-fresh told x y (is_none told x first) (is_none told y second);
  rising = two-rising x y (has.rising 0 1 (omega arith) (omega arith));
  all = λ s sign. elim (one-or-two v p x y has s sign) [
    | inl one ↦ inr (record { index = 0; within = omega arith; is = sym one })
    | inr two ↦ inr (record { index = 1; within = omega arith; is = sym two })
  ];
}

-- of all that a place tells, those that weren't told
pub untold-at : (v : List ℕ) (p : ℕ) (told : List ℕ) (signs : Told) → HasAllAt v p signs → AreUntoldAt v p told (untold_of told (starts_of signs))
untold-at v p told Nothing has = untold-none v p told (λ s sign. let none = has.all s sign in let lt : none.index < 0 = none.within in absurd (omega (arith, lt)))
untold-at v p told (One x) has = one-of v p told x (is_among x told) refl has
untold-at v p told (Two x y) has = two-of v p told x y (is_among x told) (is_among y told) refl refl has

-- a step tells what is told at its place
pub by-step : (told : Told) → told_by_step (step_of told) ≡ starts_of told
by-step Nothing = refl
by-step (One s) = refl
by-step (Two s t) = refl
