-- What a place of a disk tells.
use Rattle.std.proofs.Common.{◌≡◌, ℕ, zero, suc, ◌+◌, ◌*◌, ◌<◌, ◌≤◌, ◌⊎◌, List, [], ◌∷◌, length, get_or, Option, None, Some, if◌then◌else◌, inl, inr, refl, sym, ap, ◌∙◌, subst, arith}
use Rattle.std.proofs.lemmas.Bool.{ne_eqb}
use Rattle.luks_area.specs.Ranges.{part}
use Rattle.luks_area.proofs.RangeFacts.{part-part}
use Rattle.luks1_header.specs.Header1.{luks_magic}
use Rattle.luks2_header.specs.Header2.{second_magic, IsSound}
use Rattle.luks2_header.specs.Sizes.{IsListed}
use Rattle.luks2_header.proofs.CopyFacts.{listed_at_least}
use Rattle.luks_rebuilding.specs.declared.place.Place.{Place}
use Rattle.luks_finding.specs.Blocks.{BeginsText}
use Rattle.luks_finding.specs.Starts.{other_magic, volume_at, BeginsLuks, BeginsVolume, HasSignBefore, IsCopySign, IsExplained, IsFirstSign, IsMetadataSign, IsSign}
use Rattle.luks_finding.specs.Telling.{first_copy, joined, second_copy, FindsSize, FindsWhole, HasNearer, IsFirstAt, IsSecondAt, IsWholeAt, NamesSize, TellsAt, TellsKind}
use Rattle.luks_finding.specs.declared.told.Told.TheVariants.{Nothing, One, Two}
use Rattle.luks_finding.proofs.CopyFacts.{listed-some}
use Rattle.luks_finding.proofs.ExplainedFacts.{explained-as}
use Rattle.luks_finding.proofs.MetadataFacts.{metadata-here, metadata-text, metadata-there, whole-one}
use Rattle.luks_finding.proofs.SignFacts.{before-nearer, copy-named, copy-sound, nearer-before, sign-copy, sign-header, sign-metadata}

-- ---- lists of none, one and two

pub told-nothing : (v : List ℕ) (p : ℕ) → ((s : ℕ) → IsSign v s p → HasSignBefore v s p) → TellsAt v p Nothing
told-nothing v p none = record {
  first = λ i lt. absurd (omega (arith, lt));
  rising = λ i j lt within. absurd (omega (arith, within));
  all = λ s sign. inl (none s sign);
}

one-first : (v : List ℕ) (p s : ℕ) → IsFirstSign v s p → (i : ℕ) → i < length (s ∷ []) → IsFirstSign v (get_or (s ∷ []) i 0) p
one-first v p s first zero lt = first
one-first v p s first (suc i) lt = absurd (omega (arith, lt))

told-one : (v : List ℕ) (p s : ℕ) → IsFirstSign v s p → ((t : ℕ) → IsSign v t p → HasSignBefore v t p ⊎ (t ≡ s)) → TellsAt v p (One s)
told-one v p s first alone = record {
  first = one-first v p s first;
  rising = λ i j lt within. absurd (omega (arith, lt, within));
  all = λ t sign. elim (alone t sign) [
    | inl before ↦ inl before
    | inr is ↦ inr (record { index = 0; within = omega arith; is = sym is })
  ];
}

two-first : (v : List ℕ) (p s t : ℕ) → IsFirstSign v s p → IsFirstSign v t p → (i : ℕ) → i < length (s ∷ t ∷ []) → IsFirstSign v (get_or (s ∷ t ∷ []) i 0) p
two-first v p s t first second zero lt = first
two-first v p s t first second (suc zero) lt = second
two-first v p s t first second (suc (suc i)) lt = absurd (omega (arith, lt))

two-rising : (s t : ℕ) → s < t → (i j : ℕ) → i < j → j < length (s ∷ t ∷ []) → get_or (s ∷ t ∷ []) i 0 < get_or (s ∷ t ∷ []) j 0
two-rising s t below zero zero lt within = absurd (omega (arith, lt))
two-rising s t below zero (suc zero) lt within = below
two-rising s t below zero (suc (suc j)) lt within = absurd (omega (arith, within))
two-rising s t below (suc i) zero lt within = absurd (omega (arith, lt))
two-rising s t below (suc i) (suc zero) lt within = absurd (omega (arith, lt))
two-rising s t below (suc i) (suc (suc j)) lt within = absurd (omega (arith, within))

told-two : (v : List ℕ) (p s t : ℕ) → s < t → IsFirstSign v s p → IsFirstSign v t p → ((u : ℕ) → IsSign v u p → HasSignBefore v u p ⊎ (u ≡ s) ⊎ (u ≡ t)) → TellsAt v p (Two s t)
told-two v p s t below first second alone = record {
  first = two-first v p s t first second;
  rising = two-rising s t below;
  all = λ u sign. elim (alone u sign) [
    | inl before ↦ inl before
    | inr is ↦ elim is [
      | inl one ↦ inr (record { index = 0; within = omega arith; is = sym one })
      | inr two ↦ inr (record { index = 1; within = omega arith; is = sym two })
    ]
  ];
}

-- ---- headers

-- the start at a header
pub told-header : (v : List ℕ) (k : ℕ) → BeginsVolume v (512 * k) → TellsAt v (512 * k) (One (512 * k))
told-header v k begins =
    let p : ℕ = 512 * k in
    told-one v p p
    (record {
      sign = record { sector = k; there = refl; is = inl (record { here = refl; begins = begins }) };
      first = λ before.
          let q : ℕ = before.place in
          let low : q < p = before.before in
          elim before.sign.is [
            | inl header ↦ (let here : q ≡ p = header.here in omega (arith, here, low))
            | inr other ↦ elim other [
              | inl copy ↦ (let there : q ≡ p + copy.size = copy.there in omega (arith, there, low))
              | inr metadata ↦ (let there : q ≡ p + metadata.copy.at + 4096 = metadata.there in omega (arith, there, low))
            ]
          ];
    })
    (λ t sign. inr (sym (sign-header v t p begins sign)))

-- ---- second copies

-- where neither a header nor a JSON area begins and no size is named, there is no sign
pub told-none : (v : List ℕ) (p : ℕ) → (BeginsVolume v p → ⊥) → (BeginsText (part v p 8) → ⊥) → FindsSize v p None → TellsAt v p Nothing
told-none v p none no_text unnamed = told-nothing v p (λ s sign.
    let copy : IsCopySign v s p = sign-copy v s p none no_text sign in
    absurd (unnamed copy.size (copy-named v s p copy)))

-- where the second copy isn't sound, there is no sign
pub told-unsound : (v : List ℕ) (p size start : ℕ) → start + size ≡ p → (BeginsVolume v p → ⊥) → (BeginsText (part v p 8) → ⊥) → NamesSize v p size
    → (IsSound (volume_at v start) size → ⊥) → TellsAt v p Nothing
told-unsound v p size start back none no_text named unsound = told-nothing v p (λ s sign.
    let copy = copy-sound v s p size named (sign-copy v s p none no_text sign) in
    let there : p ≡ s + size = copy.0 in
    let same : s ≡ start = omega (arith, there, back) in
    absurd (unsound (subst (λ (n : ℕ). IsSound (volume_at v n) size) same copy.1)))

-- where a sign is nearer to the start, that is a sign before
pub told-nearer : (v : List ℕ) (p k size : ℕ) → 512 * k + size ≡ p → (BeginsVolume v p → ⊥) → (BeginsText (part v p 8) → ⊥) → NamesSize v p size
    → HasNearer v (512 * k) size → TellsAt v p Nothing
told-nearer v p k size back none no_text named has = told-nothing v p (λ s sign.
    let copy = copy-sound v s p size named (sign-copy v s p none no_text sign) in
    let there : p ≡ s + size = copy.0 in
    let same : 512 * k ≡ s = omega (arith, there, back) in
    nearer-before v s p k size (sym same) named.listed (omega (arith, there)) (subst (λ (n : ℕ). HasNearer v n size) same has))

-- else the copy is the first sign of its volume
pub told-copy : (v : List ℕ) (p k size : ℕ) → 512 * k + size ≡ p → (BeginsVolume v p → ⊥) → (BeginsText (part v p 8) → ⊥) → NamesSize v p size
    → IsSound (volume_at v (512 * k)) size → (HasNearer v (512 * k) size → ⊥) → TellsAt v p (One (512 * k))
told-copy v p k size back none no_text named sound far =
    let start : ℕ = 512 * k in
    told-one v p start
    (record {
      sign = record { sector = k; there = refl; is = inr (inl (record { size = size; listed = named.listed; there = sym back; sound = sound })) };
      first = λ before.
          let low : before.place < p = before.before in
          elim (before-nearer v start before.place size named.listed before.sign (omega (arith, low, back))) [
            | inl nearer ↦ far nearer
            | inr here ↦ (let there : before.place ≡ start + size = here.0 in omega (arith, there, low, back))
          ];
    })
    (λ t sign.
    let copy = copy-sound v t p size named (sign-copy v t p none no_text sign) in
    let there : p ≡ t + size = copy.0 in
    inr (omega (arith, there, back)))

-- ---- metadata

-- the binary header before it, of metadata that is a sign
pub header-there : (v : List ℕ) (s p h : ℕ) → p ≡ h + 4096 → (sign : IsMetadataSign v s p) → s + sign.copy.at ≡ h
header-there v s p h behind sign = let there : p ≡ s + sign.copy.at + 4096 = sign.there in omega (arith, there, behind)

-- is that of a first copy or of a second one
pub sign-kind : (v : List ℕ) (s p h : ℕ) → p ≡ h + 4096 → IsMetadataSign v s p → IsFirstAt h s ⊎ IsSecondAt h s
sign-kind v s p h behind sign =
    let there : s + sign.copy.at ≡ h = header-there v s p h behind sign in
    elim sign.has.whole.is_place.first_or_second [
      | inl first ↦ inl (omega (arith, there, first))
      | inr second ↦
          let least : 16384 ≤ sign.copy.size = listed_at_least sign.copy.size sign.has.whole.is_place.listed in
          inr (omega (arith, there, second, least))
    ]

-- the magic of the other copy doesn't are there
kind-first : (v : List ℕ) (p h : ℕ) → p ≡ h + 4096 → IsMetadataSign v h p → part v h 6 ≡ second_magic → ⊥
kind-first v p h behind sign magic =
    let there : h + sign.copy.at ≡ h = header-there v h p h behind sign in
    let at : sign.copy.at ≡ 0 = omega (arith, there) in
    sign.has.own (ap (λ k. part v k 6) there ∙ magic ∙ sym (ap other_magic at))

kind-second : (v : List ℕ) (s p h : ℕ) → p ≡ h + 4096 → s < h → IsMetadataSign v s p → part v h 6 ≡ luks_magic → ⊥
kind-second v s p h behind below sign magic =
    let there : s + sign.copy.at ≡ h = header-there v s p h behind sign in
    let other : other_magic sign.copy.at ≡ luks_magic = ap (λ b. if b then second_magic else luks_magic) (ne_eqb sign.copy.at 0 (λ none. omega (arith, there, none, below))) in
    sign.has.own (ap (λ k. part v k 6) there ∙ magic ∙ sym other)

-- where a header begins there that counts, it has told the volume
pub text-header : (v : List ℕ) (p h : ℕ) → p ≡ h + 4096 → BeginsText (part v p 8) → BeginsLuks (part v h 8) → TellsAt v p Nothing
text-header v p h behind text begins = told-nothing v p (λ s sign.
    let metadata : IsMetadataSign v s p = sign-metadata v s p text sign in
    let magic : part v h 6 ≡ luks_magic = sym (part-front v h) ∙ begins.magic in
    elim (sign-kind v s p h behind metadata) [
      | inl first ↦
          record {
            place = s;
            before = omega (arith, first, behind);
            sign = record {
              sector = sign.sector;
              there = sign.there;
              is = inl (record { here = refl; begins = subst (BeginsVolume v) (sym first) (inl (inl begins)) });
            };
          }
      | inr second ↦ absurd (kind-second v s p h behind second metadata magic)
    ])
  where
    part-front : (v : List ℕ) (h : ℕ) → part (part v h 8) 0 6 ≡ part v h 6
    part-front v h = part-part v h 8 0 6 (omega arith) ∙ ap (λ k. part v k 6) (omega arith)

-- where no metadata is whole there, there is no sign
pub text-none : (v : List ℕ) (p h : ℕ) → p ≡ h + 4096 → BeginsText (part v p 8) → FindsWhole v h None → TellsAt v p Nothing
text-none v p h behind text none = told-nothing v p (λ s sign.
    let metadata : IsMetadataSign v s p = sign-metadata v s p text sign in
    absurd (none metadata.copy.size (metadata-here v s h metadata.copy (header-there v s p h behind metadata) metadata.has.whole)))

-- a JSON area with whole metadata begins as one
pub whole-text : (v : List ℕ) (h size : ℕ) → IsWholeAt v h size → BeginsText (part v (h + 4096) 8)
whole-text v h size is =
    let same : h + 0 + 4096 ≡ h + 4096 = omega arith in
    subst (λ (k : ℕ). BeginsText (part v k 8)) same (metadata-text v h (first_copy size) is.whole)

-- the first bytes that were read
pub front-of : (v beginning : List ℕ) (h : ℕ) → beginning ≡ part v h 8 → part beginning 0 6 ≡ part v h 6
front-of v beginning h read = ap (λ b. part b 0 6) read ∙ part-part v h 8 0 6 (omega arith) ∙ ap (λ k. part v k 6) (omega arith)

-- the first copy's volume, where the magic of a second copy is there
pub first-other : (v beginning : List ℕ) (h size : ℕ) → IsWholeAt v h size → beginning ≡ part v h 8 → part beginning 0 6 ≡ second_magic
    → TellsKind (IsFirstAt h) v (h + 4096) None
first-other v beginning h size whole read is = λ s kind sign.
    let text : BeginsText (part v (h + 4096) 8) = whole-text v h size whole in
    let magic : part v h 6 ≡ second_magic = sym (front-of v beginning h read) ∙ is in
    absurd (kind-first v (h + 4096) h refl (sign-metadata v h (h + 4096) text (subst (λ (n : ℕ). IsSign v n (h + 4096)) kind sign)) magic)

-- where its header begins there
pub first-header : (v : List ℕ) (h : ℕ) → BeginsVolume v h → TellsKind (IsFirstAt h) v (h + 4096) None
first-header v h begins = λ s kind sign. record {
  place = s;
  before = omega (arith, kind);
  sign = record {
    sector = sign.sector;
    there = sign.there;
    is = inl (record { here = refl; begins = subst (BeginsVolume v) (sym kind) begins });
  };
}

-- where it is explained
pub first-another : (v : List ℕ) (h size : ℕ) → IsWholeAt v h size → IsExplained v h (first_copy size) → TellsKind (IsFirstAt h) v (h + 4096) None
first-another v h size whole is = λ s kind sign.
    let metadata : IsMetadataSign v s (h + 4096) = sign-metadata v s (h + 4096) (whole-text v h size whole) sign in
    let there : s + metadata.copy.at ≡ h = header-there v s (h + 4096) h refl metadata in
    let at : 0 ≡ metadata.copy.at = omega (arith, there, kind) in
    let same : metadata.copy.size ≡ size = whole-one v h metadata.copy.size size (metadata-here v s h metadata.copy there metadata.has.whole) whole in
    absurd (metadata.has.unexplained (explained-as v h s (first_copy size) metadata.copy (sym kind) (sym same) at is))

-- and where nothing of these holds
pub first-told : (v beginning : List ℕ) (k size : ℕ) → IsWholeAt v (512 * k) size → beginning ≡ part v (512 * k) 8
    → (part beginning 0 6 ≡ second_magic → ⊥) → (BeginsVolume v (512 * k) → ⊥) → (IsExplained v (512 * k) (first_copy size) → ⊥)
    → TellsKind (IsFirstAt (512 * k)) v (512 * k + 4096) (Some (512 * k))
first-told v beginning k size whole read other none alone =
    let h : ℕ = 512 * k in
    let own : part v (h + 0) 6 ≡ other_magic 0 → ⊥ = λ magic.
    other (front-of v beginning h read ∙ ap (λ n. part v n 6) (omega arith) ∙ magic) in
    let at_h : IsFirstSign v h (h + 4096) = record {
      sign = record {
        sector = k;
        there = refl;
        is = inr (inr (record {
          copy = first_copy size;
          there = omega arith;
          has = record { whole = whole.whole; own = own; unexplained = alone };
        }));
      };
      first = λ before. first-alone v h before none;
    } in
    (refl, at_h, λ t kind sign. kind)
  where
    first-alone : (v : List ℕ) (h : ℕ) → HasSignBefore v h (h + 4096) → (BeginsVolume v h → ⊥) → ⊥
    first-alone v h before none =
        let low : before.place < h + 4096 = before.before in
        elim before.sign.is [
          | inl header ↦ none header.begins
          | inr other ↦ elim other [
            | inl copy ↦
                let there : before.place ≡ h + copy.size = copy.there in
                let least : 16384 ≤ copy.size = listed_at_least copy.size copy.listed in
                omega (arith, there, least, low)
            | inr metadata ↦ (let there : before.place ≡ h + metadata.copy.at + 4096 = metadata.there in omega (arith, there, low))
          ]
        ]

-- what is there of a volume before is its second copy of this size
pub second-there : (v : List ℕ) (s h size : ℕ) → IsWholeAt v h size → s < h → IsSign v s (h + 4096) → s + size ≡ h
second-there v s h size whole below sign =
    let p : ℕ = h + 4096 in
    let metadata : IsMetadataSign v s p = sign-metadata v s p (whole-text v h size whole) sign in
    let there : s + metadata.copy.at ≡ h = header-there v s p h refl metadata in
    let same : metadata.copy.size ≡ size = whole-one v h metadata.copy.size size (metadata-here v s h metadata.copy there metadata.has.whole) whole in
    elim metadata.has.whole.is_place.first_or_second [
      | inl first ↦ absurd (omega (arith, there, first, below))
      | inr second ↦ omega (arith, there, second, same)
    ]

-- the second copy's volume would begin before the disk
pub second-outside : (v : List ℕ) (h size : ℕ) → IsWholeAt v h size → h < size → TellsKind (IsSecondAt h) v (h + 4096) None
second-outside v h size whole large = λ s below sign.
    let there : s + size ≡ h = second-there v s h size whole below sign in
    absurd (omega (arith, there, large))

-- the magic of a first copy is there
pub second-first : (v beginning : List ℕ) (h size : ℕ) → IsWholeAt v h size → beginning ≡ part v h 8 → part beginning 0 6 ≡ luks_magic
    → TellsKind (IsSecondAt h) v (h + 4096) None
second-first v beginning h size whole read magic = λ s below sign.
    let metadata : IsMetadataSign v s (h + 4096) = sign-metadata v s (h + 4096) (whole-text v h size whole) sign in
    absurd (kind-second v s (h + 4096) h refl below metadata (sym (front-of v beginning h read) ∙ magic))

-- a sign of its volume comes before
pub second-before : (v : List ℕ) (h k size : ℕ) → IsWholeAt v h size → 512 * k + size ≡ h → HasSignBefore v (512 * k) (h + 4096)
    → TellsKind (IsSecondAt h) v (h + 4096) None
second-before v h k size whole back before = λ s below sign.
    let there : s + size ≡ h = second-there v s h size whole below sign in
    let same : 512 * k ≡ s = omega (arith, there, back) in
    subst (λ (n : ℕ). HasSignBefore v n (h + 4096)) same before

pub sound-before : (v : List ℕ) (h k size : ℕ) → IsListed size → 512 * k + size ≡ h → IsSound (volume_at v (512 * k)) size → HasSignBefore v (512 * k) (h + 4096)
sound-before v h k size listed back sound = record {
  place = h;
  before = omega arith;
  sign = record { sector = k; there = refl; is = inr (inl (record { size = size; listed = listed; there = sym back; sound = sound })) };
}

pub has-before : (v : List ℕ) (h k size : ℕ) → IsListed size → 512 * k + size ≡ h → HasNearer v (512 * k) size → HasSignBefore v (512 * k) (h + 4096)
has-before v h k size listed back has = nearer-before v (512 * k) (h + 4096) k size refl listed (omega (arith, back)) has

-- it is explained
pub second-another : (v : List ℕ) (h k size : ℕ) → IsWholeAt v h size → 512 * k + size ≡ h → IsExplained v (512 * k) (second_copy size)
    → TellsKind (IsSecondAt h) v (h + 4096) None
second-another v h k size whole back is = λ s below sign.
    let metadata : IsMetadataSign v s (h + 4096) = sign-metadata v s (h + 4096) (whole-text v h size whole) sign in
    let there : s + metadata.copy.at ≡ h = header-there v s (h + 4096) h refl metadata in
    let same : metadata.copy.size ≡ size = whole-one v h metadata.copy.size size (metadata-here v s h metadata.copy there metadata.has.whole) whole in
    elim metadata.has.whole.is_place.first_or_second [
      | inl first ↦ absurd (omega (arith, there, first, below))
      | inr second ↦
          let start : 512 * k ≡ s = omega (arith, there, second, same, back) in
          let at : size ≡ metadata.copy.at = omega (arith, second, same) in
          absurd (metadata.has.unexplained (explained-as v (512 * k) s (second_copy size) metadata.copy start (sym same) at is))
    ]

-- nothing of these holds
pub second-told : (v beginning : List ℕ) (h k size : ℕ) → IsWholeAt v h size → 512 * k + size ≡ h → beginning ≡ part v h 8
    → (part beginning 0 6 ≡ luks_magic → ⊥) → (IsSound (volume_at v (512 * k)) size → ⊥) → (HasNearer v (512 * k) size → ⊥)
    → (IsExplained v (512 * k) (second_copy size) → ⊥) → TellsKind (IsSecondAt h) v (h + 4096) (Some (512 * k))
second-told v beginning h k size whole back read own unsound far alone =
    let start : ℕ = 512 * k in
    let copy : Place = second_copy size in
    let listed : IsListed size = whole.whole.is_place.listed in
    let least : 16384 ≤ size = listed_at_least size listed in
    let other : other_magic size ≡ luks_magic = ap (λ b. if b then second_magic else luks_magic) (ne_eqb size 0 (listed-some size listed)) in (
      omega (arith, back, least),
      record {
        sign = record {
          sector = k;
          there = refl;
          is = inr (inr (record {
            copy = copy;
            there = ap (λ n. n + 4096) (sym back);
            has = record {
              whole = metadata-there v start h copy (inr refl) back whole;
              own = λ magic. own (front-of v beginning h read ∙ ap (λ n. part v n 6) (sym back) ∙ magic ∙ other);
              unexplained = alone;
            };
          }));
        };
        first = λ before.
            let low : before.place < h + 4096 = before.before in
            elim (before-nearer v start before.place size listed before.sign (omega (arith, low, back))) [
              | inl nearer ↦ far nearer
              | inr here ↦ unsound here.1
            ];
      },
      λ t below sign. let there : t + size ≡ h = second-there v t h size whole below sign in omega (arith, there, back),
    )

-- both together
pub joined-told : (v : List ℕ) (h size : ℕ) (second first : Option ℕ) → IsWholeAt v h size → TellsKind (IsSecondAt h) v (h + 4096) second
    → TellsKind (IsFirstAt h) v (h + 4096) first → TellsAt v (h + 4096) (joined second first)
joined-told v h size None None whole second first = told-nothing v (h + 4096) (λ s sign.
    elim (sign-kind v s (h + 4096) h refl (sign-metadata v s (h + 4096) (whole-text v h size whole) sign)) [
      | inl is ↦ first s is sign
      | inr is ↦ second s is sign
    ])
joined-told v h size None (Some t) whole second first = told-one v (h + 4096) t first.1 (λ s sign.
    elim (sign-kind v s (h + 4096) h refl (sign-metadata v s (h + 4096) (whole-text v h size whole) sign)) [
      | inl is ↦ inr (first.2 s is sign)
      | inr is ↦ inl (second s is sign)
    ])
joined-told v h size (Some s) None whole second first = told-one v (h + 4096) s second.1 (λ t sign.
    elim (sign-kind v t (h + 4096) h refl (sign-metadata v t (h + 4096) (whole-text v h size whole) sign)) [
      | inl is ↦ inl (first t is sign)
      | inr is ↦ inr (second.2 t is sign)
    ])
joined-told v h size (Some s) (Some t) whole second first =
    let low : s < h = second.0 in
    let here : t ≡ h = first.0 in
    told-two v (h + 4096) s t (omega (arith, low, here)) second.1 first.1 (λ u sign.
    elim (sign-kind v u (h + 4096) h refl (sign-metadata v u (h + 4096) (whole-text v h size whole) sign)) [
      | inl is ↦ inr (inr (first.2 u is sign))
      | inr is ↦ inr (inl (second.2 u is sign))
    ])
