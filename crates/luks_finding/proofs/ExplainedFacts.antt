-- Metadata that a sound copy of another volume explains.
use Rattle.std.proofs.Common.{◌≡◌, ℕ, ◌+◌, ◌-◌, ◌<◌, ◌≤◌, ◌⊎◌, List, inl, inr, refl, sym, ◌∙◌, subst, arith}
use Rattle.luks2_header.specs.Header2.{IsSound}
use Rattle.luks2_header.specs.Sizes.{IsListed}
use Rattle.luks2_header.proofs.CopyFacts.{listed_at_least}
use Rattle.luks_rebuilding.specs.declared.place.Place.{Place}
use Rattle.luks_finding.specs.Starts.{volume_at, IsExplained, IsSoundOf}
use Rattle.luks_finding.proofs.CopyFacts.{listed-some}

-- a copy that isn't the first is the second
second-half : (place : Place) → 0 < place.at → (place.at ≡ 0) ⊎ (place.at ≡ place.size) → place.at ≡ place.size
second-half place some (inl first) = absurd (omega (arith, some, first))
second-half place some (inr second) = second

-- metadata of a second copy is explained by a sound second copy of the volume that begins with it
pub explained-second : (v : List ℕ) (s : ℕ) (place : Place) → 0 < place.at → (place.at ≡ 0) ⊎ (place.at ≡ place.size) → IsListed place.size
    → IsSound (volume_at v (s + place.size)) place.size → IsExplained v s place
explained-second v s place some half listed sound =
    let at : place.at ≡ place.size = second-half place some half in
    record {
      start = s + place.size;
      another = λ same. omega (arith, same, some, at);
      at = place.size;
      half = inr refl;
      sound = record { sound = sound; sized = sound.form.second (listed-some place.size listed) };
      there = omega (arith, at);
    }

-- and by nothing else
pub second-explained : (v : List ℕ) (s : ℕ) (place : Place) → 0 < place.at → (place.at ≡ 0) ⊎ (place.at ≡ place.size) → IsExplained v s place
    → IsSound (volume_at v (s + place.size)) place.size
second-explained v s place some half is =
    let at : place.at ≡ place.size = second-half place some half in
    let there : is.start + place.size ≡ s + place.at + is.at = is.there in
    elim is.half [
      | inl first ↦ absurd (is.another (omega (arith, there, first, at)))
      | inr second ↦
          let start : is.start ≡ s + place.size = omega (arith, there, second, at) in
          subst (λ (n : ℕ). IsSound (volume_at v n) place.size) start (subst (λ (m : ℕ). IsSound (volume_at v is.start) m) second is.sound.sound)
    ]

-- metadata of a first copy is explained by a sound first copy of the volume whose second copy it is
pub explained-first : (v : List ℕ) (s : ℕ) (place : Place) → place.at ≡ 0 → place.size ≤ s → IsListed place.size
    → IsSoundOf (volume_at v (s - place.size)) place.size 0 → IsExplained v s place
explained-first v s place first low listed sound =
    let least : 16384 ≤ place.size = listed_at_least place.size listed in
    record {
      start = s - place.size;
      another = λ same. omega (arith, same, least, low);
      at = 0;
      half = inl refl;
      sound = sound;
      there = omega (arith, first, low);
    }

-- and by nothing else
pub first-explained : (v : List ℕ) (s : ℕ) (place : Place) → place.at ≡ 0 → IsExplained v s place
    → (place.size ≤ s) × IsSoundOf (volume_at v (s - place.size)) place.size 0
first-explained v s place first is =
    let there : is.start + place.size ≡ s + place.at + is.at = is.there in
    elim is.half [
      | inl none ↦
          let start : is.start ≡ s - place.size = omega (arith, there, first, none) in (
            omega (arith, there, first, none),
            subst (λ (n : ℕ). IsSoundOf (volume_at v n) place.size 0) start (subst (λ (m : ℕ). IsSoundOf (volume_at v is.start) place.size m) none is.sound),
          )
      | inr second ↦ absurd (is.another (omega (arith, there, first, second)))
    ]

-- so it is of the same copy of the same volume
pub explained-as : (v : List ℕ) (s t : ℕ) (a b : Place) → s ≡ t → a.size ≡ b.size → a.at ≡ b.at → IsExplained v s a → IsExplained v t b
explained-as v s t a b same size at is =
    let there : is.start + a.size ≡ s + a.at + is.at = is.there in
    record {
      start = is.start;
      another = λ here. is.another (here ∙ sym same);
      at = is.at;
      half = elim is.half [ inl first ↦ inl first | inr second ↦ inr (second ∙ size) ];
      sound = subst (λ (n : ℕ). IsSoundOf (volume_at v is.start) n is.at) size is.sound;
      there = omega (arith, there, same, size, at);
    }
