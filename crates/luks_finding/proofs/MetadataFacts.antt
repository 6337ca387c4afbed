-- Metadata on a disk, of volumes that begin before it.
use Rattle.std.proofs.Common.{◌≡◌, ◌≢◌, ℕ, zero, suc, ◌+◌, ◌-◌, ◌*◌, ◌/◌, ◌<◌, ◌≤◌, ◌⊎◌, ◌==◌, not, List, [], ◌∷◌, ◌++◌, Option, Some, None, Result, Ok, Err, IfErr, inl, inr, length, get_or, replicate, codes, true, refl, sym, ap, ◌∙◌, subst, arith, append_assoc, length-append, length-drop}
use Rattle.std.specs.List.{All}
use Rattle.std.specs.Option.{option_map_or}
use Rattle.std.proofs.lemmas.Bool.{cases_Bool, cases_lt, eqb-true}
use Rattle.std.proofs.Math.Seq.{get_or-append_right}
use Rattle.std.proofs.lemmas.Grind.{same_number_lists}
use Rattle.std.proofs.lemmas.List.{get_or-replicate, length-replicate}
use Rattle.std.proofs.lemmas.List.Elements.{All-head, All-tail}
use Rattle.serde_json.specs.Data.{Data}
use Rattle.serde_json.specs.Read.{read}
use Rattle.luks_area.specs.Ranges.{part}
use Rattle.luks_area.proofs.RangeFacts.{get_or-part, length-part_inside, part-add, part-part}
use Rattle.luks2_header.specs.Sizes.{listed_sizes, IsListed}
use Rattle.luks2_header.proofs.CopyFacts.{among_pass, listed_at_least}
use Rattle.luks_json.specs.AreaText.{IsBadJson, Json, JsonText}
use Rattle.luks_json.proofs.AreaKinds.{kind_of}
use Rattle.luks_rules.specs.Sizes.{has_other_size, json_size}
use Rattle.luks_rules.specs.declared.fault.MetaFault.TheVariants as fault
use Rattle.luks_wider.specs.Wide.{HasUnderWay, IsWiderFault}
use Rattle.luks_wider.specs.declared.fault.WideFault.{WideFault}
use Rattle.luks_wider.specs.declared.fault.WideFault.TheVariants.{Meta}
use Rattle.luks_rebuilding.specs.Candidates.{json_of}
use Rattle.luks_rebuilding.specs.declared.place.Place.{Place}
use Rattle.luks_finding.specs.Blocks.{BeginsText, HasText}
use Rattle.luks_finding.specs.Starts.{volume_at, IsWholeCopy}
use Rattle.luks_finding.specs.Telling.{first_copy, IsMemoryOnly, IsWholeAt}
use Rattle.luks_finding.specs.declared.find_fault.FindFault.{FindFault}
use Rattle.luks_finding.specs.declared.find_fault.FindFault.TheVariants as find
use Rattle.luks_finding.proofs.CopyFacts.{part-volume}

-- a listed size is one of whole sectors
pub listed-sectors : (size : ℕ) → IsListed size → 512 * (size / 512) ≡ size
listed-sectors size listed = eqb-true (512 * (size / 512)) size (among_pass (λ n. 512 * (n / 512) == n) listed_sizes size refl listed)

-- ---- values

-- the area is one without a fault
abbrev pub IsFaultless : List ℕ → Type 0
IsFaultless area = (f : WideFault) → IsWiderFault area f → ⊥

-- what is a fault whether something is under way or not, is none of it
none-bad : (area : List ℕ) → IsFaultless area → IsBadJson area → ⊥
none-bad area faultless bad =
    let settled : HasUnderWay area → ⊥ = λ has. faultless (Meta fault.BadJson) (IsWiderFault.under_way has bad) in
    faultless (Meta fault.BadJson) (IsWiderFault.narrow settled bad)

none-empty : (area : List ℕ) → IsFaultless area → ((text : List ℕ) → JsonText area text → ⊥) → ⊥
none-empty area faultless none =
    let settled : HasUnderWay area → ⊥ = λ has. faultless (Meta fault.JsonArea) (IsWiderFault.under_way has none) in
    faultless (Meta fault.JsonArea) (IsWiderFault.narrow settled none)

none-sized : (area : List ℕ) (j : Data) → IsFaultless area → Json area j → has_other_size (length area) j ≡ true → ⊥
none-sized area j faultless json other =
    let settled : HasUnderWay area → ⊥ = λ has. faultless (Meta fault.Sizes) (IsWiderFault.under_way has (record { value = j; json = json; fault = other })) in
    faultless (Meta fault.Sizes) (IsWiderFault.narrow settled (record { value = j; json = json; fault = other }))

-- it holds a value
area-value : (area : List ℕ) → IsFaultless area → (j : Data) × Json area j
area-value area faultless = elim (kind_of area) [
  | inl value ↦ value
  | inr other ↦ elim other [
    | inl bad ↦ absurd (none-bad area faultless bad)
    | inr none ↦ absurd (none-empty area faultless none)
  ]
]

sized-of : (len : ℕ) (o : Option ℕ) → (option_map_or (λ n. not (n == len)) o true ≡ true → ⊥) → o ≡ Some len
sized-of len None other = absurd (other refl)
sized-of len (Some n) other = elim (cases_Bool (n == len)) [
  | inl is ↦ ap Some (eqb-true n len is)
  | inr differs ↦ absurd (other (ap not differs))
]

-- which says how long the area is
value-sized : (area : List ℕ) (j : Data) → IsFaultless area → Json area j → json_size j ≡ Some (length area)
value-sized area j faultless json = sized-of (length area) (json_size j) (λ other. none-sized area j faultless json other)

-- ---- texts

-- lists without zeros, a zero behind each
seam : (t u x y : List ℕ) → All (λ c. c ≢ 0) t → All (λ c. c ≢ 0) u → t ++ 0 ∷ x ≡ u ++ 0 ∷ y → t ≡ u
seam [] [] x y h k e = refl
seam [] (d ∷ ds) x y h k e = absurd (All-head (λ c. c ≢ 0) d ds k (let z : 0 ≡ d = cc in sym z))
seam (c ∷ cs) [] x y h k e = absurd (All-head (λ c. c ≢ 0) c cs h (let z : c ≡ 0 = cc in z))
seam (c ∷ cs) (d ∷ ds) x y h k e =
    let same : c ≡ d = cc in
    let rest : cs ++ 0 ∷ x ≡ ds ++ 0 ∷ y = cc in
    ap (λ z. z ∷ cs) same ∙ ap (λ l. d ∷ l) (seam cs ds x y (All-tail (λ c. c ≢ 0) c cs h) (All-tail (λ c. c ≢ 0) d ds k) rest)

zeros-begin : (n : ℕ) → 0 < n → replicate {A = ℕ} n 0 ≡ 0 ∷ replicate (n - 1) 0
zeros-begin zero some = absurd (omega arith)
zeros-begin (suc n) some = let e : suc n - 1 ≡ n = omega arith in ap (λ k. 0 ∷ replicate {A = ℕ} k 0) (sym e)

text-ended : (area text : List ℕ) (j : JsonText area text) → area ≡ text ++ 0 ∷ replicate (j.zeros - 1) 0
text-ended area text j = j.filled ∙ ap (λ l. text ++ l) (zeros-begin j.zeros j.ended)

-- the texts of two areas that begin at one place are one
one-text : (v : List ℕ) (p m n : ℕ) (t u : List ℕ) → m ≤ n → JsonText (part v p m) t → JsonText (part v p n) u → t ≡ u
one-text v p m n t u le j k =
    let back : n ≡ m + (n - m) = omega (arith, le) in
    let more : List ℕ = part v (p + m) (n - m) in
    let whole : part v p n ≡ part v p m ++ more = ap (part v p) back ∙ part-add v p m (n - m) in
    seam t u (replicate (j.zeros - 1) 0 ++ more) (replicate (k.zeros - 1) 0) j.whole k.whole
    (sym (append_assoc t (0 ∷ replicate (j.zeros - 1) 0) more) ∙ ap (λ l. l ++ more) (sym (text-ended (part v p m) t j)) ∙ sym whole ∙ text-ended (part v p n) u k)

some-same : (a b : Data) → Some a ≡ Some b → a ≡ b
some-same a b e = cc

number-same : (a b : ℕ) → Some a ≡ Some b → a ≡ b
number-same a b e = cc

-- so areas without a fault that begin at one place have one length
one-length : (v : List ℕ) (p m n : ℕ) → m ≤ n → p + n ≤ length v → IsFaultless (part v p m) → IsFaultless (part v p n) → m ≡ n
one-length v p m n le inside left right =
    let a = area-value (part v p m) left in
    let b = area-value (part v p n) right in
    let same : a.1.text ≡ b.1.text = one-text v p m n a.1.text b.1.text le a.1.placed b.1.placed in
    let value : a.0 ≡ b.0 = some-same a.0 b.0 (sym a.1.reads ∙ ap read same ∙ b.1.reads) in
    let long : length (part v p m) ≡ length (part v p n) = number-same (length (part v p m)) (length (part v p n))
    (sym (value-sized (part v p m) a.0 left a.1) ∙ ap json_size value ∙ value-sized (part v p n) b.0 right b.1) in
    sym (length-part_inside v p m (omega (arith, le, inside))) ∙ long ∙ length-part_inside v p n inside

-- ---- memory

-- memory that was refused may have been taken, where a text begins
memory-fault : (v : List ℕ) (f : FindFault) → HasText v → IsMemoryOnly v f
memory-fault v find.Memory text = text
memory-fault v find.Device text = tt

pub memory-result : {A : Type 0} (v : List ℕ) (r : Result A FindFault) → HasText v → IfErr r (IsMemoryOnly v)
memory-result v (Ok x) text = tt
memory-result v (Err f) text = memory-fault v f text

-- ---- copies

-- the area of a copy, on the disk
pub area-of : (v : List ℕ) (s : ℕ) (place : Place) → json_of (volume_at v s) place ≡ part v (s + place.at + 4096) (place.size - 4096)
area-of v s place =
    let there : s + (place.at + 4096) ≡ s + place.at + 4096 = omega arith in
    part-volume v s (place.at + 4096) (place.size - 4096) ∙ ap (λ p. part v p (place.size - 4096)) there

-- the last byte of an area with a text is a zero
pub last-zero : (v text : List ℕ) (at len : ℕ) → 0 < len → at + len ≤ length v → JsonText (part v at len) text → part v (at + (len - 1)) 1 ≡ 0 ∷ []
last-zero v text at len some inside j =
    let p : ℕ = at + (len - 1) in
    let area : List ℕ = part v at len in
    let long : length area ≡ len = length-part_inside v at len inside in
    let all : length area ≡ length text + j.zeros = ap length j.filled ∙ (length-append text (replicate j.zeros 0) ∙ ap (λ n. length text + n) (length-replicate j.zeros 0)) in
    let ended : 0 < j.zeros = j.ended in
    let zero_there : get_or area (len - 1) 0 ≡ 0 = ap (λ l. get_or l (len - 1) 0) j.filled
    ∙ (get_or-append_right text (replicate j.zeros 0) (len - 1) 0 (omega (arith, long, all, ended))
    ∙ get_or-replicate j.zeros ((len - 1) - length text) 0 0 (omega (arith, long, all, ended, some))) in
    let here : get_or v p 0 ≡ 0 = sym (get_or-part v at len (len - 1) (omega (arith, some))) ∙ zero_there in
    let one : length (part v p 1) ≡ 1 = length-part_inside v p 1 (omega (arith, inside, some)) in
    same_number_lists (part v p 1) (0 ∷ []) one (λ k lt.
    let first : k ≡ 0 = omega (arith, lt, one) in
    get_or-part v p 1 k (omega (arith, first)) ∙ ap (λ n. get_or v n 0) (omega (arith, first)) ∙ here ∙ ap (λ n. get_or (0 ∷ []) n 0) (sym first))

-- a copy with whole metadata lies inside
pub metadata-inside : (v : List ℕ) (s : ℕ) (place : Place) → IsWholeCopy (volume_at v s) place → s + place.at + place.size ≤ length v
metadata-inside v s place whole =
    let inside : place.at + place.size ≤ length v - s = subst (λ (n : ℕ). place.at + place.size ≤ n) (length-drop s v) whole.is_place.inside in
    let least : 16384 ≤ place.size = listed_at_least place.size whole.is_place.listed in
    omega (arith, inside, least)

-- its area begins with a brace
pub metadata-brace : (v : List ℕ) (s : ℕ) (place : Place) → IsWholeCopy (volume_at v s) place → part v (s + place.at + 4096) 1 ≡ codes "{"
metadata-brace v s place whole =
    let area : List ℕ = json_of (volume_at v s) place in
    let least : 16384 ≤ place.size = listed_at_least place.size whole.is_place.listed in
    let value = area-value area whole.faultless in
    let placed = value.1.placed in
    let all : area ≡ 123 ∷ (placed.rest ++ replicate placed.zeros 0) = placed.filled ∙ ap (λ (t : List ℕ). t ++ replicate placed.zeros 0) placed.begins in
    let front : part area 0 1 ≡ codes "{" = ap (λ (l : List ℕ). part l 0 1) all in
    let at : ℕ = s + place.at + 4096 in
    let there : part area 0 1 ≡ part v (at + 0) 1 = ap (λ l. part l 0 1) (area-of v s place) ∙ part-part v at (place.size - 4096) 0 1 (omega (arith, least)) in
    let here : at ≡ at + 0 = omega arith in
    ap (λ p. part v p 1) here ∙ sym there ∙ front

-- and so does the area's place
pub begins-text : (v : List ℕ) (p : ℕ) → p + 8 ≤ length v → part v p 1 ≡ codes "{" → BeginsText (part v p 8)
begins-text v p inside brace =
    let here : p + 0 ≡ p = omega arith in
    record {
      long = length-part_inside v p 8 inside;
      brace = part-part v p 8 0 1 (omega arith) ∙ ap (λ q. part v q 1) here ∙ brace;
    }

pub metadata-text : (v : List ℕ) (s : ℕ) (place : Place) → IsWholeCopy (volume_at v s) place → BeginsText (part v (s + place.at + 4096) 8)
metadata-text v s place whole =
    let inside : s + place.at + place.size ≤ length v = metadata-inside v s place whole in
    let least : 16384 ≤ place.size = listed_at_least place.size whole.is_place.listed in
    begins-text v (s + place.at + 4096) (omega (arith, inside, least)) (metadata-brace v s place whole)

-- where an area begins with a brace, a text begins at a sector
pub has-text : (v : List ℕ) (k : ℕ) (place : Place) → IsListed place.size → (place.at ≡ 0) ⊎ (place.at ≡ place.size)
    → 512 * k + place.at + place.size ≤ length v → part v (512 * k + place.at + 4096) 1 ≡ codes "{" → HasText v
has-text v k place listed half inside brace =
    let least : 16384 ≤ place.size = listed_at_least place.size listed in
    let sectors : 512 * (place.at / 512) ≡ place.at = place-sectors place listed half in
    let there : 512 * k + place.at + 4096 ≡ 512 * (k + place.at / 512 + 8) = omega (arith, sectors) in
    record {
      sector = k + place.at / 512 + 8;
      begins = subst (λ (p : ℕ). BeginsText (part v p 8)) there (begins-text v (512 * k + place.at + 4096) (omega (arith, inside, least)) brace);
    }
  where
    place-sectors : (place : Place) → IsListed place.size → (place.at ≡ 0) ⊎ (place.at ≡ place.size) → 512 * (place.at / 512) ≡ place.at
    place-sectors place listed (inl first) = ap (λ n. 512 * (n / 512)) first ∙ sym first
    place-sectors place listed (inr second) = ap (λ n. 512 * (n / 512)) second ∙ listed-sectors place.size listed ∙ sym second

-- a copy that lies inside has whole metadata exactly where the area that was read has no fault
pub metadata-of : (v json : List ℕ) (s : ℕ) (place : Place) → IsListed place.size → (place.at ≡ 0) ⊎ (place.at ≡ place.size)
    → s + place.at + place.size ≤ length v → json ≡ part v (s + place.at + 4096) (place.size - 4096)
    → IsFaultless json → IsWholeCopy (volume_at v s) place
metadata-of v json s place listed half inside is faultless =
    let N : ℕ → Type 0 = λ n. place.at + place.size ≤ n in
    record {
      is_place = record { listed = listed; first_or_second = half; inside = subst N (sym (length-drop s v)) (omega (arith, inside)) };
      faultless = subst IsFaultless (is ∙ sym (area-of v s place)) faultless;
    }

pub metadata-faultless : (v json : List ℕ) (s : ℕ) (place : Place) → json ≡ part v (s + place.at + 4096) (place.size - 4096)
    → IsWholeCopy (volume_at v s) place → IsFaultless json
metadata-faultless v json s place is whole = subst IsFaultless (sym (is ∙ sym (area-of v s place))) whole.faultless

-- whatever has no fault holds a text
pub metadata-holds : (v : List ℕ) (s : ℕ) (place : Place) → IsWholeCopy (volume_at v s) place
    → (text : List ℕ) × JsonText (part v (s + place.at + 4096) (place.size - 4096)) text
metadata-holds v s place whole =
    let value = area-value (json_of (volume_at v s) place) whole.faultless in
    (value.1.text, subst (λ (area : List ℕ). JsonText area value.1.text) (area-of v s place) value.1.placed)

-- a copy that begins at the place `h` is whole for the volume that begins there, and for the one that begins so far before
pub metadata-here : (v : List ℕ) (s h : ℕ) (copy : Place) → s + copy.at ≡ h → IsWholeCopy (volume_at v s) copy → IsWholeAt v h copy.size
metadata-here v s h copy there whole =
    let inside : s + copy.at + copy.size ≤ length v = metadata-inside v s copy whole in
    let area : List ℕ = part v (s + copy.at + 4096) (copy.size - 4096) in
    let same : s + copy.at + 4096 ≡ h + 0 + 4096 = omega (arith, there) in
    record {
      whole = metadata-of v area h (first_copy copy.size) whole.is_place.listed (inl refl) (omega (arith, there, inside))
          (ap (λ p. part v p (copy.size - 4096)) same) (metadata-faultless v area s copy refl whole);
    }

pub metadata-there : (v : List ℕ) (s h : ℕ) (copy : Place) → (copy.at ≡ 0) ⊎ (copy.at ≡ copy.size) → s + copy.at ≡ h → IsWholeAt v h copy.size
    → IsWholeCopy (volume_at v s) copy
metadata-there v s h copy half there is =
    let first : Place = first_copy copy.size in
    let inside : h + 0 + copy.size ≤ length v = metadata-inside v h first is.whole in
    let area : List ℕ = part v (h + 0 + 4096) (copy.size - 4096) in
    let same : h + 0 + 4096 ≡ s + copy.at + 4096 = omega (arith, there) in
    metadata-of v area s copy is.whole.is_place.listed half (omega (arith, there, inside))
    (ap (λ p. part v p (copy.size - 4096)) same) (metadata-faultless v area h first refl is.whole)

whole-below : (v : List ℕ) (h m n : ℕ) → m ≤ n → IsWholeAt v h m → IsWholeAt v h n → m ≡ n
whole-below v h m n le left right =
    let small : 16384 ≤ m = listed_at_least m left.whole.is_place.listed in
    let inside : h + 0 + n ≤ length v = metadata-inside v h (first_copy n) right.whole in
    let p : ℕ = h + 0 + 4096 in
    let same : m - 4096 ≡ n - 4096 = one-length v p (m - 4096) (n - 4096) (omega (arith, le)) (omega (arith, inside, small, le))
    (metadata-faultless v (part v p (m - 4096)) h (first_copy m) refl left.whole)
    (metadata-faultless v (part v p (n - 4096)) h (first_copy n) refl right.whole) in
    omega (arith, same, small, le)

-- and it has one size
pub whole-one : (v : List ℕ) (h m n : ℕ) → IsWholeAt v h m → IsWholeAt v h n → m ≡ n
whole-one v h m n left right = elim (cases_lt m n) [
  | inl below ↦ whole-below v h m n (omega (arith, below)) left right
  | inr not_below ↦ sym (whole-below v h n m not_below right left)
]
