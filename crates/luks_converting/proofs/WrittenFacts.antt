-- What the steps of a conversion leave: the key areas and both copies of the header.
use Rattle.std.proofs.Common.{◌≡◌, ℕ, ◌*◌, ◌≤◌, List, true, inl, inr, arith, lit≤, ◌∙◌, subst}
use Rattle.luks_area.specs.Ranges.{part, IsAt, SameBut}
use Rattle.luks_area.proofs.RangeFacts.{part-same_but, part-same_but_at, same_but-then, same_but-wider}
use Rattle.luks_writing.specs.Cleared.{IsOfFirstSectors}
use Rattle.luks_writing.proofs.MadeInOrderFacts.{clearing_widens, sectors_inside}
use Rattle.luks_making.specs.Converted.{converted}
use Rattle.luks_making.specs.WrittenArea.{IsWrittenArea}
use Rattle.luks_converting.specs.Converted.{first_copy_salt, new_size, new_start, second_copy_salt, uuid_of, HasConvertedCopy, HasCopiedArea, IsConverted, IsOfConverted, IsOfNewArea, WritesOverCleared}
use Rattle.luks_converting.specs.Source.{header_members, is_enabled}
use Rattle.luks_converting.proofs.CopyFacts.{copy_stays}
use Rattle.luks_converting.proofs.PlaceFacts.{from_region}

-- ---- which bytes may have changed after each step

module _ (h : List ℕ) where
  pub areas_rest : {u v : List ℕ} → SameBut (IsOfNewArea h) u v → SameBut (IsOfConverted h) u v
  areas_rest same = same_but-wider (λ p is. inr is) same

  second_inside : (p : ℕ) → IsAt 16384 16384 p → IsAt 0 32768 p
  second_inside p at = (let low = at.0 in omega (arith, low), let high = at.1 in omega (arith, high))

  first_inside : (p : ℕ) → IsAt 0 16384 p → IsAt 0 32768 p
  first_inside p at = (let low = at.0 in omega (arith, low), let high = at.1 in omega (arith, high))

  pub second_rest : {u v w : List ℕ} → SameBut (IsOfNewArea h) u v → SameBut (IsAt 16384 16384) v w → SameBut (IsOfConverted h) u w
  second_rest same second = same_but-then (areas_rest same) (same_but-wider (λ p at. inl (second_inside p at)) second)

  pub all_rest : {u v w x : List ℕ} → SameBut (IsOfNewArea h) u v → SameBut (IsAt 16384 16384) v w → SameBut (IsAt 0 16384) w x → SameBut (IsOfConverted h) u x
  all_rest same second first = same_but-then (second_rest same second) (same_but-wider (λ p at. inl (first_inside p at)) first)

-- ---- the places of both copies

module _ (h : List ℕ) where
  -- the front of the target that ends before the new areas
  areas_behind : {u v : List ℕ} (len : ℕ) → len ≤ 32768 → SameBut (IsOfNewArea h) u v → part v 0 len ≡ part u 0 len
  areas_behind len before same = part-same_but 0 len same (λ p here other.
      let low = from_region h other.number in let at = other.of_area.at.0 in let high = here.1 in absurd (omega (arith, low, at, high, before)))

  pub both_wait : {u v : List ℕ} → SameBut (IsOfNewArea h) u v → (s random : List ℕ) → WritesOverCleared s random u v
  both_wait same s random = inl (areas_behind (2 * 16384) (omega arith) same)

  second_apart : {v w : List ℕ} (s : List ℕ) → ((n : ℕ) → is_enabled h n ≡ true → HasCopiedArea h s n v) → SameBut (IsAt 16384 16384) v w
      → (n : ℕ) → is_enabled h n ≡ true → HasCopiedArea h s n w
  second_apart s areas second n on =
      let low = from_region h n in
      part-same_but_at 16384 16384 (new_start h n) (new_size h n) second (inr (omega (arith, low))) ∙ areas n on

  pub first_waits : {u v w : List ℕ} → SameBut (IsOfNewArea h) u v → SameBut (IsAt 16384 16384) v w → (s random : List ℕ)
      → ((n : ℕ) → is_enabled h n ≡ true → HasCopiedArea h s n v) → h ≡ part s 0 592 → WritesOverCleared s random u w
  first_waits {w = w} same second s random areas begins = inr (inl (
    part-same_but_at 16384 16384 0 16384 second (inl (omega arith)) ∙ areas_behind 16384 (omega arith) same,
    subst (λ (b : List ℕ). (n : ℕ) → is_enabled b n ≡ true → HasCopiedArea b s n w) begins (second_apart s areas second),
  ))

-- ---- the volume that they leave

module _ (h s random u v w x json : List ℕ) (metadata : IsWrittenArea 12288 (converted (header_members h)) json)
    (areas : (n : ℕ) → is_enabled h n ≡ true → HasCopiedArea h s n v)
    (same : SameBut (IsOfNewArea h) u v) (second_same : SameBut (IsAt 16384 16384) v w) (first_same : SameBut (IsAt 0 16384) w x)
    (second : HasConvertedCopy w (uuid_of h) (second_copy_salt random) json 16384) where
  pub second_kept : HasConvertedCopy x (uuid_of h) (second_copy_salt random) json 16384
  second_kept = copy_stays w x (uuid_of h) (second_copy_salt random) json 16384 metadata.long first_same.length_same
      (part-same_but_at 0 16384 16384 4096 first_same (inr (omega arith))) (part-same_but_at 0 16384 20480 12288 first_same (inr (omega arith))) second

  pub area_kept : (n : ℕ) → is_enabled h n ≡ true → HasCopiedArea h s n x
  area_kept n on =
      let low = from_region h n in
      part-same_but_at 0 16384 (new_start h n) (new_size h n) first_same (inr (omega (arith, low)))
      ∙ second_apart h s areas second_same n on

  pub all_but_first : h ≡ part s 0 592 → WritesOverCleared s random u x
  all_but_first begins = inr (inr (record {
    json = json;
    metadata = subst (λ (b : List ℕ). IsWrittenArea 12288 (converted (header_members b)) json) begins metadata;
    second = subst (λ (b : List ℕ). HasConvertedCopy x (uuid_of b) (second_copy_salt random) json 16384) begins second_kept;
    areas = subst (λ (b : List ℕ). (n : ℕ) → is_enabled b n ≡ true → HasCopiedArea b s n x) begins area_kept;
  }))

module _ (h s random u v w x json : List ℕ) (metadata : IsWrittenArea 12288 (converted (header_members h)) json)
    (areas : (n : ℕ) → is_enabled h n ≡ true → HasCopiedArea h s n v)
    (same : SameBut (IsOfNewArea h) u v) (second_same : SameBut (IsAt 16384 16384) v w) (first_same : SameBut (IsAt 0 16384) w x)
    (second : HasConvertedCopy w (uuid_of h) (second_copy_salt random) json 16384) (first : HasConvertedCopy x (uuid_of h) (first_copy_salt random) json 0) where
  pub is_converted : h ≡ part s 0 592 → IsConverted s random u x
  is_converted begins = record {
    json = json;
    metadata = subst (λ (b : List ℕ). IsWrittenArea 12288 (converted (header_members b)) json) begins metadata;
    first = subst (λ (b : List ℕ). HasConvertedCopy x (uuid_of b) (first_copy_salt random) json 0) begins first;
    second = subst (λ (b : List ℕ). HasConvertedCopy x (uuid_of b) (second_copy_salt random) json 16384) begins (second_kept h s random u v w x json metadata areas same second_same first_same second);
    areas = subst (λ (b : List ℕ). (n : ℕ) → is_enabled b n ≡ true → HasCopiedArea b s n x) begins (area_kept h s random u v w x json metadata areas same second_same first_same second);
    rest = subst (λ (b : List ℕ). SameBut (IsOfConverted b) u x) begins (all_rest h same second_same first_same);
  }

-- ---- what was cleared before

pub sectors_of_copies : (h : List ℕ) (p : ℕ) → IsOfFirstSectors 16384 p → IsOfConverted h p
sectors_of_copies h p is = inl (sectors_inside 16384 (lit≤ tt) p is)

pub converted_over : {u v w : List ℕ} (s random : List ℕ) → SameBut (IsOfFirstSectors 16384) u v → IsConverted s random v w → IsConverted s random u w
converted_over s random cleared is = record {
  json = is.json;
  metadata = is.metadata;
  first = is.first;
  second = is.second;
  areas = is.areas;
  rest = clearing_widens 16384 (sectors_of_copies (part s 0 592)) cleared is.rest;
}
