-- What calls on a window do to the window and to the disk behind it.
use Rattle.std.proofs.Common.{◌≡◌, ℕ, ◌+◌, ◌-◌, ◌<◌, ◌≤◌, List, inl, inr, length, get_or, min, sym, ap, ◌∙◌, arith}
use Rattle.std.proofs.lemmas.Bool.{cases_lt}
use Rattle.std.proofs.lemmas.List.{get_or_past}
use Rattle.std.proofs.lemmas.Grind.{same_number_lists}
use Rattle.luks_area.specs.Ranges.{part, written, IsAt, IsOfEither, SameBut}
use Rattle.luks_area.proofs.RangeFacts.{length-part, length-part_inside, length-written, get_or-part, part-written, same_but-same, same_but-same_outside, same_but-wider, same_outside-written}
use Rattle.luks_window.specs.Cut.{places_behind, StaysInside}

-- behind its end a part has no byte
part-past : (v : List ℕ) (at len p : ℕ) → len ≤ p → get_or (part v at len) p 0 ≡ 0
part-past v at len p past =
    let long : length (part v at len) ≡ min len (length v - at) = length-part v at len in
    get_or_past (part v at len) p 0 (omega (arith, long, past))

-- what agrees but at some places agrees in a window but at those of them that lie in it
pub same_but-window : {S T : ℕ → Type 0} {v w : List ℕ} (start len : ℕ) → ((p : ℕ) → p < len → S (start + p) → T p)
    → SameBut S v w → SameBut T (part v start len) (part w start len)
same_but-window {S} {T} {v} {w} start len into same =
    let long : length w ≡ length v = same.length_same in
    let old : length (part v start len) ≡ min len (length v - start) = length-part v start len in
    let new : length (part w start len) ≡ min len (length w - start) = length-part w start len in
    record {
      length_same = omega (arith, long, old, new);
      each = λ p apart. elim (cases_lt p len) [
        | inl inside ↦ get_or-part w start len p inside ∙ same.each (start + p) (λ s. apart (into p inside s)) ∙ sym (get_or-part v start len p inside)
        | inr past ↦ part-past w start len p past ∙ sym (part-past v start len p past)
      ];
    }

-- where bytes were written
written-inside : (v : List ℕ) (at : ℕ) (bytes : List ℕ) (p : ℕ) → at + length bytes ≤ length v → at ≤ p → p < at + length bytes
    → get_or (written v at bytes) p 0 ≡ get_or bytes (p - at) 0
written-inside v at bytes p inside low high =
    let there : at + (p - at) ≡ p = omega (arith, low) in
    ap (λ k. get_or (written v at bytes) k 0) (sym there)
    ∙ sym (get_or-part (written v at bytes) at (length bytes) (p - at) (omega (arith, low, high)))
    ∙ ap (λ l. get_or l (p - at) 0) (part-written v at bytes inside)

-- and beside them
written-beside : (v : List ℕ) (at : ℕ) (bytes : List ℕ) (p : ℕ) → at + length bytes ≤ length v → (IsAt at (length bytes) p → ⊥)
    → get_or (written v at bytes) p 0 ≡ get_or v p 0
written-beside v at bytes p inside apart = (same_but-same_outside (same_outside-written v at bytes inside)).each p apart

-- a write into a window, told of its bytes
pub part-written_window : (v : List ℕ) (start len at : ℕ) (bytes : List ℕ) → start + len ≤ length v → at + length bytes ≤ len
    → part (written v (start + at) bytes) start len ≡ written (part v start len) at bytes
part-written_window v start len at bytes inside short =
    let n : ℕ = length bytes in
    let w : List ℕ = written v (start + at) bytes in
    let fits : (start + at) + n ≤ length v = omega (arith, inside, short) in
    let whole : length (part v start len) ≡ len = length-part_inside v start len inside in
    let fits_part : at + n ≤ length (part v start len) = omega (arith, whole, short) in
    let long : length w ≡ length v = length-written v (start + at) bytes fits in
    let left : length (part w start len) ≡ len = length-part_inside w start len (omega (arith, long, inside)) in
    let right : length (written (part v start len) at bytes) ≡ length (part v start len) = length-written (part v start len) at bytes fits_part in
    same_number_lists (part w start len) (written (part v start len) at bytes) (omega (arith, left, right, whole)) (λ k lt.
    let below : k < len = omega (arith, lt, left) in
    get_or-part w start len k below ∙ elim (cases_lt k at) [
      | inl before ↦
          written-beside v (start + at) bytes (start + k) fits (λ here. let low = here.0 in absurd (omega (arith, low, before)))
          ∙ sym (get_or-part v start len k below)
          ∙ sym (written-beside (part v start len) at bytes k fits_part (λ here. let low = here.0 in absurd (omega (arith, low, before))))
      | inr from ↦ elim (cases_lt k (at + n)) [
        | inl there ↦
            written-inside v (start + at) bytes (start + k) fits (omega (arith, from)) (omega (arith, there))
            ∙ ap (λ i. get_or bytes i 0) (omega (arith, from))
            ∙ sym (written-inside (part v start len) at bytes k fits_part from there)
        | inr behind ↦
            written-beside v (start + at) bytes (start + k) fits (λ here. let high = here.1 in absurd (omega (arith, high, behind)))
            ∙ sym (get_or-part v start len k below)
            ∙ sym (written-beside (part v start len) at bytes k fits_part (λ here. let high = here.1 in absurd (omega (arith, high, behind))))
      ]
    ])

-- a disk of which nothing was done
pub stays_inside-same : (v : List ℕ) (pending : ℕ → Type 0) (start len : ℕ) → StaysInside v pending start len v pending
stays_inside-same v pending start len = record {
  bytes = same_but-same (IsOfEither pending (IsAt start len)) v;
  settled = λ p apart is. apart (inl is);
}

-- where nothing was unsettled, the window alone has changed
pub window-alone : {pending : ℕ → Type 0} {v w : List ℕ} (start len : ℕ) → ((p : ℕ) → pending p → ⊥)
    → SameBut (IsOfEither pending (IsAt start len)) v w → SameBut (IsAt start len) v w
window-alone start len none same = same_but-wider (λ p is. elim is [ inl before ↦ absurd (none p before) | inr there ↦ there ]) same

-- and where of the window only some places have, these alone of the disk have
pub places-behind : {S : ℕ → Type 0} {v w : List ℕ} (start len : ℕ) → SameBut (IsAt start len) v w
    → SameBut S (part v start len) (part w start len) → SameBut (places_behind start S) v w
places-behind {S} {v} {w} start len alone same = record {
  length_same = alone.length_same;
  each = λ p apart. elim (cases_lt p start) [
    | inl before ↦ alone.each p (λ here. let low = here.0 in absurd (omega (arith, low, before)))
    | inr from ↦ elim (cases_lt p (start + len)) [
      | inl there ↦
          let back : start + (p - start) ≡ p = omega (arith, from) in
          let below : p - start < len = omega (arith, from, there) in
          ap (λ k. get_or w k 0) (sym back)
          ∙ sym (get_or-part w start len (p - start) below)
          ∙ same.each (p - start) (λ s. apart (from, s))
          ∙ get_or-part v start len (p - start) below
          ∙ ap (λ k. get_or v k 0) back
      | inr behind ↦ alone.each p (λ here. let high = here.1 in absurd (omega (arith, high, behind)))
    ]
  ];
}
