-- Facts on the ranges of a volume, for the proofs of every crate that depends on this one.
use Rattle.std.proofs.Common.{◌≡◌, ℕ, ◌+◌, ◌-◌, ◌<◌, ◌≤◌, List, [], ◌++◌, ◌⊎◌, inl, inr, length, take, drop, get_or, min, refl, sym, ap, ◌∙◌, arith, append_assoc, length-append, length-drop}
use Rattle.std.proofs.lemmas.List.{length-take, length-take-le, get_or-take, get_or-drop, drop-drop, take_all, append-nil, take-append-drop}
use Rattle.std.proofs.Math.Seq.{take-add, take-length, take-append_seam, drop-append_seam}
use Rattle.std.proofs.lemmas.Bool.{cases_lt}
use Rattle.std.proofs.lemmas.Grind.{same_number_lists}
use Rattle.luks_area.specs.Ranges.{part, written, SameOutside, IsAt, IsOfEither, SameBut}

-- parts

-- a part has its length, or what the volume has left
pub length-part : (v : List ℕ) (at len : ℕ) → length (part v at len) ≡ min len (length v - at)
length-part v at len = length-take len (drop at v) ∙ ap (min len) (length-drop at v)

-- a part inside the volume has its whole length
pub length-part_inside : (v : List ℕ) (at len : ℕ) → at + len ≤ length v → length (part v at len) ≡ len
length-part_inside v at len inside = let is : length (part v at len) ≡ min len (length v - at) = length-part v at len in omega (arith, is, inside)

-- a byte of a part is the volume's byte at its place
pub get_or-part : (v : List ℕ) (at len k : ℕ) → k < len → get_or (part v at len) k 0 ≡ get_or v (at + k) 0
get_or-part v at len k lt = get_or-take len (drop at v) k 0 lt ∙ get_or-drop at v k 0

-- a part of a part is a part of the volume
pub part-part : (v : List ℕ) (at len i n : ℕ) → i + n ≤ len → part (part v at len) i n ≡ part v (at + i) n
part-part v at len i n inside =
    let whole : length (part v at len) ≡ min len (length v - at) = length-part v at len in
    let left : length (part (part v at len) i n) ≡ min n (length (part v at len) - i) = length-part (part v at len) i n in
    let right : length (part v (at + i) n) ≡ min n (length v - (at + i)) = length-part v (at + i) n in
    same_number_lists (part (part v at len) i n) (part v (at + i) n) (omega (arith, whole, left, right, inside)) (λ k lt.
    let below : k < n = omega (arith, lt, left) in
    get_or-part (part v at len) i n k below ∙ get_or-part v at len (i + k) (omega (arith, below, inside))
    ∙ ap (λ p. get_or v p 0) (omega arith) ∙ sym (get_or-part v (at + i) n k below))

-- a part is its front and then the rest
pub part-add : (v : List ℕ) (at m n : ℕ) → part v at (m + n) ≡ part v at m ++ part v (at + m) n
part-add v at m n = take-add m n (drop at v) ∙ ap (λ rest. part v at m ++ take n rest) (drop-drop m at v)

-- the whole volume
pub part-whole : (v : List ℕ) → part v 0 (length v) ≡ v
part-whole v = take-length v

-- what was written

front_length : (v : List ℕ) (at n : ℕ) → at + n ≤ length v → length (take at v) ≡ at
front_length v at n inside = length-take-le at v (omega (arith, inside))

-- writing inside a volume keeps its length
pub length-written : (v : List ℕ) (at : ℕ) (bytes : List ℕ) → at + length bytes ≤ length v → length (written v at bytes) ≡ length v
length-written v at bytes inside =
    let behind : List ℕ = drop (at + length bytes) v in
    let all : length (written v at bytes) ≡ length (take at v ++ bytes) + length behind = length-append (take at v ++ bytes) behind in
    let front : length (take at v ++ bytes) ≡ length (take at v) + length bytes = length-append (take at v) bytes in
    let before : length (take at v) ≡ at = front_length v at (length bytes) inside in
    let rest : length behind ≡ length v - (at + length bytes) = length-drop (at + length bytes) v in
    omega (arith, all, front, before, rest, inside)

-- where bytes were written they stand
pub part-written : (v : List ℕ) (at : ℕ) (bytes : List ℕ) → at + length bytes ≤ length v → part (written v at bytes) at (length bytes) ≡ bytes
part-written v at bytes inside =
    let behind : List ℕ = drop (at + length bytes) v in
    let before : length (take at v) ≡ at = front_length v at (length bytes) inside in
    ap (λ l. part l at (length bytes)) (append_assoc (take at v) bytes behind)
    ∙ ap (λ k. part (take at v ++ (bytes ++ behind)) k (length bytes)) (sym before)
    ∙ ap (take (length bytes)) (drop-append_seam (take at v) (bytes ++ behind))
    ∙ take-append_seam bytes behind

-- a write changes its range alone
pub same_outside-written : (v : List ℕ) (at : ℕ) (bytes : List ℕ) → at + length bytes ≤ length v → SameOutside v (written v at bytes) at (length bytes)
same_outside-written v at bytes inside =
    let behind : List ℕ = drop (at + length bytes) v in
    let front : length (take at v) ≡ at = front_length v at (length bytes) inside in
    let both : length (take at v ++ bytes) ≡ at + length bytes = length-append (take at v) bytes ∙ ap (λ n. n + length bytes) front in
    record {
      length_same = length-written v at bytes inside;
      before = ap (take at) (append_assoc (take at v) bytes behind)
          ∙ ap (λ k. take k (take at v ++ (bytes ++ behind))) (sym front)
          ∙ take-append_seam (take at v) (bytes ++ behind);
      after = ap (λ k. drop k (written v at bytes)) (sym both) ∙ drop-append_seam (take at v ++ bytes) behind;
    }

-- nothing written
pub written-none : (v : List ℕ) (at : ℕ) → written v at [] ≡ v
written-none v at = ap (λ l. l ++ drop (at + 0) v) (append-nil (take at v)) ∙ ap (λ k. take at v ++ drop k v) (omega arith) ∙ take-append-drop at v

-- two writes of which the second goes on where the first ended are one
pub written-written : (v : List ℕ) (at : ℕ) (xs ys : List ℕ) → (at + length xs) + length ys ≤ length v
    → written (written v at xs) (at + length xs) ys ≡ written v at (xs ++ ys)
written-written v at xs ys inside =
    let behind : List ℕ = drop (at + length xs) v in
    let w : List ℕ = written v at xs in
    let front : length (take at v) ≡ at = front_length v at (length xs) (omega (arith, inside)) in
    let both : length (take at v ++ xs) ≡ at + length xs = length-append (take at v) xs ∙ ap (λ n. n + length xs) front in
    let kept : take (at + length xs) w ≡ take at v ++ xs = ap (λ k. take k w) (sym both) ∙ take-append_seam (take at v ++ xs) behind in
    let rest : drop (at + length xs) w ≡ behind = ap (λ k. drop k w) (sym both) ∙ drop-append_seam (take at v ++ xs) behind in
    let last : drop ((at + length xs) + length ys) w ≡ drop ((at + length xs) + length ys) v =
    sym (drop-drop (length ys) (at + length xs) w) ∙ ap (drop (length ys)) rest ∙ drop-drop (length ys) (at + length xs) v in
    let end_ : (at + length xs) + length ys ≡ at + length (xs ++ ys) = let long : length (xs ++ ys) ≡ length xs + length ys = length-append xs ys in omega (arith, long) in
    ap (λ l. (l ++ ys) ++ drop ((at + length xs) + length ys) w) kept
    ∙ ap (λ l. ((take at v ++ xs) ++ ys) ++ l) last
    ∙ ap (λ k. ((take at v ++ xs) ++ ys) ++ drop k v) end_
    ∙ ap (λ l. l ++ drop (at + length (xs ++ ys)) v) (append_assoc (take at v) xs ys)

-- agreeing outside a range

-- places

-- a range inside a range
pub at-inside : (start len i n p : ℕ) → i + n ≤ len → IsAt (start + i) n p → IsAt start len p
at-inside start len i n p inside at = (let low = at.0 in omega (arith, low), let high = at.1 in omega (arith, high, inside))

-- no place lies in two ranges of which one ends before the other begins
pub at-apart : (a m b n p : ℕ) → a + m ≤ b → IsAt a m p → IsAt b n p → ⊥
at-apart a m b n p before left right = let high = left.1 in let low = right.0 in absurd (omega (arith, before, high, low))

-- agreeing but at some places

-- a volume agrees with itself
pub same_but-same : (touched : ℕ → Type 0) (v : List ℕ) → SameBut touched v v
same_but-same touched v = record { length_same = refl; each = λ p apart. refl }

-- a volume that is equal agrees
pub same_but-equal : (touched : ℕ → Type 0) {v w : List ℕ} → w ≡ v → SameBut touched v w
same_but-equal touched e = record { length_same = ap length e; each = λ p apart. ap (λ l. get_or l p 0) e }

-- what agrees but in a set agrees but in a wider one
pub same_but-wider : {S T : ℕ → Type 0} {v w : List ℕ} → ((p : ℕ) → S p → T p) → SameBut S v w → SameBut T v w
same_but-wider wider same = record { length_same = same.length_same; each = λ p apart. same.each p (λ s. apart (wider p s)) }

-- one change after another in one set
pub same_but-then : {T : ℕ → Type 0} {u v w : List ℕ} → SameBut T u v → SameBut T v w → SameBut T u w
same_but-then first second = record {
  length_same = second.length_same ∙ first.length_same;
  each = λ p apart. second.each p apart ∙ first.each p apart;
}

-- two changes touch what either touches
pub same_but-either : {S T : ℕ → Type 0} {u v w : List ℕ} → SameBut S u v → SameBut T v w → SameBut (IsOfEither S T) u w
same_but-either first second = record {
  length_same = second.length_same ∙ first.length_same;
  each = λ p apart. second.each p (λ t. apart (inr t)) ∙ first.each p (λ s. apart (inl s));
}

-- a part that holds none of the places is equal
pub part-same_but : {touched : ℕ → Type 0} {v w : List ℕ} (at len : ℕ) → SameBut touched v w
    → ((p : ℕ) → IsAt at len p → touched p → ⊥) → part w at len ≡ part v at len
part-same_but {touched} {v} {w} at len same apart =
    let new : length (part w at len) ≡ min len (length w - at) = length-part w at len in
    let old : length (part v at len) ≡ min len (length v - at) = length-part v at len in
    let long : length w ≡ length v = same.length_same in
    same_number_lists (part w at len) (part v at len) (omega (arith, new, old, long)) (λ k lt.
    let below : k < len = omega (arith, lt, new) in
    get_or-part w at len k below ∙ same.each (at + k) (apart (at + k) (omega arith, omega (arith, below))) ∙ sym (get_or-part v at len k below))

-- a part before or behind a range that was touched is equal
pub part-same_but_at : {v w : List ℕ} (start m at len : ℕ) → SameBut (IsAt start m) v w
    → (at + len ≤ start) ⊎ (start + m ≤ at) → part w at len ≡ part v at len
part-same_but_at start m at len same (inl before) = part-same_but at len same (λ p here there. at-apart at len start m p before here there)
part-same_but_at start m at len same (inr behind) = part-same_but at len same (λ p here there. at-apart start m at len p behind there here)

-- volumes that agree outside a range agree but at its places
pub same_but-same_outside : {v w : List ℕ} {at len : ℕ} → SameOutside v w at len → SameBut (IsAt at len) v w
same_but-same_outside {v} {w} {at} {len} same = record {
  length_same = same.length_same;
  each = λ p apart. elim (cases_lt p at) [
    | inl before ↦ sym (get_or-take at w p 0 before) ∙ ap (λ l. get_or l p 0) same.before ∙ get_or-take at v p 0 before
    | inr past ↦ elim (cases_lt p (at + len)) [
      | inl inside ↦ absurd (apart (past, inside))
      | inr behind ↦
          let there : (at + len) + (p - (at + len)) ≡ p = omega (arith, behind) in
          ap (λ k. get_or w k 0) (sym there) ∙ sym (get_or-drop (at + len) w (p - (at + len)) 0)
          ∙ ap (λ l. get_or l (p - (at + len)) 0) same.after
          ∙ get_or-drop (at + len) v (p - (at + len)) 0 ∙ ap (λ k. get_or v k 0) there
    ]
  ];
}

-- volumes that agree but at the places of a range agree outside it
pub same_outside-same_but : {v w : List ℕ} (at len : ℕ) → SameBut (IsAt at len) v w → SameOutside v w at len
same_outside-same_but {v} {w} at len same =
    let long : length w ≡ length v = same.length_same in
    let old : length (drop (at + len) v) ≡ length v - (at + len) = length-drop (at + len) v in
    let new : length (drop (at + len) w) ≡ length w - (at + len) = length-drop (at + len) w in
    record {
      length_same = same.length_same;
      before = part-same_but_at at len 0 at same (inl (omega arith));
      after = sym (take_all (length v) (drop (at + len) w) (omega (arith, long, new)))
          ∙ part-same_but_at at len (at + len) (length v) same (inr (omega arith))
          ∙ take_all (length v) (drop (at + len) v) (omega (arith, old));
    }
