-- Facts on ranges of a volume in which writes are played.
use Rattle.std.proofs.Common.{◌≡◌, ℕ, ◌+◌, ◌-◌, ◌<◌, ◌≤◌, inl, inr, List, [], ◌∷◌, ◌++◌, length, take, drop, min, max, refl, sym, ap, ◌∙◌, arith, length-append, length-drop, length-take}
use Rattle.std.proofs.lemmas.Bool.{cases_eq, cases_lt}
use Rattle.std.proofs.lemmas.List.{drop-drop, take-append-drop}
use Rattle.std.proofs.Math.Seq.{take-add}
use Rattle.luks_area.specs.Ranges.{part, written}
use Rattle.luks_area.proofs.RangeFacts.{length-part_inside, length-written, part-add, part-whole, written-none, written-written}
use Rattle.luks_given.specs.declared.planned_writes.PlannedCall.{PlannedCall}
use Rattle.luks_given.specs.Plan.{planned_length, played}
use Rattle.luks_given.proofs.PlanFacts.{played-more}
use Rattle.luks_given.proofs.PartFacts.{part-around_written, part-before_written, part-behind_written, part-in_three}

-- a list without an item is the empty one
none_of : (l : List ℕ) → length l ≡ 0 → l ≡ []
none_of [] none = refl
none_of (x ∷ xs) none = absurd (omega (arith, none))

-- a write of nothing leaves all
part-written_none : (v : List ℕ) (to : ℕ) (from : List ℕ) (at len : ℕ) → length from ≡ 0 → part (written v to from) at len ≡ part v at len
part-written_none v to from at len none = ap (λ l. part (written v to l) at len) (none_of from none) ∙ ap (λ w. part w at len) (written-none v to)

-- a write that has no place of the range leaves it
pub part-unmet_written : (v : List ℕ) (at len to : ℕ) (from : List ℕ) → to + length from ≤ length v → at + len ≤ length v
    → min (at + len) (to + length from) ≤ max at to → part (written v to from) at len ≡ part v at len
part-unmet_written v at len to from fits inside apart = elim (cases_lt to (at + len)) [
  | inr before ↦ part-before_written v to from at len fits before
  | inl low ↦ elim (cases_lt at (to + length from)) [
    | inr behind ↦ part-behind_written v to from at len fits behind
    | inl high ↦ elim (cases_eq len 0) [
      | inl none ↦
          let long : length (written v to from) ≡ length v = length-written v to from fits in
          let one : length (part (written v to from) at len) ≡ len = length-part_inside (written v to from) at len (omega (arith, inside, long)) in
          let other : length (part v at len) ≡ len = length-part_inside v at len inside in
          none_of (part (written v to from) at len) (one ∙ none) ∙ sym (none_of (part v at len) (other ∙ none))
      | inr some ↦ part-written_none v to from at len (omega (arith, apart, low, high, some))
    ]
  ]
]

-- a write that has places of the range writes these, in the range
pub part-met_written : (v : List ℕ) (at len to first last : ℕ) (from : List ℕ) → to + length from ≤ length v → at + len ≤ length v
    → first ≡ max at to → last ≡ min (at + len) (to + length from) → first < last
    → part (written v to from) at len ≡ written (part v at len) (first - at) (part from (first - to) (last - first))
part-met_written v at len to first last from fits inside begins ends met =
    let a : ℕ = first - to in
    let m : ℕ = last - first in
    let rest : ℕ = length from - (a + m) in
    let x : List ℕ = part from 0 a in
    let y : List ℕ = part from (0 + a) m in
    let z : List ℕ = part from (0 + (a + m)) rest in
    let three : (a + m) + rest ≡ length from = omega (arith, begins, ends, met) in
    let whole : from ≡ (x ++ y) ++ z = sym (part-whole from) ∙ ap (part from 0) (sym three) ∙ part-in_three from 0 a m rest in
    let x_long : length x ≡ a = length-part_inside from 0 a (omega (arith, three)) in
    let y_long : length y ≡ m = length-part_inside from (0 + a) m (omega (arith, three)) in
    let z_long : length z ≡ rest = length-part_inside from (0 + (a + m)) rest (omega (arith, three)) in
    let both : length (x ++ y) ≡ length x + length y = length-append x y in
    let w : List ℕ = written v to x in
    let u : List ℕ = written w (to + length x) y in
    let w_long : length w ≡ length v = length-written v to x (omega (arith, x_long, three, fits)) in
    let u_long : length u ≡ length w = length-written w (to + length x) y (omega (arith, x_long, y_long, three, fits, w_long)) in
    let pieces : written v to from ≡ written u (to + length (x ++ y)) z =
    ap (written v to) whole
    ∙ sym (written-written v to (x ++ y) z (omega (arith, both, x_long, y_long, z_long, three, fits)))
    ∙ ap (λ l. written l (to + length (x ++ y)) z) (sym (written-written v to x y (omega (arith, x_long, y_long, three, fits)))) in
    let behind : part (written u (to + length (x ++ y)) z) at len ≡ part u at len = elim (cases_lt (to + length (x ++ y)) (at + len)) [
      | inl low ↦ part-written_none u (to + length (x ++ y)) z at len (omega (arith, low, both, x_long, y_long, z_long, begins, ends, met))
      | inr high ↦ part-before_written u (to + length (x ++ y)) z at len (omega (arith, both, x_long, y_long, z_long, three, fits, w_long, u_long)) high
    ] in
    let here : part u at len ≡ written (part w at len) ((to + length x) - at) y =
    part-around_written w at len (to + length x) y (omega (arith, x_long, begins)) (omega (arith, x_long, y_long, begins, ends, met)) (omega (arith, inside, w_long)) in
    let before : part w at len ≡ part v at len = elim (cases_lt at (to + length x)) [
      | inl low ↦ part-written_none v to x at len (omega (arith, low, x_long, begins))
      | inr high ↦ part-behind_written v to x at len (omega (arith, x_long, three, fits)) high
    ] in
    ap (λ l. part l at len) pieces ∙ behind ∙ here
    ∙ ap (λ l. written l ((to + length x) - at) y) before
    ∙ ap (λ n. written (part v at len) n y) (omega (arith, x_long, begins))
    ∙ ap (λ n. written (part v at len) (first - at) (part from n m)) (omega arith)

-- ---- what is there already

-- a write of what is there leaves all
written-same : (v : List ℕ) (at n : ℕ) → at + n ≤ length v → written v at (part v at n) ≡ v
written-same v at n inside =
    let long : length (part v at n) ≡ n = length-part_inside v at n inside in
    ap (λ k. (take at v ++ part v at n) ++ drop (at + k) v) long
    ∙ ap (λ l. l ++ drop (at + n) v) (sym (take-add at n v))
    ∙ take-append-drop (at + n) v

-- a write whose rest is there already is one of what comes before that
pub written-front : (v : List ℕ) (at : ℕ) (from : List ℕ) (n : ℕ) → at + length from ≤ length v → n ≤ length from
    → drop n from ≡ part v (at + n) (length from - n) → written v at (take n from) ≡ written v at from
written-front v at from n fits some same =
    let kept : List ℕ = take n from in
    let rest : List ℕ = drop n from in
    let m : ℕ = length from - n in
    let kept_long : length kept ≡ n = length-take n from ∙ omega (arith, some) in
    let rest_long : length rest ≡ m = length-drop n from in
    let w : List ℕ = written v at kept in
    let long : length w ≡ length v = length-written v at kept (omega (arith, kept_long, some, fits)) in
    let stands : rest ≡ part w (at + n) m = same ∙ sym (part-behind_written v at kept (at + n) m (omega (arith, kept_long, some, fits)) (omega (arith, kept_long))) in
    sym (written-same w (at + n) m (omega (arith, long, some, fits)))
    ∙ ap (written w (at + n)) (sym stands)
    ∙ ap (λ k. written w (at + k) rest) (sym kept_long)
    ∙ written-written v at kept rest (omega (arith, kept_long, rest_long, some, fits))
    ∙ ap (written v at) (take-append-drop n from)

-- where the rest is there, and what comes before it does, both do
pub standing-more : (v : List ℕ) (at : ℕ) (from : List ℕ) (start len : ℕ) → start ≤ len → len ≤ length from
    → part from start (len - start) ≡ part v (at + start) (len - start) → drop len from ≡ part v (at + len) (length from - len)
    → drop start from ≡ part v (at + start) (length from - start)
standing-more v at from start len low high here rest =
    let n : ℕ = len - start in
    let m : ℕ = length from - len in
    let both : n + m ≡ length from - start = omega (arith, low, high) in
    let end_ : (at + start) + n ≡ at + len = omega (arith, low) in
    let all : start + n ≡ len = omega (arith, low) in
    sym (take-append-drop n (drop start from))
    ∙ ap (λ l. part from start n ++ l) (drop-drop n start from ∙ ap (λ k. drop k from) all)
    ∙ ap (λ l. l ++ drop len from) here
    ∙ ap (λ l. part v (at + start) n ++ l) rest
    ∙ ap (λ k. part v (at + start) n ++ part v k m) (sym end_)
    ∙ sym (part-add v (at + start) n m)
    ∙ ap (part v (at + start)) both

-- one more call, of what has to be written of these bytes
pub played-front_more : (calls : List PlannedCall) (at n : ℕ) (bytes from v : List ℕ) → planned_length calls ≡ length bytes
    → at + length from ≤ length (played calls bytes v) → n ≤ length from → drop n from ≡ part (played calls bytes v) (at + n) (length from - n)
    → played (calls ++ record { at = at; len = length (take n from) } ∷ []) (bytes ++ take n from) v ≡ written (played calls bytes v) at from
played-front_more calls at n bytes from v counted fits some same =
    played-more calls (record { at = at; len = length (take n from) }) bytes (take n from) v counted refl ∙ written-front (played calls bytes v) at from n fits some same
