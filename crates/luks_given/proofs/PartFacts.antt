-- Facts on ranges of a volume that are given.
use Rattle.std.proofs.Common.{◌≡◌, ℕ, ◌+◌, ◌-◌, ◌<◌, ◌≤◌, inl, inr, List, [], ◌∷◌, ◌++◌, length, refl, subst, sym, ap, ◌∙◌, arith}
use Rattle.std.proofs.lemmas.List.{length-replicate}
use Rattle.luks_area.specs.Ranges.{part, written}
use Rattle.luks_area.proofs.RangeFacts.{length-part_inside, part-add, part-part, part-whole, length-written, part-written, same_outside-written, same_but-same_outside, part-same_but_at}
use Rattle.luks_given.specs.declared.parts.Part.{Part}
use Rattle.luks_given.specs.Parts.{parts_length, volume_of, AreApart, AreGiven, AreInside, AreParts, ArePartsOf, HasPlace, IsPlaced}

-- ---- places

-- ranges that begin behind one place begin behind each before it
pub apart-weaker : (free less : ℕ) (rs : List Part) → less ≤ free → AreApart free rs → AreApart less rs
unfolding AreApart
apart-weaker free less [] low apart = tt
apart-weaker free less (r ∷ rs) low apart = (let first = apart.0 in omega (arith, low, first), apart.1)

-- none has a place before the first may begin
pub no_place-below : (free p : ℕ) (rs : List Part) → AreApart free rs → p < free → HasPlace rs p → ⊥
unfolding AreApart HasPlace
no_place-below free p [] apart below has = has
no_place-below free p (r ∷ rs) apart below has = let first = apart.0 in elim has [
  | inl here ↦ (let low = here.0 in omega (arith, below, first, low))
  | inr later ↦ no_place-below (r.at + r.len + 1) p rs apart.1 (omega (arith, below, first)) later
]

-- nor the place before the first begins
pub no_place-before : (p : ℕ) (r : Part) (rs : List Part) → AreApart 0 (r ∷ rs) → p < r.at → HasPlace (r ∷ rs) p → ⊥
unfolding AreApart HasPlace
no_place-before p r rs apart before has = elim has [
  | inl here ↦ (let low = here.0 in omega (arith, before, low))
  | inr later ↦ no_place-below (r.at + r.len + 1) p rs apart.1 (omega (arith, before)) later
]

-- nor the one where the first ends
pub no_place-at_end : (r : Part) (rs : List Part) → AreApart 0 (r ∷ rs) → HasPlace (r ∷ rs) (r.at + r.len) → ⊥
unfolding AreApart HasPlace
no_place-at_end r rs apart has = elim has [
  | inl here ↦ (let high = here.1 in omega (arith, high))
  | inr later ↦ no_place-below (r.at + r.len + 1) (r.at + r.len) rs apart.1 (omega arith) later
]

-- ---- bytes

-- where the same bytes are in all ranges of these places, they are those of the volume still
pub parts-same : (free : ℕ) (rs : List Part) (before : ℕ) (bytes kept v w : List ℕ) → AreApart free rs
    → ((at len : ℕ) → free ≤ at → part w at len ≡ part v at len) → ((at len : ℕ) → before ≤ at → part kept at len ≡ part bytes at len)
    → AreParts rs before bytes v → AreParts rs before kept w
unfolding AreApart AreParts
parts-same free [] before bytes kept v w apart same alike are = tt
parts-same free (r ∷ rs) before bytes kept v w apart same alike are =
    let first = apart.0 in (
      same r.at r.len first ∙ are.0 ∙ sym (alike before r.len (omega arith)),
      parts-same (r.at + r.len + 1) rs (before + r.len) bytes kept v w apart.1 (λ at len past. same at len (omega (arith, past, first)))
          (λ at len past. alike at len (omega (arith, past))) are.1,
    )

-- a write leaves what is behind it
pub part-behind_written : (v : List ℕ) (at : ℕ) (from : List ℕ) (start len : ℕ) → at + length from ≤ length v → at + length from ≤ start
    → part (written v at from) start len ≡ part v start len
part-behind_written v at from start len inside behind = part-same_but_at at (length from) start len (same_but-same_outside (same_outside-written v at from inside)) (inr behind)

-- and what is before it
pub part-before_written : (v : List ℕ) (at : ℕ) (from : List ℕ) (start len : ℕ) → at + length from ≤ length v → start + len ≤ at
    → part (written v at from) start len ≡ part v start len
part-before_written v at from start len inside before = part-same_but_at at (length from) start len (same_but-same_outside (same_outside-written v at from inside)) (inl before)

-- the volume of ranges has so many bytes
pub length-volume_of : (rs : List Part) (before : ℕ) (bytes : List ℕ) (total : ℕ) → AreInside total rs → before + parts_length rs ≤ length bytes
    → length (volume_of rs before bytes total) ≡ total
unfolding AreInside parts_length volume_of
length-volume_of [] before bytes total inside counted = length-replicate total 0
length-volume_of (r ∷ rs) before bytes total inside counted =
    let w : List ℕ = volume_of rs (before + r.len) bytes total in
    let whole : length w ≡ total = length-volume_of rs (before + r.len) bytes total inside.1 (omega (arith, counted)) in
    let some : length (part bytes before r.len) ≡ r.len = length-part_inside bytes before r.len (omega (arith, counted)) in
    let ends = inside.0 in
    length-written w r.at (part bytes before r.len) (omega (arith, whole, some, ends)) ∙ whole

-- and these bytes in them
pub parts-volume_of : (free : ℕ) (rs : List Part) (before : ℕ) (bytes : List ℕ) (total : ℕ) → AreApart free rs → AreInside total rs
    → before + parts_length rs ≤ length bytes → AreParts rs before bytes (volume_of rs before bytes total)
unfolding AreApart AreInside AreParts parts_length volume_of
parts-volume_of free [] before bytes total apart inside counted = tt
parts-volume_of free (r ∷ rs) before bytes total apart inside counted =
    let w : List ℕ = volume_of rs (before + r.len) bytes total in
    let from : List ℕ = part bytes before r.len in
    let whole : length w ≡ total = length-volume_of rs (before + r.len) bytes total inside.1 (omega (arith, counted)) in
    let some : length from ≡ r.len = length-part_inside bytes before r.len (omega (arith, counted)) in
    let ends = inside.0 in
    let within : r.at + length from ≤ length w = omega (arith, whole, some, ends) in (
      ap (part (written w r.at from) r.at) (sym some) ∙ part-written w r.at from within,
      parts-same (r.at + r.len + 1) rs (before + r.len) bytes bytes w (written w r.at from) apart.1
          (λ at len past. part-behind_written w r.at from at len within (omega (arith, past, some))) (λ at len past. refl)
          (parts-volume_of (r.at + r.len + 1) rs (before + r.len) bytes total apart.1 inside.1 (omega (arith, counted))),
    )

-- so the bytes are given of it
pub given-volume_of : (rs : List Part) (bytes : List ℕ) (total : ℕ) → ArePartsOf rs bytes total → AreGiven rs bytes total (volume_of rs 0 bytes total)
given-volume_of rs bytes total are =
    let counted = are.counted in
    record {
      parts_ = are;
      bytes_ = parts-volume_of 0 rs 0 bytes total are.apart are.inside (omega (arith, counted));
      whole = length-volume_of rs 0 bytes total are.inside (omega (arith, counted));
    }

-- places that are given have the bytes of the volume
pub placed-read : (rs : List Part) (before at end_ k : ℕ) (bytes v : List ℕ) → IsPlaced rs before at end_ k → AreParts rs before bytes v
    → before + parts_length rs ≤ length bytes → at ≤ end_
    → (k + (end_ - at) ≤ length bytes) × (part bytes k (end_ - at) ≡ part v at (end_ - at))
unfolding IsPlaced AreParts parts_length
placed-read [] before at end_ k bytes v is are counted some = absurd is
placed-read (r ∷ rs) before at end_ k bytes v is are counted some = elim is [
  | inl here ↦ (
      let low = here.0 in
      let high = here.1 in
      let k_is = here.2 in
      let within : (at - r.at) + (end_ - at) ≤ r.len = omega (arith, low, high, some) in (
        omega (arith, low, high, k_is, counted, some),
        ap (λ n. part bytes n (end_ - at)) k_is
            ∙ sym (part-part bytes before r.len (at - r.at) (end_ - at) within)
            ∙ ap (λ l. part l (at - r.at) (end_ - at)) (sym are.0)
            ∙ part-part v r.at r.len (at - r.at) (end_ - at) within
            ∙ ap (λ n. part v n (end_ - at)) (omega (arith, low)),
      ))
  | inr later ↦ placed-read rs (before + r.len) at end_ k bytes v later are.1 (omega (arith, counted)) some
]

-- the same of so many places
pub read-placed : (rs : List Part) (at len k : ℕ) (bytes v : List ℕ) → IsPlaced rs 0 at (at + len) k → AreParts rs 0 bytes v → parts_length rs ≡ length bytes
    → (k + len ≤ length bytes) × (part bytes k len ≡ part v at len)
read-placed rs at len k bytes v is are counted =
    let some : (at + len) - at ≡ len = omega arith in
    let both = placed-read rs 0 at (at + len) k bytes v is are (omega (arith, counted)) (omega arith) in
    let within = both.0 in
    (omega (arith, within, some), ap (part bytes k) (sym some) ∙ both.1 ∙ ap (part v at) some)

-- ---- writes

-- a range in three
pub part-in_three : (v : List ℕ) (at a n rest : ℕ) → part v at ((a + n) + rest) ≡ (part v at a ++ part v (at + a) n) ++ part v (at + (a + n)) rest
part-in_three v at a n rest = part-add v at (a + n) rest ∙ ap (λ l. l ++ part v (at + (a + n)) rest) (part-add v at a n)

-- a write within a range
pub part-around_written : (v : List ℕ) (start len at : ℕ) (from : List ℕ) → start ≤ at → at + length from ≤ start + len → start + len ≤ length v
    → part (written v at from) start len ≡ written (part v start len) (at - start) from
part-around_written v start len at from low high inside =
    let a : ℕ = at - start in
    let n : ℕ = length from in
    let rest : ℕ = len - (a + n) in
    let p : List ℕ = part v start len in
    let w : List ℕ = written v at from in
    let q : List ℕ = written p a from in
    let here : start + a ≡ at = omega (arith, low) in
    let three : (a + n) + rest ≡ len = omega (arith, low, high) in
    let long : length p ≡ len = length-part_inside v start len inside in
    let fits : at + n ≤ length v = omega (arith, high, inside) in
    let within : a + n ≤ length p = omega (arith, low, high, long) in
    let kept : length q ≡ len = length-written p a from within ∙ long in
    let left : part w start len ≡ (part v start a ++ from) ++ part v (start + (a + n)) rest =
    ap (part w start) (sym three) ∙ part-in_three w start a n rest
    ∙ ap (λ l. (l ++ part w (start + a) n) ++ part w (start + (a + n)) rest) (part-before_written v at from start a fits (omega (arith, here)))
    ∙ ap (λ k. (part v start a ++ part w k n) ++ part w (start + (a + n)) rest) here
    ∙ ap (λ l. (part v start a ++ l) ++ part w (start + (a + n)) rest) (part-written v at from fits)
    ∙ ap (λ l. (part v start a ++ from) ++ l) (part-behind_written v at from (start + (a + n)) rest fits (omega (arith, here))) in
    let right : q ≡ (part v start a ++ from) ++ part v (start + (a + n)) rest =
    sym (part-whole q) ∙ ap (part q 0) (kept ∙ sym three) ∙ part-in_three q 0 a n rest
    ∙ ap (λ l. (l ++ part q (0 + a) n) ++ part q (0 + (a + n)) rest) (part-before_written p a from 0 a within (omega arith) ∙ part-part v start len 0 a (omega (arith, three)) ∙ ap (λ k. part v k a) (omega arith))
    ∙ ap (λ k. (part v start a ++ part q k n) ++ part q (0 + (a + n)) rest) (omega arith)
    ∙ ap (λ l. (part v start a ++ l) ++ part q (0 + (a + n)) rest) (part-written p a from within)
    ∙ ap (λ l. (part v start a ++ from) ++ l) (part-behind_written p a from (0 + (a + n)) rest within (omega arith) ∙ part-part v start len (0 + (a + n)) rest (omega (arith, three)) ∙ ap (λ k. part v k rest) (omega arith)) in
    left ∙ sym right

-- where places are given, and their bytes
pub placed-within : (free : ℕ) (rs : List Part) (before at end_ k total count : ℕ) → AreApart free rs → AreInside total rs → IsPlaced rs before at end_ k
    → before + parts_length rs ≤ count → at ≤ end_ → (free ≤ at) × (end_ ≤ total) × (before ≤ k) × (k + (end_ - at) ≤ count)
unfolding AreApart AreInside IsPlaced parts_length
placed-within free [] before at end_ k total count apart inside is counted some = absurd is
placed-within free (r ∷ rs) before at end_ k total count apart inside is counted some =
    let first = apart.0 in
    let last = inside.0 in
    elim is [
      | inl here ↦ (
          let low = here.0 in
          let high = here.1 in
          let k_is = here.2 in
          (omega (arith, first, low), omega (arith, high, last), omega (arith, k_is), omega (arith, low, high, k_is, counted, some)))
      | inr later ↦ (
          let rest = placed-within (r.at + r.len + 1) rs (before + r.len) at end_ k total count apart.1 inside.1 later (omega (arith, counted)) some in
          let past = rest.0 in
          let more = rest.2 in
          (omega (arith, first, past), rest.1, omega (arith, more), rest.3))
    ]

-- each place of these is given
pub placed-has : (rs : List Part) (before at end_ k p : ℕ) → IsPlaced rs before at end_ k → at ≤ p → p < end_ → HasPlace rs p
unfolding IsPlaced HasPlace
placed-has [] before at end_ k p is low high = is
placed-has (r ∷ rs) before at end_ k p is low high = elim is [
  | inl here ↦ (let first = here.0 in let last = here.1 in inl (omega (arith, first, low), omega (arith, last, high)))
  | inr later ↦ inr (placed-has rs (before + r.len) at end_ k p later low high)
]

-- a write to given places, and to their bytes
pub placed-written : (free : ℕ) (rs : List Part) (before at end_ k : ℕ) (bytes v from : List ℕ) → AreApart free rs → AreInside (length v) rs
    → IsPlaced rs before at end_ k → AreParts rs before bytes v → before + parts_length rs ≤ length bytes → at + length from ≡ end_
    → AreParts rs before (written bytes k from) (written v at from)
unfolding AreApart AreInside AreParts IsPlaced parts_length
placed-written free [] before at end_ k bytes v from apart inside is are counted long = tt
placed-written free (r ∷ rs) before at end_ k bytes v from apart inside is are counted long =
    let last = inside.0 in
    elim is [
      | inl here ↦ (
          let low = here.0 in
          let high = here.1 in
          let k_is = here.2 in
          let fits : at + length from ≤ length v = omega (arith, high, last, long) in
          let room : k + length from ≤ length bytes = omega (arith, low, high, k_is, counted, long) in (
            part-around_written v r.at r.len at from low (omega (arith, high, long)) last
                ∙ ap (λ l. written l (at - r.at) from) are.0
                ∙ ap (λ n. written (part bytes before r.len) n from) (omega (arith, low, k_is))
                ∙ sym (part-around_written bytes before r.len k from (omega (arith, k_is)) (omega (arith, low, high, k_is, long)) (omega (arith, counted))),
            parts-same (r.at + r.len + 1) rs (before + r.len) bytes (written bytes k from) v (written v at from) apart.1
                (λ start len past. part-behind_written v at from start len fits (omega (arith, past, high, long)))
                (λ start len past. part-behind_written bytes k from start len room (omega (arith, past, low, high, k_is, long))) are.1,
          ))
      | inr later ↦ (
          let places = placed-within (r.at + r.len + 1) rs (before + r.len) at end_ k (length v) (length bytes) apart.1 inside.1 later (omega (arith, counted)) (omega (arith, long)) in
          let past = places.0 in
          let ends = places.1 in
          let more = places.2 in
          let room = places.3 in (
            part-before_written v at from r.at r.len (omega (arith, ends, long)) (omega (arith, past))
                ∙ are.0
                ∙ sym (part-before_written bytes k from before r.len (omega (arith, room, long)) more),
            placed-written (r.at + r.len + 1) rs (before + r.len) at end_ k bytes v from apart.1 inside.1 later are.1 (omega (arith, counted)) long,
          ))
    ]

-- of places of one range some
pub placed-some : (rs : List Part) (before at end_ k a e : ℕ) → at ≤ a → e ≤ end_ → IsPlaced rs before at end_ k → IsPlaced rs before a e (k + (a - at))
unfolding IsPlaced
placed-some [] before at end_ k a e low high is = is
placed-some (r ∷ rs) before at end_ k a e low high is = elim is [
  | inl here ↦ (
      let first = here.0 in
      let last = here.1 in
      let k_is = here.2 in
      inl (omega (arith, first, low), omega (arith, last, high), omega (arith, k_is, first, low)))
  | inr later ↦ inr (placed-some rs (before + r.len) at end_ k a e low high later)
]

-- so many of these, from the one numbered `start` on
pub placed-part : (rs : List Part) (at n k start m : ℕ) → start + m ≤ n → IsPlaced rs 0 at (at + n) k → IsPlaced rs 0 (at + start) ((at + start) + m) (k + start)
placed-part rs at n k start m inside is =
    let e : k + ((at + start) - at) ≡ k + start = omega arith in
    subst (λ j. IsPlaced rs 0 (at + start) ((at + start) + m) j) e
    (placed-some rs 0 at (at + n) k (at + start) ((at + start) + m) (omega arith) (omega (arith, inside)) is)

-- they are of the volume, and their bytes of those that are held
pub placed-fits : (rs : List Part) (at n k total count : ℕ) → AreApart 0 rs → AreInside total rs → parts_length rs ≡ count → IsPlaced rs 0 at (at + n) k
    → (at + n ≤ total) × (k + n ≤ count)
placed-fits rs at n k total count apart inside counted is =
    let all = placed-within 0 rs 0 at (at + n) k total count apart inside is (omega (arith, counted)) (omega arith) in
    let room = all.3 in
    (all.1, omega (arith, room))
