-- What is under way contradicts itself at no place exactly where it is consistent.
use Rattle.std.proofs.Common.{◌≡◌, ℕ, zero, suc, ◌+◌, ◌<◌, ◌≤◌, Bool, true, false, ◌&&◌, ◌⊎◌, List, Option, Some, None, codes, refl, sym, ap, subst, ◌∙◌, inl, inr, arith}
use Rattle.std.specs.Prelude.{◌||◌, ◌==◌, not, nat_lt}
use Rattle.std.specs.Option.{option_map_or}
use Rattle.std.proofs.lemmas.Bool.{and_cases, and_from, and_parts, cases_Bool, cases_eq, cases_lt, eq-eqb, eqb-true, false_from_ne_true, false≢true, le-ltb, lt-ltb, ltb-false, ltb-true, not_from_false, not_from_true, or_cases, or_from, or_parts}
use Rattle.serde_json.specs.Data.{Data}
use Rattle.luks_rules.specs.declared.table.Section.TheVariants.{Segments as SegmentsMap}
use Rattle.luks_rules.specs.Accepted.{HasObject}
use Rattle.luks_rules.specs.Faults.{object_at}
use Rattle.luks_underway.specs.Kinds.{has_opal, has_reencrypt, is_hot, is_kept_back}
use Rattle.luks_underway.specs.Segments.{has_flag}
use Rattle.luks_contradictions.specs.Consistent.{IsApart, IsConsistent, IsInUse, IsLike, IsOnly, IsParted, IsWithin, Lies, requires_opal, requires_reencryption}
use Rattle.luks_contradictions.specs.Contradicted.{AreWideSegments, contradicts, has_out_of_place}
use Rattle.luks_contradictions.specs.Contradictions.{all_below, any_below, any_beside, count_marked, has_beside, has_marked, is_beside, is_gapped, is_hot_outside, is_like, is_marked, is_meeting, is_miscounted, is_misparted, is_out_of_place, is_unended, is_unlike, is_within, lacks_requirement, size_of}
use Rattle.luks_contradictions.specs.declared.contradiction.Contradiction.{Contradiction}
use Rattle.luks_contradictions.specs.declared.contradiction.Contradiction.TheVariants.{Keyslot, Requirements, Segment, Segments}
use Rattle.luks_contradictions.specs.declared.marks.Mark.{Mark}
use Rattle.luks_contradictions.specs.declared.marks.Mark.TheVariants as mark
use Rattle.luks_contradictions.specs.declared.marks.Beside.{Beside}
use Rattle.luks_contradictions.specs.declared.marks.Beside.TheVariants as beside
use Rattle.luks_contradictions.proofs.Counted.{all_from, any_at, count_few, count_some, each_below, front_counted, front_of, none_below, one_counted, some_below, some_counted}
use Rattle.luks_contradictions.proofs.Placed.{apart_is, apart_of, IsPlaced, lies_on, like_is, like_of, no_size, placed, within_is, within_of}
use Rattle.luks_contradictions.proofs.UnderWayFacts.{held_by}

-- ---- tests

after : (a b : Bool) → a ≡ true → (a && b) ≡ false → b ≡ false
after true b is e = e
after false b is e = absurd (false≢true is)

then_true : (a b : Bool) → (a && not b) ≡ false → a ≡ true → b ≡ true
then_true true true e is = refl
then_true true false e is = absurd (cc)
then_true false b e is = absurd (false≢true is)

unless : (a b : Bool) → (a ≡ true → b ≡ true) → (a && not b) ≡ false
unless true true h = refl
unless true false h = absurd (false≢true (h refl))
unless false b h = refl

not_off : (b : Bool) → not b ≡ false → b ≡ true
not_off true e = refl
not_off false e = absurd (cc)

not_on : (b : Bool) → not b ≡ true → b ≡ false
not_on true e = absurd (cc)
not_on false e = refl

some_more : (n : ℕ) → (n == 0) ≡ false → 1 ≤ n
some_more zero e = absurd (cc)
some_more (suc n) e = omega arith

no_zero : (n : ℕ) → 1 ≤ n → (n == 0) ≡ false
no_zero n h = false_from_ne_true _ (λ e. let z : n ≡ 0 = eqb-true n 0 e in omega (arith, h, z))

-- of three and of four tests none holds
three_off : (a b c : Bool) → (a || b || c) ≡ false → (a ≡ false) × (b ≡ false) × (c ≡ false)
three_off a b c h =
    let p = or_parts (a || b) c h in
    let q = or_parts a b p.0 in
    (q.0, q.1, p.1)

four_off : (a b c d : Bool) → (a || b || c || d) ≡ false → (a ≡ false) × (b ≡ false) × (c ≡ false) × (d ≡ false)
four_off a b c d h =
    let p = or_parts (a || b || c) d h in
    let q = three_off a b c p.0 in
    (q.0, q.1, q.2, p.1)

some_same : {A : Type 0} (x y : A) → Some x ≡ Some y → x ≡ y
some_same x y e = cc

-- ---- segments by their marks

has_object : (j : Data) (n : ℕ) (d : Data) → n < 32 → object_at j SegmentsMap n ≡ Some d → HasObject j SegmentsMap n d
has_object j n d less is = record { numbered = refl; named = less; is = is }

marked_at : (m : Mark) (j : Data) (n : ℕ) (d : Data) → object_at j SegmentsMap n ≡ Some d → is_marked m d ≡ true → has_marked m j n ≡ true
marked_at m j n d is h = rw is h

mark_of : (m : Mark) (j : Data) (n : ℕ) (d : Data) → object_at j SegmentsMap n ≡ Some d → has_marked m j n ≡ true → is_marked m d ≡ true
mark_of m j n d is h = rw is at h

used_at : (j : Data) (n : ℕ) (d : Data) → IsInUse j n d → has_marked mark.Used j n ≡ true
used_at j n d u = marked_at mark.Used j n d u.held.is (not_from_false _ u.used)

in_use : (j : Data) (n : ℕ) → n < 32 → has_marked mark.Used j n ≡ true → (d : Data) × IsInUse j n d
in_use j n less is =
    let h = held_by (is_marked mark.Used) (object_at j SegmentsMap n) is in
    (h.0, record { held = has_object j n h.0 less h.1; used = not_on _ h.2 })

-- the segment that is marked so, of which there is one
record IsOne (m : Mark) (j : Data) : Type 0 where
  number : ℕ
  named : number < 32
  segment : Data
  is : object_at j SegmentsMap number ≡ Some segment
  marked : is_marked m segment ≡ true
  only : (k : ℕ) → k < 32 → has_marked m j k ≡ true → k ≡ number

one_of : (m : Mark) (j : Data) → count_marked m j ≡ 1 → IsOne m j
one_of m j once =
    let s = some_counted (has_marked m j) 32 (omega (arith, once)) in
    let h = held_by (is_marked m) (object_at j SegmentsMap s.0) s.2 in
    record {
      number = s.0;
      named = s.1;
      segment = h.0;
      is = h.1;
      marked = h.2;
      only = λ k less is. one_counted (has_marked m j) 32 k s.0 (omega (arith, once)) less s.1 is s.2;
    }

-- a mark that says that a segment is kept back, and has the flag
abbrev IsKept : Mark → List ℕ → Type 0
IsKept m flag = (d : Data) → is_marked m d ≡ (is_kept_back d && has_flag flag d)

kept_mark : (m : Mark) (flag : List ℕ) → IsKept m flag → (j : Data) (n : ℕ) (d : Data) → HasObject j SegmentsMap n d → is_kept_back d ≡ true → has_flag flag d ≡ true → has_marked m j n ≡ true
kept_mark m flag kept j n d h back flagged = marked_at m j n d h.is (kept d ∙ and_from _ _ back flagged)

only_of : (m : Mark) (flag : List ℕ) → IsKept m flag → (j : Data) (o : IsOne m j) → IsOnly j flag o.number o.segment
only_of m flag kept j o =
    let p = and_parts _ _ (sym (kept o.segment) ∙ o.marked) in
    record {
      held = has_object j o.number o.segment o.named o.is;
      has = p.1;
      backup = p.0;
      only = λ k e h back flagged. o.only k h.named (kept_mark m flag kept j k e h back flagged);
    }

-- another segment stands so to it, where that is the one with a mark
abbrev StandsBy : Beside → Mark → (Data → Data → Bool) → Type 0
StandsBy b m test = (d e : Data) → is_beside b d e ≡ (is_marked m e && test d e)

by_one : (b : Beside) (m : Mark) (test : Data → Data → Bool) → StandsBy b m test → (j : Data) (o : IsOne m j) (d : Data) → any_beside b j d 32 ≡ true → test d o.segment ≡ true
by_one b m test stands j o d any =
    let s = some_below (has_beside b j d) 32 any in
    let h = held_by (is_beside b d) (object_at j SegmentsMap s.0) s.2 in
    let p = and_parts _ _ (sym (stands d h.0) ∙ h.2) in
    let at : s.0 ≡ o.number = o.only s.0 s.1 (marked_at m j s.0 h.0 h.1 p.0) in
    let same : h.0 ≡ o.segment = some_same h.0 o.segment (sym h.1 ∙ (ap (object_at j SegmentsMap) at ∙ o.is)) in
    subst (λ e. test d e ≡ true) same p.1

-- and the other way round
any_by : (b : Beside) (m : Mark) (test : Data → Data → Bool) → StandsBy b m test → (j : Data) (n : ℕ) (e d : Data) → HasObject j SegmentsMap n e → is_marked m e ≡ true → test d e ≡ true
    → any_beside b j d 32 ≡ true
any_by b m test stands j n e d h marked is = any_at (has_beside b j d) n 32 h.named (rw h.is (stands d e ∙ and_from _ _ marked is))

-- ---- where no place contradicts, all is consistent

module _ (j : Data) (off : (p : Contradiction) → contradicts j p ≡ false) where
  asked : (n : ℕ) → n < 32 → has_reencrypt j n ≡ true → requires_reencryption j ≡ true
  asked n less is =
      let p = or_parts (any_below (has_reencrypt j) 32 && not (requires_reencryption j)) (any_below (has_opal j) 32 && not (requires_opal j)) (off Requirements) in
      then_true _ _ p.0 (any_at (has_reencrypt j) n 32 less is)

  opal_asked : (n : ℕ) → n < 32 → has_opal j n ≡ true → requires_opal j ≡ true
  opal_asked n less is =
      let p = or_parts (any_below (has_reencrypt j) 32 && not (requires_reencryption j)) (any_below (has_opal j) 32 && not (requires_opal j)) (off Requirements) in
      then_true _ _ p.1 (any_at (has_opal j) n 32 less is)

  no_two : (n m : ℕ) → n < m → m < 32 → has_reencrypt j n ≡ true → has_reencrypt j m ≡ true → ⊥
  no_two n m before less isn ism =
      let h : contradicts j (Keyslot m) ≡ true = and_from _ _ (lt-ltb m 32 less) (and_from _ _ ism (any_at (has_reencrypt j) n m before isn)) in
      false≢true (sym (off (Keyslot m)) ∙ h)

  one_alone : (n m : ℕ) → n < 32 → m < 32 → has_reencrypt j n ≡ true → has_reencrypt j m ≡ true → n ≡ m
  one_alone n m ln lm isn ism = elim (cases_lt n m) [
    | inl before ↦ absurd (no_two n m before lm isn ism)
    | inr more ↦ elim (cases_lt m n) [
      | inl before ↦ absurd (no_two m n before ln ism isn)
      | inr at ↦ omega (arith, more, at)
    ]
  ]

-- the segments of a reencryption
module _ (j : Data) (wide : AreWideSegments j) (off : (p : Contradiction) → contradicts j p ≡ false) (any : any_below (has_reencrypt j) 32 ≡ true) where
  whole : (is_miscounted j ≡ false) × (is_gapped j ≡ false)
  whole = or_parts (is_miscounted j) (is_gapped j) (after _ _ any (off Segments))

  counts : (not (count_marked mark.Previous j == 1) ≡ false) × (not (count_marked mark.Final j == 1) ≡ false) × (nat_lt 1 (count_marked mark.Moved j) ≡ false) × (nat_lt 1 (count_marked mark.Hot j) ≡ false)
  counts = four_off (not (count_marked mark.Previous j == 1)) (not (count_marked mark.Final j == 1)) (nat_lt 1 (count_marked mark.Moved j)) (nat_lt 1 (count_marked mark.Hot j)) whole.0

  gaps : ((count_marked mark.Used j == 0) ≡ false) × (not (all_below (has_marked mark.Used j) (count_marked mark.Used j)) ≡ false) × (not (all_below (has_marked mark.There j) (count_marked mark.There j)) ≡ false)
  gaps = three_off (count_marked mark.Used j == 0) (not (all_below (has_marked mark.Used j) (count_marked mark.Used j))) (not (all_below (has_marked mark.There j) (count_marked mark.There j))) whole.1

  old_once : count_marked mark.Previous j ≡ 1
  old_once = eqb-true _ 1 (not_off _ counts.0)

  new_once : count_marked mark.Final j ≡ 1
  new_once = eqb-true _ 1 (not_off _ counts.1)

  moved_once : count_marked mark.Moved j ≤ 1
  moved_once = ltb-false 1 _ counts.2

  hot_once : count_marked mark.Hot j ≤ 1
  hot_once = ltb-false 1 _ counts.3

  one_used : 1 ≤ count_marked mark.Used j
  one_used = some_more _ gaps.0

  used_first : all_below (has_marked mark.Used j) (count_marked mark.Used j) ≡ true
  used_first = not_off _ gaps.1

  there_first : all_below (has_marked mark.There j) (count_marked mark.There j) ≡ true
  there_first = not_off _ gaps.2

  old : IsOne mark.Previous j
  old = one_of mark.Previous j old_once

  new : IsOne mark.Final j
  new = one_of mark.Final j new_once

  record IsWell (n : ℕ) (d : Data) : Type 0 where
    like : is_unlike j d ≡ false
    hot : is_hot_outside j d ≡ false
    ended : is_unended j n d ≡ false
    alone : any_beside beside.Meeting j d n ≡ false

  well : (n : ℕ) (d : Data) → IsInUse j n d → IsWell n d
  well n d u =
      let at : has_out_of_place j n ≡ false = after _ _ (lt-ltb n 32 u.held.named) (off (Segment n)) in
      let none : is_out_of_place j n d ≡ false = rw u.held.is at at in
      let judged : (any_below (has_reencrypt j) 32 && not (is_kept_back d)) ≡ true = and_from _ _ any (not_from_false _ u.used) in
      let p = four_off (is_unlike j d) (is_hot_outside j d) (is_unended j n d) (any_beside beside.Meeting j d n) (after _ _ judged none) in
      record { like = p.0; hot = p.1; ended = p.2; alone = p.3 }

  is_placed : (n : ℕ) (d : Data) → IsInUse j n d → IsPlaced d
  is_placed n d u = placed d (wide n d u.held)

  like_new : (d : Data) → any_beside beside.LikeFinal j d 32 ≡ true → IsLike d new.segment
  like_new d h = like_of d new.segment (by_one beside.LikeFinal mark.Final is_like (λ _ _. refl) j new d h)

  like_either : (n : ℕ) (d : Data) → IsInUse j n d → IsLike d new.segment ⊎ IsLike d old.segment
  like_either n d u = elim (and_cases _ _ (well n d u).like) [
    | inl a ↦ inl (like_new d (not_off _ a))
    | inr b ↦ inr (like_of d old.segment (by_one beside.LikePrevious mark.Previous is_like (λ _ _. refl) j old d (not_off _ (or_parts _ _ b).1)))
  ]

  hot_as_new : (n : ℕ) (d : Data) → IsInUse j n d → is_hot d ≡ true → IsLike d new.segment
  hot_as_new n d u hot = elim (and_cases _ _ (well n d u).like) [
    | inl a ↦ like_new d (not_off _ a)
    | inr b ↦ absurd (false≢true (sym (or_parts _ _ b).0 ∙ hot))
  ]

  hot_inside : (n : ℕ) (d : Data) → IsInUse j n d → is_hot d ≡ true → IsWithin d new.segment
  hot_inside n d u hot =
      let around = then_true _ _ (well n d u).hot hot in
      within_of d new.segment (is_placed n d u) (placed new.segment (wide new.number new.segment (has_object j new.number new.segment new.named new.is)))
      (by_one beside.AroundFinal mark.Final is_within (λ _ _. refl) j new d around)

  used_before : (n m : ℕ) (d : Data) → IsInUse j n d → m ≤ n → has_marked mark.Used j m ≡ true
  used_before n m d u le = elim (cases_eq n m) [
    | inl at ↦ rw (← at) (used_at j n d u)
    | inr other ↦ front_of (has_marked mark.Used j) 32 n m used_first u.held.named (omega (arith, le, other)) (used_at j n d u)
  ]

  last_alone : (n m : ℕ) (d e : Data) (start : ℕ) → IsInUse j n d → IsInUse j m e → n < m → Lies d start None → ⊥
  last_alone n m d e start u v before lies =
      let less : m < 32 = v.held.named in
      let none : size_of d ≡ None = no_size d (is_placed n d u) start lies in
      let behind = used_before m (n + 1) e v (omega (arith, before)) in
      let h : is_unended j n d ≡ true = rw none (and_from _ _ (lt-ltb n 31 (omega (arith, before, less))) behind) in
      false≢true (sym (well n d u).ended ∙ h)

  all_apart : (n m : ℕ) (d e : Data) → IsInUse j n d → IsInUse j m e → n < m → IsApart d e
  all_apart n m d e u v before =
      let none : has_beside beside.Meeting j e n ≡ false = none_below (has_beside beside.Meeting j e) m n (well m e v).alone before in
      let one : is_beside beside.Meeting e d ≡ false = rw u.held.is at none in
      apart_of d e (is_placed n d u) (is_placed m e v) (after _ _ (not_from_false _ u.used) one)

  parted : IsParted j
  parted = record {
    old_number = old.number;
    old = old.segment;
    new_number = new.number;
    new = new.segment;
    is_old = only_of mark.Previous (codes "backup-previous") (λ _. refl) j old;
    is_new = only_of mark.Final (codes "backup-final") (λ _. refl) j new;
    moved = λ n m d e h k back too flagged also.
        one_counted (has_marked mark.Moved j) 32 n m moved_once h.named k.named
        (kept_mark mark.Moved (codes "backup-moved-segment") (λ _. refl) j n d h back flagged)
        (kept_mark mark.Moved (codes "backup-moved-segment") (λ _. refl) j m e k too also);
    one_hot = λ n m d e u v hot also.
        one_counted (has_marked mark.Hot j) 32 n m hot_once u.held.named v.held.named
        (marked_at mark.Hot j n d u.held.is (and_from _ _ (not_from_false _ u.used) hot))
        (marked_at mark.Hot j m e v.held.is (and_from _ _ (not_from_false _ v.used) also));
    first = in_use j 0 (omega arith) (each_below (has_marked mark.Used j) (count_marked mark.Used j) 0 used_first (omega (arith, one_used)));
    no_gap = λ n m d h before.
        let less : n < 32 = h.named in
        let there = front_of (has_marked mark.There j) 32 n m there_first less before (marked_at mark.There j n d h.is refl) in
        let e = held_by (is_marked mark.There) (object_at j SegmentsMap m) there in
        (e.0, has_object j m e.0 (omega (arith, before, less)) e.1);
    in_front = λ n m d e u h before. not_on _ (mark_of mark.Used j m e h.is (used_before n m d u (omega (arith, before))));
    like = λ n d u cold. like_either n d u;
    hot_like = hot_as_new;
    hot_within = hot_inside;
    fixed = last_alone;
    apart = all_apart;
  }

pub consistent_of : (j : Data) → AreWideSegments j → ((p : Contradiction) → contradicts j p ≡ false) → IsConsistent j
consistent_of j wide off = record {
  required = asked j off;
  opal_required = opal_asked j off;
  one = one_alone j off;
  parted = λ n less is. parted j wide off (any_at (has_reencrypt j) n 32 less is);
}

-- ---- where all is consistent, no place contradicts

module _ (j : Data) (c : IsConsistent j) where
  requirements_off : lacks_requirement j ≡ false
  requirements_off = or_from _ _
      (unless _ _ (λ any. let s = some_below (has_reencrypt j) 32 any in c.required s.0 s.1 s.2))
      (unless _ _ (λ any. let s = some_below (has_opal j) 32 any in c.opal_required s.0 s.1 s.2))

  keyslot_off : (n : ℕ) → contradicts j (Keyslot n) ≡ true → ⊥
  keyslot_off n h =
      let p = and_parts _ _ h in
      let q = and_parts _ _ p.1 in
      let less : n < 32 = ltb-true n 32 p.0 in
      let s = some_below (has_reencrypt j) n q.1 in
      let at = c.one s.0 n (omega (arith, s.1, less)) less s.2 q.0 in
      omega (arith, at, s.1)

module _ (j : Data) (wide : AreWideSegments j) (p : IsParted j) where
  once : (m : Mark) (flag : List ℕ) → IsKept m flag → (n : ℕ) (d : Data) → IsOnly j flag n d → count_marked m j ≡ 1
  once m flag kept n d o =
      let some = count_some (has_marked m j) n 32 o.held.named (kept_mark m flag kept j n d o.held o.backup o.has) in
      let few = count_few (has_marked m j) 32 (λ a b la lb isa isb. only a la isa ∙ sym (only b lb isb)) in
      omega (arith, some, few)
    where
      only : (k : ℕ) → k < 32 → has_marked m j k ≡ true → k ≡ n
      only k less is =
          let h = held_by (is_marked m) (object_at j SegmentsMap k) is in
          let q = and_parts _ _ (sym (kept h.0) ∙ h.2) in
          o.only k h.0 (has_object j k h.0 less h.1) q.0 q.1

  few_moved : count_marked mark.Moved j ≤ 1
  few_moved = count_few (has_marked mark.Moved j) 32 (λ a b la lb isa isb.
      let h = held_by (is_marked mark.Moved) (object_at j SegmentsMap a) isa in
      let k = held_by (is_marked mark.Moved) (object_at j SegmentsMap b) isb in
      let q = and_parts _ _ h.2 in
      let r = and_parts _ _ k.2 in
      p.moved a b h.0 k.0 (has_object j a h.0 la h.1) (has_object j b k.0 lb k.1) q.0 r.0 q.1 r.1)

  few_hot : count_marked mark.Hot j ≤ 1
  few_hot = count_few (has_marked mark.Hot j) 32 (λ a b la lb isa isb.
      let h = held_by (is_marked mark.Hot) (object_at j SegmentsMap a) isa in
      let k = held_by (is_marked mark.Hot) (object_at j SegmentsMap b) isb in
      let q = and_parts _ _ h.2 in
      let r = and_parts _ _ k.2 in
      p.one_hot a b h.0 k.0 (record { held = has_object j a h.0 la h.1; used = not_on _ q.0 }) (record { held = has_object j b k.0 lb k.1; used = not_on _ r.0 }) q.1 r.1)

  miscounted_off : is_miscounted j ≡ false
  miscounted_off =
      or_from _ _ (or_from _ _ (or_from _ _
      (not_from_true _ (eq-eqb _ 1 (once mark.Previous (codes "backup-previous") (λ _. refl) p.old_number p.old p.is_old)))
      (not_from_true _ (eq-eqb _ 1 (once mark.Final (codes "backup-final") (λ _. refl) p.new_number p.new p.is_new))))
      (le-ltb 1 _ few_moved)) (le-ltb 1 _ few_hot)

  there_closed : (a b : ℕ) → a < 32 → b < a → has_marked mark.There j a ≡ true → has_marked mark.There j b ≡ true
  there_closed a b la before is =
      let h = held_by (is_marked mark.There) (object_at j SegmentsMap a) is in
      let e = p.no_gap a b h.0 (has_object j a h.0 la h.1) before in
      marked_at mark.There j b e.0 e.1.is refl

  used_closed : (a b : ℕ) → a < 32 → b < a → has_marked mark.Used j a ≡ true → has_marked mark.Used j b ≡ true
  used_closed a b la before is =
      let u = in_use j a la is in
      let e = p.no_gap a b u.0 u.1.held before in
      marked_at mark.Used j b e.0 e.1.is (not_from_false _ (p.in_front a b u.0 e.0 u.1 e.1 before))

  gapped_off : is_gapped j ≡ false
  gapped_off =
      let some = count_some (has_marked mark.Used j) 0 32 (omega arith) (used_at j 0 p.first.0 p.first.1) in
      or_from _ _ (or_from _ _ (no_zero _ some)
      (not_from_true _ (all_from (has_marked mark.Used j) (count_marked mark.Used j) (front_counted (has_marked mark.Used j) 32 32 used_closed (omega arith)))))
      (not_from_true _ (all_from (has_marked mark.There j) (count_marked mark.There j) (front_counted (has_marked mark.There j) 32 32 there_closed (omega arith))))

  new_mark : is_marked mark.Final p.new ≡ true
  new_mark = and_from _ _ p.is_new.backup p.is_new.has

  old_mark : is_marked mark.Previous p.old ≡ true
  old_mark = and_from _ _ p.is_old.backup p.is_old.has

  any_new : (d : Data) → IsLike d p.new → any_beside beside.LikeFinal j d 32 ≡ true
  any_new d l = any_by beside.LikeFinal mark.Final is_like (λ _ _. refl) j p.new_number p.new d p.is_new.held new_mark (like_is d p.new l)

  any_old : (d : Data) → IsLike d p.old → any_beside beside.LikePrevious j d 32 ≡ true
  any_old d l = any_by beside.LikePrevious mark.Previous is_like (λ _ _. refl) j p.old_number p.old d p.is_old.held old_mark (like_is d p.old l)

  unlike_not : (n : ℕ) (d : Data) → IsInUse j n d → is_unlike j d ≡ true → ⊥
  unlike_not n d u h =
      let q = and_parts _ _ h in
      let new_off : any_beside beside.LikeFinal j d 32 ≡ false = not_on _ q.0 in
      elim (cases_Bool (is_hot d)) [
        | inl hot ↦ false≢true (sym new_off ∙ any_new d (p.hot_like n d u hot))
        | inr cold ↦ elim (p.like n d u cold) [
          | inl as_new ↦ false≢true (sym new_off ∙ any_new d as_new)
          | inr as_old ↦ elim (or_cases _ _ q.1) [
            | inl hot ↦ false≢true (sym cold ∙ hot)
            | inr unlike ↦ false≢true (sym (not_on _ unlike) ∙ any_old d as_old)
          ]
        ]
      ]

  outside_not : (n : ℕ) (d : Data) → IsInUse j n d → is_hot_outside j d ≡ true → ⊥
  outside_not n d u h =
      let q = and_parts _ _ h in
      let inside = within_is d p.new (placed d (wide n d u.held)) (placed p.new (wide p.new_number p.new p.is_new.held)) (p.hot_within n d u q.0) in
      false≢true (sym (not_on _ q.1) ∙ any_by beside.AroundFinal mark.Final is_within (λ _ _. refl) j p.new_number p.new d p.is_new.held new_mark inside)

  none_told : (o : Option ℕ) → option_map_or (λ size. false) o true ≡ true → o ≡ None
  none_told None h = refl
  none_told (Some n) h = absurd (false≢true h)

  unended_not : (n : ℕ) (d : Data) → IsInUse j n d → is_unended j n d ≡ true → ⊥
  unended_not n d u h =
      let q = and_parts (option_map_or (λ size. false) (size_of d) true && nat_lt n 31) (has_marked mark.Used j (n + 1)) h in
      let r = and_parts (option_map_or (λ size. false) (size_of d) true) (nat_lt n 31) q.0 in
      let less : n < 31 = ltb-true n 31 r.1 in
      let v = in_use j (n + 1) (omega (arith, less)) q.1 in
      let at = placed d (wide n d u.held) in
      p.fixed n (n + 1) d v.0 at.start u v.1 (omega arith) (lies_on d at (none_told (size_of d) r.0))

  meeting_not : (n : ℕ) (d : Data) → IsInUse j n d → any_beside beside.Meeting j d n ≡ true → ⊥
  meeting_not n d u h =
      let s = some_below (has_beside beside.Meeting j d) n h in
      let k = held_by (is_beside beside.Meeting d) (object_at j SegmentsMap s.0) s.2 in
      let q = and_parts (is_marked mark.Used k.0) (is_meeting d k.0) k.2 in
      let less : n < 32 = u.held.named in
      let before : s.0 < n = s.1 in
      let held = has_object j s.0 k.0 (omega (arith, before, less)) k.1 in
      let v : IsInUse j s.0 k.0 = record { held = held; used = not_on _ q.0 } in
      let off = apart_is k.0 d (placed k.0 (wide s.0 k.0 held)) (placed d (wide n d u.held)) (p.apart s.0 n k.0 d v u before) in
      false≢true (sym off ∙ q.1)

  out_of_place_not : (n : ℕ) (d : Data) → n < 32 → object_at j SegmentsMap n ≡ Some d → is_kept_back d ≡ false
      → (is_unlike j d || is_hot_outside j d || is_unended j n d || any_beside beside.Meeting j d n) ≡ true → ⊥
  out_of_place_not n d less is used h =
      let u : IsInUse j n d = record { held = has_object j n d less is; used = used } in
      elim (or_cases (is_unlike j d || is_hot_outside j d || is_unended j n d) _ h) [
        | inr a ↦ meeting_not n d u a
        | inl more ↦ elim (or_cases (is_unlike j d || is_hot_outside j d) _ more) [
          | inr a ↦ unended_not n d u a
          | inl rest ↦ elim (or_cases (is_unlike j d) _ rest) [
            | inl a ↦ unlike_not n d u a
            | inr a ↦ outside_not n d u a
          ]
        ]
      ]

segments_not : (j : Data) → AreWideSegments j → IsConsistent j → is_misparted j ≡ true → ⊥
segments_not j wide c h =
    let q = and_parts (any_below (has_reencrypt j) 32) (is_miscounted j || is_gapped j) h in
    let s = some_below (has_reencrypt j) 32 q.0 in
    let p = c.parted s.0 s.1 s.2 in
    elim (or_cases (is_miscounted j) (is_gapped j) q.1) [
      | inl a ↦ false≢true (sym (miscounted_off j wide p) ∙ a)
      | inr a ↦ false≢true (sym (gapped_off j wide p) ∙ a)
    ]

segment_not : (j : Data) → AreWideSegments j → IsConsistent j → (n : ℕ) → contradicts j (Segment n) ≡ true → ⊥
segment_not j wide c n h =
    let q = and_parts _ _ h in
    let k = held_by (is_out_of_place j n) (object_at j SegmentsMap n) q.1 in
    let r = and_parts (any_below (has_reencrypt j) 32 && not (is_kept_back k.0)) (is_unlike j k.0 || is_hot_outside j k.0 || is_unended j n k.0 || any_beside beside.Meeting j k.0 n) k.2 in
    let t = and_parts (any_below (has_reencrypt j) 32) (not (is_kept_back k.0)) r.0 in
    let s = some_below (has_reencrypt j) 32 t.0 in
    out_of_place_not j wide (c.parted s.0 s.1 s.2) n k.0 (ltb-true n 32 q.0) k.1 (not_on _ t.1) r.1

pub nowhere_of : (j : Data) → AreWideSegments j → IsConsistent j → (p : Contradiction) → contradicts j p ≡ false
nowhere_of j wide c Requirements = requirements_off j c
nowhere_of j wide c (Keyslot n) = false_from_ne_true _ (keyslot_off j c n)
nowhere_of j wide c Segments = false_from_ne_true _ (segments_not j wide c)
nowhere_of j wide c (Segment n) = false_from_ne_true _ (segment_not j wide c n)
