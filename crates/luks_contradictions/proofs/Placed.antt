-- Where a segment lies, and how it stands to another: the tests say what the definitions do.
use Rattle.std.proofs.Common.{◌≡◌, ℕ, ◌+◌, ◌≤◌, Bool, true, false, ◌&&◌, ◌⊎◌, List, Option, Some, None, codes, is_some, option_map, option_and_then, refl, sym, ap, subst, ◌∙◌, inl, inr, arith}
use Rattle.std.specs.Prelude.{not, nat_le, bytes_eq}
use Rattle.std.specs.Option.{option_map_or}
use Rattle.std.proofs.lemmas.Bool.{and_from, and_parts, cases_Bool, false≢true, true≢false, eq-eqb, eqb-true, le-leb, leb-true}
use Rattle.std.proofs.lemmas.Slice.Eq.{bytes_eq-Decides}
use Rattle.serde_json.specs.Data.{Data}
use Rattle.luks_json.specs.Decimal.{decimal_of}
use Rattle.luks_rules.specs.declared.table.Member.TheVariants as name
use Rattle.luks_rules.specs.declared.table.Outer.TheVariants as outer
use Rattle.luks_rules.specs.Faults.{member_at}
use Rattle.luks_rules.specs.Reading.{Field, dynamic, whole, extent_of, text_of}
use Rattle.luks_rules.specs.Table.{segment_rows}
use Rattle.luks_meta.proofs.RowsRead.{at_top}
use Rattle.luks_underway.specs.Members.{positive_in}
use Rattle.luks_underway.specs.Segments.{IsWideSegment, IsPlainOrOpal, plain, opal}
use Rattle.luks_underway.proofs.Typed.{extent_text, no_decimal, positive}
use Rattle.luks_contradictions.specs.Consistent.{EndsWithin, IsApart, IsBefore, IsLike, IsWithin, Lies}
use Rattle.luks_contradictions.specs.Contradictions.{end_of, is_before, is_like, is_meeting, is_not_behind, is_within, same_number, same_text, size_of, start_of}

-- ---- what a segment tells

-- the extent of a segment, if it tells one
abbrev extent_at : Data → Option Field
extent_at d = option_and_then extent_of (text_of (member_at d outer.Top name.Size))

pub data HasSize (d : Data) : Type 0 where
  fixed : (n : ℕ) → size_of d ≡ Some n → extent_at d ≡ Some (whole n) → HasSize d
  unended : size_of d ≡ None → extent_at d ≡ Some dynamic → HasSize d

pub record IsPlaced (d : Data) : Type 0 where
  pub start : ℕ
  pub starts : start_of d ≡ Some start
  pub sized : HasSize d

some_there : {A : Type 0} (o : Option A) → is_some o ≡ true → (x : A) × (o ≡ Some x)
some_there None h = absurd (false≢true h)
some_there (Some x) h = (x, refl)

map_there : {A B : Type 0} (f : A → B) (o : Option A) → is_some (option_map f o) ≡ true → is_some o ≡ true
map_there f None h = h
map_there f (Some x) h = refl

no_dynamic : (o : Option ℕ) → decimal_of (codes "dynamic") ≡ o → o ≡ None
no_dynamic None e = refl
no_dynamic (Some n) e = absurd (no_decimal n e)

size_text : (d : Data) (t : List ℕ) → text_of (member_at d outer.Top name.Size) ≡ Some t → is_some (extent_of t) ≡ true → HasSize d
size_text d t is there = elim (cases_Bool (bytes_eq t (codes "dynamic"))) [
  | inl same ↦
      let at : t ≡ codes "dynamic" = (bytes_eq-Decides t (codes "dynamic")).0 same in
      unended (rw (is, at) (no_dynamic _ refl)) (rw (is, same) refl)
  | inr other ↦
      let n = some_there (decimal_of t) (map_there whole (decimal_of t) (rw other at there)) in
      fixed n.0 (rw is n.1) (rw is (extent_text t n.0 n.1))
]

size_of_plain : (d : Data) (o : Option (List ℕ)) → text_of (member_at d outer.Top name.Size) ≡ o → is_some (option_and_then extent_of o) ≡ true → HasSize d
size_of_plain d None is there = absurd (false≢true there)
size_of_plain d (Some t) is there = size_text d t is there

size_of_opal : (d : Data) (o : Option (List ℕ)) (n : ℕ) → text_of (member_at d outer.Top name.Size) ≡ o → option_and_then decimal_of o ≡ Some n → HasSize d
size_of_opal d None n is e = absurd (cc)
size_of_opal d (Some t) n is e = fixed n (rw is e) (rw is (extent_text t n e))

by_kind : (d : Data) → IsPlainOrOpal d → IsPlaced d
by_kind d (plain read) =
    let offset = some_there (start_of d) (map_there whole (start_of d) (at_top segment_rows d name.Offset _ read refl refl refl)) in
    record {
      start = offset.0;
      starts = offset.1;
      sized = size_of_plain d _ refl (at_top segment_rows d name.Size _ read refl refl refl);
    }
by_kind d (opal place kind) =
    let offset = some_there (start_of d) place.offset in
    let size = some_there (positive_in (member_at d outer.Top name.Size)) place.size in
    record {
      start = offset.0;
      starts = offset.1;
      sized = size_of_opal d _ size.0 refl (positive (size_of d) size.0 size.1);
    }

pub placed : (d : Data) → IsWideSegment d → IsPlaced d
placed d w = by_kind d w.rest

-- ---- where it lies

whole_same : (n m : ℕ) → whole n ≡ whole m → n ≡ m
whole_same n m e = cc

some_same : {A : Type 0} (x y : A) → Some x ≡ Some y → x ≡ y
some_same x y e = cc

-- it begins where it says, and ends so
pub record IsAt (d : Data) (start : ℕ) (end : Option ℕ) : Type 0 where
  pub starts : start_of d ≡ Some start
  pub ends : end_of d ≡ end

no_end : (d : Data) → size_of d ≡ None → (start : ℕ) → start_of d ≡ Some start → end_of d ≡ None
no_end d none start is = rw (is, none) refl

an_end : (d : Data) (n start : ℕ) → size_of d ≡ Some n → start_of d ≡ Some start → end_of d ≡ Some (start + n)
an_end d n start size is = rw (is, size) refl

pub is_at : (d : Data) → IsPlaced d → (start : ℕ) (end : Option ℕ) → Lies d start end → IsAt d start end
is_at d p start None lies = record { starts = lies.begins; ends = by p.sized }
  where
    by : HasSize d → end_of d ≡ None
    by (fixed n size extent) = absurd (let clash : Some (whole n) ≡ Some dynamic = sym extent ∙ lies.goes_on refl in cc)
    by (unended none extent) = no_end d none start lies.begins
is_at d p start (Some end) lies = record { starts = lies.begins; ends = by p.sized (lies.ends end refl) }
  where
    by : HasSize d → (size : ℕ) × (extent_at d ≡ Some (whole size)) × (end ≡ start + size) → end_of d ≡ Some end
    by (fixed n size extent) told =
        let same : n ≡ told.0 = whole_same n told.0 (some_same _ _ (sym extent ∙ told.1)) in
        an_end d n start size lies.begins ∙ ap Some (omega (arith, same, told.2))
    by (unended none extent) told = absurd (let clash : Some dynamic ≡ Some (whole told.0) = sym extent ∙ told.1 in cc)

pub lies_at : (d : Data) (p : IsPlaced d) → Lies d p.start (end_of d)
lies_at d p = by p.sized
  where
    by : HasSize d → Lies d p.start (end_of d)
    by (fixed n size extent) =
        let e : end_of d ≡ Some (p.start + n) = an_end d n p.start size p.starts in
        rw e record {
          begins = p.starts;
          ends = λ m is. (n, extent, sym (some_same _ _ is));
          goes_on = λ none. absurd (let clash : Some (p.start + n) ≡ None = none in cc);
        }
    by (unended none extent) =
        let e : end_of d ≡ None = no_end d none p.start p.starts in
        rw e record {
          begins = p.starts;
          ends = λ m is. absurd (let clash : None ≡ Some m = is in cc);
          goes_on = λ _. extent;
        }

-- it goes on to the end of the device exactly where no length is told
pub no_size : (d : Data) → IsPlaced d → (start : ℕ) → Lies d start None → size_of d ≡ None
no_size d p start lies = by p.sized
  where
    by : HasSize d → size_of d ≡ None
    by (fixed n size extent) = absurd (let clash : Some (whole n) ≡ Some dynamic = sym extent ∙ lies.goes_on refl in cc)
    by (unended none extent) = none

pub lies_on : (d : Data) (p : IsPlaced d) → size_of d ≡ None → Lies d p.start None
lies_on d p none = subst (Lies d p.start) (no_end d none p.start p.starts) (lies_at d p)

-- ---- within another

ends_within : (a b : Option ℕ) → is_not_behind a b ≡ true → EndsWithin a b
ends_within a None h = tt
ends_within None (Some m) h = absurd (false≢true h)
ends_within (Some n) (Some m) h = leb-true n m h

not_behind : (a b : Option ℕ) → EndsWithin a b → is_not_behind a b ≡ true
not_behind None None h = refl
not_behind (Some n) None h = refl
not_behind None (Some m) h = elim h [ ]
not_behind (Some n) (Some m) h = le-leb n m h

begins_by : (o p : Option ℕ) (least start : ℕ) → o ≡ Some least → p ≡ Some start → is_not_behind o p ≡ true → least ≤ start
begins_by o p least start e f h = leb-true least start (rw (e, f) at h)

ends_by : (o p end most : Option ℕ) → o ≡ end → p ≡ most → is_not_behind o p ≡ true → EndsWithin end most
ends_by o p end most e f h = ends_within end most (rw (e, f) at h)

pub within_of : (d e : Data) → IsPlaced d → IsPlaced e → is_within d e ≡ true → IsWithin d e
within_of d e p q h = λ start least end most lies around.
    let a = is_at d p start end lies in
    let b = is_at e q least most around in
    let parts = and_parts _ _ h in
    (begins_by (start_of e) (start_of d) least start b.starts a.starts parts.0, ends_by (end_of d) (end_of e) end most a.ends b.ends parts.1)

pub within_is : (d e : Data) → IsPlaced d → IsPlaced e → IsWithin d e → is_within d e ≡ true
within_is d e p q h =
    let r = h p.start q.start (end_of d) (end_of e) (lies_at d p) (lies_at e q) in
    and_from _ _ (rw (p.starts, q.starts) (le-leb q.start p.start r.0)) (not_behind (end_of d) (end_of e) r.1)

-- ---- apart from another

ends_before : (o : Option ℕ) (start : ℕ) → option_map_or (λ end. nat_le end start) o false ≡ true → IsBefore o start
ends_before None start h = absurd (false≢true h)
ends_before (Some end) start h = leb-true end start h

before_ends : (o : Option ℕ) (start : ℕ) → IsBefore o start → option_map_or (λ end. nat_le end start) o false ≡ true
before_ends None start h = elim h [ ]
before_ends (Some end) start h = le-leb end start h

before_at : (d e : Data) (start : ℕ) → start_of e ≡ Some start → is_before d e ≡ option_map_or (λ end. nat_le end start) (end_of d) false
before_at d e start is = rw is refl

-- they meet, or one ends before the other begins
one_before : (a b : Bool) → (not a && not b) ≡ false → (a ≡ true) ⊎ (b ≡ true)
one_before true b h = inl refl
one_before false true h = inr refl
one_before false false h = absurd (true≢false h)

meet_not : (a b : Bool) → (a ≡ true) ⊎ (b ≡ true) → (not a && not b) ≡ false
meet_not true b h = refl
meet_not false true h = refl
meet_not false false h = absurd (elim h [ inl e ↦ false≢true e | inr e ↦ false≢true e ])

-- of the later one, as it is tested
pub apart_of : (d e : Data) → IsPlaced d → IsPlaced e → is_meeting e d ≡ false → IsApart d e
apart_of d e p q h = λ start at end stop lies other.
    let a = is_at d p start end lies in
    let b = is_at e q at stop other in
    elim (one_before (is_before e d) (is_before d e) h) [
      | inl first ↦ inr (subst (λ o. IsBefore o start) b.ends (ends_before (end_of e) start (sym (before_at e d start a.starts) ∙ first)))
      | inr first ↦ inl (subst (λ o. IsBefore o at) a.ends (ends_before (end_of d) at (sym (before_at d e at b.starts) ∙ first)))
    ]

pub apart_is : (d e : Data) → IsPlaced d → IsPlaced e → IsApart d e → is_meeting e d ≡ false
apart_is d e p q h = meet_not (is_before e d) (is_before d e) (elim (h p.start q.start (end_of d) (end_of e) (lies_at d p) (lies_at e q)) [
  | inl first ↦ inr (before_at d e q.start q.starts ∙ before_ends (end_of d) q.start first)
  | inr first ↦ inl (before_at e d p.start p.starts ∙ before_ends (end_of e) p.start first)
])

-- ---- like another

texts_same : (a b : Option (List ℕ)) → same_text a b ≡ true → a ≡ b
texts_same None None h = refl
texts_same None (Some b) h = absurd (false≢true h)
texts_same (Some a) None h = absurd (false≢true h)
texts_same (Some a) (Some b) h = ap Some ((bytes_eq-Decides a b).0 h)

same_texts : (a b : Option (List ℕ)) → a ≡ b → same_text a b ≡ true
same_texts None None e = refl
same_texts None (Some b) e = absurd (cc)
same_texts (Some a) None e = absurd (cc)
same_texts (Some a) (Some b) e = (bytes_eq-Decides a b).1 (some_same a b e)

numbers_same : (a b : Option ℕ) → same_number a b ≡ true → a ≡ b
numbers_same None None h = refl
numbers_same None (Some b) h = absurd (false≢true h)
numbers_same (Some a) None h = absurd (false≢true h)
numbers_same (Some a) (Some b) h = ap Some (eqb-true a b h)

same_numbers : (a b : Option ℕ) → a ≡ b → same_number a b ≡ true
same_numbers None None e = refl
same_numbers None (Some b) e = absurd (cc)
same_numbers (Some a) None e = absurd (cc)
same_numbers (Some a) (Some b) e = eq-eqb a b (some_same a b e)

pub like_of : (d e : Data) → is_like d e ≡ true → IsLike d e
like_of d e h =
    let p = and_parts _ _ h in
    let q = and_parts _ _ p.0 in
    record { kind = texts_same _ _ q.0; cipher = texts_same _ _ q.1; sector = numbers_same _ _ p.1 }

pub like_is : (d e : Data) → IsLike d e → is_like d e ≡ true
like_is d e l = and_from _ _ (and_from _ _ (same_texts _ _ l.kind) (same_texts _ _ l.cipher)) (same_numbers _ _ l.sector)
