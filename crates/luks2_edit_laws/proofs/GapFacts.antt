-- The least place for a new area.
use Rattle.std.proofs.Common.{◌≡◌, ℕ, ◌+◌, ◌<◌, ◌≤◌, Bool, true, false, cond, nat_lt, List, [], ◌∷◌, Option, Some, None, option_map, refl, sym, ap, ◌∙◌, inl, inr, subst, arith}
use Rattle.std.specs.Prelude.{◌&&◌}
use Rattle.std.specs.List.{find}
use Rattle.std.proofs.lemmas.Bool.{true≢false, and_parts, and_from, ltb-true, lt-ltb, cases_lt}
use Rattle.luks_area.specs.declared.area.Area.{Area}
use Rattle.luks_area.specs.declared.area.AreaName.{AreaName}
use Rattle.luks_area.specs.declared.areas.Entry.{Entry}
use Rattle.luks_area.specs.Area.{AreDisjoint, LiesIn}
use Rattle.luks_area.specs.Names.{HasArea}
use Rattle.luks_area.specs.Scan.{do_meet}
use Rattle.luks2_edit_laws.specs.Gap.{area_at, IsGap, IsLeastGap}
use Rattle.luks2_edit_laws.specs.GapSearch.{HasNoGapBefore, IsNextBlock}

-- ---- areas that meet

record Span (a b : Area) : Type 0 where
  a_some : 0 < a.len
  b_some : 0 < b.len
  a_first : a.start < b.start + b.len
  b_first : b.start < a.start + a.len

span : (a b : Area) → do_meet a b ≡ true → Span a b
span a b h =
    let four = and_parts (nat_lt 0 a.len && nat_lt 0 b.len && nat_lt a.start (b.start + b.len)) (nat_lt b.start (a.start + a.len)) h in
    let three = and_parts (nat_lt 0 a.len && nat_lt 0 b.len) (nat_lt a.start (b.start + b.len)) four.0 in
    let two = and_parts (nat_lt 0 a.len) (nat_lt 0 b.len) three.0 in
    record {
      a_some = ltb-true 0 a.len two.0;
      b_some = ltb-true 0 b.len two.1;
      a_first = ltb-true a.start (b.start + b.len) three.1;
      b_first = ltb-true b.start (a.start + a.len) four.1;
    }

meet_at : (a b : Area) (p : ℕ) → LiesIn p a → LiesIn p b → do_meet a b ≡ true
meet_at a b p in_a in_b =
    and_from _ _ (and_from _ _ (and_from _ _
    (lt-ltb 0 a.len (omega (arith, in_a.0, in_a.1)))
    (lt-ltb 0 b.len (omega (arith, in_b.0, in_b.1))))
    (lt-ltb a.start (b.start + b.len) (omega (arith, in_a.0, in_b.1))))
    (lt-ltb b.start (a.start + a.len) (omega (arith, in_b.0, in_a.1)))

apart : (a b : Area) → do_meet a b ≡ false → AreDisjoint a b
apart a b off = λ p in_a in_b. true≢false (sym (meet_at a b p in_a in_b) ∙ off)

-- ---- what the scan finds

pub record Meets (es : List Entry) (new a : Area) : Type 0 where
  pub name : AreaName
  pub has : HasArea es name a
  pub meets : do_meet a new ≡ true

abbrev pub FindsMeeting : Area → List Entry → Option Area → Type 0
FindsMeeting new es None = (n : AreaName) (a : Area) → HasArea es n a → do_meet a new ≡ false
FindsMeeting new es (Some a) = Meets es new a

found_by : (b : Bool) (new : Area) (e : Entry) (es : List Entry) (o : Option Entry) → do_meet e.area new ≡ b → FindsMeeting new es (option_map (λ x. x.area) o)
    → FindsMeeting new (e ∷ es) (option_map (λ x. x.area) (cond b (Some e) o))
found_by true new e es o is f = record { name = e.name; has = inl (refl, refl); meets = is }
found_by false new e es None is f = λ n a h. elim h [ inl same ↦ ap (λ x. do_meet x new) (sym same.1) ∙ is | inr later ↦ f n a later ]
found_by false new e es (Some x) is f = record { name = f.name; has = inr f.has; meets = f.meets }

found : (new : Area) (es : List Entry) → FindsMeeting new es (option_map (λ x. x.area) (find (λ x. do_meet x.area new) es))
found new [] = λ n a h. absurd h
found new (e ∷ es) = found_by (do_meet e.area new) new e es (find (λ x. do_meet x.area new) es) refl (found new es)

pub finds : (new : Area) (es : List Entry) (o : Option Area) → o ≡ option_map (λ x. x.area) (find (λ x. do_meet x.area new) es) → FindsMeeting new es o
finds new es o e = subst (FindsMeeting new es) (sym e) (found new es)

-- ---- where no gap is

module _ (es : List Entry) (low high len : ℕ) where
  pub first_block : (at : ℕ) → IsNextBlock low at → HasNoGapBefore (HasArea es) low high len at
  first_block at h = record {
    block = h.block;
    aligned = h.aligned;
    from = h.from;
    none = λ p g. omega (arith, h.aligned, h.near, g.aligned, g.from);
  }

  lies_so : (a : Area) (p : ℕ) → a.start ≤ p → p < a.start + a.len → LiesIn p a
  lies_so a p x y = (x, y)

  -- a gap that isn't before the place begins after the area that meets it there
  pub past_area : (at : ℕ) (a : Area) → HasNoGapBefore (HasArea es) low high len at → Meets es (area_at at len) a → (p : ℕ) → IsGap (HasArea es) low high len p → a.start + a.len ≤ p
  past_area at a h m p g =
      let s = span a (area_at at len) m.meets in
      let later : at ≤ p = h.none p g in
      let some : 0 < len = s.b_some in
      let first : a.start < at + len = s.a_first in
      let over : 0 < a.len = s.a_some in
      elim (cases_lt p (a.start + a.len)) [
        | inr past ↦ past
        | inl inside ↦ absurd (elim (cases_lt p a.start) [
          | inl before ↦ g.free m.name a m.has a.start (lies_so a a.start (omega arith) (omega (arith, over))) (lies_so (area_at p len) a.start (omega (arith, before)) (omega (arith, first, later)))
          | inr from ↦ g.free m.name a m.has p (lies_so a p from inside) (lies_so (area_at p len) p (omega arith) (omega (arith, some)))
        ])
      ]

  pub next_place : (at later : ℕ) (a : Area) → HasNoGapBefore (HasArea es) low high len at → Meets es (area_at at len) a → IsNextBlock (a.start + a.len) later
      → HasNoGapBefore (HasArea es) low high len later
  next_place at later a h m n =
      let s = span a (area_at at len) m.meets in
      let past : at < a.start + a.len = s.b_first in
      record {
        block = n.block;
        aligned = n.aligned;
        from = omega (arith, h.from, past, n.from);
        none = λ p g. (let beyond : a.start + a.len ≤ p = past_area at a h m p g in omega (arith, n.aligned, n.near, g.aligned, beyond));
      }

  pub gap_at : (at : ℕ) → HasNoGapBefore (HasArea es) low high len at → at + len ≤ high → FindsMeeting (area_at at len) es None → IsLeastGap (HasArea es) low high len at
  gap_at at h fits f = record {
    gap = record { block = h.block; aligned = h.aligned; from = h.from; to = fits; free = λ n a has. apart a (area_at at len) (f n a has) };
    least = h.none;
  }

  pub none_left : (at : ℕ) → HasNoGapBefore (HasArea es) low high len at → high < at + len → (p : ℕ) → IsGap (HasArea es) low high len p → ⊥
  none_left at h over p g = let later : at ≤ p = h.none p g in omega (arith, over, later, g.to)

  pub none_after : (at : ℕ) (a : Area) → HasNoGapBefore (HasArea es) low high len at → Meets es (area_at at len) a → high < a.start + a.len + len → (p : ℕ) → IsGap (HasArea es) low high len p → ⊥
  none_after at a h m over p g = let later : a.start + a.len ≤ p = past_area at a h m p g in omega (arith, over, later, g.to)

pub meets_after : (es : List Entry) (at len : ℕ) (a : Area) → Meets es (area_at at len) a → at < a.start + a.len
meets_after es at len a m = (span a (area_at at len) m.meets).b_first
