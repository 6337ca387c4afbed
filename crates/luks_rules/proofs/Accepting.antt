-- A value is accepted exactly where no test finds a fault.
use Rattle.std.proofs.Common.{◌≡◌, ℕ, suc, zero, ◌+◌, ◌*◌, ◌≤◌, Bool, true, false, ◌&&◌, List, [], ◌∷◌, Option, Some, None, refl, sym, ap, inl, inr}
use Rattle.std.specs.Prelude.{◌||◌, ◌==◌, not, slice_get, option_and_then, is_some, codes}
use Rattle.std.specs.Option.{option_map_or}
use Rattle.std.specs.List.{list_any}
use Rattle.std.proofs.lemmas.Bool.{eqb-true, ltb-false}
use Rattle.serde_json.specs.Data.{Data, Items}
use Rattle.serde_json.specs.Find.{as_array, as_object}
use Rattle.luks_rules.specs.declared.table.Section.{Section}
use Rattle.luks_rules.specs.declared.table.Section.TheVariants.{Config, Keyslots, Segments}
use Rattle.luks_rules.specs.declared.table.Outer.{Outer}
use Rattle.luks_rules.specs.declared.table.Outer.TheVariants as outer
use Rattle.luks_rules.specs.declared.table.Rule.{Rule}
use Rattle.luks_rules.specs.declared.table.Rule.TheVariants as rule
use Rattle.luks_rules.specs.declared.table.Row.{Row}
use Rattle.luks_rules.specs.declared.place.Test.{Test}
use Rattle.luks_rules.specs.declared.place.Test.TheVariants as test
use Rattle.luks_rules.specs.Table.{config_rows, rows_of}
use Rattle.luks_rules.specs.Reading.{decimal_in, is_unlisted, number_in, reads}
use Rattle.luks_rules.specs.Faults.{Among, covers, encloses, names_absent_object, repeats_name, has_unlisted_type, is_section, breaks_rule, is_hidden_by, is_judged, object_at, object_fault, row_fault, section_at, value_at}
use Rattle.luks_rules.specs.Walk.{place}
use Rattle.luks_rules.specs.Accepted.{IsRead}
use Rattle.luks_area.specs.Sectors.{rounded_to_sectors}
use Rattle.luks_rules.specs.Sizes.{inside_at, is_outside, is_too_small, json_size, keyslots_size, region_start}
use Rattle.luks_rules.specs.MetaFault.{IsFaultless}
use Rattle.luks_rules.specs.Accepted.{HasObject, IsContent, Resolves}
use Rattle.luks_json.specs.Arrays.{all_there, has_repeat}

-- ---- tests

pub not_false : (b : Bool) → not b ≡ false → b ≡ true
not_false true e = refl
not_false false e = absurd (cc)

-- of three, the middle one
middle : (a b c : Bool) → (a && not b && not c) ≡ false → a ≡ true → c ≡ false → b ≡ true
middle a true c e at off = refl
middle true false false e at off = absurd (cc)
middle true false true e at off = absurd (cc)
middle false false c e at off = absurd (cc)

second : (a b : Bool) → (a && not b) ≡ false → b ≡ false → a ≡ false
second true false e off = absurd (cc)
second true true e off = absurd (cc)
second false b e off = refl

second_true : (a b : Bool) → (a && not b) ≡ false → a ≡ true → b ≡ true
second_true true true e at = refl
second_true true false e at = absurd (cc)
second_true false b e at = absurd (cc)

none_any : (f : Row → Bool) (rows : List Row) → ((r : Row) → Among r rows → f r ≡ false) → list_any f rows ≡ false
none_any f [] off = refl
none_any f (r ∷ rs) off = rw (off r (inl refl)) (none_any f rs (λ q m. off q (inr m)))

among_at : (rows : List Row) (i : ℕ) (r : Row) → slice_get rows i ≡ Some r → Among r rows
among_at [] i r e = absurd (cc)
among_at (q ∷ rows) zero r e = inl (cc)
among_at (q ∷ rows) (suc i) r e = inr (among_at rows i r e)

pub at_among : (rows : List Row) (r : Row) → Among r rows → (i : ℕ) × (slice_get rows i ≡ Some r)
at_among [] r m = elim m [ ]
at_among (q ∷ rows) r m = elim m [ inl e ↦ (0, ap Some (sym e)) | inr k ↦ (let p = at_among rows r k in (suc p.0, p.1)) ]

-- ---- no fault: each judged row is read

encloses_top : (o : Outer) → encloses o outer.Top ≡ false
encloses_top outer.Top = refl
encloses_top outer.Af = refl
encloses_top outer.Area = refl
encloses_top outer.Kdf = refl

top_none : (rows : List Row) (d : Data) → ((r : Row) → Among r rows → has_unlisted_type rows d r ≡ false) → (r : Row) → Among r rows → r.outer ≡ outer.Top → is_unlisted r.rule (value_at d r) ≡ false
top_none rows d kind r m top =
    let none : is_hidden_by encloses rows d r ≡ false = none_any _ rows (λ q k. rw (top, encloses_top q.outer) refl) in
    second _ _ (kind r m) none

enclosed : (rows : List Row) (d : Data) → ((r : Row) → Among r rows → has_unlisted_type rows d r ≡ false) → (o : Outer) (q : Row) → Among q rows
    → (p : Outer) → q.outer ≡ p → (encloses p o && is_unlisted q.rule (value_at d q)) ≡ false
enclosed rows d kind outer.Top q m outer.Top e = refl
enclosed rows d kind outer.Af q m outer.Top e = top_none rows d kind q m e
enclosed rows d kind outer.Area q m outer.Top e = top_none rows d kind q m e
enclosed rows d kind outer.Kdf q m outer.Top e = top_none rows d kind q m e
enclosed rows d kind o q m outer.Af e = refl
enclosed rows d kind o q m outer.Area e = refl
enclosed rows d kind o q m outer.Kdf e = refl

no_foreign : (rows : List Row) (d : Data) → ((r : Row) → Among r rows → has_unlisted_type rows d r ≡ false) → (r : Row) → Among r rows → is_unlisted r.rule (value_at d r) ≡ false
no_foreign rows d kind r m =
    let none : is_hidden_by encloses rows d r ≡ false = none_any _ rows (λ q k. enclosed rows d kind r.outer q k q.outer refl) in
    second _ _ (kind r m) none

both_false : (a b : Bool) → b ≡ false → (a && b) ≡ false
both_false true b e = e
both_false false b e = refl

row_read : (rows : List Row) (d : Data) → ((r : Row) → Among r rows → breaks_rule rows d r ≡ false) → ((r : Row) → Among r rows → has_unlisted_type rows d r ≡ false)
    → (r : Row) → Among r rows → is_judged d r ≡ true → is_some (reads r.rule (value_at d r)) ≡ true
row_read rows d shape kind r m judged =
    let none : is_hidden_by covers rows d r ≡ false = none_any _ rows (λ q k. both_false (covers q.outer r.outer) _ (no_foreign rows d kind q k)) in
    middle _ _ _ (shape r m) judged none

pub all_read : (rows : List Row) (d : Data) → is_some (as_object d) ≡ true → ((r : Row) → Among r rows → breaks_rule rows d r ≡ false)
    → ((r : Row) → Among r rows → has_unlisted_type rows d r ≡ false) → IsRead rows d
all_read rows d is shape kind = record { is_object = is; each = λ i r e judged. row_read rows d shape kind r (among_at rows i r e) judged }

-- ---- what single tests say

pub names_found : (j : Data) (target : Section) (list : Items) (r : Rule) (v : Option Data) → r ≡ rule.Names target → option_and_then as_array v ≡ Some list
    → names_absent_object j r v ≡ false → all_there (section_at j target) list ≡ true
names_found j target list r v speaks is off = not_false _ (rw (speaks, is) at off)

pub names_once : (target : Section) (list : Items) (r : Rule) (v : Option Data) → r ≡ rule.Names target → option_and_then as_array v ≡ Some list
    → repeats_name r v ≡ false → has_repeat list ≡ false
names_once target list r v speaks is off = rw (speaks, is) at off

pub size_is : (o : Option ℕ) (len : ℕ) → option_map_or (λ n. not (n == len)) o true ≡ false → o ≡ Some len
size_is None len e = absurd (cc)
size_is (Some n) len e = ap Some (eqb-true n len (not_false _ e))

pub neither : (a b : Bool) → (a || b) ≡ false → (a ≡ false) × (b ≡ false)
neither true b e = absurd (cc)
neither false b e = (refl, e)

-- ---- no fault at a place

module _ (len : ℕ) (j : Data) (f : IsFaultless len j) where
  config_at : (t : Test) (d : Data) → section_at j Config ≡ Some d → (r : Row) → Among r config_rows → row_fault t config_rows j d r ≡ false
  config_at t d e r m =
      let no : option_map_or (λ x. row_fault t config_rows j x r) (section_at j Config) false ≡ false = f.places t (place Config None (Some r)) (refl, m) in
      rw e at no

  row_at : (t : Test) (s : Section) (n : ℕ) (d : Data) → HasObject j s n d → (r : Row) → Among r (rows_of s) → row_fault t (rows_of s) j d r ≡ false
  row_at t s n d h r m =
      let no : option_map_or (λ x. row_fault t (rows_of s) j x r) (object_at j s n) false ≡ false = f.places t (place s (Some n) (Some r)) (h.numbered, h.named, m) in
      rw h.is at no

  own_at : (t : Test) (s : Section) (n : ℕ) (d : Data) → HasObject j s n d → object_fault t j s n d ≡ false
  own_at t s n d h =
      let no : option_map_or (object_fault t j s n) (object_at j s n) false ≡ false = f.places t (place s (Some n) None) (h.numbered, h.named) in
      rw h.is at no

  sections_there : (s : Section) → is_section s (section_at j s) ≡ true
  sections_there s = not_false _ (f.places test.Shape (place s None None) tt)

  config_read : (d : Data) → section_at j Config ≡ Some d → IsRead config_rows d
  config_read d e =
      let is : is_some (as_object d) ≡ true = rw e at (sections_there Config) in
      all_read config_rows d is (config_at test.Shape d e) (config_at test.Kind d e)

  object_read : (s : Section) (n : ℕ) (d : Data) → HasObject j s n d → IsRead (rows_of s) d
  object_read s n d h =
      all_read (rows_of s) d (not_false _ (own_at test.Shape s n d h)) (row_at test.Shape s n d h) (row_at test.Kind s n d h)

  resolved : Resolves j
  resolved = record {
    there = λ s target list h. names_found j target list h.row.rule (value_at h.object h.row) h.speaks h.is (row_at test.NoSuchName s h.number h.object h.held h.row h.listed);
    once = λ s target list h. names_once target list h.row.rule (value_at h.object h.row) h.speaks h.is (row_at test.Assigned s h.number h.object h.held h.row h.listed);
    keyslots = λ n d h. eqb-true _ 1 (not_false _ (own_at test.Assigned Keyslots n d h));
    segments = λ n d h is. eqb-true _ 1 (second_true _ _ (own_at test.Assigned Segments n d h) is);
  }

  large_enough : (n : ℕ) (d : Data) (key stripes size : ℕ) → HasObject j Keyslots n d
      → number_in 1 128 (inside_at outer.Top (codes "key_size") d) ≡ Some key
      → number_in 1 4294967295 (inside_at outer.Af (codes "stripes") d) ≡ Some stripes
      → decimal_in (inside_at outer.Area (codes "size") d) ≡ Some size
      → rounded_to_sectors (key * stripes) ≤ size
  large_enough n d key stripes size h k s z =
      let off : option_map_or is_too_small (object_at j Keyslots n) false ≡ false = f.areas n h.named in
      ltb-false size _ (rw (h.is, z, k, s) at off)

  in_region : (n : ℕ) (d : Data) (bytes start size : ℕ) → HasObject j Keyslots n d
      → keyslots_size j ≡ Some bytes
      → decimal_in (inside_at outer.Area (codes "offset") d) ≡ Some start
      → decimal_in (inside_at outer.Area (codes "size") d) ≡ Some size
      → (region_start len ≤ start) × (start + size ≤ region_start len + bytes)
  in_region n d bytes start size h b o z =
      let off : option_map_or (is_outside len (keyslots_size j)) (object_at j Keyslots n) false ≡ false = f.region n h.named in
      let p = neither _ _ (rw (h.is, b, o, z) at off) in
      (ltb-false start _ p.0, ltb-false _ _ p.1)

  pub content_of : IsContent len j
  content_of = record {
    whole = f.whole;
    sections = sections_there;
    config = config_read;
    objects = object_read;
    resolves = resolved;
    sized = size_is (json_size j) len f.sizes;
    large = large_enough;
    within = in_region;
  }
