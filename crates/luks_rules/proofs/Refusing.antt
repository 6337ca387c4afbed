-- No test finds a fault in a value that is accepted.
use Rattle.std.proofs.Common.{◌≡◌, ℕ, ◌+◌, ◌*◌, ◌<◌, Bool, true, false, ◌&&◌, List, [], ◌∷◌, Option, Some, None, cond, refl, eq-eqb, inl, inr, ◌⊎◌}
use Rattle.std.specs.Prelude.{◌||◌, not, option_map, option_and_then, is_some, codes}
use Rattle.std.specs.Option.{option_map_or}
use Rattle.std.specs.List.{list_all}
use Rattle.std.proofs.lemmas.Bool.{and_parts, le-ltb}
use Rattle.serde_json.specs.Data.{Data, null, boolean, number, string, array, object, Items}
use Rattle.serde_json.specs.Find.{as_array, as_object, get}
use Rattle.luks_rules.specs.declared.table.Section.{Section}
use Rattle.luks_rules.specs.declared.table.Section.TheVariants.{Config, Digests, Keyslots, Segments, Tokens}
use Rattle.luks_rules.specs.declared.table.Outer.TheVariants as outer
use Rattle.luks_rules.specs.declared.table.Listed.{Listed}
use Rattle.luks_rules.specs.declared.table.Rule.{Rule}
use Rattle.luks_rules.specs.declared.table.Rule.TheVariants as rule
use Rattle.luks_rules.specs.declared.table.When.{When}
use Rattle.luks_rules.specs.declared.table.When.TheVariants as when
use Rattle.luks_rules.specs.declared.table.Row.{Row}
use Rattle.luks_rules.specs.declared.place.Test.{Test}
use Rattle.luks_rules.specs.declared.place.Test.TheVariants as test
use Rattle.luks_rules.specs.Table.{config_rows, member_name, rows_of}
use Rattle.luks_rules.specs.Reading.{decimal_in, is_unlisted, is_listed, kept, number_in, reads, text, text_of}
use Rattle.luks_rules.specs.Faults.{Among, HasPlace, fault_at, names_absent_object, repeats_name, has_no_digest, is_judged, object_at, object_fault, outer_at, row_fault, section_at, suits, type_at, value_at}
use Rattle.luks_rules.specs.Accepted.{IsRead}
use Rattle.luks_area.specs.Sectors.{rounded_to_sectors}
use Rattle.luks_rules.specs.Sizes.{has_slot_outside, has_small_area, inside_at, keyslots_size, region_start}
use Rattle.luks_rules.specs.MetaFault.{IsFaultless}
use Rattle.luks_rules.specs.Accepted.{HasObject, IsContent}
use Rattle.luks_json.specs.Arrays.{all_there, has_repeat}
use Rattle.luks_rules.proofs.Accepting.{at_among}

-- ---- tests

pub by_option : {A : Type 0} (o : Option A) (f : A → Bool) → ((x : A) → o ≡ Some x → f x ≡ false) → option_map_or f o false ≡ false
by_option None f off = refl
by_option (Some x) f off = off x refl

unless : (a b c : Bool) → (a ≡ true → b ≡ true) → (a && not b && not c) ≡ false
unless true true c h = refl
unless true false c h = absurd (let e : false ≡ true = h refl in cc)
unless false b c h = refl

pub and_off : (a b : Bool) → a ≡ false → (a && b) ≡ false
and_off true b e = absurd (cc)
and_off false b e = refl

and_unless : (a b : Bool) → (a ≡ true → b ≡ true) → (a && not b) ≡ false
and_unless true true h = refl
and_unless true false h = absurd (let e : false ≡ true = h refl in cc)
and_unless false b h = refl

pub or_off : (a b : Bool) → a ≡ false → b ≡ false → (a || b) ≡ false
or_off true b e g = absurd (cc)
or_off false b e g = g

-- ---- types

listed_kept : (b : Bool) (t : List ℕ) → is_some (option_map text (cond b (Some t) None)) ≡ true → not b ≡ false
listed_kept true t e = refl
listed_kept false t e = absurd (cc)

type_listed : (l : Listed) (o : Option (List ℕ)) → is_some (option_map text (option_and_then (kept (is_listed l)) o)) ≡ true
    → option_map_or (λ t. not (is_listed l t)) o false ≡ false
type_listed l None e = refl
type_listed l (Some t) e = listed_kept (is_listed l t) t e

judged_or : (o : Option Data) (k : List ℕ) → (is_some (option_and_then as_object o) ≡ true) ⊎ (option_and_then (get k) o ≡ None)
judged_or None k = inr refl
judged_or (Some null) k = inr refl
judged_or (Some (boolean b)) k = inr refl
judged_or (Some (number n)) k = inr refl
judged_or (Some (string s)) k = inr refl
judged_or (Some (array ds)) k = inr refl
judged_or (Some (object ms)) k = inl refl

abbrev type_always : Rule → When → Bool
type_always (rule.Type l) when.Always = true
type_always (rule.Type l) when.Pbkdf2 = false
type_always (rule.Type l) when.Argon2 = false
type_always (rule.Type l) when.Crypt = false
type_always u w = true

-- the type of an object is always judged
types_always : (s : Section) → list_all (λ r. type_always r.rule r.when) (rows_of s) ≡ true
types_always Config = refl
types_always Digests = refl
types_always Keyslots = refl
types_always Segments = refl
types_always Tokens = refl

pub all_among : (f : Row → Bool) (rows : List Row) → list_all f rows ≡ true → (r : Row) → Among r rows → f r ≡ true
all_among f [] h r m = elim m [ ]
all_among f (x ∷ xs) h r m = let p = and_parts _ _ h in elim m [ inl e ↦ rw e p.0 | inr k ↦ all_among f xs p.1 r k ]

foreign_off : (u : Rule) (w : When) (o : Option Data) (k : List ℕ) (t : Option (List ℕ)) → type_always u w ≡ true
    → ((is_some (option_and_then as_object o) && suits w t) ≡ true → is_some (reads u (option_and_then (get k) o)) ≡ true)
    → is_unlisted u (option_and_then (get k) o) ≡ false
foreign_off (rule.Type l) when.Always o k t a h = elim (judged_or o k) [
  | inl is ↦ type_listed l (text_of (option_and_then (get k) o)) (h (rw is refl))
  | inr none ↦ rw none refl
]
foreign_off (rule.Type l) when.Pbkdf2 o k t a h = absurd (cc)
foreign_off (rule.Type l) when.Argon2 o k t a h = absurd (cc)
foreign_off (rule.Type l) when.Crypt o k t a h = absurd (cc)
foreign_off u w o k t a h = refl

-- ---- arrays

abbrev pub Speaks : Rule → Option Data → (Section → Items → Type 0) → Type 0
Speaks u v P = (target : Section) (list : Items) → u ≡ rule.Names target → option_and_then as_array v ≡ Some list → P target list

dangling_off : (j : Data) (u : Rule) (v : Option Data) → Speaks u v (λ target list. all_there (section_at j target) list ≡ true) → names_absent_object j u v ≡ false
dangling_off j (rule.Names target) v h = by_option (option_and_then as_array v) _ (λ list e. rw (h target list refl e) refl)
dangling_off j u v h = refl

double_off : (u : Rule) (v : Option Data) → Speaks u v (λ target list. has_repeat list ≡ false) → repeats_name u v ≡ false
double_off (rule.Names target) v h = by_option (option_and_then as_array v) _ (λ list e. h target list refl e)
double_off u v h = refl

abbrev pub is_names : Rule → Bool
is_names (rule.Names target) = true
is_names u = false

pub config_arrays : list_all (λ r. not (is_names r.rule)) config_rows ≡ true
config_arrays = refl

pub no_names : (u : Rule) (target : Section) → not (is_names u) ≡ true → u ≡ rule.Names target → ⊥
no_names u target h e = let f : not (is_names u) ≡ false = rw e refl in cc

-- ---- a row

pub row_off : (s : Section) (j d : Data) → IsRead (rows_of s) d → (r : Row) → Among r (rows_of s)
    → Speaks r.rule (value_at d r) (λ target list. all_there (section_at j target) list ≡ true)
    → Speaks r.rule (value_at d r) (λ target list. has_repeat list ≡ false)
    → (t : Test) → row_fault t (rows_of s) j d r ≡ false
row_off s j d read r m there once test.Shape =
    let p = at_among (rows_of s) r m in
    unless (is_judged d r) _ _ (λ judged. read.each p.0 r p.1 judged)
row_off s j d read r m there once test.Kind =
    let p = at_among (rows_of s) r m in
    and_off _ _ (foreign_off r.rule r.when (outer_at d r.outer) (member_name r.name) (type_at d r.outer)
    (all_among (λ q. type_always q.rule q.when) (rows_of s) (types_always s) r m) (λ judged. read.each p.0 r p.1 judged))
row_off s j d read r m there once test.NoSuchName = dangling_off j r.rule (value_at d r) there
row_off s j d read r m there once test.Assigned = double_off r.rule (value_at d r) once

module _ (len : ℕ) (j : Data) (c : IsContent len j) where
  config_off : (t : Test) (r : Row) → Among r config_rows → (d : Data) → section_at j Config ≡ Some d → row_fault t config_rows j d r ≡ false
  config_off t r m d e =
      let plain : not (is_names r.rule) ≡ true = all_among (λ q. not (is_names q.rule)) config_rows config_arrays r m in
      row_off Config j d (c.config d e) r m
      (λ target list speaks is. absurd (no_names r.rule target plain speaks))
      (λ target list speaks is. absurd (no_names r.rule target plain speaks)) t

  object_off : (t : Test) (s : Section) (n : ℕ) (r : Row) → Among r (rows_of s) → (d : Data) → HasObject j s n d → row_fault t (rows_of s) j d r ≡ false
  object_off t s n r m d h =
      row_off s j d (c.objects s n d h) r m
      (λ target list speaks is. c.resolves.there s target list (record { number = n; object = d; held = h; row = r; listed = m; speaks = speaks; is = is }))
      (λ target list speaks is. c.resolves.once s target list (record { number = n; object = d; held = h; row = r; listed = m; speaks = speaks; is = is })) t

  digest_off : (s : Section) (n : ℕ) (d : Data) → HasObject j s n d → has_no_digest j s n d ≡ false
  digest_off Config n d h = refl
  digest_off Digests n d h = refl
  digest_off Tokens n d h = refl
  digest_off Keyslots n d h = rw (c.resolves.keyslots n d h) refl
  digest_off Segments n d h = and_unless (suits when.Crypt (type_at d outer.Top)) _ (λ is. rw (c.resolves.segments n d h is) refl)

  own_off : (t : Test) (s : Section) (n : ℕ) (d : Data) → HasObject j s n d → object_fault t j s n d ≡ false
  own_off test.Shape s n d h = rw (c.objects s n d h).is_object refl
  own_off test.Kind s n d h = refl
  own_off test.NoSuchName s n d h = refl
  own_off test.Assigned s n d h = digest_off s n d h

  place_off : (t : Test) (s : Section) (n : Option ℕ) (r : Option Row) → HasPlace s n r → fault_at t j s n r ≡ false
  place_off test.Shape s None None h = rw (c.sections s) refl
  place_off test.Kind s None None h = refl
  place_off test.NoSuchName s None None h = refl
  place_off test.Assigned s None None h = refl
  place_off t Config None (Some r) h = by_option (section_at j Config) _ (λ d e. config_off t r h.1 d e)
  place_off t Digests None (Some r) h = absurd (let e = h.0 in cc)
  place_off t Keyslots None (Some r) h = absurd (let e = h.0 in cc)
  place_off t Segments None (Some r) h = absurd (let e = h.0 in cc)
  place_off t Tokens None (Some r) h = absurd (let e = h.0 in cc)
  place_off t s (Some n) None h = by_option (object_at j s n) _ (λ d e. own_off t s n d (record { numbered = h.0; named = h.1; is = e }))
  place_off t s (Some n) (Some r) h = by_option (object_at j s n) _ (λ d e. object_off t s n r h.2 d (record { numbered = h.0; named = h.1; is = e }))

  small_off : (n : ℕ) → n < 32 → has_small_area j n ≡ false
  small_off n lt = by_option (object_at j Keyslots n) _ (λ d e. by_option (decimal_in (inside_at outer.Area (codes "size") d)) _ (λ size z.
      by_option (number_in 1 128 (inside_at outer.Top (codes "key_size") d)) _ (λ key k. by_option (number_in 1 4294967295 (inside_at outer.Af (codes "stripes") d)) _ (λ stripes s.
      le-ltb size (rounded_to_sectors (key * stripes)) (c.large n d key stripes size (record { numbered = refl; named = lt; is = e }) k s z)))))

  outside_off : (n : ℕ) → n < 32 → has_slot_outside len j n ≡ false
  outside_off n lt = by_option (object_at j Keyslots n) _ (λ d e. by_option (keyslots_size j) _ (λ bytes b.
      by_option (decimal_in (inside_at outer.Area (codes "offset") d)) _ (λ start o. by_option (decimal_in (inside_at outer.Area (codes "size") d)) _ (λ size z.
      let p = c.within n d bytes start size (record { numbered = refl; named = lt; is = e }) b o z in
      or_off _ _ (le-ltb start (region_start len) p.0) (le-ltb (region_start len + bytes) (start + size) p.1)))))

  pub faultless_of : IsFaultless len j
  faultless_of = record {
    whole = c.whole;
    places = λ t p h. place_off t p.section p.number p.row h;
    sizes = rw (c.sized, eq-eqb len len refl) refl;
    areas = small_off;
    region = outside_off;
  }
