-- A value in which no test finds a fault meets the rules.
use Rattle.std.proofs.Common.{◌≡◌, ℕ, ◌+◌, ◌*◌, ◌≤◌, Bool, true, false, ◌&&◌, List, [], ◌∷◌, ◌++◌, map, Option, Some, None, refl, sym, ap, ◌∙◌, inl, inr, ◌⊎◌}
use Rattle.std.specs.Prelude.{◌==◌, not, option_map, option_and_then, is_some, codes}
use Rattle.std.specs.Option.{option_map_or}
use Rattle.std.specs.List.{list_all, list_any}
use Rattle.std.specs.Str.{bytes_eq}
use Rattle.std.proofs.lemmas.Bool.{cases_Bool, eqb-true, false_from_ne_true, ltb-false, or_cases}
use Rattle.std.proofs.lemmas.Slice.Eq.{bytes_eq-Decides}
use Rattle.serde_json.specs.Data.{Data, Items}
use Rattle.serde_json.specs.Find.{as_object}
use Rattle.luks_json.specs.Arrays.{all_there, has_repeat}
use Rattle.luks_area.specs.Sectors.{rounded_to_sectors}
use Rattle.luks_rules.specs.declared.table.Listed.TheVariants as listed
use Rattle.luks_rules.specs.declared.table.Member.TheVariants as name
use Rattle.luks_rules.specs.declared.table.Outer.TheVariants as outer
use Rattle.luks_rules.specs.declared.table.Row.{Row}
use Rattle.luks_rules.specs.declared.table.Section.{Section}
use Rattle.luks_rules.specs.declared.table.Section.TheVariants.{Config, Digests, Keyslots, Segments, Tokens}
use Rattle.luks_rules.specs.declared.place.Test.{Test}
use Rattle.luks_rules.specs.declared.place.Test.TheVariants as test
use Rattle.luks_rules.specs.Accepted.{HasNames, HasObject, IsRead}
use Rattle.luks_rules.specs.Faults.{Among, is_section, object_at, section_at, type_at, value_at}
use Rattle.luks_rules.specs.Reading.{decimal_in, is_listed, kept, number_in, text}
use Rattle.luks_rules.specs.Sizes.{inside_at, is_outside, is_too_small, json_size, keyslots_size, region_start}
use Rattle.luks_rules.specs.Table.{config_rows, digest_rows, keyslot_rows, rows_of, segment_rows, token_rows}
use Rattle.luks_rules.proofs.Accepting.{all_read, names_found, names_once, neither, not_false, size_is}
use Rattle.luks_rules.proofs.Refusing.{all_among, is_names, no_names}
use Rattle.luks_meta.proofs.RowsRead.{at_top, typed}
use Rattle.luks_underway.specs.Kinds.{is_hot, is_opal, is_reencrypt, is_type, needs_digest}
use Rattle.luks_underway.specs.Reencryptions.{HasChecksum, HasShift, IsReencryptArea, IsReencryption, IsResilience, nothing, journal, checksum, datashift, datashift_journal, datashift_checksum}
use Rattle.luks_underway.specs.Requirements.{are_requirements}
use Rattle.luks_underway.specs.Segments.{HasEncryption, HasOpal, IsOpalKind, IsWideSegment, hardware, both, plain, opal}
use Rattle.luks_underway.specs.Slots.{IsWideKeyslot, plain as plain_slot, reencrypt}
use Rattle.luks_underway.proofs.Typed.{not_reencrypt}
use Rattle.luks_wider.specs.Accepted.{IsWideAccepted, IsWideRules, WideResolves}
use Rattle.luks_contradictions.specs.Counts.{digests_of}
use Rattle.luks_wider.specs.Places.{wide_object_fault, wide_row_fault}
use Rattle.luks_wider.specs.Rows.{area_type, area_types, are_requirements_of, breaks_new, checksum_types, has_area, has_judged_area, is_foreign, is_known_segment, is_none_of, is_of, opal_rows, reencrypt_rows, rows_for, segment_types, shift_types, with_flags}
use Rattle.luks_wider.specs.WideFaults.{IsWideFaultless, IsWideHeld}
use Rattle.luks_wider.specs.WideWalk.{place}
use Rattle.luks_wider.specs.declared.rows.NewRow.{NewRow}
use Rattle.luks_wider.specs.declared.rows.NewRow.TheVariants as new
use Rattle.luks_wider.specs.declared.rows.WideRow.{WideRow}
use Rattle.luks_wider.specs.declared.rows.WideRow.TheVariants.{Known, New}

-- ---- tests

then_true : (a b : Bool) → (a && not b) ≡ false → a ≡ true → b ≡ true
then_true true true e at = refl
then_true true false e at = absurd (cc)
then_true false b e at = absurd (cc)

third_true : (a b c : Bool) → (a && b && not c) ≡ false → a ≡ true → b ≡ true → c ≡ true
third_true true true true e p q = refl
third_true true true false e p q = absurd (cc)
third_true true false c e p q = absurd (cc)
third_true false b c e p q = absurd (cc)

then_false : (a b : Bool) → (a && b) ≡ false → a ≡ true → b ≡ false
then_false true b e at = e
then_false false b e at = absurd (cc)

some_of : {A : Type 0} (o : Option A) → is_some o ≡ true → (x : A) × (o ≡ Some x)
some_of None h = absurd (cc)
some_of (Some x) h = (x, refl)

among_map : {A B : Type 0} (f : A → B) (x : A) (xs : List A) → Among x xs → Among (f x) (map f xs)
among_map f x [] m = elim m [ ]
among_map f x (y ∷ ys) m = elim m [ inl e ↦ inl (ap f e) | inr k ↦ inr (among_map f x ys k) ]

among_front : {A : Type 0} (x : A) (xs ys : List A) → Among x xs → Among x (xs ++ ys)
among_front x [] ys m = elim m [ ]
among_front x (y ∷ xs) ys m = elim m [ inl e ↦ inl e | inr k ↦ inr (among_front x xs ys k) ]

among_behind : {A : Type 0} (x : A) (xs ys : List A) → Among x ys → Among x (xs ++ ys)
among_behind x [] ys m = m
among_behind x (y ∷ xs) ys m = inr (among_behind x xs ys m)

known_flagged : (r : Row) (rows : List Row) → Among r rows → Among (Known r) (with_flags rows)
known_flagged r [] m = elim m [ ]
known_flagged r (q ∷ rows) m = elim m [ inl e ↦ inl (ap Known e) | inr k ↦ inr (inr (among_map Known r rows k)) ]

-- ---- an area of a keyslot of the type `reencrypt`

is_text_of : (d : Data) (k : List ℕ) (l : List ℕ) → area_type d ≡ Some k → bytes_eq k l ≡ true → area_type d ≡ Some l
is_text_of d k l is same = is ∙ ap Some ((bytes_eq-Decides k l).0 same)

resilience_of : (d : Data) (k : List ℕ) → area_type d ≡ Some k → list_any (λ l. bytes_eq k l) area_types ≡ true
    → (is_of checksum_types (area_type d) ≡ true → HasChecksum d) → (is_of shift_types (area_type d) ≡ true → HasShift d) → IsResilience d
resilience_of d k is any sums shifts = elim (or_cases _ _ any) [
  | inl a ↦ nothing (is_text_of d k _ is a)
  | inr r ↦ elim (or_cases _ _ r) [
    | inl a ↦ journal (is_text_of d k _ is a)
    | inr s ↦ elim (or_cases _ _ s) [
      | inl a ↦ let t = is_text_of d k (codes "checksum") is a in checksum t (sums (rw t refl))
      | inr u ↦ elim (or_cases _ _ u) [
        | inl a ↦ let t = is_text_of d k (codes "datashift") is a in datashift t (shifts (rw t refl))
        | inr v ↦ elim (or_cases _ _ v) [
          | inl a ↦ let t = is_text_of d k (codes "datashift-journal") is a in datashift_journal t (shifts (rw t refl))
          | inr w ↦ elim (or_cases _ _ w) [
            | inl a ↦ let t = is_text_of d k (codes "datashift-checksum") is a in datashift_checksum t (shifts (rw t refl)) (sums (rw t refl))
            | inr none ↦ absurd (cc)
          ]
        ]
      ]
    ]
  ]
]

abbrev Clean : List NewRow → Data → Type 0
Clean rows d = (x : NewRow) → Among x rows → breaks_new x d ≡ false

area_of : (d : Data) → Clean reencrypt_rows d → is_foreign new.AreaKind d ≡ false → IsReencryptArea d
area_of d off foreign =
    let has : has_area d ≡ true = not_false _ (off new.Area (inl refl)) in
    let kind = some_of (area_type d) (then_true _ _ (off new.AreaKind (inr (inr (inr (inr (inr (inr (inl refl)))))))) has) in
    let known : is_none_of area_types (area_type d) ≡ false = then_false _ _ foreign has in
    let judged : has_judged_area d ≡ true = rw (has, known) refl in
    let any : list_any (λ l. bytes_eq kind.0 l) area_types ≡ true = not_false _ (rw kind.1 at known) in
    record {
      offset = then_true _ _ (off new.AreaOffset (inr (inr (inl refl)))) judged;
      size = then_true _ _ (off new.AreaSize (inr (inr (inr (inr (inr (inl refl))))))) judged;
      resilience = resilience_of d kind.0 kind.1 any
          (λ of. record {
            hash = third_true _ _ _ (off new.AreaHash (inr (inl refl))) has of;
            unit = third_true _ _ _ (off new.AreaSector (inr (inr (inr (inl refl))))) has of;
          })
          (λ of. third_true _ _ _ (off new.AreaShift (inr (inr (inr (inr (inl refl)))))) has of);
    }

reencryption_of : (d : Data) → is_reencrypt d ≡ true → Clean reencrypt_rows d → is_foreign new.AreaKind d ≡ false → IsReencryption d
reencryption_of d is off foreign = record {
  typed = typed (type_at d outer.Top) (codes "reencrypt") (sym is);
  key_size = not_false _ (off new.KeySize (inr (inr (inr (inr (inr (inr (inr (inr (inl refl))))))))));
  priority = not_false _ (off new.Priority (inr (inr (inr (inr (inr (inr (inr (inr (inr (inr (inl refl))))))))))));
  has_mode = not_false _ (off new.Mode (inr (inr (inr (inr (inr (inr (inr (inr (inr (inl refl)))))))))));
  has_direction = not_false _ (off new.Direction (inr (inr (inr (inr (inr (inr (inr (inl refl)))))))));
  area = area_of d off foreign;
}

-- ---- segments

opal_of : (d : Data) → Clean opal_rows d → HasOpal d
opal_of d off = record {
  number = not_false _ (off new.OpalNumber (inr (inr (inr (inr (inr (inl refl)))))));
  key = not_false _ (off new.OpalKey (inr (inr (inr (inr (inl refl))))));
  range = not_false _ (off new.OpalSize (inr (inr (inr (inr (inr (inr (inl refl))))))));
}

encryption_of : (d : Data) → is_type d (codes "hw-opal-crypt") ≡ true → Clean opal_rows d → HasEncryption d
encryption_of d is off = record {
  cipher = then_true _ _ (off new.Encryption (inl refl)) is;
  tweak = then_true _ _ (off new.IvTweak (inr (inr (inl refl)))) is;
  sector = then_true _ _ (off new.Sector (inr (inr (inr (inr (inr (inr (inr (inl refl))))))))) is;
}

opal_kind_of : (d : Data) → is_opal d ≡ true → Clean opal_rows d → IsOpalKind d
opal_kind_of d is off = elim (or_cases _ _ is) [
  | inl h ↦ hardware (typed (type_at d outer.Top) (codes "hw-opal") (sym h)) (opal_of d off)
  | inr c ↦ both (typed (type_at d outer.Top) (codes "hw-opal-crypt") (sym c)) (opal_of d off) (encryption_of d c off)
]

known_opal : (d : Data) → is_opal d ≡ true → is_known_segment d ≡ true
known_opal d is = elim (or_cases _ _ is) [
  | inl h ↦ let t : type_at d outer.Top ≡ Some (codes "hw-opal") = typed (type_at d outer.Top) (codes "hw-opal") (sym h) in rw t refl
  | inr c ↦ let t : type_at d outer.Top ≡ Some (codes "hw-opal-crypt") = typed (type_at d outer.Top) (codes "hw-opal-crypt") (sym c) in rw t refl
]

known_text : (t : List ℕ) → is_some (option_map text (kept (is_listed listed.Segment) t)) ≡ true → not (is_none_of segment_types (Some t)) ≡ true
known_text t h = elim (cases_Bool (bytes_eq t (codes "crypt"))) [
  | inl a ↦ rw a refl
  | inr b ↦ elim (cases_Bool (bytes_eq t (codes "linear"))) [
    | inl c ↦ rw (b, c) refl
    | inr e ↦ absurd (let lost : false ≡ true = rw (b, e) at h in cc)
  ]
]

known_plain : (o : Option (List ℕ)) → is_some (option_map text (option_and_then (kept (is_listed listed.Segment)) o)) ≡ true → not (is_none_of segment_types o) ≡ true
known_plain None h = absurd (cc)
known_plain (Some t) h = known_text t h

-- ---- arrays of names are in digests and tokens alone

keyslot_arrays : list_all (λ r. not (is_names r.rule)) keyslot_rows ≡ true
keyslot_arrays = refl

segment_arrays : list_all (λ r. not (is_names r.rule)) segment_rows ≡ true
segment_arrays = refl

config_arrays : list_all (λ r. not (is_names r.rule)) config_rows ≡ true
config_arrays = refl

-- ---- no fault at a place

module _ (len : ℕ) (j : Data) (f : IsWideFaultless len j) where
  row_at : (t : Test) (s : Section) (n : ℕ) (d : Data) → HasObject j s n d → (r : WideRow) → Among r (rows_for s d) → wide_row_fault t s j d r ≡ false
  row_at t s n d h r m =
      let no : option_map_or (λ x. wide_row_fault t s j x r) (object_at j s n) false ≡ false = f.places t (place s (Some n) (Some r)) (h.numbered, h.named, (d, h.is, m)) in
      rw h.is at no

  own_at : (t : Test) (s : Section) (n : ℕ) (d : Data) → HasObject j s n d → wide_object_fault t j s n d ≡ false
  own_at t s n d h =
      let no : option_map_or (wide_object_fault t j s n) (object_at j s n) false ≡ false = f.places t (place s (Some n) None) (h.numbered, h.named) in
      rw h.is at no

  config_at : (t : Test) (d : Data) → section_at j Config ≡ Some d → (r : WideRow) → Among r (rows_for Config d) → wide_row_fault t Config j d r ≡ false
  config_at t d e r m =
      let no : option_map_or (λ x. wide_row_fault t Config j x r) (section_at j Config) false ≡ false = f.places t (place Config None (Some r)) (refl, (d, e, m)) in
      rw e at no

  sections_there : (s : Section) → is_section s (section_at j s) ≡ true
  sections_there s = not_false _ (f.places test.Shape (place s None None) tt)

  config_read : (d : Data) → section_at j Config ≡ Some d → IsRead config_rows d
  config_read d e =
      let is : is_some (as_object d) ≡ true = rw e at (sections_there Config) in
      let into : (r : Row) → Among r config_rows → Among (Known r) (rows_for Config d) = λ r m. among_front (Known r) (map Known config_rows) (New new.Requirements ∷ []) (among_map Known r config_rows m) in
      all_read config_rows d is (λ r m. config_at test.Shape d e (Known r) (into r m)) (λ r m. config_at test.Kind d e (Known r) (into r m))

  object_read : (s : Section) (n : ℕ) (d : Data) → HasObject j s n d → ((r : Row) → Among r (rows_of s) → Among (Known r) (rows_for s d)) → IsRead (rows_of s) d
  object_read s n d h into =
      all_read (rows_of s) d (not_false _ (own_at test.Shape s n d h)) (λ r m. row_at test.Shape s n d h (Known r) (into r m)) (λ r m. row_at test.Kind s n d h (Known r) (into r m))

  keyslot_read : (n : ℕ) (d : Data) → HasObject j Keyslots n d → IsWideKeyslot d
  keyslot_read n d h = elim (cases_Bool (is_reencrypt d)) [
    | inl is ↦
        let into : (x : NewRow) → Among x reencrypt_rows → Among (New x) (rows_for Keyslots d) = λ x m. rw is (among_map New x reencrypt_rows m) in
        reencrypt (reencryption_of d is (λ x m. row_at test.Shape Keyslots n d h (New x) (into x m))
        (row_at test.Kind Keyslots n d h (New new.AreaKind) (into new.AreaKind (inr (inr (inr (inr (inr (inr (inl refl)))))))))
        )
    | inr other ↦ plain_slot (object_read Keyslots n d h (λ r m. rw other (among_map Known r keyslot_rows m)))
  ]

  segment_read : (n : ℕ) (d : Data) → HasObject j Segments n d → IsWideSegment d
  segment_read n d h = elim (cases_Bool (is_opal d)) [
    | inl is ↦
        let off : Clean opal_rows d = λ x m. row_at test.Shape Segments n d h (New x) (rw is (among_map New x opal_rows m)) in
        record {
          flags = then_true _ _ (off new.Flags (inr (inl refl))) (known_opal d is);
          rest = opal (record {
            offset = not_false _ (off new.Offset (inr (inr (inr (inl refl)))));
            size = not_false _ (off new.Size (inr (inr (inr (inr (inr (inr (inr (inr (inl refl))))))))));
          }) (opal_kind_of d is off);
        }
    | inr other ↦
        let read : IsRead segment_rows d = object_read Segments n d h (λ r m. rw other (known_flagged r segment_rows m)) in
        let known : is_known_segment d ≡ true = known_plain (type_at d outer.Top) (at_top segment_rows d name.Kind _ read refl refl refl) in
        record {
          flags = then_true _ _ (row_at test.Shape Segments n d h (New new.Flags) (rw other (inr (inl refl)))) known;
          rest = plain read;
        }
  ]

  named_there : (s target : Section) (list : Items) → HasNames j s target list → all_there (section_at j target) list ≡ true
  named_there Config target list h = absurd (no_names h.row.rule target (all_among (λ r. not (is_names r.rule)) config_rows config_arrays h.row h.listed) h.speaks)
  named_there Keyslots target list h = absurd (no_names h.row.rule target (all_among (λ r. not (is_names r.rule)) keyslot_rows keyslot_arrays h.row h.listed) h.speaks)
  named_there Segments target list h = absurd (no_names h.row.rule target (all_among (λ r. not (is_names r.rule)) segment_rows segment_arrays h.row h.listed) h.speaks)
  named_there Digests target list h =
      names_found j target list h.row.rule (value_at h.object h.row) h.speaks h.is (row_at test.NoSuchName Digests h.number h.object h.held (Known h.row) (among_map Known h.row digest_rows h.listed))
  named_there Tokens target list h =
      names_found j target list h.row.rule (value_at h.object h.row) h.speaks h.is (row_at test.NoSuchName Tokens h.number h.object h.held (Known h.row) (among_map Known h.row token_rows h.listed))

  named_once : (s target : Section) (list : Items) → HasNames j s target list → has_repeat list ≡ false
  named_once Config target list h = absurd (no_names h.row.rule target (all_among (λ r. not (is_names r.rule)) config_rows config_arrays h.row h.listed) h.speaks)
  named_once Keyslots target list h = absurd (no_names h.row.rule target (all_among (λ r. not (is_names r.rule)) keyslot_rows keyslot_arrays h.row h.listed) h.speaks)
  named_once Segments target list h = absurd (no_names h.row.rule target (all_among (λ r. not (is_names r.rule)) segment_rows segment_arrays h.row h.listed) h.speaks)
  named_once Digests target list h =
      names_once target list h.row.rule (value_at h.object h.row) h.speaks h.is (row_at test.Assigned Digests h.number h.object h.held (Known h.row) (among_map Known h.row digest_rows h.listed))
  named_once Tokens target list h =
      names_once target list h.row.rule (value_at h.object h.row) h.speaks h.is (row_at test.Assigned Tokens h.number h.object h.held (Known h.row) (among_map Known h.row token_rows h.listed))

  resolved : WideResolves j
  resolved = record {
    there = named_there;
    once = named_once;
    keyslots = λ n d h other. eqb-true _ 1 (not_false _ (rw other at (own_at test.Assigned Keyslots n d h)));
    reencryption = λ n d h is. ltb-false 1 _ (rw is at (own_at test.Assigned Keyslots n d h));
    segments = λ n d h needs cold. eqb-true _ 1 (one_alone (needs_digest d) _ (is_hot d) _ (own_at test.Assigned Segments n d h) needs cold);
    hot = λ n d h needs is. one_or_two (needs_digest d) (digests_of j (codes "segments") n) (is_hot d) (own_at test.Assigned Segments n d h) needs is;
  }
    where
      one_alone : (a b h c : Bool) → (a && not b && not (h && c)) ≡ false → a ≡ true → h ≡ false → b ≡ true
      one_alone true true h c e p q = refl
      one_alone true false true c e p q = absurd (cc)
      one_alone true false false c e p q = absurd (cc)
      one_alone false b h c e p q = absurd (cc)

      one_or_two : (a : Bool) (k : ℕ) (h : Bool) → (a && not (k == 1) && not (h && k == 2)) ≡ false → a ≡ true → h ≡ true → (k ≡ 1) ⊎ (k ≡ 2)
      one_or_two a k h e p q = elim (cases_Bool (k == 1)) [
        | inl one ↦ inl (eqb-true k 1 one)
        | inr other ↦ inr (eqb-true k 2 (not_false _ (rw (p, q, other) at e)))
      ]

  plain_area : (n : ℕ) (d : Data) → HasObject j Keyslots n d → IsRead keyslot_rows d → is_too_small d ≡ false
  plain_area n d h read =
      let other : is_reencrypt d ≡ false = false_from_ne_true _ (λ is. not_reencrypt d (sym is) read) in
      let off = f.areas n h.named in
      alone _ _ (rw h.is at off) other
    where
      alone : (a b : Bool) → (a && not b) ≡ false → b ≡ false → a ≡ false
      alone true true e p = absurd (cc)
      alone true false e p = absurd (cc)
      alone false b e p = refl

  large_enough : (n : ℕ) (d : Data) (key stripes size : ℕ) → HasObject j Keyslots n d → IsRead keyslot_rows d
      → number_in 1 128 (inside_at outer.Top (codes "key_size") d) ≡ Some key
      → number_in 1 4294967295 (inside_at outer.Af (codes "stripes") d) ≡ Some stripes
      → decimal_in (inside_at outer.Area (codes "size") d) ≡ Some size
      → rounded_to_sectors (key * stripes) ≤ size
  large_enough n d key stripes size h read k s z = ltb-false size _ (rw (z, k, s) at (plain_area n d h read))

  in_region : (n : ℕ) (d : Data) (bytes start size : ℕ) → HasObject j Keyslots n d
      → keyslots_size j ≡ Some bytes
      → decimal_in (inside_at outer.Area (codes "offset") d) ≡ Some start
      → decimal_in (inside_at outer.Area (codes "size") d) ≡ Some size
      → (region_start len ≤ start) × (start + size ≤ region_start len + bytes)
  in_region n d bytes start size h b o z =
      let off : option_map_or (is_outside len (keyslots_size j)) (object_at j Keyslots n) false ≡ false = f.region n h.named in
      let p = neither _ _ (rw (h.is, b, o, z) at off) in
      (ltb-false start _ p.0, ltb-false _ _ p.1)

  required : are_requirements j ≡ true
  required = by (section_at j Config) refl
    where
      by : (o : Option Data) → section_at j Config ≡ o → are_requirements j ≡ true
      by None e = rw e refl
      by (Some d) e = rw e (not_false (are_requirements_of d) (config_at test.Shape d e (New new.Requirements) (among_behind (New new.Requirements) (map Known config_rows) (New new.Requirements ∷ []) (inl refl))))

  pub rules_of : IsWideRules len j
  rules_of = record {
    whole = f.whole;
    sections = sections_there;
    config = config_read;
    requirements = required;
    keyslots = keyslot_read;
    segments = segment_read;
    digests = λ n d h. object_read Digests n d h (λ r m. among_map Known r digest_rows m);
    tokens = λ n d h. object_read Tokens n d h (λ r m. among_map Known r token_rows m);
    resolves = resolved;
    sized = size_is (json_size j) len f.sizes;
    large = large_enough;
    within = in_region;
  }

-- what was read is accepted in the area of its length
pub accepted_of : (len : ℕ) (j : Data) → IsWideHeld len j → IsWideAccepted j
accepted_of len j held = record { len = len; rules = rules_of len j held.faultless }
