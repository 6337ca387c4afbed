-- No test finds a fault in a value that meets the rules.
use Rattle.std.proofs.Common.{◌≡◌, ℕ, ◌+◌, ◌*◌, ◌<◌, Bool, true, false, ◌&&◌, List, [], ◌∷◌, ◌++◌, map, Option, Some, None, refl, sym, inl, inr, ◌⊎◌, eq-eqb}
use Rattle.std.specs.Prelude.{not, option_and_then, is_some, codes}
use Rattle.std.proofs.lemmas.Bool.{cases_Bool, false_from_ne_true, le-ltb}
use Rattle.serde_json.specs.Data.{Data, null, boolean, number, string, array, object}
use Rattle.serde_json.specs.Find.{as_object, get}
use Rattle.luks_area.specs.Sectors.{rounded_to_sectors}
use Rattle.luks_rules.specs.declared.table.Outer.TheVariants as outer
use Rattle.luks_rules.specs.declared.table.Row.{Row}
use Rattle.luks_rules.specs.declared.table.Section.{Section}
use Rattle.luks_rules.specs.declared.table.Section.TheVariants.{Config, Digests, Keyslots, Segments, Tokens}
use Rattle.luks_rules.specs.declared.place.Test.{Test}
use Rattle.luks_rules.specs.declared.place.Test.TheVariants as test
use Rattle.luks_rules.specs.Accepted.{HasObject, IsRead}
use Rattle.luks_rules.specs.Faults.{Among, object_at, outer_at, row_fault, section_at}
use Rattle.luks_rules.specs.Reading.{decimal_in, number_in, text_of}
use Rattle.luks_rules.specs.Sizes.{has_slot_outside, has_small_area, inside_at, keyslots_size, region_start}
use Rattle.luks_rules.specs.Table.{config_rows, digest_rows, keyslot_rows, rows_of, segment_rows, token_rows}
use Rattle.luks_rules.proofs.Refusing.{all_among, by_option, is_names, no_names, or_off, row_off}
use Rattle.luks_underway.specs.Kinds.{has_reencrypt, is_hot, is_opal, is_reencrypt, needs_digest}
use Rattle.luks_underway.specs.Reencryptions.{IsReencryption, IsResilience, nothing, journal, checksum, datashift, datashift_journal, datashift_checksum}
use Rattle.luks_underway.specs.Segments.{HasPlace, IsOpalKind, IsWideSegment, hardware, both, plain, opal}
use Rattle.luks_underway.specs.Slots.{IsWideKeyslot, plain as plain_slot, reencrypt}
use Rattle.luks_underway.proofs.Typed.{not_opal, not_reencrypt}
use Rattle.luks_wider.specs.Accepted.{IsWideRules}
use Rattle.luks_contradictions.specs.Counts.{digests_of}
use Rattle.luks_wider.specs.Places.{HasWidePlace, is_unassigned, wide_fault_at, wide_object_fault, wide_row_fault}
use Rattle.luks_wider.specs.Rows.{area_type, breaks_new, checksum_types, has_area, is_foreign, is_known_segment, is_of, opal_rows, reencrypt_rows, rows_for, shift_types, with_flags}
use Rattle.luks_wider.specs.WideFaults.{has_small_key_area, IsWideFaultless}
use Rattle.luks_wider.specs.declared.rows.NewRow.{NewRow}
use Rattle.luks_wider.specs.declared.rows.NewRow.TheVariants as new
use Rattle.luks_wider.specs.declared.rows.WideRow.{WideRow}
use Rattle.luks_wider.specs.declared.rows.WideRow.TheVariants.{Known, New}

-- ---- lists of rows

abbrev AllOff : (NewRow → Bool) → List NewRow → Type 0
AllOff f [] = Unit {0}
AllOff f (x ∷ xs) = (f x ≡ false) × AllOff f xs

off_among : (f : NewRow → Bool) (xs : List NewRow) → AllOff f xs → (x : NewRow) → Among x xs → f x ≡ false
off_among f [] h x m = elim m [ ]
off_among f (y ∷ ys) h x m = elim m [ inl e ↦ rw e h.0 | inr k ↦ off_among f ys h.1 x k ]

among_split : {A : Type 0} (x : A) (xs ys : List A) → Among x (xs ++ ys) → Among x xs ⊎ Among x ys
among_split x [] ys m = inr m
among_split x (y ∷ xs) ys m = elim m [ inl e ↦ inl (inl e) | inr k ↦ elim (among_split x xs ys k) [ inl a ↦ inl (inr a) | inr b ↦ inr b ] ]

abbrev Image : {A B : Type 0} → (A → B) → List A → B → Type 0
Image {A} f xs y = (x : A) × (y ≡ f x) × Among x xs

unmapped : {A B : Type 0} (f : A → B) (y : B) (xs : List A) → Among y (map f xs) → Image f xs y
unmapped f y [] m = elim m [ ]
unmapped f y (x ∷ xs) m = elim m [ inl e ↦ (x, e, inl refl) | inr k ↦ (let p = unmapped f y xs k in (p.0, p.1, inr p.2)) ]

unflagged : (y : WideRow) (rows : List Row) → Among y (with_flags rows) → Image Known rows y ⊎ (y ≡ New new.Flags)
unflagged y [] m = elim m [ inl e ↦ inr e | inr k ↦ elim k [ ] ]
unflagged y (r ∷ rows) m = elim m [
  | inl e ↦ inl (r, e, inl refl)
  | inr k ↦ elim k [ inl e ↦ inr e | inr l ↦ inl (let p = unmapped Known y rows l in (p.0, p.1, inr p.2)) ]
]

-- ---- objects

home_of : (o : Option Data) (k t : List ℕ) → text_of (option_and_then (get k) o) ≡ Some t → is_some (option_and_then as_object o) ≡ true
home_of None k t e = absurd (cc)
home_of (Some null) k t e = absurd (cc)
home_of (Some (boolean b)) k t e = absurd (cc)
home_of (Some (number n)) k t e = absurd (cc)
home_of (Some (string s)) k t e = absurd (cc)
home_of (Some (array ds)) k t e = absurd (cc)
home_of (Some (object ms)) k t e = refl

unless_true : (a b : Bool) → b ≡ true → (a && not b) ≡ false
unless_true true b e = rw e refl
unless_true false b e = refl

third_off : (a b c : Bool) → c ≡ true → (a && b && not c) ≡ false
third_off true true c e = rw e refl
third_off true false c e = refl
third_off false b c e = refl

-- ---- a keyslot of the type `reencrypt`

record AreaOff (d : Data) : Type 0 where
  pub has : has_area d ≡ true
  pub kind : is_some (area_type d) ≡ true
  pub hash : breaks_new new.AreaHash d ≡ false
  pub sector : breaks_new new.AreaSector d ≡ false
  pub shift : breaks_new new.AreaShift d ≡ false
  pub foreign : is_foreign new.AreaKind d ≡ false

area_off : (d : Data) → IsResilience d → AreaOff d
area_off d (nothing t) =
    let has : has_area d ≡ true = home_of (outer_at d outer.Area) (codes "type") (codes "none") t in
    record { has = has; kind = rw t refl; hash = rw (has, t) refl; sector = rw (has, t) refl; shift = rw (has, t) refl; foreign = rw (has, t) refl }
area_off d (journal t) =
    let has : has_area d ≡ true = home_of (outer_at d outer.Area) (codes "type") (codes "journal") t in
    record { has = has; kind = rw t refl; hash = rw (has, t) refl; sector = rw (has, t) refl; shift = rw (has, t) refl; foreign = rw (has, t) refl }
area_off d (checksum t s) =
    let has : has_area d ≡ true = home_of (outer_at d outer.Area) (codes "type") (codes "checksum") t in
    record { has = has; kind = rw t refl; hash = third_off (has_area d) (is_of checksum_types (area_type d)) _ s.hash; sector = third_off (has_area d) (is_of checksum_types (area_type d)) _ s.unit; shift = rw (has, t) refl; foreign = rw (has, t) refl }
area_off d (datashift t n) =
    let has : has_area d ≡ true = home_of (outer_at d outer.Area) (codes "type") (codes "datashift") t in
    record { has = has; kind = rw t refl; hash = rw (has, t) refl; sector = rw (has, t) refl; shift = third_off (has_area d) (is_of shift_types (area_type d)) _ n; foreign = rw (has, t) refl }
area_off d (datashift_journal t n) =
    let has : has_area d ≡ true = home_of (outer_at d outer.Area) (codes "type") (codes "datashift-journal") t in
    record { has = has; kind = rw t refl; hash = rw (has, t) refl; sector = rw (has, t) refl; shift = third_off (has_area d) (is_of shift_types (area_type d)) _ n; foreign = rw (has, t) refl }
area_off d (datashift_checksum t n s) =
    let has : has_area d ≡ true = home_of (outer_at d outer.Area) (codes "type") (codes "datashift-checksum") t in
    record { has = has; kind = rw t refl; hash = third_off (has_area d) (is_of checksum_types (area_type d)) _ s.hash; sector = third_off (has_area d) (is_of checksum_types (area_type d)) _ s.unit; shift = third_off (has_area d) (is_of shift_types (area_type d)) _ n; foreign = rw (has, t) refl }

reencryption_off : (d : Data) → IsReencryption d → AllOff (λ x. breaks_new x d) reencrypt_rows
reencryption_off d r =
    let a = area_off d r.area.resilience in (
      rw a.has refl,
      (
        a.hash,
        (
          unless_true _ _ r.area.offset,
          (
            a.sector,
            (
              a.shift,
              (
                unless_true _ _ r.area.size,
                (
                  unless_true _ _ a.kind,
                  (
                    rw r.has_direction refl,
                    (rw r.key_size refl, (rw r.has_mode refl, (rw r.priority refl, tt))),
                  ),
                ),
              ),
            ),
          ),
        ),
      ),
    )

-- no other new row is that of a type
plain_kind : (d : Data) → is_foreign new.AreaKind d ≡ false → (x : NewRow) → is_foreign x d ≡ false
plain_kind d off new.AreaKind = off
plain_kind d off _ = refl

-- ---- a segment of a disk that encrypts itself

opal_is : (d : Data) → IsOpalKind d → is_opal d ≡ true
opal_is d (hardware t o) = rw t refl
opal_is d (both t o e) = rw t refl

abbrev OpalOff : Data → Type 0
OpalOff d = AllOff (λ x. breaks_new x d) opal_rows

opal_off : (d : Data) → breaks_new new.Flags d ≡ false → HasPlace d → IsOpalKind d → OpalOff d
opal_off d flags p (hardware t o) =
    (rw t refl, (flags, (rw t refl, (rw p.offset refl, (rw o.key refl, (rw o.number refl, (rw o.range refl, (rw t refl, (rw p.size refl, tt)))))))))
opal_off d flags p (both t o e) =
    (unless_true _ _ e.cipher, (flags, (unless_true _ _ e.tweak, (rw p.offset refl, (rw o.key refl, (rw o.number refl, (rw o.range refl, (unless_true _ _ e.sector, (rw p.size refl, tt)))))))))

-- a segment has no area whose type could be unlisted, or one that isn't judged: its rows have none
opal_kind : (d : Data) → AllOff (λ x. is_foreign x d) opal_rows
opal_kind d = (refl, (refl, (refl, (refl, (refl, (refl, (refl, (refl, (refl, tt)))))))))

-- ---- a new row, by test

new_off : (t : Test) (s : Section) (j d : Data) (x : NewRow) → breaks_new x d ≡ false → is_foreign x d ≡ false → wide_row_fault t s j d (New x) ≡ false
new_off test.Shape s j d x shape kind = shape
new_off test.Kind s j d x shape kind = kind
new_off test.NoSuchName s j d x shape kind = refl
new_off test.Assigned s j d x shape kind = refl

module _ (len : ℕ) (j : Data) (c : IsWideRules len j) where
  -- a known row, of a section whose rows have no arrays of names
  quiet_off : (s : Section) (d : Data) → IsRead (rows_of s) d → ((r : Row) → Among r (rows_of s) → not (is_names r.rule) ≡ true)
      → (t : Test) (r : Row) → Among r (rows_of s) → row_fault t (rows_of s) j d r ≡ false
  quiet_off s d read quiet t r m =
      row_off s j d read r m
      (λ target list speaks is. absurd (no_names r.rule target (quiet r m) speaks))
      (λ target list speaks is. absurd (no_names r.rule target (quiet r m) speaks)) t

  loud_off : (t : Test) (s : Section) (n : ℕ) (d : Data) → HasObject j s n d → IsRead (rows_of s) d → (r : Row) → Among r (rows_of s) → row_fault t (rows_of s) j d r ≡ false
  loud_off t s n d h read r m =
      row_off s j d read r m
      (λ target list speaks is. c.resolves.there s target list (record { number = n; object = d; held = h; row = r; listed = m; speaks = speaks; is = is }))
      (λ target list speaks is. c.resolves.once s target list (record { number = n; object = d; held = h; row = r; listed = m; speaks = speaks; is = is })) t

  config_off : (t : Test) (r : WideRow) (d : Data) → section_at j Config ≡ Some d → Among r (rows_for Config d) → wide_row_fault t Config j d r ≡ false
  config_off t r d e m = elim (among_split r (map Known config_rows) (New new.Requirements ∷ []) m) [
    | inl k ↦ (let p = unmapped Known r config_rows k in
        rw p.1 (quiet_off Config d (c.config d e) (all_among (λ q. not (is_names q.rule)) config_rows refl) t p.0 p.2))
    | inr k ↦ elim k [
      | inl is ↦ rw is (new_off t Config j d new.Requirements (let good = c.requirements in rw (rw e at good) refl) refl)
      | inr none ↦ elim none [ ]
    ]
  ]

  keyslot_off : (t : Test) (n : ℕ) (r : WideRow) (d : Data) → HasObject j Keyslots n d → IsWideKeyslot d → Among r (rows_for Keyslots d) → wide_row_fault t Keyslots j d r ≡ false
  keyslot_off t n r d h (plain_slot read) m =
      let other : is_reencrypt d ≡ false = false_from_ne_true _ (λ is. not_reencrypt d (sym is) read) in
      let p = unmapped Known r keyslot_rows (rw other at m) in
      rw p.1 (quiet_off Keyslots d read (all_among (λ q. not (is_names q.rule)) keyslot_rows refl) t p.0 p.2)
  keyslot_off t n r d h (reencrypt k) m =
      let is : is_reencrypt d ≡ true = rw k.typed refl in
      let p = unmapped New r reencrypt_rows (rw is at m) in
      rw p.1 (new_off t Keyslots j d p.0 (off_among (λ x. breaks_new x d) reencrypt_rows (reencryption_off d k) p.0 p.2)
      (plain_kind d (area_off d k.area.resilience).foreign p.0))

  segment_off : (t : Test) (n : ℕ) (r : WideRow) (d : Data) → HasObject j Segments n d → (w : IsWideSegment d) → Among r (rows_for Segments d) → wide_row_fault t Segments j d r ≡ false
  segment_off t n r d h w m = elim w.rest [
    | plain read ↦ (let other : is_opal d ≡ false = false_from_ne_true _ (λ is. not_opal d is read) in
        elim (unflagged r segment_rows (rw other at m)) [
          | inl p ↦ rw p.1 (quiet_off Segments d read (all_among (λ q. not (is_names q.rule)) segment_rows refl) t p.0 p.2)
          | inr is ↦ rw is (new_off t Segments j d new.Flags (unless_true (is_known_segment d) _ w.flags) refl)
        ])
    | opal place kind ↦ (let is : is_opal d ≡ true = opal_is d kind in
        let p = unmapped New r opal_rows (rw is at m) in
        rw p.1 (new_off t Segments j d p.0
        (off_among (λ x. breaks_new x d) opal_rows (opal_off d (unless_true (is_known_segment d) _ w.flags) place kind) p.0 p.2)
        (off_among (λ x. is_foreign x d) opal_rows (opal_kind d) p.0 p.2)))
  ]

  object_off : (t : Test) (s : Section) (n : ℕ) (r : WideRow) (d : Data) → HasObject j s n d → Among r (rows_for s d) → wide_row_fault t s j d r ≡ false
  object_off t Config n r d h m = absurd (let e = h.numbered in cc)
  object_off t Keyslots n r d h m = keyslot_off t n r d h (c.keyslots n d h) m
  object_off t Segments n r d h m = segment_off t n r d h (c.segments n d h) m
  object_off t Digests n r d h m = let p = unmapped Known r digest_rows m in rw p.1 (loud_off t Digests n d h (c.digests n d h) p.0 p.2)
  object_off t Tokens n r d h m = let p = unmapped Known r token_rows m in rw p.1 (loud_off t Tokens n d h (c.tokens n d h) p.0 p.2)

  slot_is_object : (d : Data) → IsWideKeyslot d → is_some (as_object d) ≡ true
  slot_is_object d (plain_slot read) = read.is_object
  slot_is_object d (reencrypt k) = home_of (Some d) (codes "type") (codes "reencrypt") k.typed

  opal_is_object : (d : Data) → IsOpalKind d → is_some (as_object d) ≡ true
  opal_is_object d (hardware t o) = home_of (Some d) (codes "type") (codes "hw-opal") t
  opal_is_object d (both t o e) = home_of (Some d) (codes "type") (codes "hw-opal-crypt") t

  segment_is_object : (d : Data) → IsWideSegment d → is_some (as_object d) ≡ true
  segment_is_object d w = elim w.rest [ plain read ↦ read.is_object | opal place kind ↦ opal_is_object d kind ]

  object_there : (s : Section) (n : ℕ) (d : Data) → HasObject j s n d → is_some (as_object d) ≡ true
  object_there Config n d h = absurd (let e = h.numbered in cc)
  object_there Keyslots n d h = slot_is_object d (c.keyslots n d h)
  object_there Segments n d h = segment_is_object d (c.segments n d h)
  object_there Digests n d h = (c.digests n d h).is_object
  object_there Tokens n d h = (c.tokens n d h).is_object

  segment_assigned : (n : ℕ) (d : Data) → HasObject j Segments n d → is_unassigned j Segments n d ≡ false
  segment_assigned n d h = elim (cases_Bool (needs_digest d)) [
    | inr off ↦ rw off refl
    | inl needs ↦ elim (cases_Bool (is_hot d)) [
      | inr cold ↦ rw (needs, cold, c.resolves.segments n d h needs cold) refl
      | inl hot ↦ elim (c.resolves.hot n d h needs hot) [ inl one ↦ rw (needs, hot, one) refl | inr two ↦ rw (needs, hot, two) refl ]
    ]
  ]

  keyslot_assigned : (n : ℕ) (d : Data) → HasObject j Keyslots n d → is_unassigned j Keyslots n d ≡ false
  keyslot_assigned n d h = elim (cases_Bool (is_reencrypt d)) [
    | inl is ↦ rw is (le-ltb 1 (digests_of j (codes "keyslots") n) (c.resolves.reencryption n d h is))
    | inr other ↦ rw (other, c.resolves.keyslots n d h other) refl
  ]

  assigned : (s : Section) (n : ℕ) (d : Data) → HasObject j s n d → is_unassigned j s n d ≡ false
  assigned Config n d h = refl
  assigned Digests n d h = refl
  assigned Tokens n d h = refl
  assigned Keyslots n d h = keyslot_assigned n d h
  assigned Segments n d h = segment_assigned n d h

  own_off : (t : Test) (s : Section) (n : ℕ) (d : Data) → HasObject j s n d → wide_object_fault t j s n d ≡ false
  own_off test.Shape s n d h = rw (object_there s n d h) refl
  own_off test.Kind s n d h = refl
  own_off test.NoSuchName s n d h = refl
  own_off test.Assigned s n d h = assigned s n d h

  place_off : (t : Test) (s : Section) (n : Option ℕ) (r : Option WideRow) → HasWidePlace j s n r → wide_fault_at t j s n r ≡ false
  place_off test.Shape s None None h = rw (c.sections s) refl
  place_off test.Kind s None None h = refl
  place_off test.NoSuchName s None None h = refl
  place_off test.Assigned s None None h = refl
  place_off t Config None (Some r) h = rw h.1.1 (config_off t r h.1.0 h.1.1 h.1.2)
  place_off t Digests None (Some r) h = absurd (let e = h.0 in cc)
  place_off t Keyslots None (Some r) h = absurd (let e = h.0 in cc)
  place_off t Segments None (Some r) h = absurd (let e = h.0 in cc)
  place_off t Tokens None (Some r) h = absurd (let e = h.0 in cc)
  place_off t s (Some n) None h = by_option (object_at j s n) _ (λ d e. own_off t s n d (record { numbered = h.0; named = h.1; is = e }))
  place_off t s (Some n) (Some r) h = rw h.2.1 (object_off t s n r h.2.0 (record { numbered = h.0; named = h.1; is = h.2.1 }) h.2.2)

  outside_off : (n : ℕ) → n < 32 → has_slot_outside len j n ≡ false
  outside_off n lt = by_option (object_at j Keyslots n) _ (λ d e. by_option (keyslots_size j) _ (λ bytes b.
      by_option (decimal_in (inside_at outer.Area (codes "offset") d)) _ (λ start o. by_option (decimal_in (inside_at outer.Area (codes "size") d)) _ (λ size z.
      let p = c.within n d bytes start size (record { numbered = refl; named = lt; is = e }) b o z in
      or_off _ _ (le-ltb start (region_start len) p.0) (le-ltb (region_start len + bytes) (start + size) p.1)))))

  small_of : (n : ℕ) (d : Data) → HasObject j Keyslots n d → IsWideKeyslot d → (has_small_area j n && not (has_reencrypt j n)) ≡ false
  small_of n d h (plain_slot read) =
      let other : is_reencrypt d ≡ false = false_from_ne_true _ (λ is. not_reencrypt d (sym is) read) in
      rw (h.is, other) (with_true _ (by_option (decimal_in (inside_at outer.Area (codes "size") d)) _ (λ size z.
      by_option (number_in 1 128 (inside_at outer.Top (codes "key_size") d)) _ (λ key k. by_option (number_in 1 4294967295 (inside_at outer.Af (codes "stripes") d)) _ (λ stripes s.
      le-ltb size (rounded_to_sectors (key * stripes)) (c.large n d key stripes size h read k s z))))))
    where
      with_true : (a : Bool) → a ≡ false → (a && true) ≡ false
      with_true a e = rw e refl
  small_of n d h (reencrypt k) =
      let is : is_reencrypt d ≡ true = rw k.typed refl in
      rw (h.is, is) (with_false _)
    where
      with_false : (a : Bool) → (a && false) ≡ false
      with_false true = refl
      with_false false = refl

  small_off : (n : ℕ) → n < 32 → has_small_key_area j n ≡ false
  small_off n lt = by (object_at j Keyslots n) refl
    where
      by : (o : Option Data) → object_at j Keyslots n ≡ o → has_small_key_area j n ≡ false
      by None e = rw e refl
      by (Some d) e = let h : HasObject j Keyslots n d = record { numbered = refl; named = lt; is = e } in small_of n d h (c.keyslots n d h)

  pub faultless_of : IsWideFaultless len j
  faultless_of = record {
    whole = c.whole;
    places = λ t p h. place_off t p.section p.number p.row h;
    sizes = rw (c.sized, eq-eqb len len refl) refl;
    areas = small_off;
    region = outside_off;
  }
