-- The metadata with a changed keyslot: what is there of the old, and that it meets every rule that the old met.
use Rattle.std.proofs.Common.{◌≡◌, ℕ, Bool, true, false, List, [], ◌∷◌, length, Option, Some, None, option_map, option_and_then, is_some, bytes_eq, codes, decimal, refl, sym, ap, subst, ◌∙◌, inl, inr, arith}
use Rattle.std.specs.Prelude.{◌↔◌, slice_get, IfSome}
use Rattle.std.specs.List.{list_any}
use Rattle.std.specs.Option.{unwrap_or}
use Rattle.std.proofs.lemmas.Bool.{false≢true, true≢false, cases_Bool, cases_eq, and_from}
use Rattle.std.proofs.lemmas.Slice.Eq.{bytes_eq-Decides}
use Rattle.serde_json.specs.Data.{Data, number, string, unsigned}
use Rattle.serde_json.specs.Find.{get, as_object}
use Rattle.luks_json.specs.Arrays.{naming_count}
use Rattle.luks_json.specs.Number.{number_text}
use Rattle.luks_rules.specs.declared.table.Section.{Section}
use Rattle.luks_rules.specs.declared.table.Section.TheVariants.{Digests, Keyslots, Tokens}
use Rattle.luks_rules.specs.declared.table.Outer.{Outer}
use Rattle.luks_rules.specs.declared.table.Outer.TheVariants as outer
use Rattle.luks_rules.specs.declared.table.Rule.{Rule}
use Rattle.luks_rules.specs.declared.table.Rule.TheVariants as rule
use Rattle.luks_rules.specs.declared.table.When.TheVariants as when
use Rattle.luks_rules.specs.declared.table.Row.{Row}
use Rattle.luks_rules.specs.Accepted.{HasObject, IsContent, IsRead}
use Rattle.luks_rules.specs.Faults.{is_judged, is_section, object_at, outer_at, section_at, suits, type_at, value_at}
use Rattle.luks_rules.specs.Held.{IsHeld}
use Rattle.luks_rules.specs.Reading.{bytes_in, decimal_in, number_in, reads, text, text_of}
use Rattle.luks_rules.specs.Reading.{object as object_field}
use Rattle.luks_rules.specs.Table.{keyslot_rows, member_name, section_name}
use Rattle.luks_making.specs.declared.derivation.NewDerivation.{NewDerivation}
use Rattle.luks_making.specs.Changed.{changed_slot, kdf_or, renewed_area, renewed_kdf, renewed_slot, resalted_kdf, splitter_hash}
use Rattle.luks_making.specs.Changing.{at_member, change_member}
use Rattle.luks_making.specs.Conditions.{Between, CanSeal, FitsNew, IsSalt}
use Rattle.luks_making.specs.Derivations.{FitsNewDerivation, IsPositiveOr}
use Rattle.luks_making.specs.Keyslots.{NewMembers, base64_text, derivation_by, kdf_value}
use Rattle.luks_making.specs.Naming.{IsDigestOf}
use Rattle.luks_making.specs.Unchanged.{ChangesSlot, KeepsDerivation, KeepsOthers, KeepsRest, SaysAsked, SaysNew}
use Rattle.luks_making.proofs.EachFacts.{IsFine, KeepsFine, Named, each_changed, fine_at, fine_set, named_map, neither, or_off}
use Rattle.luks_making.proofs.EditFacts.{ObjectEdit, SlotBack, held_edited, kept, made, naming_kept, naming_same, object_same, objects_kept}
use Rattle.luks_making.proofs.KdfFacts.{ReadsKdf, chosen_fits, made_fine, made_read, says_derivation, says_salt}
use Rattle.luks_making.proofs.MemberFacts.{beside, get_changed, get_kept, map_is_some, some_same, through, two_first, two_object, two_others, two_second}
use Rattle.luks_making.proofs.NameFacts.{HasMore, texts_differ}
use Rattle.luks_making.proofs.ReadingFacts.{below_32, bytes_are, decimal_is, decimal_read, number_is, number_read, salt_read}
use Rattle.luks_making.proofs.RowFacts.{RowRead, rows_read}

abbrev counted : NewMembers → Data
counted f = number (unsigned f.derivation.iterations)

abbrev salted : NewMembers → Data
salted f = string (base64_text f.salt)

abbrev placed : NewMembers → Data
placed f = string (decimal f.offset)

abbrev sized : NewMembers → Data
sized f = string (decimal f.size)

-- the members that are new, by the object that they are in
abbrev edited : Outer → List (List ℕ)
edited outer.Top = codes "area" ∷ codes "kdf" ∷ []
edited outer.Af = []
edited outer.Area = codes "offset" ∷ codes "size" ∷ []
edited outer.Kdf = []

abbrev is_kdf : Outer → Bool
is_kdf outer.Top = false
is_kdf outer.Af = false
is_kdf outer.Area = false
is_kdf outer.Kdf = true

-- a row whose object and type are as they were is judged as it was
pub judged_by : (a b : Data) (r : Row) → is_some (option_and_then as_object (outer_at a r.outer)) ≡ is_some (option_and_then as_object (outer_at b r.outer))
    → option_and_then (get (codes "type")) (outer_at a r.outer) ≡ option_and_then (get (codes "type")) (outer_at b r.outer) → is_judged a r ≡ is_judged b r
judged_by a b r there kind = rw (there, kind) refl

objects_by : (g : Data → Data) (v : Option Data) → ((x : Data) → is_some (as_object (g x)) ≡ is_some (as_object x)) → is_some (option_and_then as_object (option_map g v)) ≡ is_some (option_and_then as_object v)
objects_by g None h = refl
objects_by g (Some x) h = h x

-- a value that is read is there
there_by : (q : Rule) (v : Option Data) → is_some (reads q None) ≡ false → is_some (reads q v) ≡ true → (x : Data) × (v ≡ Some x)
there_by q None off h = absurd (false≢true (sym off ∙ h))
there_by q (Some x) off h = (x, refl)

-- a member that is put in the place of one is there
put_by : (v : Option Data) (x : Data) → is_some (option_and_then as_object v) ≡ true → option_map (λ _. x) v ≡ Some x
put_by None x h = absurd (false≢true h)
put_by (Some y) x h = refl

-- a text that is there is the text, or what stands for none
text_or : (t : Option (List ℕ)) → is_some (option_map text t) ≡ true → t ≡ Some (unwrap_or t [])
text_or None h = absurd (false≢true h)
text_or (Some t) h = refl

-- ---- a keyslot with a new area, and its derivation changed by any function

module _ (f : NewMembers) (g : Data → Data) (d : Data) where
  abbrev slot : Data
  slot = at_member (codes "kdf") g (at_member (codes "area") (renewed_area f) d)

  area_is : get (codes "area") slot ≡ option_map (renewed_area f) (get (codes "area") d)
  area_is = two_second (codes "kdf") (codes "area") g (renewed_area f) d refl

  kdf_is : get (codes "kdf") slot ≡ option_map g (get (codes "kdf") d)
  kdf_is = two_first (codes "kdf") (codes "area") g (renewed_area f) d refl

  beside_both : KeepsOthers (edited outer.Top) d slot
  beside_both k off = let p = neither _ _ off in two_others k (codes "kdf") (codes "area") g (renewed_area f) d (neither _ _ p.1).0 p.0

  -- a member whose value stays
  member_same : (o : Outer) (k : List ℕ) → is_kdf o ≡ false → list_any (bytes_eq k) (edited o) ≡ false → option_and_then (get k) (outer_at slot o) ≡ option_and_then (get k) (outer_at d o)
  member_same outer.Top k out off = beside_both k off
  member_same outer.Af k out off = ap (option_and_then (get k)) (beside_both (codes "af") refl)
  member_same outer.Area k out off =
      let p = neither _ _ off in
      ap (option_and_then (get k)) area_is ∙ beside k (renewed_area f) (get (codes "area") d) (λ x. two_others k (codes "offset") (codes "size") (λ _. placed f) (λ _. sized f) x p.0 (neither _ _ p.1).0)
  member_same outer.Kdf k out off = absurd (true≢false out)

  -- a member whose value is new
  in_area : (k : List ℕ) (v : Data) → ((x : Data) → get k (renewed_area f x) ≡ option_map (λ _. v) (get k x)) → option_and_then (get k) (get (codes "area") slot) ≡ option_map (λ _. v) (option_and_then (get k) (get (codes "area") d))
  in_area k v h = ap (option_and_then (get k)) area_is ∙ through k (renewed_area f) (λ _. v) (get (codes "area") d) h

  new_offset : option_and_then (get (codes "offset")) (get (codes "area") slot) ≡ option_map (λ _. placed f) (option_and_then (get (codes "offset")) (get (codes "area") d))
  new_offset = in_area (codes "offset") (placed f) (λ x. two_first (codes "offset") (codes "size") (λ _. placed f) (λ _. sized f) x refl)

  new_size : option_and_then (get (codes "size")) (get (codes "area") slot) ≡ option_map (λ _. sized f) (option_and_then (get (codes "size")) (get (codes "area") d))
  new_size = in_area (codes "size") (sized f) (λ x. two_second (codes "offset") (codes "size") (λ _. placed f) (λ _. sized f) x refl)

  -- ---- which rows are judged

  still_slot : is_some (as_object slot) ≡ is_some (as_object d)
  still_slot = two_object (codes "kdf") (codes "area") g (renewed_area f) d

  object_stays : (o : Outer) → is_kdf o ≡ false → is_some (option_and_then as_object (outer_at slot o)) ≡ is_some (option_and_then as_object (outer_at d o))
  object_stays outer.Top out = still_slot
  object_stays outer.Af out = ap (λ v. is_some (option_and_then as_object v)) (beside_both (codes "af") refl)
  object_stays outer.Area out =
      ap (λ v. is_some (option_and_then as_object v)) area_is ∙ objects_by (renewed_area f) (get (codes "area") d) (two_object (codes "offset") (codes "size") (λ _. placed f) (λ _. sized f))
  object_stays outer.Kdf out = absurd (true≢false out)

  type_off : (o : Outer) → list_any (bytes_eq (codes "type")) (edited o) ≡ false
  type_off outer.Top = refl
  type_off o = refl

  -- the same as before
  judged_same : (r : Row) → is_kdf r.outer ≡ false → is_judged slot r ≡ is_judged d r
  judged_same r out = judged_by slot d r (object_stays r.outer out) (member_same r.outer (codes "type") out (type_off r.outer))

  -- ---- the rows

  module _ (read : IsRead keyslot_rows d) where
    kept_row : (i : ℕ) (r : Row) → slice_get keyslot_rows i ≡ Some r → is_kdf r.outer ≡ false → list_any (bytes_eq (member_name r.name)) (edited r.outer) ≡ false → RowRead slot r
    kept_row i r here out off judged = ap (λ v. is_some (reads r.rule v)) (member_same r.outer (member_name r.name) out off) ∙ read.each i r here (sym (judged_same r out) ∙ judged)

    renewed_by : (q : Rule) (v : Option Data) (x : Data) → is_some (reads q v) ≡ true → is_some (reads q (Some x)) ≡ true → is_some (reads q (option_map (λ _. x) v)) ≡ true
    renewed_by q None x h k = h
    renewed_by q (Some y) x h k = k

    new_row : (i : ℕ) (r : Row) (x : Data) → slice_get keyslot_rows i ≡ Some r → is_kdf r.outer ≡ false → value_at slot r ≡ option_map (λ _. x) (value_at d r) → is_some (reads r.rule (Some x)) ≡ true → RowRead slot r
    new_row i r x here out is fits judged =
        ap (λ v. is_some (reads r.rule v)) is ∙ renewed_by r.rule (value_at d r) x (read.each i r here (sym (judged_same r out) ∙ judged)) fits

    was_object : (i : ℕ) (r : Row) → slice_get keyslot_rows i ≡ Some r → r.rule ≡ rule.Object → is_judged d r ≡ true → is_some (option_and_then as_object (value_at d r)) ≡ true
    was_object i r here is judged =
        let read_it : is_some (reads rule.Object (value_at d r)) ≡ true = rw is at (read.each i r here judged) in
        sym (map_is_some (λ m. object_field) (option_and_then as_object (value_at d r))) ∙ read_it

    has_af : is_some (option_and_then as_object (get (codes "af") d)) ≡ true
    has_af = was_object 0 _ refl refl (and_from _ _ read.is_object refl)

    has_area : is_some (option_and_then as_object (get (codes "area") d)) ≡ true
    has_area = was_object 4 _ refl refl (and_from _ _ read.is_object refl)

    has_kdf : is_some (option_and_then as_object (get (codes "kdf") d)) ≡ true
    has_kdf = was_object 10 _ refl refl (and_from _ _ read.is_object refl)

    -- a row whose member is an object
    object_row : (i : ℕ) (r : Row) → slice_get keyslot_rows i ≡ Some r → r.rule ≡ rule.Object → is_some (option_and_then as_object (value_at slot r)) ≡ true → RowRead slot r
    object_row i r here is there judged = rw is (map_is_some (λ m. object_field) (option_and_then as_object (value_at slot r)) ∙ there)

    -- the keyslot meets the rules once its derivation does
    read_with : FitsNew f → ReadsKdf (get (codes "kdf") slot) → IsRead keyslot_rows slot
    read_with new kdf =
        rows_read keyslot_rows slot (still_slot ∙ read.is_object) (kept_row 0 _ refl refl refl) (kept_row 1 _ refl refl refl) (kept_row 2 _ refl refl refl) (kept_row 3 _ refl refl refl)
        (object_row 4 _ refl refl (object_stays outer.Area refl ∙ has_area)) (kept_row 5 _ refl refl refl) (kept_row 6 _ refl refl refl) (new_row 7 _ (placed f) refl refl new_offset (decimal_read f.offset new.offset))
        (new_row 8 _ (sized f) refl refl new_size (decimal_read f.size new.size)) (kept_row 9 _ refl refl refl) (object_row 10 _ refl refl kdf.object) kdf.cpus kdf.hash kdf.iterations kdf.memory kdf.salt kdf.time kdf.kind
        (kept_row 18 _ refl refl refl) (kept_row 19 _ refl refl refl) (kept_row 20 _ refl refl refl)

    -- ---- what its area says

    offset_is : FitsNew f → decimal_in (option_and_then (get (codes "offset")) (get (codes "area") slot)) ≡ Some f.offset
    offset_is new =
        let was = there_by rule.Decimal (option_and_then (get (codes "offset")) (get (codes "area") d)) refl (read.each 7 _ refl (and_from _ _ has_area refl)) in
        ap decimal_in (new_offset ∙ ap (option_map (λ _. placed f)) was.1) ∙ decimal_is f.offset new.offset

    size_is : FitsNew f → decimal_in (option_and_then (get (codes "size")) (get (codes "area") slot)) ≡ Some f.size
    size_is new =
        let was = there_by rule.Decimal (option_and_then (get (codes "size")) (get (codes "area") d)) refl (read.each 8 _ refl (and_from _ _ has_area refl)) in
        ap decimal_in (new_size ∙ ap (option_map (λ _. sized f)) was.1) ∙ decimal_is f.size new.size

    -- the hash of its splitter is as it was
    splitter_is : text_of (option_and_then (get (codes "hash")) (get (codes "af") slot)) ≡ Some (splitter_hash d)
    splitter_is =
        ap text_of (member_same outer.Af (codes "hash") refl refl)
        ∙ text_or (text_of (option_and_then (get (codes "hash")) (get (codes "af") d))) (read.each 1 _ refl (and_from _ _ has_af refl))

-- ---- its derivation is as it was, except for the salt and the iterations

module _ (f : NewMembers) (d : Data) (read : IsRead keyslot_rows d) where
  abbrev resalted : Data
  resalted = slot f (resalted_kdf f) d

  abbrev old_kdf : Option Data
  old_kdf = get (codes "kdf") d

  resalted_is : get (codes "kdf") resalted ≡ option_map (resalted_kdf f) old_kdf
  resalted_is = kdf_is f (resalted_kdf f) d

  kdf_same : (k : List ℕ) → list_any (bytes_eq k) (codes "iterations" ∷ codes "salt" ∷ []) ≡ false → option_and_then (get k) (get (codes "kdf") resalted) ≡ option_and_then (get k) old_kdf
  kdf_same k off =
      let p = neither _ _ off in
      ap (option_and_then (get k)) resalted_is ∙ beside k (resalted_kdf f) old_kdf (λ x. two_others k (codes "iterations") (codes "salt") (λ _. counted f) (λ _. salted f) x p.0 (neither _ _ p.1).0)

  in_kdf : (k : List ℕ) (v : Data) → ((x : Data) → get k (resalted_kdf f x) ≡ option_map (λ _. v) (get k x)) → option_and_then (get k) (get (codes "kdf") resalted) ≡ option_map (λ _. v) (option_and_then (get k) old_kdf)
  in_kdf k v h = ap (option_and_then (get k)) resalted_is ∙ through k (resalted_kdf f) (λ _. v) old_kdf h

  new_iterations : option_and_then (get (codes "iterations")) (get (codes "kdf") resalted) ≡ option_map (λ _. counted f) (option_and_then (get (codes "iterations")) old_kdf)
  new_iterations = in_kdf (codes "iterations") (counted f) (λ x. two_first (codes "iterations") (codes "salt") (λ _. counted f) (λ _. salted f) x refl)

  new_salt : option_and_then (get (codes "salt")) (get (codes "kdf") resalted) ≡ option_map (λ _. salted f) (option_and_then (get (codes "salt")) old_kdf)
  new_salt = in_kdf (codes "salt") (salted f) (λ x. two_second (codes "iterations") (codes "salt") (λ _. counted f) (λ _. salted f) x refl)

  kdf_stays : is_some (option_and_then as_object (get (codes "kdf") resalted)) ≡ is_some (option_and_then as_object old_kdf)
  kdf_stays = ap (λ v. is_some (option_and_then as_object v)) resalted_is ∙ objects_by (resalted_kdf f) old_kdf (two_object (codes "iterations") (codes "salt") (λ _. counted f) (λ _. salted f))

  -- its rows are judged as before
  judged_kdf : (r : Row) → r.outer ≡ outer.Kdf → is_judged resalted r ≡ is_judged d r
  judged_kdf r inside = judged_by resalted d r (rw inside kdf_stays) (rw inside (kdf_same (codes "type") refl))

  kept_kdf : (i : ℕ) (r : Row) → slice_get keyslot_rows i ≡ Some r → r.outer ≡ outer.Kdf → list_any (bytes_eq (member_name r.name)) (codes "iterations" ∷ codes "salt" ∷ []) ≡ false → RowRead resalted r
  kept_kdf i r here inside off judged =
      let same : value_at resalted r ≡ value_at d r = rw inside (kdf_same (member_name r.name) off) in
      ap (λ v. is_some (reads r.rule v)) same ∙ read.each i r here (sym (judged_kdf r inside) ∙ judged)

  new_kdf : (i : ℕ) (r : Row) (x : Data) → slice_get keyslot_rows i ≡ Some r → r.outer ≡ outer.Kdf → value_at resalted r ≡ option_map (λ _. x) (value_at d r) → is_some (reads r.rule (Some x)) ≡ true → RowRead resalted r
  new_kdf i r x here inside is fits judged =
      ap (λ v. is_some (reads r.rule v)) is
      ∙ renewed_by f (resalted_kdf f) d read r.rule (value_at d r) x (read.each i r here (sym (judged_kdf r inside) ∙ judged)) fits

  module _ (fits : Between 1 4294967295 f.derivation.iterations) (salt : IsSalt f.salt) where
    resalted_reads : ReadsKdf (get (codes "kdf") resalted)
    resalted_reads = record {
      object = kdf_stays ∙ has_kdf f (resalted_kdf f) d read;
      cpus = kept_kdf 11 _ refl refl refl;
      hash = kept_kdf 12 _ refl refl refl;
      iterations = new_kdf 13 _ (counted f) refl refl new_iterations (number_read 1 4294967295 f.derivation.iterations fits);
      memory = kept_kdf 14 _ refl refl refl;
      salt = new_kdf 15 _ (salted f) refl refl new_salt (salt_read f.salt salt);
      time = kept_kdf 16 _ refl refl refl;
      kind = kept_kdf 17 _ refl refl refl;
    }

    -- what it says of its derivation
    keeps_derivation : KeepsDerivation f.derivation.iterations d resalted
    keeps_derivation = record {
      iterations = λ derived. (
          let suited : suits when.Pbkdf2 (type_at d outer.Kdf) ≡ true = rw derived refl in
          let was = there_by (rule.Number 1 4294967295) (option_and_then (get (codes "iterations")) old_kdf) refl (read.each 13 _ refl (and_from _ _ (has_kdf f (resalted_kdf f) d read) suited)) in
          ap (number_in 1 4294967295) (new_iterations ∙ ap (option_map (λ _. counted f)) was.1) ∙ number_is 1 4294967295 f.derivation.iterations fits);
      others = kdf_same;
    }

    resalted_says : bytes_in 1 128 (option_and_then (get (codes "salt")) (get (codes "kdf") resalted)) ≡ Some f.salt
    resalted_says =
        let was = there_by (rule.Base64 1 128) (option_and_then (get (codes "salt")) old_kdf) refl (read.each 15 _ refl (and_from _ _ (has_kdf f (resalted_kdf f) d read) refl)) in
        ap (bytes_in 1 128) (new_salt ∙ ap (option_map (λ _. salted f)) was.1) ∙ bytes_are 1 128 f.salt (omega arith) salt.are_bytes salt.long

-- ---- whatever is asked of its derivation

module _ (f : NewMembers) (d : Data) (read : IsRead keyslot_rows d) (new : FitsNew f) (long : Between 1 128 (length f.salt)) where
  abbrev hash : List ℕ
  hash = splitter_hash d

  abbrev asked_slot : Option NewDerivation → Data
  asked_slot chosen = slot f (kdf_or f hash chosen) d

  salt_is : IsSalt f.salt
  salt_is = record { are_bytes = new.salt; long = long }

  -- the chosen derivation is in it
  chosen_is : (c : NewDerivation) → get (codes "kdf") (asked_slot (Some c)) ≡ Some (kdf_value (derivation_by hash c) f.salt)
  chosen_is c = kdf_is f (kdf_or f hash (Some c)) d ∙ put_by (get (codes "kdf") d) (kdf_value (derivation_by hash c) f.salt) (has_kdf f (kdf_or f hash (Some c)) d read)

  abbrev Counts : Option NewDerivation → Type 0
  Counts chosen = IfSome chosen FitsNewDerivation × IsPositiveOr f.derivation.iterations chosen

  turns : IsPositiveOr f.derivation.iterations None → Between 1 4294967295 f.derivation.iterations
  turns one = below_32 f.derivation.iterations one new.derivation.iterations

  -- the keyslot meets the rules
  read_by : (chosen : Option NewDerivation) → Counts chosen → IsRead keyslot_rows (asked_slot chosen)
  read_by None fits = read_with f (kdf_or f hash None) d read new (resalted_reads f d read (turns fits.1) salt_is)
  read_by (Some c) fits =
      read_with f (kdf_or f hash (Some c)) d read new
      (subst ReadsKdf (sym (chosen_is c)) (made_read (derivation_by hash c) f.salt (chosen_fits hash f.derivation.iterations c fits.0 fits.1) salt_is))

  -- and says what is asked
  asked_says : (chosen : Option NewDerivation) → Counts chosen → SaysAsked f chosen d (asked_slot chosen)
  asked_says None fits = keeps_derivation f d read (turns fits.1) salt_is
  asked_says (Some c) fits = record {
    hash = hash;
    splitter = splitter_is f (kdf_or f hash (Some c)) d read;
    derivation = says_derivation (derivation_by hash c) f.salt (asked_slot (Some c)) (chosen_is c) (chosen_fits hash f.derivation.iterations c fits.0 fits.1);
    whole = chosen_is c;
  }

  salt_says : (chosen : Option NewDerivation) → Counts chosen → bytes_in 1 128 (option_and_then (get (codes "salt")) (get (codes "kdf") (asked_slot chosen))) ≡ Some f.salt
  salt_says None fits = resalted_says f d read (turns fits.1) salt_is
  salt_says (Some c) fits = says_salt (derivation_by hash c) f.salt (asked_slot (Some c)) (chosen_is c) salt_is

  module _ (one : IsPositiveOr f.derivation.iterations f.derivation.chosen) where
    abbrev kdf : Data → Data
    kdf = renewed_kdf f hash

    renewed_read : IsRead keyslot_rows (renewed_slot f d)
    renewed_read = read_by f.derivation.chosen (new.derivation.chosen, one)

    says_new : SaysNew f d (renewed_slot f d)
    says_new = record {
      derivation = asked_says f.derivation.chosen (new.derivation.chosen, one);
      salt = salt_says f.derivation.chosen (new.derivation.chosen, one);
      offset = offset_is f kdf d read new;
      size = size_is f kdf d read new;
      members = beside_both f kdf d;
      area = λ k. member_same f kdf d outer.Area k refl;
    }

module _ (n : ℕ) (f : NewMembers) (j : Data) where
  -- ---- sections and objects

  abbrev changed : Data
  changed = changed_slot n f j

  abbrev into : Data → Data
  into = at_member (number_text n) (renewed_slot f)

  -- each section of the new value
  other_section : KeepsOthers (codes "keyslots" ∷ []) j changed
  other_section k off = get_kept k (codes "keyslots") into j (neither _ _ off).0

  slots_are : section_at changed Keyslots ≡ option_map into (section_at j Keyslots)
  slots_are = get_changed (codes "keyslots") into j

  -- the keyslot is renewed, the others are as they were
  slot_here : object_at changed Keyslots n ≡ option_map (renewed_slot f) (object_at j Keyslots n)
  slot_here = ap (option_and_then (get (number_text n))) slots_are ∙ through (number_text n) into (renewed_slot f) (section_at j Keyslots) (get_changed (number_text n) (renewed_slot f))

  text_beside : (t : List ℕ) → bytes_eq t (number_text n) ≡ false → option_and_then (get t) (section_at changed Keyslots) ≡ option_and_then (get t) (section_at j Keyslots)
  text_beside t off = ap (option_and_then (get t)) slots_are ∙ beside t into (section_at j Keyslots) (λ d. get_kept t (number_text n) (renewed_slot f) d off)

  slot_beside : (m : ℕ) → (m ≡ n → ⊥) → object_at changed Keyslots m ≡ object_at j Keyslots m
  slot_beside m other = text_beside (number_text m) (texts_differ m n other)

  -- the same names are there
  names_same : (t : List ℕ) → is_some (option_and_then (get t) (section_at changed Keyslots)) ≡ is_some (option_and_then (get t) (section_at j Keyslots))
  names_same t = elim (cases_Bool (bytes_eq t (number_text n))) [
    | inl same ↦ (let is : t ≡ number_text n = (bytes_eq-Decides t (number_text n)).0 same in rw is (ap is_some slot_here ∙ map_is_some (renewed_slot f) (object_at j Keyslots n)))
    | inr off ↦ ap is_some (text_beside t off)
  ]

  -- the digest of each keyslot is the same
  abbrev section_edit : (s : Section) → section_at changed s ≡ section_at j s → (i : ℕ) → ObjectEdit s i j changed
  section_edit s same i = object_same s i j changed (ap (option_and_then (get (number_text i))) same)

  naming : (m k : ℕ) → IsDigestOf j m k ↔ IsDigestOf changed m k
  naming m k = naming_kept m k j changed (names_same (number_text m)) (section_edit Digests (other_section (codes "digests") refl) k) (λ d. refl)

  -- a name that is none of three is not the second
  not_slots : (k : List ℕ) → list_any (bytes_eq k) (codes "digests" ∷ codes "keyslots" ∷ codes "tokens" ∷ []) ≡ false → list_any (bytes_eq k) (codes "keyslots" ∷ []) ≡ false
  not_slots k off = or_off _ _ (neither _ _ (neither _ _ off).1).0 refl

  -- all that isn't the keyslot is as it was
  rest_changed : KeepsRest n j changed
  rest_changed = record {
    keyslots = slot_beside;
    naming = λ m k other. naming m k;
    digests = objects_kept Digests j changed (section_edit Digests (other_section (codes "digests") refl));
    tokens = objects_kept Tokens j changed (section_edit Tokens (other_section (codes "tokens") refl));
    segments = other_section (codes "segments") refl;
    config = other_section (codes "config") refl;
    others = λ k off. other_section k (not_slots k off);
  }

  -- ---- whole numbers and nesting

  fine_kdf : (hash : List ℕ) (chosen : Option NewDerivation) → KeepsFine 124 (kdf_or f hash chosen)
  fine_kdf hash None d h = fine_set 123 (codes "iterations") (counted f) (record { whole = refl; nests = omega arith }) _ (fine_set 123 (codes "salt") (salted f) (record { whole = refl; nests = omega arith }) d h)
  fine_kdf hash (Some c) d h = made_fine (derivation_by hash c) f.salt

  fine_area : KeepsFine 124 (renewed_area f)
  fine_area d h = fine_set 123 (codes "offset") (placed f) (record { whole = refl; nests = omega arith }) _ (fine_set 123 (codes "size") (sized f) (record { whole = refl; nests = omega arith }) d h)

  -- at most 127 levels, 126 below a section, 125 below a keyslot
  fine_changed : IsFine 127 j → IsFine 127 changed
  fine_changed h =
      fine_at 126 (codes "keyslots") into (fine_at 125 (number_text n) (renewed_slot f) (λ d x. fine_at 124 (codes "kdf") (renewed_kdf f (splitter_hash d)) (fine_kdf (splitter_hash d) f.derivation.chosen) _ (fine_at 124 (codes "area") (renewed_area f) fine_area d x))) j h

  -- ---- the rules

  module _ (len : ℕ) (c : IsContent len j) (can : CanSeal len j n f) (new : FitsNew f) where
    maps_changed : (k : Section) → is_section k (section_at j k) ≡ true → is_section k (section_at changed k) ≡ true
    maps_changed Keyslots h = rw slots_are (named_map (change_member (number_text n) (renewed_slot f)) (section_at j Keyslots) (each_changed Named (number_text n) (renewed_slot f) (λ l d e. e)) h)
    maps_changed k h = rw (other_section (section_name k) refl) h

    beside_held : (k : Section) (i : ℕ) (d : Data) → list_any (bytes_eq (section_name k)) (codes "keyslots" ∷ []) ≡ false → HasObject changed k i d → HasObject j k i d
    beside_held k i d off h = record { numbered = h.numbered; named = h.named; is = ap (option_and_then (get (number_text i))) (sym (other_section (section_name k) off)) ∙ h.is }

    slot_held : (i : ℕ) (d : Data) → (i ≡ n → ⊥) → HasObject changed Keyslots i d → HasObject j Keyslots i d
    slot_held i d other h = record { numbered = refl; named = h.named; is = sym (slot_beside i other) ∙ h.is }

    slot_now : object_at changed Keyslots n ≡ Some (renewed_slot f can.slot.object)
    slot_now = slot_here ∙ ap (option_map (renewed_slot f)) can.slot.there.is

    was_read : IsRead keyslot_rows can.slot.object
    was_read = c.objects Keyslots n can.slot.object can.slot.there

    says : SaysNew f can.slot.object (renewed_slot f can.slot.object)
    says = says_new f can.slot.object was_read new can.salt can.derivation

    slot_back : (i : ℕ) (d : Data) → HasObject changed Keyslots i d → SlotBack len j i d
    slot_back i d h = elim (cases_eq i n) [
      | inl same ↦ (
          let old = can.slot.object in
          let kdf = renewed_kdf f (splitter_hash old) in
          let there : object_at changed Keyslots n ≡ Some d = rw same at h.is in
          let is : renewed_slot f old ≡ d = some_same _ d (sym slot_now ∙ there) in
          rw (← is) (made (renewed_read f old was_read new can.salt can.derivation) (λ key stripes size a b z.
          let y : f.size ≡ size = some_same f.size size (sym says.size ∙ z) in
          rw (← y) (can.large key stripes (ap (number_in 1 128) (sym (member_same f kdf old outer.Top (codes "key_size") refl refl)) ∙ a)
          (ap (number_in 1 4294967295) (sym (member_same f kdf old outer.Af (codes "stripes") refl refl)) ∙ b))) (λ bytes start size region o z.
          let x : f.offset ≡ start = some_same f.offset start (sym says.offset ∙ o) in
          let y : f.size ≡ size = some_same f.size size (sym says.size ∙ z) in
          rw (← x, ← y) (can.within bytes region))))
      | inr other ↦ kept (slot_held i d other h)
    ]

    slots_more : HasMore (section_at j Keyslots) (section_at changed Keyslots)
    slots_more t h = names_same t ∙ h

    slot_once : (i : ℕ) (d : Data) → HasObject changed Keyslots i d → naming_count (codes "keyslots") (number_text i) (section_at changed Digests) ≡ 1
    slot_once i d h = rw (other_section (codes "digests") refl) (elim (cases_eq i n) [
      | inl same ↦ rw same (c.resolves.keyslots n can.slot.object can.slot.there)
      | inr other ↦ c.resolves.keyslots i d (slot_held i d other h)
    ])

-- what the value with the changed keyslot says
pub slot_renewed : (len n : ℕ) (f : NewMembers) (j : Data) → IsContent len j → CanSeal len j n f → FitsNew f → ChangesSlot n f j (changed_slot n f j)
slot_renewed len n f j c can new = record {
  was = can.slot.object;
  there = can.slot.there;
  is = slot_now n f j len c can new;
  says = says n f j len c can new;
  sections = other_section n f j;
  naming = naming n f j;
  rest = rest_changed n f j;
}

-- the value with the changed keyslot meets every rule
pub held_changed : (len n : ℕ) (f : NewMembers) (j : Data) → IsHeld len j → CanSeal len j n f → FitsNew f → IsHeld len (changed_slot n f j)
held_changed len n f j h can new = held_edited len j (changed_slot n f j) h.content (record {
  fine = fine_changed n f j (record { whole = h.content.whole; nests = h.nests });
  config = other_section n f j (codes "config") refl;
  segments = other_section n f j (codes "segments") refl;
  maps = maps_changed n f j len h.content can new;
  digest = λ i d o. naming_same len j (changed_slot n f j) Digests h.content (inr (inr (inr (inl refl)))) (slots_more n f j len h.content can new) i d (beside_held n f j len h.content can new Digests i d refl o);
  token = λ i d o. naming_same len j (changed_slot n f j) Tokens h.content (inl refl) (slots_more n f j len h.content can new) i d (beside_held n f j len h.content can new Tokens i d refl o);
  slot = slot_back n f j len h.content can new;
  slot_once = slot_once n f j len h.content can new;
  segment_once = λ t. ap (naming_count (codes "segments") t) (other_section n f j (codes "digests") refl);
})
