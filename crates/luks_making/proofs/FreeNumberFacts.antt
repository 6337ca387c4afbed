-- No digest names a number that no keyslot has.
use Rattle.std.proofs.Common.{◌≡◌, ℕ, true, false, Option, Some, None, option_and_then, is_some, bytes_eq, codes, List, refl, sym, ◌∙◌, inl, inr}
use Rattle.std.specs.Option.{option_map_or}
use Rattle.std.proofs.lemmas.Bool.{false≢true, cases_Bool, and_parts}
use Rattle.std.proofs.lemmas.Slice.Eq.{bytes_eq-Decides}
use Rattle.serde_json.specs.Data.{Data, string, object, Items, no_items, item, Members, no_members, member}
use Rattle.serde_json.specs.Find.{get, get_member, as_object}
use Rattle.luks_json.specs.Arrays.{all_named, all_there, has_text, is_text, is_there, names, naming_count, naming_members}
use Rattle.luks_json.specs.Number.{is_name, number_of, number_text}
use Rattle.luks_json.proofs.Numbers.{text_of_named}
use Rattle.luks_rules.specs.declared.table.Section.TheVariants.{Digests, Keyslots}
use Rattle.luks_rules.specs.declared.table.Member.TheVariants as name
use Rattle.luks_rules.specs.declared.table.Rule.TheVariants as rule
use Rattle.luks_rules.specs.Accepted.{HasObject, IsContent}
use Rattle.luks_rules.specs.Faults.{object_at, section_at}
use Rattle.luks_rules.specs.Table.{member as row}
use Rattle.luks_making.specs.Naming.{HasUniqueDigests, IsUnique}
use Rattle.luks_making.proofs.MemberFacts.{same_name, seek}
use Rattle.luks_making.proofs.RowFacts.{digest_array}
use Rattle.luks_making.proofs.EachFacts.{or_off}

-- ---- members of unique names

-- each member of the second list is found by its name in the first
AllFound : Members → Members → Type 0
AllFound full no_members = Unit {0}
AllFound full (member l d ms) = (get_member l full ≡ Some d) × (is_name l ≡ true) × AllFound full ms

-- so it is where one of another name comes before
weaker : (k : List ℕ) (e : Data) (full ms : Members) → get_member k full ≡ None → AllFound full ms → AllFound (member k e full) ms
unfolding AllFound
weaker k e full no_members alone h = tt
weaker k e full (member l d ms) alone h = elim (cases_Bool (bytes_eq l k)) [
  | inl same ↦ absurd (let is : l ≡ k = (bytes_eq-Decides l k).0 same in let both : Some d ≡ None = sym (rw is at h.0) ∙ alone in cc)
  | inr other ↦ (rw (seek l k e full, other) h.0, h.1, weaker k e full ms alone h.2)
]

here_by : (k : List ℕ) (e : Data) (ms : Members) → get_member k (member k e ms) ≡ Some e
here_by k e ms = rw (seek k k e ms, same_name k) refl

all_found : (ms : Members) → IsUnique ms → all_named ms ≡ true → AllFound ms ms
unfolding AllFound
all_found no_members u h = tt
all_found (member k e ms) u h = let p = and_parts _ _ h in (here_by k e ms, p.0, weaker k e ms ms u.0 (all_found ms u.1 p.1))

-- ---- arrays

-- a name that no member has is in no array of names of members
absent_is : (map : Option Data) (t : List ℕ) (d : Data) → option_and_then (get t) map ≡ None → is_there map d ≡ true → is_text t d ≡ false
absent_is map t (string s) off h = elim (cases_Bool (bytes_eq s t)) [
  | inl same ↦ absurd (let is : s ≡ t = (bytes_eq-Decides s t).0 same in let there : is_some (option_and_then (get t) map) ≡ true = rw is at h in false≢true (rw off at there))
  | inr other ↦ other
]
absent_is map t d off h = refl

absent_text : (map : Option Data) (t : List ℕ) (ds : Items) → option_and_then (get t) map ≡ None → all_there map ds ≡ true → has_text t ds ≡ false
absent_text map t no_items off h = refl
absent_text map t (item d ds) off h = let p = and_parts _ _ h in or_off _ _ (absent_is map t d off p.0) (absent_text map t ds off p.1)

-- ---- the digests

some_number : (o : Option ℕ) → is_some o ≡ true → (i : ℕ) × (o ≡ Some i)
some_number None h = absurd (false≢true h)
some_number (Some i) h = (i, refl)

-- a member of an object is found in it
found_at : (v : Option Data) (full : Members) (k : List ℕ) (d : Data) → option_and_then as_object v ≡ Some full → get_member k full ≡ Some d → option_and_then (get k) v ≡ Some d
found_at (Some (object ms)) full k d e h = let same : ms ≡ full = cc in rw same h
found_at v full k d e h = absurd (cc)

the_map : (v : Option Members) → option_map_or all_named v false ≡ true → (ms : Members) × (v ≡ Some ms) × (all_named ms ≡ true)
the_map None h = absurd (false≢true h)
the_map (Some ms) h = (ms, refl, h)

module _ (len n : ℕ) (j : Data) (c : IsContent len j) (free : object_at j Keyslots n ≡ None) (full : Members) (are : option_and_then as_object (section_at j Digests) ≡ Some full) where
  -- no digest has the name
  not_named : (l : List ℕ) (d : Data) → get_member l full ≡ Some d → is_name l ≡ true → names (number_text n) (get (codes "keyslots") d) ≡ false
  not_named l d found named =
      let i = some_number (number_of l) named in
      let text = text_of_named l i.0 i.1 in
      let at : object_at j Digests i.0 ≡ Some d = rw (← text.0) (found_at (section_at j Digests) full l d are found) in
      let held : HasObject j Digests i.0 d = record { numbered = refl; named = text.1; is = at } in
      let list = digest_array len j c i.0 d held in
      let there : all_there (section_at j Keyslots) list.0 ≡ true
      = c.resolves.there Digests Keyslots list.0 (record { number = i.0; object = d; held = held; row = row name.Keyslots (rule.Names Keyslots); listed = inr (inr (inr (inl refl))); speaks = refl; is = list.1 }) in
      rw list.1 (absent_text (section_at j Keyslots) (number_text n) list.0 free there)

  none_of : (ms : Members) → AllFound full ms → naming_members (codes "keyslots") (number_text n) ms ≡ 0
  unfolding AllFound
  none_of no_members h = refl
  none_of (member l d ms) h = rw (not_named l d h.0 h.1, none_of ms h.2) refl

  counted_none : IsUnique full → all_named full ≡ true → naming_count (codes "keyslots") (number_text n) (section_at j Digests) ≡ 0
  counted_none u h = rw are (none_of full (all_found full u h))

-- the count of the digests that name it is 0
pub unnamed_free : (len n : ℕ) (j : Data) → IsContent len j → object_at j Keyslots n ≡ None → HasUniqueDigests j → naming_count (codes "keyslots") (number_text n) (section_at j Digests) ≡ 0
unnamed_free len n j c free u =
    let map = the_map (option_and_then as_object (section_at j Digests)) (c.sections Digests) in
    counted_none len n j c free map.0 map.1 (u map.0 map.1) map.2
