-- Each array of names in a value that meets the rules of what is under way is a list of names.
use Rattle.std.proofs.Common.{◌≡◌, ℕ, true, false, List, ◌∷◌, Option, Some, None, Ordering, Less, Equal, Greater, option_map, option_and_then, is_some, is_eq, refl, sym, ap, ◌∙◌}
use Rattle.std.proofs.lemmas.Bool.{false≢true, and_parts, and_from}
use Rattle.std.proofs.lemmas.Map.Text.{is_eq-slice_cmp}
use Rattle.std.proofs.lemmas.Slice.Eq.{bytes_eq-Decides}
use Rattle.std.specs.Cmp.Lexicographic.{slice_cmp}
use Rattle.std.specs.Option.{option_map_or}
use Rattle.std.specs.Ordering.{nat_cmp, match_ordering}
use Rattle.serde_json.specs.Data.{Data, null, boolean, number, string, array, object, Items, no_items, item, Members, no_members, member}
use Rattle.serde_json.specs.Find.{as_str, as_array, as_object, get, get_member}
use Rattle.luks_rules.specs.declared.table.Section.{Section}
use Rattle.luks_rules.specs.declared.table.Section.TheVariants.{Digests, Keyslots, Segments, Tokens}
use Rattle.luks_rules.specs.declared.table.Outer.TheVariants as outer
use Rattle.luks_rules.specs.declared.table.Member.TheVariants as name
use Rattle.luks_rules.specs.declared.table.Rule.TheVariants as rule
use Rattle.luks_rules.specs.declared.table.Row.{Row}
use Rattle.luks_json.specs.Number.{is_name}
use Rattle.luks_json.specs.Names.{all_names, IsNameList}
use Rattle.luks_json.specs.Arrays.{all_named, all_there}
use Rattle.luks_rules.specs.Reading.{names, item_texts, reads}
use Rattle.luks_rules.specs.Table.{rows_of, digest_rows, token_rows}
use Rattle.luks_rules.specs.Faults.{Among, section_at, value_at}
use Rattle.luks_rules.specs.Faults.{member_at}
use Rattle.luks_meta.proofs.RowsRead.{among_of, at_top, is_row_of}
use Rattle.luks_rules.specs.Accepted.{HasObject, HasNames}
use Rattle.luks_wider.specs.Accepted.{IsWideRules}

-- a member of a map whose names are all names
named_member : (o : Ordering) (k l : List ℕ) (ms : Members) (e : Data) → slice_cmp nat_cmp k l ≡ o → is_name l ≡ true
    → (is_some (get_member k ms) ≡ true → is_name k ≡ true) → is_some (match_ordering o (get_member k ms) (Some e) (get_member k ms)) ≡ true → is_name k ≡ true
named_member Less k l ms e is named rest found = rest found
named_member Equal k l ms e is named rest found =
    let same : k ≡ l = (bytes_eq-Decides k l).0 (sym (is_eq-slice_cmp k l) ∙ ap is_eq is) in
    rw same named
named_member Greater k l ms e is named rest found = rest found

is_named : (k : List ℕ) (ms : Members) → all_named ms ≡ true → is_some (get_member k ms) ≡ true → is_name k ≡ true
is_named k no_members all found = absurd (false≢true found)
is_named k (member l e ms) all found =
    let p = and_parts _ _ all in
    named_member _ k l ms e refl p.0 (is_named k ms p.1) found

-- the map, where its names are all names
abbrev IsNamedMap : Option Data → Type 0
IsNamedMap map = option_map_or all_named (option_and_then as_object map) false ≡ true

in_map : (t : List ℕ) (map : Option Data) → IsNamedMap map → is_some (option_and_then (get t) map) ≡ true → is_name t ≡ true
in_map t None h found = absurd (false≢true h)
in_map t (Some null) h found = absurd (false≢true h)
in_map t (Some (boolean b)) h found = absurd (false≢true h)
in_map t (Some (number n)) h found = absurd (false≢true h)
in_map t (Some (string s)) h found = absurd (false≢true h)
in_map t (Some (array ds)) h found = absurd (false≢true h)
in_map t (Some (object ms)) h found = is_named t ms h found

-- a text that is there is a name
name_there : (o : Option (List ℕ)) (map : Option Data) → IsNamedMap map → is_some o ≡ true
    → option_map_or (λ t. is_some (option_and_then (get t) map)) o true ≡ true → option_map_or is_name o false ≡ true
name_there None map h some there = absurd (false≢true some)
name_there (Some t) map h some there = in_map t map h there

text_first : (o : Option (List ℕ)) (r : Option (List (List ℕ))) → is_some (option_and_then (λ t. option_map (λ ts. t ∷ ts) r) o) ≡ true
    → (is_some o ≡ true) × (is_some r ≡ true)
text_first None r h = absurd (false≢true h)
text_first (Some t) None h = absurd (false≢true h)
text_first (Some t) (Some ts) h = (refl, refl)

names_there : (items : Items) (map : Option Data) → IsNamedMap map → is_some (item_texts items) ≡ true → all_there map items ≡ true → all_names items ≡ true
names_there no_items map h texts there = refl
names_there (item d ds) map h texts there =
    let t = text_first (as_str d) (item_texts ds) texts in
    let p = and_parts _ _ there in
    and_from _ _ (name_there (as_str d) map h t.0 p.0) (names_there ds map h t.1 p.1)

-- ---- the arrays of digests and tokens

mapped : {A B : Type 0} (f : A → B) (o : Option A) → is_some (option_map f o) ≡ true → is_some o ≡ true
mapped f None h = h
mapped f (Some x) h = refl

array_of : (o : Option Items) → is_some (option_map names (option_and_then item_texts o)) ≡ true → (items : Items) × (o ≡ Some items) × (is_some (item_texts items) ≡ true)
array_of None h = absurd (false≢true h)
array_of (Some items) h = (items, refl, mapped names (item_texts items) h)

listed : (len : ℕ) (j : Data) → IsWideRules len j → (s target : Section) (n : ℕ) (d : Data) → HasObject j s n d → (r : Row) → Among r (rows_of s) → r.rule ≡ rule.Names target
    → IsNamedMap (section_at j target) → is_some (reads (rule.Names target) (value_at d r)) ≡ true → IsNameList (value_at d r)
listed len j c s target n d h r among speaks map read =
    let a = array_of (option_and_then as_array (value_at d r)) read in
    let l : HasNames j s target a.0 = record { number = n; object = d; held = h; row = r; listed = among; speaks = speaks; is = a.1 } in
    record {
      items = a.0;
      array = a.1;
      named = names_there a.0 (section_at j target) map a.2 (c.resolves.there s target a.0 l);
      once = c.resolves.once s target a.0 l;
    }

pub digest_keyslots : (len : ℕ) (j : Data) → IsWideRules len j → (n : ℕ) (d : Data) → HasObject j Digests n d → IsNameList (member_at d outer.Top name.Keyslots)
digest_keyslots len j c n d h =
    listed len j c Digests Keyslots n d h _ (among_of (is_row_of outer.Top name.Keyslots) digest_rows _ refl) refl (c.sections Keyslots) (at_top digest_rows d name.Keyslots _ (c.digests n d h) refl refl refl)

pub digest_segments : (len : ℕ) (j : Data) → IsWideRules len j → (n : ℕ) (d : Data) → HasObject j Digests n d → IsNameList (member_at d outer.Top name.Segments)
digest_segments len j c n d h =
    listed len j c Digests Segments n d h _ (among_of (is_row_of outer.Top name.Segments) digest_rows _ refl) refl (c.sections Segments) (at_top digest_rows d name.Segments _ (c.digests n d h) refl refl refl)

pub token_keyslots : (len : ℕ) (j : Data) → IsWideRules len j → (n : ℕ) (d : Data) → HasObject j Tokens n d → IsNameList (member_at d outer.Top name.Keyslots)
token_keyslots len j c n d h =
    listed len j c Tokens Keyslots n d h _ (among_of (is_row_of outer.Top name.Keyslots) token_rows _ refl) refl (c.sections Keyslots) (at_top token_rows d name.Keyslots _ (c.tokens n d h) refl refl refl)
