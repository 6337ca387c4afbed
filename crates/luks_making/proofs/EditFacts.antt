-- An edit of the metadata that keeps its configuration and segments meets every rule that the old value
-- met, once what it makes of keyslots, digests and tokens does.
use Rattle.std.proofs.Common.{◌≡◌, ℕ, ◌+◌, ◌*◌, ◌≤◌, true, false, List, [], ◌∷◌, Option, Some, None, option_map, option_and_then, is_some, codes, refl, sym, ap, ◌∙◌}
use Rattle.std.specs.Prelude.{◌↔◌}
use Rattle.std.proofs.lemmas.Bool.{false≢true}
use Rattle.serde_json.specs.Data.{Data, Items}
use Rattle.serde_json.specs.Find.{get, as_array}
use Rattle.serde_json.specs.Read.{max_depth}
use Rattle.luks_area.specs.Sectors.{rounded_to_sectors}
use Rattle.luks_json.specs.Arrays.{all_there, has_repeat, names, naming_count}
use Rattle.luks_json.specs.Number.{number_text}
use Rattle.luks_rules.specs.declared.table.Section.{Section}
use Rattle.luks_rules.specs.declared.table.Section.TheVariants.{Config, Digests, Keyslots, Segments, Tokens}
use Rattle.luks_rules.specs.declared.table.Outer.TheVariants as outer
use Rattle.luks_rules.specs.Accepted.{HasNames, HasObject, IsContent, IsRead}
use Rattle.luks_rules.specs.Faults.{Among, is_section, object_at, section_at}
use Rattle.luks_rules.specs.Held.{IsHeld}
use Rattle.luks_rules.specs.Reading.{decimal_in, number_in}
use Rattle.luks_rules.specs.Sizes.{inside_at, keyslots_size, region_start}
use Rattle.luks_rules.specs.Table.{keyslot_rows, rows_of}
use Rattle.luks_making.specs.Naming.{IsDigestOf}
use Rattle.luks_making.specs.Unchanged.{KeepsObjects, KeepsOthers}
use Rattle.luks_making.proofs.EachFacts.{IsFine}
use Rattle.luks_making.proofs.MemberFacts.{array_map, get_changed, mapped}
use Rattle.luks_making.proofs.NameFacts.{HasMore, all_more}
use Rattle.luks_making.proofs.RowFacts.{NamesRow, array_beside, digest_row, none_among, of_segments, of_slots, slots_named, slots_row, token_row, with_array}

-- ---- objects that name keyslots

-- an object of the new value: one of the old, as it was except for its array of keyslots, whose texts name
-- keyslots that are there, each once
pub record NamingBack (old new : Data) (k : Section) (i : ℕ) (d : Data) : Type 0 where
  pub was : Data
  pub held : HasObject old k i was
  pub read : IsRead (rows_of k) d
  pub others : KeepsOthers (codes "keyslots" ∷ []) was d
  pub array : (list : Items) → option_and_then as_array (get (codes "keyslots") d) ≡ Some list → (all_there (section_at new Keyslots) list ≡ true) × (has_repeat list ≡ false)

-- one that is as it was, where each keyslot is still there
pub naming_same : (len : ℕ) (old new : Data) (k : Section) → IsContent len old → Among slots_row (rows_of k) → HasMore (section_at old Keyslots) (section_at new Keyslots)
    → (i : ℕ) (d : Data) → HasObject old k i d → NamingBack old new k i d
naming_same len old new k c listed more i d h = record {
  was = d;
  held = h;
  read = c.objects k i d h;
  others = λ q off. refl;
  array = λ list is.
      let names = slots_named old k i d list listed h is in
      (all_more (section_at old Keyslots) (section_at new Keyslots) list more (c.resolves.there k Keyslots list names), c.resolves.once k Keyslots list names);
}

-- one whose array is edited
pub naming_edited : (len : ℕ) (old new : Data) (k : Section) → IsContent len old → Among slots_row (rows_of k) → (g : Items → Items)
    → ((d : Data) → IsRead (rows_of k) d → IsRead (rows_of k) (with_array g d)) → (i : ℕ) (was d : Data) → HasObject old k i was → d ≡ with_array g was
    → ((list : Items) → option_and_then as_array (get (codes "keyslots") was) ≡ Some list → all_there (section_at old Keyslots) list ≡ true → has_repeat list ≡ false
    → (all_there (section_at new Keyslots) (g list) ≡ true) × (has_repeat (g list) ≡ false))
    → NamingBack old new k i d
naming_edited len old new k c listed g reads i was d h made edits = record {
  was = was;
  held = h;
  read = rw made (reads was (c.objects k i was h));
  others = λ q off. ap (get q) made ∙ array_beside g was q off;
  array = λ list is.
      let there : option_and_then as_array (get (codes "keyslots") (with_array g was)) ≡ Some list = rw made at is in
      let p = mapped g (option_and_then as_array (get (codes "keyslots") was)) list (sym (ap (option_and_then as_array) (get_changed (codes "keyslots") _ was) ∙ array_map g (get (codes "keyslots") was)) ∙ there) in
      let names = slots_named old k i was p.0 listed h p.1 in
      rw p.2 (edits p.0 p.1 (c.resolves.there k Keyslots p.0 names) (c.resolves.once k Keyslots p.0 names));
}

-- ---- keyslots

-- a keyslot of the new value: one of the old, or one that meets the rules
pub data SlotBack (len : ℕ) (old : Data) (i : ℕ) (d : Data) : Type 0 where
  kept : HasObject old Keyslots i d → SlotBack len old i d
  made : IsRead keyslot_rows d
      → ((key stripes size : ℕ) → number_in 1 128 (inside_at outer.Top (codes "key_size") d) ≡ Some key
      → number_in 1 4294967295 (inside_at outer.Af (codes "stripes") d) ≡ Some stripes
      → decimal_in (inside_at outer.Area (codes "size") d) ≡ Some size → rounded_to_sectors (key * stripes) ≤ size)
      → ((bytes start size : ℕ) → keyslots_size old ≡ Some bytes
      → decimal_in (inside_at outer.Area (codes "offset") d) ≡ Some start
      → decimal_in (inside_at outer.Area (codes "size") d) ≡ Some size → (region_start len ≤ start) × (start + size ≤ region_start len + bytes))
      → SlotBack len old i d

-- ---- the whole value

-- what an edit owes that keeps the configuration and the segments
pub record IsEdit (len : ℕ) (old new : Data) : Type 0 where
  pub fine : IsFine max_depth new
  pub config : section_at new Config ≡ section_at old Config
  pub segments : section_at new Segments ≡ section_at old Segments
  pub maps : (k : Section) → is_section k (section_at old k) ≡ true → is_section k (section_at new k) ≡ true
  pub digest : (i : ℕ) (d : Data) → HasObject new Digests i d → NamingBack old new Digests i d
  pub token : (i : ℕ) (d : Data) → HasObject new Tokens i d → NamingBack old new Tokens i d
  pub slot : (i : ℕ) (d : Data) → HasObject new Keyslots i d → SlotBack len old i d
  pub slot_once : (i : ℕ) (d : Data) → HasObject new Keyslots i d → naming_count (codes "keyslots") (number_text i) (section_at new Digests) ≡ 1
  pub segment_once : (t : List ℕ) → naming_count (codes "segments") t (section_at new Digests) ≡ naming_count (codes "segments") t (section_at old Digests)

module _ (len : ℕ) (old new : Data) (c : IsContent len old) (e : IsEdit len old new) where
  -- a segment is one of the old
  segment_back : (i : ℕ) (d : Data) → HasObject new Segments i d → HasObject old Segments i d
  segment_back i d h = record { numbered = refl; named = h.named; is = ap (option_and_then (get (number_text i))) (sym e.segments) ∙ h.is }

  -- each object's rows are read
  slot_read : (i : ℕ) (d : Data) → SlotBack len old i d → IsRead keyslot_rows d
  slot_read i d (kept h) = c.objects Keyslots i d h
  slot_read i d (made read large within) = read

  objects : (k : Section) (i : ℕ) (d : Data) → HasObject new k i d → IsRead (rows_of k) d
  objects Config i d h = absurd (false≢true h.numbered)
  objects Digests i d h = (e.digest i d h).read
  objects Keyslots i d h = slot_read i d (e.slot i d h)
  objects Segments i d h = c.objects Segments i d (segment_back i d h)
  objects Tokens i d h = (e.token i d h).read

  abbrev Resolved : Section → Items → Type 0
  Resolved target list = (all_there (section_at new target) list ≡ true) × (has_repeat list ≡ false)

  -- an array of keyslots, or of segments
  resolved_by : (k target : Section) (list : Items) (n : HasNames new k target list) → NamingBack old new k n.number n.object → NamesRow n.row target → Resolved target list
  resolved_by k target list n b (of_slots r slots) = rw slots (b.array list (rw r at n.is))
  resolved_by k target list n b (of_segments r segments) =
      let here : option_and_then as_array (get (codes "segments") n.object) ≡ Some list = rw r at n.is in
      let was : HasNames old k target list
      = record { number = n.number; object = b.was; held = b.held; row = n.row; listed = n.listed; speaks = n.speaks; is = rw r (ap (option_and_then as_array) (sym (b.others (codes "segments") refl)) ∙ here) } in
      (rw (segments, e.segments) (rw segments at (c.resolves.there k target list was)), c.resolves.once k target list was)

  -- so each array of names
  resolved : (k target : Section) (list : Items) → HasNames new k target list → Resolved target list
  resolved Config target list n = absurd (false≢true n.held.numbered)
  resolved Digests target list n = resolved_by Digests target list n (e.digest n.number n.object n.held) (digest_row n.row target n.listed n.speaks)
  resolved Keyslots target list n = absurd (none_among (rows_of Keyslots) n.row target refl n.listed n.speaks)
  resolved Segments target list n = absurd (none_among (rows_of Segments) n.row target refl n.listed n.speaks)
  resolved Tokens target list n = resolved_by Tokens target list n (e.token n.number n.object n.held) (token_row n.row target n.listed n.speaks)

  -- the area of each keyslot is large enough, and lies in the region
  large_by : (i : ℕ) (d : Data) → SlotBack len old i d → (key stripes size : ℕ) → number_in 1 128 (inside_at outer.Top (codes "key_size") d) ≡ Some key
      → number_in 1 4294967295 (inside_at outer.Af (codes "stripes") d) ≡ Some stripes
      → decimal_in (inside_at outer.Area (codes "size") d) ≡ Some size → rounded_to_sectors (key * stripes) ≤ size
  large_by i d (kept h) = λ key stripes size. c.large i d key stripes size h
  large_by i d (made read large within) = large

  within_by : (i : ℕ) (d : Data) → SlotBack len old i d → (bytes start size : ℕ) → keyslots_size old ≡ Some bytes
      → decimal_in (inside_at outer.Area (codes "offset") d) ≡ Some start
      → decimal_in (inside_at outer.Area (codes "size") d) ≡ Some size → (region_start len ≤ start) × (start + size ≤ region_start len + bytes)
  within_by i d (kept h) = λ bytes start size. c.within i d bytes start size h
  within_by i d (made read large within) = within

  region : keyslots_size new ≡ keyslots_size old
  region = rw e.config refl

  -- the new value meets every rule
  pub held_edited : IsHeld len new
  held_edited = record {
    nests = e.fine.nests;
    content = record {
      whole = e.fine.whole;
      sections = λ k. e.maps k (c.sections k);
      config = λ d is. c.config d (sym e.config ∙ is);
      objects = objects;
      resolves = record {
        there = λ k target list n. (resolved k target list n).0;
        once = λ k target list n. (resolved k target list n).1;
        keyslots = e.slot_once;
        segments = λ i d h crypt. e.segment_once (number_text i) ∙ c.resolves.segments i d (segment_back i d h) crypt;
      };
      sized = ap (λ v. decimal_in (option_and_then (get (codes "json_size")) v)) e.config ∙ c.sized;
      large = λ i d key stripes size h. large_by i d (e.slot i d h) key stripes size;
      within = λ i d bytes start size h is. within_by i d (e.slot i d h) bytes start size (sym region ∙ is);
    };
  }

-- ---- what is as it was

-- the object of a number, edited in its array of keyslots alone
pub record ObjectEdit (s : Section) (i : ℕ) (old new : Data) : Type 0 where
  pub edit : Data → Data
  pub is : object_at new s i ≡ option_map edit (object_at old s i)
  pub keeps : (d : Data) → KeepsOthers (codes "keyslots" ∷ []) d (edit d)

pub map_same : (o : Option Data) → o ≡ option_map (λ d. d) o
map_same None = refl
map_same (Some d) = refl

-- one that is as it was
abbrev pub object_same : (s : Section) (i : ℕ) (old new : Data) → object_at new s i ≡ object_at old s i → ObjectEdit s i old new
object_same s i old new same = record { edit = λ d. d; is = same ∙ map_same (object_at old s i); keeps = λ d q off. refl }

-- the objects of a section are, each so edited
pub objects_kept : (s : Section) (old new : Data) → ((i : ℕ) → ObjectEdit s i old new) → KeepsObjects (codes "keyslots" ∷ []) s old new
objects_kept s old new e = record {
  there = λ i was there. ((e i).edit was, (e i).is ∙ ap (option_map (e i).edit) there, (e i).keeps was);
  back = λ i d there.
      let p = mapped (e i).edit (object_at old s i) d (sym (e i).is ∙ there) in
      (p.0, p.1, λ q off. ap (get q) p.2 ∙ (e i).keeps p.0 q off);
}

-- the digest that names a keyslot still does, and no other
pub naming_kept : (m i : ℕ) (old new : Data) → is_some (object_at new Keyslots m) ≡ is_some (object_at old Keyslots m) → (e : ObjectEdit Digests i old new)
    → ((d : Data) → names (number_text m) (get (codes "keyslots") (e.edit d)) ≡ names (number_text m) (get (codes "keyslots") d)) → IsDigestOf old m i ↔ IsDigestOf new m i
naming_kept m i old new slot e lists = (
  λ d. record { named = d.named; keyslot = slot ∙ d.keyslot; numbered = d.numbered; object = e.edit d.object; is = e.is ∙ ap (option_map e.edit) d.is; lists = lists d.object ∙ d.lists },
  λ d.
      let p = mapped e.edit (object_at old Digests i) d.object (sym e.is ∙ d.is) in
      let there : names (number_text m) (get (codes "keyslots") (e.edit p.0)) ≡ true = rw p.2 at d.lists in
      record { named = d.named; keyslot = sym slot ∙ d.keyslot; numbered = d.numbered; object = p.0; is = p.1; lists = sym (lists p.0) ∙ there },
)
