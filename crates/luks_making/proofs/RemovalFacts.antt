-- The metadata without a keyslot: what is left of the old, and that it meets every rule that the old met.
use Rattle.std.proofs.Common.{◌≡◌, ℕ, true, false, List, [], ◌∷◌, Some, None, option_map, option_and_then, is_some, bytes_eq, codes, refl, sym, ap, ◌∙◌, inl, inr}
use Rattle.serde_json.specs.Data.{Data}
use Rattle.serde_json.specs.Find.{get}
use Rattle.luks_json.specs.Arrays.{names, naming_count}
use Rattle.luks_json.specs.Number.{number_text}
use Rattle.luks_rules.specs.declared.table.Section.{Section}
use Rattle.luks_rules.specs.declared.table.Section.TheVariants.{Digests, Keyslots, Tokens}
use Rattle.luks_rules.specs.Accepted.{HasObject, IsContent, IsRead}
use Rattle.luks_rules.specs.Faults.{Among, is_numbered, is_section, object_at, section_at}
use Rattle.luks_rules.specs.Held.{IsHeld}
use Rattle.luks_rules.specs.Reading.{texts_of}
use Rattle.luks_rules.specs.Table.{rows_of, section_name}
use Rattle.luks_making.specs.Changing.{at_member, drop_member, drop_text, each_member, in_array, in_object}
use Rattle.luks_making.specs.Unchanged.{KeepsOthers, KeepsRest, LosesName, LosesSlot}
use Rattle.luks_making.specs.Without.{without_name, without_slot}
use Rattle.luks_making.proofs.EachFacts.{IsFine, Named, each_each, each_left, fine_all, fine_at, fine_dropped, fine_left, named_map, neither}
use Rattle.luks_making.proofs.EditFacts.{NamingBack, ObjectEdit, held_edited, kept, naming_edited, naming_kept, objects_kept}
use Rattle.luks_making.proofs.MemberFacts.{at_same, beside, get_changed, get_each, get_gone, get_kept, get_left, mapped, no_some, nowhere, some_same, through}
use Rattle.luks_making.proofs.NameFacts.{all_dropped, count_each, dropped_texts, names_dropped, once_dropped, others_dropped, texts_differ, unnamed_same}
use Rattle.luks_making.proofs.RowFacts.{array_beside, digest_edited, slots_row, token_edited}

-- ---- a digest or token without the name

-- another name is in its array exactly where it did
lists_kept : (t s : List ℕ) (d : Data) → bytes_eq s t ≡ false → names s (get (codes "keyslots") (without_name t d)) ≡ names s (get (codes "keyslots") d)
lists_kept t s d off = rw (get_changed (codes "keyslots") (in_array (drop_text t)) d) (others_dropped t s (get (codes "keyslots") d) off)

-- where it doesn't have the name it is equal
without_none : (t : List ℕ) (d : Data) → names t (get (codes "keyslots") d) ≡ false → without_name t d ≡ d
without_none t d off = at_same (codes "keyslots") (in_array (drop_text t)) d (unnamed_same t (get (codes "keyslots") d) off)

module _ (n : ℕ) (j : Data) where
  -- ---- sections and objects

  abbrev left : Data
  left = without_slot n j

  abbrev into_names : Data → Data
  into_names = in_object (each_member (without_name (number_text n)))

  abbrev tokens_left : Data
  tokens_left = at_member (codes "tokens") into_names j

  abbrev digests_left : Data
  digests_left = at_member (codes "digests") into_names tokens_left

  -- each section of the new value
  other_section : KeepsOthers (codes "digests" ∷ codes "keyslots" ∷ codes "tokens" ∷ []) j left
  other_section k off =
      let p = neither _ _ off in
      let q = neither _ _ p.1 in
      get_kept k (codes "keyslots") _ digests_left q.0
      ∙ (get_kept k (codes "digests") into_names tokens_left p.0 ∙ get_kept k (codes "tokens") into_names j (neither _ _ q.1).0)

  slots_are : section_at left Keyslots ≡ option_map (in_object (drop_member (number_text n))) (section_at j Keyslots)
  slots_are =
      get_changed (codes "keyslots") _ digests_left
      ∙ ap (option_map _) (get_kept (codes "keyslots") (codes "digests") into_names tokens_left refl ∙ get_kept (codes "keyslots") (codes "tokens") into_names j refl)

  digests_are : section_at left Digests ≡ option_map into_names (section_at j Digests)
  digests_are =
      get_kept (codes "digests") (codes "keyslots") _ digests_left refl
      ∙ (get_changed (codes "digests") into_names tokens_left ∙ ap (option_map into_names) (get_kept (codes "digests") (codes "tokens") into_names j refl))

  tokens_are : section_at left Tokens ≡ option_map into_names (section_at j Tokens)
  tokens_are =
      get_kept (codes "tokens") (codes "keyslots") _ digests_left refl
      ∙ (get_kept (codes "tokens") (codes "digests") into_names tokens_left refl ∙ get_changed (codes "tokens") into_names j)

  -- the keyslot is gone, the others are as they were
  slot_gone : object_at left Keyslots n ≡ None
  slot_gone = ap (option_and_then (get (number_text n))) slots_are ∙ nowhere (number_text n) _ (section_at j Keyslots) (get_gone (number_text n))

  slots_beside : (s : List ℕ) → bytes_eq s (number_text n) ≡ false → option_and_then (get s) (section_at left Keyslots) ≡ option_and_then (get s) (section_at j Keyslots)
  slots_beside s off = ap (option_and_then (get s)) slots_are ∙ beside s _ (section_at j Keyslots) (λ d. get_left s (number_text n) d off)

  slot_same : (m : ℕ) → (m ≡ n → ⊥) → object_at left Keyslots m ≡ object_at j Keyslots m
  slot_same m other = slots_beside (number_text m) (texts_differ m n other)

  -- each digest and token is as it was without the name
  object_is : (s : Section) → section_at left s ≡ option_map into_names (section_at j s) → (m : ℕ) → object_at left s m ≡ option_map (without_name (number_text n)) (object_at j s m)
  object_is s are m =
      ap (option_and_then (get (number_text m))) are
      ∙ through (number_text m) into_names (without_name (number_text n)) (section_at j s) (get_each (number_text m) (without_name (number_text n)))

  abbrev object_edit : (s : Section) → section_at left s ≡ option_map into_names (section_at j s) → (m : ℕ) → ObjectEdit s m j left
  object_edit s are m = record { edit = without_name (number_text n); is = object_is s are m; keeps = array_beside (drop_text (number_text n)) }

  -- ---- the rules

  module _ (len : ℕ) (c : IsContent len j) where
    -- a keyslot that is left is one of the others
    slot_other : (m : ℕ) (d : Data) → HasObject left Keyslots m d → m ≡ n → ⊥
    slot_other m d h same = no_some d (sym slot_gone ∙ (rw same at h.is))

    slot_held : (m : ℕ) (d : Data) → HasObject left Keyslots m d → HasObject j Keyslots m d
    slot_held m d h = record { numbered = refl; named = h.named; is = sym (slot_same m (slot_other m d h)) ∙ h.is }

    naming_back : (s : Section) → is_numbered s ≡ true → Among slots_row (rows_of s) → ((d : Data) → IsRead (rows_of s) d → IsRead (rows_of s) (without_name (number_text n) d))
        → section_at left s ≡ option_map into_names (section_at j s) → (m : ℕ) (d : Data) → HasObject left s m d → NamingBack j left s m d
    naming_back s numbered listed reads are m d h =
        let p = mapped (without_name (number_text n)) (object_at j s m) d (sym (object_is s are m) ∙ h.is) in
        naming_edited len j left s c listed (drop_text (number_text n)) reads m p.0 d (record { numbered = numbered; named = h.named; is = p.1 }) p.2 (λ list is there once.
        (all_dropped (number_text n) (section_at j Keyslots) (section_at left Keyslots) list slots_beside there, once_dropped (number_text n) list once))

    maps_left : (s : Section) → is_section s (section_at j s) ≡ true → is_section s (section_at left s) ≡ true
    maps_left Digests h = rw digests_are (named_map _ (section_at j Digests) (each_each Named _ (λ l d e. e)) h)
    maps_left Keyslots h = rw slots_are (named_map _ (section_at j Keyslots) (each_left Named (number_text n)) h)
    maps_left Tokens h = rw tokens_are (named_map _ (section_at j Tokens) (each_each Named _ (λ l d e. e)) h)
    maps_left s h = rw (other_section (section_name s) refl) h

    slot_once : (m : ℕ) (d : Data) → HasObject left Keyslots m d → naming_count (codes "keyslots") (number_text m) (section_at left Digests) ≡ 1
    slot_once m d h =
        ap (naming_count (codes "keyslots") (number_text m)) digests_are
        ∙ (count_each (codes "keyslots") (number_text m) (without_name (number_text n)) (section_at j Digests) (λ x. lists_kept (number_text n) (number_text m) x (texts_differ m n (slot_other m d h)))
        ∙ c.resolves.keyslots m d (slot_held m d h))

    segment_once : (t : List ℕ) → naming_count (codes "segments") t (section_at left Digests) ≡ naming_count (codes "segments") t (section_at j Digests)
    segment_once t =
        ap (naming_count (codes "segments") t) digests_are
        ∙ count_each (codes "segments") t (without_name (number_text n)) (section_at j Digests) (λ x. ap (names t) (array_beside (drop_text (number_text n)) x (codes "segments") refl))

  -- at most 127 levels, 126 below a section, 125 below a digest or token, 124 below its array
  fine_without : IsFine 127 j → IsFine 127 left
  fine_without h =
      let named = fine_all 125 (without_name (number_text n)) (fine_at 124 (codes "keyslots") (in_array (drop_text (number_text n))) (fine_dropped 123 (number_text n))) in
      fine_at 126 (codes "keyslots") _ (fine_left 125 (number_text n)) digests_left (fine_at 126 (codes "digests") into_names named tokens_left (fine_at 126 (codes "tokens") into_names named j h))

  -- ---- what is left

  -- a digest or token without the name, by its section
  name_lost : (s : Section) → section_at left s ≡ option_map into_names (section_at j s) → LosesName s n j left
  name_lost s are = record {
    changed = object_is s are;
    equal = λ m d there off. object_is s are m ∙ (ap (option_map (without_name (number_text n))) there ∙ ap Some (without_none (number_text n) d off));
    texts = λ m was d there now.
        let made : without_name (number_text n) was ≡ d = some_same _ d (sym (object_is s are m ∙ ap (option_map (without_name (number_text n))) there) ∙ now) in
        rw (← made) (ap texts_of (get_changed (codes "keyslots") (in_array (drop_text (number_text n))) was) ∙ dropped_texts (number_text n) (get (codes "keyslots") was));
  }

  -- all that isn't the keyslot or its name is as it was
  rest_left : KeepsRest n j left
  rest_left = record {
    keyslots = slot_same;
    naming = λ m k other. naming_kept m k j left (ap is_some (slot_same m other)) (object_edit Digests digests_are k) (λ d. lists_kept (number_text n) (number_text m) d (texts_differ m n other));
    digests = objects_kept Digests j left (object_edit Digests digests_are);
    tokens = objects_kept Tokens j left (object_edit Tokens tokens_are);
    segments = other_section (codes "segments") refl;
    config = other_section (codes "config") refl;
    others = other_section;
  }

-- the value without the keyslot meets every rule
pub held_left : (len n : ℕ) (j : Data) → IsHeld len j → IsHeld len (without_slot n j)
held_left len n j h = held_edited len j (without_slot n j) h.content (record {
  fine = fine_without n j (record { whole = h.content.whole; nests = h.nests });
  config = other_section n j (codes "config") refl;
  segments = other_section n j (codes "segments") refl;
  maps = maps_left n j len h.content;
  digest = naming_back n j len h.content Digests refl (inr (inr (inr (inl refl)))) (digest_edited _ (names_dropped (number_text n))) (digests_are n j);
  token = naming_back n j len h.content Tokens refl (inl refl) (token_edited _ (names_dropped (number_text n))) (tokens_are n j);
  slot = λ m d o. kept (slot_held n j len h.content m d o);
  slot_once = slot_once n j len h.content;
  segment_once = segment_once n j len h.content;
})

-- what the value without the keyslot has lost
pub slot_lost : (n : ℕ) (j : Data) → LosesSlot n j (without_slot n j)
slot_lost n j = record {
  gone = slot_gone n j;
  digests = name_lost n j Digests (digests_are n j);
  tokens = name_lost n j Tokens (tokens_are n j);
  rest = rest_left n j;
}
