-- The metadata without any keyslot: what is left of the old, and that it meets every rule that the old met.
use Rattle.std.proofs.Common.{◌≡◌, ℕ, true, List, [], ◌∷◌, Option, Some, None, option_map, option_and_then, codes, refl, sym, ap, ◌∙◌, inl, inr}
use Rattle.serde_json.specs.Data.{Data, array, no_items, no_members, object}
use Rattle.serde_json.specs.Find.{get}
use Rattle.luks_json.specs.Arrays.{names, naming_count}
use Rattle.luks_json.specs.Number.{number_text}
use Rattle.luks_rules.specs.declared.table.Section.{Section}
use Rattle.luks_rules.specs.declared.table.Section.TheVariants.{Digests, Keyslots, Tokens}
use Rattle.luks_rules.specs.Accepted.{HasObject, IsContent, IsRead}
use Rattle.luks_rules.specs.Faults.{Among, is_numbered, is_section, object_at, section_at}
use Rattle.luks_rules.specs.Held.{IsHeld}
use Rattle.luks_rules.specs.Reading.{texts_of}
use Rattle.luks_rules.specs.Table.{rows_of, section_name}
use Rattle.luks_making.specs.Changing.{at_member, each_member, in_array, in_object}
use Rattle.luks_making.specs.Unchanged.{KeepsOthers, LosesNames, LosesSlots}
use Rattle.luks_making.specs.Without.{without_names, without_slots}
use Rattle.luks_making.proofs.EachFacts.{IsFine, Named, each_each, fine_all, fine_at, fine_emptied, fine_unnamed, named_map, neither}
use Rattle.luks_making.proofs.EditFacts.{NamingBack, ObjectEdit, held_edited, naming_edited, objects_kept}
use Rattle.luks_making.proofs.MemberFacts.{get_changed, get_each, get_kept, mapped, no_some, nowhere, through}
use Rattle.luks_making.proofs.NameFacts.{count_each}
use Rattle.luks_making.proofs.RowFacts.{KeepsNames, array_beside, digest_edited, slots_row, token_edited}

-- an emptied array is one of names
emptied_names : KeepsNames (λ _. no_items)
emptied_names (Some (array ds)) h = refl
emptied_names v h = h

-- its texts, if it has any, are none
no_texts : (v : Option Data) (names : List (List ℕ)) → texts_of (option_map (in_array (λ _. no_items)) v) ≡ Some names → names ≡ []
no_texts (Some (array ds)) names e = cc
no_texts v names e = absurd (cc)

-- an emptied map has no member
none_in : (k : List ℕ) (d : Data) → get k (in_object (λ _. no_members) d) ≡ None
none_in k (object ms) = refl
none_in k d = refl

module _ (j : Data) where
  -- ---- sections and objects

  abbrev left : Data
  left = without_slots j

  abbrev into_names : Data → Data
  into_names = in_object (each_member without_names)

  abbrev tokens_left : Data
  tokens_left = at_member (codes "tokens") into_names j

  abbrev digests_left : Data
  digests_left = at_member (codes "digests") into_names tokens_left

  -- each section of the new value
  other_section : KeepsOthers (codes "digests" ∷ codes "keyslots" ∷ codes "tokens" ∷ []) j left
  other_section k off =
      let p = neither _ _ off in
      let q = neither _ _ p.1 in
      get_kept k (codes "keyslots") _ digests_left q.0
      ∙ (get_kept k (codes "digests") into_names tokens_left p.0 ∙ get_kept k (codes "tokens") into_names j (neither _ _ q.1).0)

  slots_are : section_at left Keyslots ≡ option_map (in_object (λ _. no_members)) (section_at j Keyslots)
  slots_are =
      get_changed (codes "keyslots") _ digests_left
      ∙ ap (option_map _) (get_kept (codes "keyslots") (codes "digests") into_names tokens_left refl ∙ get_kept (codes "keyslots") (codes "tokens") into_names j refl)

  digests_are : section_at left Digests ≡ option_map into_names (section_at j Digests)
  digests_are =
      get_kept (codes "digests") (codes "keyslots") _ digests_left refl
      ∙ (get_changed (codes "digests") into_names tokens_left ∙ ap (option_map into_names) (get_kept (codes "digests") (codes "tokens") into_names j refl))

  tokens_are : section_at left Tokens ≡ option_map into_names (section_at j Tokens)
  tokens_are =
      get_kept (codes "tokens") (codes "keyslots") _ digests_left refl
      ∙ (get_kept (codes "tokens") (codes "digests") into_names tokens_left refl ∙ get_changed (codes "tokens") into_names j)

  -- no keyslot is left
  slot_gone : (n : ℕ) → object_at left Keyslots n ≡ None
  slot_gone n = ap (option_and_then (get (number_text n))) slots_are ∙ nowhere (number_text n) _ (section_at j Keyslots) (none_in (number_text n))

  -- each digest and token is as it was without names
  object_is : (s : Section) → section_at left s ≡ option_map into_names (section_at j s) → (m : ℕ) → object_at left s m ≡ option_map without_names (object_at j s m)
  object_is s are m =
      ap (option_and_then (get (number_text m))) are
      ∙ through (number_text m) into_names without_names (section_at j s) (get_each (number_text m) without_names)

  abbrev object_edit : (s : Section) → section_at left s ≡ option_map into_names (section_at j s) → (m : ℕ) → ObjectEdit s m j left
  object_edit s are m = record { edit = without_names; is = object_is s are m; keeps = array_beside (λ _. no_items) }

  -- ---- the rules

  module _ (len : ℕ) (c : IsContent len j) where
    naming_back : (s : Section) → is_numbered s ≡ true → Among slots_row (rows_of s) → ((d : Data) → IsRead (rows_of s) d → IsRead (rows_of s) (without_names d))
        → section_at left s ≡ option_map into_names (section_at j s) → (m : ℕ) (d : Data) → HasObject left s m d → NamingBack j left s m d
    naming_back s numbered listed reads are m d h =
        let p = mapped without_names (object_at j s m) d (sym (object_is s are m) ∙ h.is) in
        naming_edited len j left s c listed (λ _. no_items) reads m p.0 d (record { numbered = numbered; named = h.named; is = p.1 }) p.2 (λ list is there once. (refl, refl))

    maps_left : (s : Section) → is_section s (section_at j s) ≡ true → is_section s (section_at left s) ≡ true
    maps_left Digests h = rw digests_are (named_map _ (section_at j Digests) (each_each Named _ (λ l d e. e)) h)
    maps_left Keyslots h = rw slots_are (named_map _ (section_at j Keyslots) (λ ms e. tt) h)
    maps_left Tokens h = rw tokens_are (named_map _ (section_at j Tokens) (each_each Named _ (λ l d e. e)) h)
    maps_left s h = rw (other_section (section_name s) refl) h

    segment_once : (t : List ℕ) → naming_count (codes "segments") t (section_at left Digests) ≡ naming_count (codes "segments") t (section_at j Digests)
    segment_once t =
        ap (naming_count (codes "segments") t) digests_are
        ∙ count_each (codes "segments") t without_names (section_at j Digests) (λ x. ap (names t) (array_beside (λ _. no_items) x (codes "segments") refl))

  -- at most 127 levels, 126 below a section, 125 below a digest or token, 124 below its array
  fine_without : IsFine 127 j → IsFine 127 left
  fine_without h =
      let named = fine_all 125 without_names (fine_at 124 (codes "keyslots") (in_array (λ _. no_items)) (fine_unnamed 123)) in
      fine_at 126 (codes "keyslots") _ (fine_emptied 125) digests_left (fine_at 126 (codes "digests") into_names named tokens_left (fine_at 126 (codes "tokens") into_names named j h))

  -- ---- what is left

  -- a digest or token without names, by its section
  names_lost : (s : Section) → section_at left s ≡ option_map into_names (section_at j s) → LosesNames s j left
  names_lost s are = record {
    changed = object_is s are;
    none = λ m d found there texts.
        let p = mapped without_names (object_at j s m) d (sym (object_is s are m) ∙ there) in
        no_texts (get (codes "keyslots") p.0) found (sym (ap texts_of (ap (get (codes "keyslots")) p.2 ∙ get_changed (codes "keyslots") (in_array (λ _. no_items)) p.0)) ∙ texts);
    rest = objects_kept s j left (object_edit s are);
  }

-- the value without keyslots meets every rule
pub held_emptied : (len : ℕ) (j : Data) → IsHeld len j → IsHeld len (without_slots j)
held_emptied len j h = held_edited len j (without_slots j) h.content (record {
  fine = fine_without j (record { whole = h.content.whole; nests = h.nests });
  config = other_section j (codes "config") refl;
  segments = other_section j (codes "segments") refl;
  maps = maps_left j len h.content;
  digest = naming_back j len h.content Digests refl (inr (inr (inr (inl refl)))) (digest_edited _ emptied_names) (digests_are j);
  token = naming_back j len h.content Tokens refl (inl refl) (token_edited _ emptied_names) (tokens_are j);
  slot = λ m d o. absurd (no_some d (sym (slot_gone j m) ∙ o.is));
  slot_once = λ m d o. absurd (no_some d (sym (slot_gone j m) ∙ o.is));
  segment_once = segment_once j len h.content;
})

-- what the value without keyslots has lost
pub slots_lost : (j : Data) → LosesSlots j (without_slots j)
slots_lost j = record {
  gone = slot_gone j;
  digests = names_lost j Digests (digests_are j);
  tokens = names_lost j Tokens (tokens_are j);
  segments = other_section j (codes "segments") refl;
  config = other_section j (codes "config") refl;
  others = other_section j;
}
