-- The metadata with one keyslot edited by any function: what is there of the old.
use Rattle.std.proofs.Common.{◌≡◌, ℕ, true, false, List, [], ◌∷◌, option_map, option_and_then, is_some, bytes_eq, codes, refl, sym, ap, ◌∙◌, inl, inr}
use Rattle.std.specs.Prelude.{◌↔◌}
use Rattle.std.specs.List.{list_any}
use Rattle.std.proofs.lemmas.Bool.{cases_Bool}
use Rattle.std.proofs.lemmas.Slice.Eq.{bytes_eq-Decides}
use Rattle.serde_json.specs.Data.{Data}
use Rattle.serde_json.specs.Find.{get}
use Rattle.luks_json.specs.Number.{number_text}
use Rattle.luks_rules.specs.declared.table.Section.{Section}
use Rattle.luks_rules.specs.declared.table.Section.TheVariants.{Digests, Keyslots}
use Rattle.luks_rules.specs.Accepted.{HasObject}
use Rattle.luks_rules.specs.Faults.{is_section, object_at, section_at}
use Rattle.luks_rules.specs.Table.{section_name}
use Rattle.luks_making.specs.Changing.{at_member, change_member}
use Rattle.luks_making.specs.Naming.{IsDigestOf}
use Rattle.luks_making.specs.Unchanged.{KeepsOthers}
use Rattle.luks_making.proofs.EachFacts.{Named, each_changed, named_map, neither}
use Rattle.luks_making.proofs.EditFacts.{naming_kept, object_same}
use Rattle.luks_making.proofs.MemberFacts.{beside, get_changed, get_kept, map_is_some, through}
use Rattle.luks_making.proofs.NameFacts.{HasMore, texts_differ}

module _ (n : ℕ) (g : Data → Data) (j : Data) where
  abbrev pub into : Data → Data
  into = at_member (number_text n) g

  abbrev pub edited : Data
  edited = at_member (codes "keyslots") into j

  -- the other sections are as they were
  pub other_section : KeepsOthers (codes "keyslots" ∷ []) j edited
  other_section k off = get_kept k (codes "keyslots") into j (neither _ _ off).0

  slots_are : section_at edited Keyslots ≡ option_map into (section_at j Keyslots)
  slots_are = get_changed (codes "keyslots") into j

  -- the keyslot is edited, the others are as they were
  pub slot_here : object_at edited Keyslots n ≡ option_map g (object_at j Keyslots n)
  slot_here = ap (option_and_then (get (number_text n))) slots_are ∙ through (number_text n) into g (section_at j Keyslots) (get_changed (number_text n) g)

  text_beside : (t : List ℕ) → bytes_eq t (number_text n) ≡ false → option_and_then (get t) (section_at edited Keyslots) ≡ option_and_then (get t) (section_at j Keyslots)
  text_beside t off = ap (option_and_then (get t)) slots_are ∙ beside t into (section_at j Keyslots) (λ d. get_kept t (number_text n) g d off)

  pub slot_beside : (m : ℕ) → (m ≡ n → ⊥) → object_at edited Keyslots m ≡ object_at j Keyslots m
  slot_beside m other = text_beside (number_text m) (texts_differ m n other)

  -- the same names are there
  names_same : (t : List ℕ) → is_some (option_and_then (get t) (section_at edited Keyslots)) ≡ is_some (option_and_then (get t) (section_at j Keyslots))
  names_same t = elim (cases_Bool (bytes_eq t (number_text n))) [
    | inl same ↦ (let is : t ≡ number_text n = (bytes_eq-Decides t (number_text n)).0 same in rw is (ap is_some slot_here ∙ map_is_some g (object_at j Keyslots n)))
    | inr off ↦ ap is_some (text_beside t off)
  ]

  pub slots_more : HasMore (section_at j Keyslots) (section_at edited Keyslots)
  slots_more t h = names_same t ∙ h

  -- the digest of each keyslot is the same
  pub naming : (m k : ℕ) → IsDigestOf j m k ↔ IsDigestOf edited m k
  naming m k = naming_kept m k j edited (names_same (number_text m)) (object_same Digests k j edited (ap (option_and_then (get (number_text k))) (other_section (codes "digests") refl))) (λ d. refl)

  -- an object of another section, and another keyslot, was there
  pub beside_held : (k : Section) (i : ℕ) (d : Data) → list_any (bytes_eq (section_name k)) (codes "keyslots" ∷ []) ≡ false → HasObject edited k i d → HasObject j k i d
  beside_held k i d off h = record { numbered = h.numbered; named = h.named; is = ap (option_and_then (get (number_text i))) (sym (other_section (section_name k) off)) ∙ h.is }

  pub slot_held : (i : ℕ) (d : Data) → (i ≡ n → ⊥) → HasObject edited Keyslots i d → HasObject j Keyslots i d
  slot_held i d other h = record { numbered = refl; named = h.named; is = sym (slot_beside i other) ∙ h.is }

  -- each section is one again
  pub maps_edited : (k : Section) → is_section k (section_at j k) ≡ true → is_section k (section_at edited k) ≡ true
  maps_edited Keyslots h = rw slots_are (named_map (change_member (number_text n) g) (section_at j Keyslots) (each_changed Named (number_text n) g (λ l d e. e)) h)
  maps_edited k h = rw (other_section (section_name k) refl) h
