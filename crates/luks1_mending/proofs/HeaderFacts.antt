-- What is made is a header.
use Rattle.std.proofs.Common.{◌≡◌, ℕ, ◌≤◌, List, length, slice_index_or, true, inl, inr, arith, refl, sym, ap, subst, ◌∙◌}
use Rattle.std.proofs.lemmas.Bool.{cases_eq}
use Rattle.luks_area.specs.Text.{is_plain}
use Rattle.luks1_header.specs.Bytes.{IsUuid}
use Rattle.luks1_header.specs.Header1.{active_word, disabled_word, entry, header_text, word_of, HoldsCommon, HoldsEntry, HoldsTexts, IsCommon, IsEntry, IsLuks1}
use Rattle.luks1_header.specs.Written.{common_text, IsWhole, WritesCommon, WritesLuks1}
use Rattle.luks1_header.specs.declared.fault.HeadFault.TheVariants as fault
use Rattle.luks1_header.specs.declared.fault.TextField.{TextField}
use Rattle.luks1_header.specs.declared.fault.TextField.TheVariants as field
use Rattle.luks1_header.specs.declared.luks1.Luks1.{Luks1}
use Rattle.luks1_header.specs.declared.luks1.Luks1Common.{Luks1Common}
use Rattle.luks1_header.specs.declared.luks1.Luks1Slot.{Luks1Slot}
use Rattle.luks1_header.proofs.Luks1WritingFacts.{entry_reads_back}
use Rattle.luks1_mending.specs.Areas.{stripes_of}
use Rattle.luks1_mending.specs.Made.{IsMade, IsMadeCommon}
use Rattle.luks1_mending.specs.Mended.{IsMadeSlot, IsMended, IsNewPlace}
use Rattle.luks1_mending.specs.Taken.{taken_key_bytes, taken_text, IsUsable}
use Rattle.luks1_mending.specs.declared.given.Given.{Given}
use Rattle.luks1_mending.proofs.KeptFacts.{sound_of}
use Rattle.luks1_mending.proofs.TextFacts.{plain, whole}

-- a usable text is plain
usable_plain : (t : TextField) (text : List ℕ) → IsUsable t text → is_plain text ≡ true
usable_plain field.CipherName text is = is.plain
usable_plain field.CipherMode text is = is.plain
usable_plain field.HashSpec text is = is.plain
usable_plain field.Uuid text is = plain text is

-- the stripes of a new place
place_striped : (h : List ℕ) (k total n sector stripes : ℕ) → IsNewPlace h k total n sector stripes → 1 ≤ stripes
place_striped h k total n sector stripes (inl x) =
    let alike = x.alike in
    let some : stripes_of h x.pair ≡ 0 → ⊥ = λ none. (sound_of h k total x.pair x.first.pair.one).faultless (fault.Stripes x.pair) (refl, none) in
    some_of stripes (λ none. some (omega (arith, none, alike)))
  where
    some_of : (m : ℕ) → (m ≡ 0 → ⊥) → 1 ≤ m
    some_of m other = elim (cases_eq m 0) [ inl none ↦ absurd (other none) | inr is ↦ omega (arith, is) ]
place_striped h k total n sector stripes (inr x) = (let is = x.1.stripes_are in omega (arith, is))

-- a mended keyslot is fit for use: it is disabled, and has stripes
mended_entry : (h e : List ℕ) (k total n : ℕ) (s : Luks1Slot) → IsMended h k total n s → HoldsEntry e s → IsEntry e s
mended_entry h e k total n s x held = record {
  fields = held;
  striped = (let is = held.stripes in let some = place_striped h k total n s.key_material_offset s.stripes x.place in omega (arith, is, some));
  iterated = λ on. (let off : active_word e ≡ disabled_word = held.state ∙ ap word_of x.state in absurd (omega (arith, on, off)));
}

made_entry : (h e : List ℕ) (k total n : ℕ) (s : Luks1Slot) → IsMadeSlot h k total n s → HoldsEntry e s → IsEntry e s
made_entry h e k total n s (inl x) held = entry_reads_back (entry h n) e s x.1 held
made_entry h e k total n s (inr x) held = mended_entry h e k total n s x.1 held

-- the fields before the keyslots, wherever they are written
module _ (h : List ℕ) (g : Given) (c : Luks1Common) (made : IsMadeCommon h g c) (b : List ℕ) (put : WritesCommon b c) where
  text_plain : (t : TextField) → is_plain (common_text c t) ≡ true
  text_plain t = ap is_plain (made.texts t) ∙ usable_plain t (taken_text h g t) (made.usable t)

  text_whole : (t : TextField) → IsWhole (common_text c t)
  text_whole t = whole (common_text c t) (text_plain t)

  pub common_held : HoldsCommon b c
  common_held = put.fields text_whole

  pub text_there : (t : TextField) → header_text b t ≡ common_text c t
  text_there field.CipherName = common_held.cipher_name
  text_there field.CipherMode = common_held.cipher_mode
  text_there field.HashSpec = common_held.hash_spec
  text_there field.Uuid = common_held.uuid

  texts_held : HoldsTexts b
  texts_held t = ap is_plain (text_there t) ∙ text_plain t

  pub common_there : IsCommon b c
  common_there = record {
    magic = put.magic;
    version = put.version;
    fields = common_held;
    texts = texts_held;
    uuid = subst IsUuid (sym (text_there field.Uuid ∙ made.texts field.Uuid)) (made.usable field.Uuid);
    key_at_least = (let is = common_held.key_bytes ∙ made.key_bytes in let some = made.key_at_least in omega (arith, is, some));
    key_at_most = (let is = common_held.key_bytes ∙ made.key_bytes in let few = made.key_at_most in omega (arith, is, few));
    digest_iterated = (let is = common_held.mk_digest_iterations ∙ made.mk_digest_iterations in let some = made.iterated in omega (arith, is, some));
  }

-- the header is one wherever it is written
module _ (h : List ℕ) (total : ℕ) (g : Given) (d : Luks1) (made : IsMade h total g d) (b : List ℕ) (put : WritesLuks1 b d) where
  is_header : (b_long : 592 ≤ length b) → IsLuks1 b d
  is_header b_long = record {
    long = b_long;
    common = common_there h g d.common made.common b put.common;
    slots = record {
      eight = made.eight;
      each = λ n s lt. made_entry h (entry b n) (taken_key_bytes h g) total n (slice_index_or d.slots n s) (made.slots n s lt) (put.slots n s lt).fields;
    };
  }

-- so are its 592 bytes
pub made_header : (h : List ℕ) (total : ℕ) (g : Given) (d : Luks1) → IsMade h total g d → (b : List ℕ) → WritesLuks1 b d → IsLuks1 b d
made_header h total g d made b put = is_header h total g d made b put (let long = put.long in omega (arith, long))
