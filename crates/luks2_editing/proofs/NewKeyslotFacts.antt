-- A keyslot of new metadata that is sealed like another one, by an addition or a change.
use Rattle.std.proofs.Common.{◌≢◌, ◌≡◌, ℕ, ◌+◌, ◌*◌, ◌≤◌, List, length, codes, sym, ap, ◌∙◌, subst, arith, inr}
use Rattle.std.proofs.lemmas.Option.{same_Some}
use Rattle.serde_json.specs.Data.{Data as Value}
use Rattle.luks_area.specs.declared.area.Area.{Area}
use Rattle.luks_area.specs.Ranges.{IsAt}
use Rattle.luks_area.specs.Sectors.{rounded_to_sectors}
use Rattle.luks2_header.specs.declared.bin2.Bin2.{Bin2}
use Rattle.luks2_header.specs.Header2.{header_at, hdr_size}
use Rattle.luks_rules.specs.declared.table.Outer.TheVariants as outer
use Rattle.luks_rules.specs.Reading.{number_in}
use Rattle.luks_rules.specs.Sizes.{inside_at}
use Rattle.luks_meta.specs.Content.{content}
use Rattle.luks_slot.specs.declared.allowed.Allowed.{Allowed}
use Rattle.luks_slot.specs.declared.fault.SlotFault.{SlotFault}
use Rattle.luks_reading.specs.declared.header.ChosenCopy.{ChosenCopy}
use Rattle.luks_reading.specs.declared.report.Data.{Data}
use Rattle.luks_reading.specs.Checked.{WellFormed}
use Rattle.luks_reading.specs.Header.{IsChosenCopy}
use Rattle.luks2_judging.specs.Opened.{HasKeyBytesLike}
use Rattle.luks_edit.specs.declared.edit.Edit.{Edit}
use Rattle.luks_edit.specs.declared.edit_fault.EditFault.{EditFault}
use Rattle.luks_edit.specs.declared.edit_fault.EditFault.TheVariants as fault
use Rattle.luks2_edit_laws.specs.declared.like.Like.{Like}
use Rattle.luks2_edit_laws.specs.declared.like.Like.TheVariants.{Keyslot, Digest}
use Rattle.luks2_edit_laws.specs.Edited.{keyslot_salt, IsEdited}
use Rattle.luks2_edit_laws.specs.Likes.{HasStripesLike}
use Rattle.luks2_edit_laws.specs.Leftovers.{IsTornAt, Leftover2}
use Rattle.luks2_edit_laws.specs.Metadata.{HasStripes, IsKeyArea}
use Rattle.luks2_edit_laws.specs.Places.{rounded_to_blocks, IsNewArea, IsOfNewKeyslot}
use Rattle.luks2_edit_laws.specs.Refused.{IsUnrefused2, NeedsLike}
use Rattle.luks2_edit_laws.proofs.PlaceFacts.{sectors_in_blocks}
use Rattle.luks2_edit_laws.proofs.ToldFacts.{same_stripes, same_stripes_like}
use Rattle.luks2_judging.specs.Room.{IsPlaced}
use Rattle.luks2_editing.specs.Prepared.{AreCopiesWithin}
use Rattle.luks2_editing.specs.Replies.{EndsBy2}
use Rattle.luks2_editing.specs.SealedKeyslot.{HasRefusedKeyslot, IsOfStripesOf, IsSealable, IsUnsealed}
use Rattle.luks2_editing.proofs.RenewalFacts.{metadata_here}

-- ---- its numbers

-- a keyslot has one area
pub same_start : (j : Value) (n : ℕ) (a b : Area) → IsKeyArea j n a → IsKeyArea j n b → a.start ≡ b.start
same_start j n a b x y = same_Some a.start b.start (sym x.1 ∙ y.1)

pub same_len : (j : Value) (n : ℕ) (a b : Area) → IsKeyArea j n a → IsKeyArea j n b → a.len ≡ b.len
same_len j n a b x y = same_Some a.len b.len (sym x.2 ∙ y.2)

-- the keyslot `n` of the metadata `k` has the stripes of one that is made like this one by `j`, and this area
pub record SealsLike (j k : Value) (like : Like) (n : ℕ) (area : Area) : Type 0 where
  pub stripes : (a b : ℕ) → HasStripesLike j like a b → HasStripes k n a b
  pub place : IsKeyArea k n area

-- its key has one length
key_once : (j : Value) (like : Like) (len key stripes : ℕ) → HasKeyBytesLike j like len → HasStripesLike j like key stripes → len ≡ key
key_once j (Keyslot n) len key stripes long says =
    let object : long.object ≡ says.object = same_Some long.object says.object (sym long.there ∙ says.there.is) in
    same_Some len key (sym long.is ∙ ap (λ d. number_in 1 128 (inside_at outer.Top (codes "key_size") d)) object ∙ says.key_bytes_are)
key_once j (Digest number key_bytes) len key stripes long says = sym long ∙ sym says.0

module _ (j k : Value) (like : Like) (n : ℕ) (area : Area) (x : SealsLike j k like n area) where
  -- the key can be sealed in it
  pub alike_sealable : (len total : ℕ) (header : Bin2) (key random : List ℕ) → NeedsLike j (length random) like → HasKeyBytesLike j like (length key)
      → IsPlaced len j total like area → AreCopiesWithin header len total → IsSealable header.hdr_size k n key random total
  alike_sealable len total header key random needs bytes placed within =
      let same = same_stripes_like j like needs.key_bytes needs.stripes placed.blocks.key_bytes placed.blocks.stripes needs.slot placed.blocks.slot in
      let fits : rounded_to_sectors (placed.blocks.key_bytes * placed.blocks.stripes) ≤ rounded_to_blocks (placed.blocks.key_bytes * placed.blocks.stripes) =
      sectors_in_blocks (placed.blocks.key_bytes * placed.blocks.stripes) in
      let from : 2 * (len + 4096) ≤ area.start = placed.from in
      let size : 4096 + len ≡ header.hdr_size = within.size in
      record {
        key_bytes = needs.key_bytes;
        stripes = needs.stripes;
        slot = x.stripes needs.key_bytes needs.stripes needs.slot;
        area = area;
        place = x.place;
        key_length = key_once j like (length key) needs.key_bytes needs.stripes bytes needs.slot;
        random_length = needs.count;
        large = rw (same.key_bytes, same.stripes, placed.blocks.is) fits;
        behind = omega (arith, from, size);
        inside = placed.inside;
      }

  -- its sectors are those of the new area
  pub alike_place : (h total : ℕ) (payload : Data) (p : ℕ) → IsNewArea h total payload j like area → IsOfStripesOf k n p → IsOfNewKeyslot h total payload j p like
  alike_place h total payload p new at =
      let start : at.area.start ≡ area.start = same_start k n at.area area at.place x.place in
      let same = same_stripes k n at.key_bytes at.stripes new.key_bytes new.stripes at.slot (x.stripes new.key_bytes new.stripes new.slot) in
      record {
        area = area;
        is = new;
        at = subst (λ s. IsAt s (rounded_to_sectors (new.key_bytes * new.stripes)) p) start
            (subst (λ s. IsAt at.area.start (rounded_to_sectors (new.key_bytes * s)) p) same.stripes
            (subst (λ b. IsAt at.area.start (rounded_to_sectors (b * at.stripes)) p) same.key_bytes at.at));
      }

-- ---- an edit that didn't write it all

-- a failed allocation isn't the device's failure
memory_is_own : fault.Memory ≢ fault.Device
memory_is_own e = cc

module _ (v : List ℕ) (payload : Data) (copy : ChosenCopy) (x : IsChosenCopy v copy) (well : WellFormed v payload)
    (e : Edit) (random : List ℕ) (k : Value) (unrefused : IsUnrefused2 v payload e random)
    (edited : IsEdited (hdr_size (header_at v copy.header.hdr_offset)) (length v) payload e (keyslot_salt random) (content copy.meta) k) (w : List ℕ) where
  -- what it leaves
  pub torn_leftover : IsTornAt v payload e random copy.header.hdr_offset (content copy.meta) k w → Leftover2 v payload e random w
  torn_leftover torn = inr (
    unrefused,
    record {
      place = copy.header.hdr_offset;
      value = content copy.meta;
      metadata = metadata_here v payload copy x well;
      new = k;
      edited = edited;
      torn = torn;
    },
  )

  -- how it ends, where the keyslot's plan isn't refused
  pub unsealed_ends : (allowed : Allowed) (n : ℕ) → ((g : SlotFault) → HasRefusedKeyslot allowed k n g → ⊥) → IsTornAt v payload e random copy.header.hdr_offset (content copy.meta) k w
      → (f : EditFault) → (f ≢ fault.Device → w ≡ v) → IsUnsealed allowed k n f → EndsBy2 payload v e random f w
  unsealed_ends allowed n fine torn fault.Device same why = torn_leftover torn
  unsealed_ends allowed n fine torn fault.Memory same why = same memory_is_own
  unsealed_ends allowed n fine torn (fault.Slot g) same why = absurd (fine g why)
  unsealed_ends allowed n fine torn f same why = absurd why
