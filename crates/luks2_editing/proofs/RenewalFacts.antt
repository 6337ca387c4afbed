-- An edit of a LUKS2 volume that seals no keyslot: its last refusals, and what it leaves.
use Rattle.std.proofs.Common.{◌≡◌, ◌≢◌, ℕ, ◌+◌, ◌-◌, ◌^◌, ◌<◌, ◌≤◌, ◌⊎◌, List, length, get_or, replicate, inl, inr, refl, sym, ap, ◌∙◌, subst, arith}
use Rattle.std.specs.Prelude.{◌==◌}
use Rattle.std.proofs.lemmas.Bool.{cases_Bool, cases_lt, eqb-false, eqb-true}
use Rattle.std.proofs.lemmas.List.{get_or-replicate, get_or_past, length-replicate}
use Rattle.base64.specs.GeneralPurpose.{IsBytes}
use Rattle.serde_json.specs.Data.{Data as Value}
use Rattle.serde_json.specs.Written.{compact_text}
use Rattle.luks_area.specs.declared.area.AreaName.TheVariants.{Head2}
use Rattle.luks_area.specs.Ranges.{SameBut}
use Rattle.luks_area.proofs.RangeFacts.{length-part_inside, same_but-wider}
use Rattle.luks2_header.specs.declared.selection.Copies.{Copies}
use Rattle.luks2_header.specs.Header2.{header_at, hdr_size, seqid, uuid_field, IsSound}
use Rattle.luks2_header.specs.Selection.{Choice, luks1, luks2, nothing, Chosen}
use Rattle.luks2_header.specs.Sizes.{IsListed}
use Rattle.luks2_header.proofs.CopyFacts.{listed_at_least}
use Rattle.luks2_header.proofs.ChoiceFacts.{choices_agree}
use Rattle.luks_rules.proofs.AreaFaults.{one_value}
use Rattle.luks_meta.specs.Content.{area_len, content}
use Rattle.luks_meta.specs.MetaFault.{Json}
use Rattle.luks_reading.specs.declared.header.ChosenCopy.{ChosenCopy}
use Rattle.luks_reading.specs.declared.report.Data.{Data}
use Rattle.luks_reading.specs.Checked.{WellFormed}
use Rattle.luks_reading.specs.Header.{json_at, IsChosenCopy}
use Rattle.luks_reading.proofs.VolumeLaws.{well_formed_fits}
use Rattle.luks_edit.specs.declared.edit.Edit.{Edit}
use Rattle.luks_edit.specs.declared.edit_fault.EditFault.{EditFault}
use Rattle.luks_edit.specs.declared.edit_fault.EditFault.TheVariants as fault
use Rattle.luks_edit.proofs.RowFacts.{first_of_row, next, none_at_all, Passed}
use Rattle.luks2_edit_laws.specs.Copies.{label_after, label_field, subsystem_after, subsystem_field, uuid_after}
use Rattle.luks2_edit_laws.specs.Edited.{keyslot_salt, After2, IsEdited, IsSealedBy, IsWipedBy}
use Rattle.luks2_edit_laws.specs.Leftovers.{IsTornAt}
use Rattle.luks2_edit_laws.specs.Metadata.{HasMetadata}
use Rattle.luks2_edit_laws.specs.Places.{IsOfCopies, IsTouched}
use Rattle.luks2_edit_laws.specs.Refused.{IsEditFault2, HasSaid, IsFull, IsMiscounted, IsUnrefused2, Need2}
use Rattle.luks2_edit_laws.proofs.SoundCopyFacts.{copy_sound}
use Rattle.luks2_judging.specs.declared.judged.TextFields.{TextFields}
use Rattle.luks2_editing.specs.Prepared.{AreCopiesWithin, IsPrepared, IsUnwritten}
use Rattle.luks2_editing.specs.Replies.{EndsBy2}
use Rattle.luks2_editing.specs.Rewriting.{AreWrittenAnew, IsRenewing, MayBeHalfWritten}

-- the place of the copy that is chosen
place_of : Choice → ℕ
place_of luks1 = 0
place_of (luks2 o copies) = o
place_of nothing = 0

-- a number is zero or not
zero_or : (o : ℕ) → (o ≡ 0) ⊎ (o ≢ 0)
zero_or o = elim (cases_Bool (o == 0)) [ inl same ↦ inl (eqb-true o 0 same) | inr other ↦ inr (eqb-false o 0 other) ]

-- zeros are bytes
zeros_are_bytes : (n : ℕ) → IsBytes (replicate n 0)
zeros_are_bytes n i =
    let zeros : List ℕ = replicate n 0 in
    let z : ℕ = 0 in
    elim (cases_lt i n) [
      | inl under ↦ (let is : get_or zeros i z ≡ z = get_or-replicate n i z z under in omega (arith, is))
      | inr over ↦ (let long : length zeros ≡ n = length-replicate {A = ℕ} n 0 in
          let is : get_or zeros i z ≡ z = get_or_past zeros i z (omega (arith, over, long)) in omega (arith, is))
    ]

-- ---- the copy that counts

module _ (v : List ℕ) (payload : Data) (copy : ChosenCopy) (x : IsChosenCopy v copy) (well : WellFormed v payload) where
  pub metadata_here : HasMetadata v copy.header.hdr_offset (content copy.meta)
  metadata_here = record { copies = copy.copies; chosen = x.chosen; holds = x.metadata.json }

  one_place : (q : ℕ) (c : Copies) → Chosen v (luks2 q c) → q ≡ copy.header.hdr_offset
  unfolding place_of
  one_place q c y = ap place_of (choices_agree v (luks2 q c) (luks2 copy.header.hdr_offset copy.copies) y x.chosen)

  -- what is said of the metadata that counts is said of this
  pub said_here : (says : ℕ → Value → Type 0) → HasSaid v says → says copy.header.hdr_offset (content copy.meta)
  said_here says s =
      let at : s.place ≡ copy.header.hdr_offset = one_place s.place s.metadata.copies s.metadata.chosen in
      let holds : Json (json_at v copy.header.hdr_offset) s.value = subst (λ q. Json (json_at v q) s.value) at s.metadata.holds in
      let same : s.value ≡ content copy.meta = one_value (json_at v copy.header.hdr_offset) s.value (content copy.meta) holds x.metadata.json in
      subst (λ i. says copy.header.hdr_offset i) same (subst (λ q. says q s.value) at s.is)

  pub said : (says : ℕ → Value → Type 0) → says copy.header.hdr_offset (content copy.meta) → HasSaid v says
  said says is = record { place = copy.header.hdr_offset; value = content copy.meta; metadata = metadata_here; is = is }

  pub size_is : hdr_size (header_at v copy.header.hdr_offset) ≡ copy.header.hdr_size
  size_is = x.header.hdr_size

  pub sound_here : IsSound v copy.header.hdr_offset
  sound_here = copy_sound v copy.header.hdr_offset copy.copies x.chosen

  pub len_here : area_len copy.meta ≡ hdr_size (header_at v copy.header.hdr_offset) - 4096
  len_here =
      let least = listed_at_least (hdr_size (header_at v copy.header.hdr_offset)) sound_here.form.listed in
      let inside = sound_here.form.inside in
      x.area_len ∙ length-part_inside v (copy.header.hdr_offset + 4096) (hdr_size (header_at v copy.header.hdr_offset) - 4096) (omega (arith, least, inside))

  -- both copies lie in the volume
  pub copy_within : AreCopiesWithin copy.header (area_len copy.meta) (length v)
  copy_within =
      let h : ℕ = hdr_size (header_at v copy.header.hdr_offset) in
      let least : 16384 ≤ h = listed_at_least h sound_here.form.listed in
      let size : h ≡ copy.header.hdr_size = size_is in
      let len : area_len copy.meta ≡ h - 4096 = len_here in
      let behind : h + h ≤ length v = (well_formed_fits v payload well).fit.inside Head2 (record { start = h; len = h })
      (record { choice = luks2 copy.header.hdr_offset copy.copies; chosen = x.chosen; area = record { value = content copy.meta; holds = x.metadata.json; area = (refl, refl) } }) in
      record {
        size = omega (arith, least, size, len);
        place = elim (zero_or copy.header.hdr_offset) [
          | inl zero ↦ omega (arith, zero)
          | inr more ↦ (let there : h ≡ copy.header.hdr_offset = sound_here.form.second more in omega (arith, there, size))
        ];
        within = omega (arith, behind, size);
      }

  -- it may be written anew
  pub renewing : (e : Edit) (random : List ℕ) (texts : TextFields) → texts.uuid ≡ uuid_after e random (uuid_field (header_at v copy.header.hdr_offset)) → texts.label ≡ label_after e (label_field (header_at v copy.header.hdr_offset))
      → texts.subsystem ≡ subsystem_after e (subsystem_field (header_at v copy.header.hdr_offset)) → IsRenewing v e random copy.header texts (area_len copy.meta)
  renewing e random texts uuid label subsystem = record {
    header = x.header;
    listed = subst IsListed size_is sound_here.form.listed;
    second = λ more. sym size_is ∙ sound_here.form.second more;
    uuid_is = uuid;
    label_is = label;
    subsystem_is = subsystem;
    len_is = len_here ∙ ap (λ n. n - 4096) size_is;
  }

  -- ---- an edit that makes `new` of the metadata, once the rows before that of the number were passed

  module _ (e : Edit) (random : List ℕ) (new : Value) (passed : Passed (IsEditFault2 v payload e random) 21)
      (edited : (salt : List ℕ) → IsEdited (hdr_size (header_at v copy.header.hdr_offset)) (length v) payload e salt (content copy.meta) new)
      (edited_only : (salt : List ℕ) (k : Value) → IsEdited (hdr_size (header_at v copy.header.hdr_offset)) (length v) payload e salt (content copy.meta) k → k ≡ new)
      (n : ℕ) (need : Need2 (content copy.meta) e n) (need_only : (k : ℕ) → Need2 (content copy.meta) e k → k ≡ n)
      (sealed : (w : List ℕ) → IsSealedBy v e random (content copy.meta) w new) where
    numbered_of : copy.header.seqid + 1 < 2 ^ 64 → HasSaid v (λ o j. seqid (header_at v o) + 1 ≡ 2 ^ 64) → ⊥
    numbered_of low bad =
        let is : seqid (header_at v copy.header.hdr_offset) ≡ copy.header.seqid = x.header.seqid in
        let high : seqid (header_at v copy.header.hdr_offset) + 1 ≡ 2 ^ 64 = said_here (λ o j. seqid (header_at v o) + 1 ≡ 2 ^ 64) bad in
        omega (arith, is, high, low)

    roomy_of : length (compact_text new) < area_len copy.meta → HasSaid v (λ o j. IsFull (hdr_size (header_at v o)) (length v) payload j e) → ⊥
    roomy_of low bad =
        let full : IsFull (hdr_size (header_at v copy.header.hdr_offset)) (length v) payload (content copy.meta) e =
        said_here (λ o j. IsFull (hdr_size (header_at v o)) (length v) payload j e) bad in
        let same : full.new ≡ new = edited_only full.salt full.new full.edited in
        let high : hdr_size (header_at v copy.header.hdr_offset) - 4096 ≤ length (compact_text new) =
        subst (λ i. hdr_size (header_at v copy.header.hdr_offset) - 4096 ≤ length (compact_text i)) same full.full in
        let len : area_len copy.meta ≡ hdr_size (header_at v copy.header.hdr_offset) - 4096 = len_here in
        omega (arith, low, high, len)

    counted_of : length random ≡ n → HasSaid v (λ o j. IsMiscounted j e random) → ⊥
    counted_of count bad =
        let other : IsMiscounted (content copy.meta) e random = said_here (λ o j. IsMiscounted j e random) bad in
        other.other (count ∙ sym (need_only other.need other.is))

    past_number : copy.header.seqid + 1 < 2 ^ 64 → Passed (IsEditFault2 v payload e random) 22
    past_number low = next (IsEditFault2 v payload e random) fault.SeqExhausted refl passed (numbered_of low)

    past_room : copy.header.seqid + 1 < 2 ^ 64 → length (compact_text new) < area_len copy.meta → Passed (IsEditFault2 v payload e random) 23
    past_room low room = next (IsEditFault2 v payload e random) fault.MetadataFull refl (past_number low) (roomy_of room)

    past_all : copy.header.seqid + 1 < 2 ^ 64 → length (compact_text new) < area_len copy.meta → length random ≡ n → Passed (IsEditFault2 v payload e random) 26
    past_all low room count =
        let s = IsEditFault2 v payload e random in
        next s fault.Device refl (next s fault.Memory refl (next s fault.RandomLength refl (past_room low room) (counted_of count)) (λ bad. bad)) (λ bad. bad)

    -- nothing refuses it where all was prepared
    pub prepared_unrefused : IsPrepared copy.header.seqid (area_len copy.meta) new random n → IsUnrefused2 v payload e random
    prepared_unrefused p = record { none = none_at_all (IsEditFault2 v payload e random) (past_all p.numbered p.room p.counted) }

    torn_here : (w : List ℕ) → MayBeHalfWritten v copy.header.hdr_offset e random new v w → IsTornAt v payload e random copy.header.hdr_offset (content copy.meta) new w
    torn_here w (inl same) = inr (inl (record { sealed = sealed w; rest = same_but-wider (λ p at. inr at) same }))
    torn_here w (inr half) = inr (inr (inl (record { sealed = sealed w; other = half.other; rest = same_but-wider (λ p at. inr at) half.rest })))

    -- what it leaves where it was ended
    pub unwritten_ends : (w : List ℕ) (f : EditFault) → IsUnwritten copy.header.seqid (area_len copy.meta) new random n f → (f ≢ fault.Device → w ≡ v)
        → MayBeHalfWritten v copy.header.hdr_offset e random new v w → EndsBy2 payload v e random f w
    unwritten_ends w fault.SeqExhausted bad same half = (
      first_of_row (IsEditFault2 v payload e random) fault.SeqExhausted refl passed
          (said (λ o j. seqid (header_at v o) + 1 ≡ 2 ^ 64) (ap (λ n. n + 1) x.header.seqid ∙ bad)),
      same (λ t. cc),
    )
    unwritten_ends w fault.MetadataFull bad same half = (
      first_of_row (IsEditFault2 v payload e random) fault.MetadataFull refl (past_number bad.numbered)
          (said (λ o j. IsFull (hdr_size (header_at v o)) (length v) payload j e) (record {
            salt = replicate 32 0;
            salt_bytes = zeros_are_bytes 32;
            salt_length = refl;
            new = new;
            edited = edited (replicate 32 0);
            full = subst (λ n. n ≤ length (compact_text new)) len_here bad.full;
          })),
      same (λ t. cc),
    )
    unwritten_ends w fault.RandomLength bad same half = (
      first_of_row (IsEditFault2 v payload e random) fault.RandomLength refl (past_room bad.numbered bad.room)
          (said (λ o j. IsMiscounted j e random) (record { need = n; is = need; other = bad.other })),
      same (λ t. cc),
    )
    unwritten_ends w fault.Memory bad same half = same (λ t. cc)
    unwritten_ends w fault.Device bad same half = inr (
      prepared_unrefused bad,
      record {
        place = copy.header.hdr_offset;
        value = content copy.meta;
        metadata = metadata_here;
        new = new;
        edited = edited (keyslot_salt random);
        torn = torn_here w half;
      },
    )
    unwritten_ends w f bad same half = absurd bad

    -- what it leaves where it was done
    pub written_after : (w : List ℕ) → IsWipedBy e (content copy.meta) w → AreWrittenAnew v copy.header.hdr_offset e random new w
        → SameBut (IsTouched (hdr_size (header_at v copy.header.hdr_offset)) (length v) payload (content copy.meta) e) v w → After2 v payload e random w
    written_after w wiped anew rest = record {
      place = copy.header.hdr_offset;
      value = content copy.meta;
      metadata = metadata_here;
      new = new;
      edited = edited (keyslot_salt random);
      first = anew.first;
      second = anew.second;
      sealed = sealed w;
      wiped = wiped;
      rest = rest;
    }

    -- the copies are among the bytes that an edit may change
    pub copies_touched : (w : List ℕ) → SameBut (IsOfCopies copy.header.hdr_size) v w
        → SameBut (IsTouched (hdr_size (header_at v copy.header.hdr_offset)) (length v) payload (content copy.meta) e) v w
    copies_touched w same =
        same_but-wider (λ p at. inl at) (subst (λ n. SameBut (IsOfCopies n) v w) (sym size_is) same)
