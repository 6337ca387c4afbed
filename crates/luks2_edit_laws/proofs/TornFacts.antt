-- What a LUKS2 volume keeps that a failing device call left.
use Rattle.std.proofs.Common.{◌≡◌, ℕ, ◌+◌, ◌-◌, ◌*◌, ◌<◌, ◌≤◌, ◌⊎◌, ◌==◌, Bool, true, false, List, length, None, Some, inl, inr, refl, sym, ap, subst, ◌∙◌, arith}
use Rattle.std.specs.Prelude.{⊤}
use Rattle.std.proofs.lemmas.Bool.{eqb-true}
use Rattle.serde_json.specs.Data.{Data as Value}
use Rattle.luks_area.specs.declared.area.AreaName.TheVariants as name
use Rattle.luks_area.proofs.RangeFacts.{part-part, part-same_but, same_but-equal, same_but-wider}
use Rattle.luks_area.specs.Ranges.{part, IsAt, IsOfEither, SameBut}
use Rattle.luks_area.specs.declared.area.Area.{Area}
use Rattle.luks2_header.specs.Header2.{copy_at, hdr_size, header_at, uuid_field, IsSound, IsUuidField}
use Rattle.luks2_header.specs.Selection.{luks2, Chosen}
use Rattle.luks2_header.specs.Sizes.{IsListed}
use Rattle.luks2_header.specs.declared.selection.Copies.{Copies}
use Rattle.luks2_header.proofs.CopyFacts.{listed_at_least}
use Rattle.luks2_header.proofs.ChoiceFacts.{choices_agree, choice_exists}
use Rattle.luks_rules.specs.MetaFault.{Json}
use Rattle.luks_making.specs.Changed.{changed_slot}
use Rattle.luks_making.specs.declared.derivation.AskedDerivation.{AskedDerivation}
use Rattle.luks_slot.specs.declared.allowed.Allowed.{Allowed}
use Rattle.luks_reading.specs.declared.report.Data.{Data}
use Rattle.luks_reading.specs.Answer.{opens, AnswerWithin}
use Rattle.luks_reading.specs.Layout2.{Luks2Area}
use Rattle.luks_reading.specs.Checked.{WellFormed, WellFormedAs}
use Rattle.luks_reading.specs.Header.{json_at}
use Rattle.luks_edit.proofs.SecretFacts.{one_answer_to}
use Rattle.luks_edit.specs.declared.edit.Edit.{Edit}
use Rattle.luks_edit.specs.declared.edit.Edit.TheVariants.{Add, AddByKey, Change, Remove, Erase, Repair, Label, Uuid, Amend}
use Rattle.luks_edit.specs.declared.edit.Opener.{Opener}
use Rattle.luks_edit.specs.declared.edit.Opener.TheVariants as opener
use Rattle.luks_edit.specs.declared.edit_fault.EditFault.TheVariants.{BadUuid}
use Rattle.luks_edit.specs.Asked.{allowed_for, deed_of, Loses, MatchDeed}
use Rattle.luks_edit.specs.Kept.{Keeps}
use Rattle.luks2_edit_laws.specs.declared.like.Like.{Like}
use Rattle.luks2_edit_laws.specs.declared.like.Like.TheVariants.{Keyslot}
use Rattle.luks2_edit_laws.specs.Copies.{other_place, IsRenewed}
use Rattle.luks2_edit_laws.specs.Edited.{keyslot_salt, members_of, stripes_random, HasChanged, HasRanges, HoldsKey, IsEdited, IsSealedBy, NamedKeyslots2}
use Rattle.luks2_edit_laws.specs.Leftovers.{CountsAsAfter, CountsAsBefore, IsAllowed, IsNotStray, IsTorn2, IsTornAt, IsTornChosen, IsTornLost, IsTornOther, KeepsAllOrNone, Leftover2, OpensEither2}
use Rattle.luks2_edit_laws.specs.Metadata.{HasMetadata}
use Rattle.luks2_edit_laws.specs.Gap.{IsLeastGap}
use Rattle.luks2_edit_laws.specs.Places.{key_areas_end, rounded_to_blocks, IsNewArea, IsOfCopies, IsOfLost, IsOfNewKeyslot, IsOfSealed, IsTouched}
use Rattle.luks2_edit_laws.specs.Refused.{IsUnrefused2}
use Rattle.luks2_edit_laws.proofs.MetadataFacts.{some_same}
use Rattle.luks2_edit_laws.proofs.OpenedFacts.{changed_opens}
use Rattle.luks2_edit_laws.proofs.ToldFacts.{same_stripes_like}
use Rattle.luks2_edit_laws.proofs.AfterFacts.{asking, changed_changes, edited_metadata, lost_is_named, model_by, ready_by, same_metadata, was_opened, WasOpened, long_salt}
use Rattle.luks2_edit_laws.proofs.ErasedFacts.{none_opens}
use Rattle.luks2_edit_laws.proofs.GivenFacts.{gives_kept}
use Rattle.luks2_edit_laws.proofs.KeptFacts.{all_kept}
use Rattle.luks2_edit_laws.proofs.LeftoverFacts.{first_size_left, is_sound, left_of, not_other, place_is, same_header, Left}
use Rattle.luks2_edit_laws.proofs.SoundCopyFacts.{copy_sound}
use Rattle.luks2_edit_laws.proofs.PlaceFacts.{left_bytes}
use Rattle.luks2_edit_laws.proofs.TouchedFacts.{torn_rest}
use Rattle.luks2_edit_laws.proofs.UuidFacts.{uuid_stays}
use Rattle.luks2_edit_laws.proofs.VolumeFacts.{copy_of, layout_of, one_metadata, one_place, HasCopy, IsLayout}

-- ---- places

-- what is sealed lies behind the copies
new_behind : (h total : ℕ) (payload : Data) (j : Value) (like : Like) (p : ℕ) → IsOfNewKeyslot h total payload j p like → 2 * h ≤ p
new_behind h total payload j like p x = let from : 2 * h ≤ x.area.start = x.is.gap.gap.from in let low : x.area.start ≤ p = x.at.0 in omega (arith, from, low)

sealed_behind : (h total : ℕ) (payload : Data) (j : Value) (e : Edit) (p : ℕ) → IsOfSealed h total payload j e p → 2 * h ≤ p
sealed_behind h total payload j (Add by_ old new to iterations d) p x = new_behind h total payload j x.like p x.has
sealed_behind h total payload j (AddByKey key new to iterations d) p x = new_behind h total payload j x.like p x.has
sealed_behind h total payload j (Change slot old new iterations d) p x = new_behind h total payload j x.like p x.has
sealed_behind h total payload j (Remove slot by_ passphrase) p x = absurd x
sealed_behind h total payload j Erase p x = absurd x
sealed_behind h total payload j Repair p x = absurd x
sealed_behind h total payload j (Label text subsystem) p x = absurd x
sealed_behind h total payload j (Uuid uuid) p x = absurd x
sealed_behind h total payload j (Amend c) p x = absurd x

-- the other copy lies in the front
other_first : (h o : ℕ) → o ≡ 0 → other_place h o ≡ h
other_first h o zero_ = rw zero_ refl

other_second : (h o : ℕ) → (b : Bool) → (o == 0) ≡ b → (o ≡ 0 → ⊥) → other_place h o ≡ 0
other_second h o true is later = absurd (later (eqb-true o 0 is))
other_second h o false is later = rw is refl

not_both : {p h : ℕ} → p ≡ 0 → p ≡ h → 16384 ≤ h → ⊥
not_both zero_ there room = absurd (omega (arith, zero_, there, room))

big : {n : ℕ} → IsListed n → 4096 ≤ n
big {n} listed = let least : 16384 ≤ n = listed_at_least n listed in omega (arith, least)

-- ---- a copy that wasn't touched

inside_copies : (h q p : ℕ) → (q ≡ 0) ⊎ (q ≡ h) → IsAt q h p → p < 2 * h
inside_copies h q p (inl zero_) at = let high : p < q + h = at.1 in omega (arith, zero_, high)
inside_copies h q p (inr there) at = let high : p < q + h = at.1 in omega (arith, there, high)

shorter : (q h p : ℕ) → 16384 ≤ h → p < q + 4096 → p < q + h
shorter q h p room lt = omega (arith, room, lt)

-- the header of a copy is equal where none of its bytes was touched
untouched_header : (v w : List ℕ) (touched : ℕ → Type 0) (h q : ℕ) → SameBut touched v w → 16384 ≤ h → ((p : ℕ) → IsAt q h p → touched p → ⊥)
    → header_at w q ≡ header_at v q
untouched_header v w touched h q rest room apart = part-same_but q 4096 rest (λ p at x. apart p (at.0, shorter q h p room at.1) x)

-- and so is the whole copy
untouched_copy : (v w : List ℕ) (touched : ℕ → Type 0) (h q : ℕ) → SameBut touched v w → 16384 ≤ h → ((p : ℕ) → IsAt q h p → touched p → ⊥)
    → (hdr_size (header_at v q) ≡ h) ⊎ (hdr_size (header_at w q) ≡ h) → copy_at w q ≡ copy_at v q
untouched_copy v w touched h q rest room apart (inl size) =
    let header : header_at w q ≡ header_at v q = untouched_header v w touched h q rest room apart in
    let now : hdr_size (header_at w q) ≡ h = ap (λ b. hdr_size b) header ∙ size in
    ap (part w q) now ∙ part-same_but q h rest apart ∙ ap (part v q) (sym size)
untouched_copy v w touched h q rest room apart (inr now) =
    let header : header_at w q ≡ header_at v q = untouched_header v w touched h q rest room apart in
    let size : hdr_size (header_at v q) ≡ h = sym (ap (λ b. hdr_size b) header) ∙ now in
    ap (part w q) now ∙ part-same_but q h rest apart ∙ ap (part v q) (sym size)

-- ---- what counts is as before, or is what the edit writes

-- the JSON area is the rest of the copy
json_of_copy : (v : List ℕ) (q : ℕ) → 4096 ≤ hdr_size (header_at v q) → part (copy_at v q) 4096 (hdr_size (header_at v q) - 4096) ≡ json_at v q
json_of_copy v q long = part-part v q (hdr_size (header_at v q)) 4096 (hdr_size (header_at v q) - 4096) (joined long)
  where
    joined : {n : ℕ} → 4096 ≤ n → 4096 + (n - 4096) ≤ n
    joined least = omega (arith, least)

-- the copy that the edit writes, where it counts
written_copy : (v : List ℕ) (payload : Data) (e : Edit) (random w : List ℕ) → WellFormed v payload → IsUnrefused2 v payload e random
    → (p : ℕ) (b : Copies) → Chosen w (luks2 p b) → (a : IsAllowed v payload e random w p) → HasCopy w p (hdr_size (header_at v a.place)) a.new
written_copy v payload e random w well free p b chosen a = record {
  copies = b;
  chosen = chosen;
  size = a.renewed.size;
  uuid = subst IsUuidField (sym a.renewed.uuid) (uuid_stays e random _ (free.none BadUuid) (copy_of v payload a.place a.value a.metadata well).uuid);
  holds = a.renewed.json.json;
}

module _
    (v : List ℕ) (payload : Data) (e : Edit) (random w : List ℕ) (well : WellFormed v payload)
    (ranges : HasRanges v e random) (long : length w ≡ length v)
  where
    -- where the copy that counted still counts, it has the JSON area that it had
    pub same_json : (o : ℕ) (c b : Copies) → Chosen v (luks2 o c) → Chosen w (luks2 o b) → copy_at w o ≡ copy_at v o → json_at w o ≡ json_at v o
    same_json o c b counted counts same =
        let h : ℕ = hdr_size (header_at v o) in
        let size : hdr_size (header_at w o) ≡ h = ap (λ x. hdr_size x) (same_header v w long o same (copy_sound w o b counts)) in
        let was : 4096 ≤ h = big (copy_sound v o c counted).form.listed in
        let is : 4096 ≤ hdr_size (header_at w o) = big (copy_sound w o b counts).form.listed in
        sym (json_of_copy w o is) ∙ ap (λ n. part (copy_at w o) 4096 (n - 4096)) size ∙ ap (λ x. part x 4096 (h - 4096)) same ∙ json_of_copy v o was

    -- all is kept but what was touched
    pub kept_before : (named : ℕ → Type 0) (d : Edit) → ((n : ℕ) → Loses d n → named n) → (o : ℕ) (j : Value) (m : HasMetadata v o j) (b : Copies)
        → Chosen w (luks2 o b) → copy_at w o ≡ copy_at v o
        → SameBut (IsTouched (hdr_size (header_at v o)) (length v) payload j d) v w → Keeps payload named v w
    kept_before named d lost_named o j m b chosen same rest =
        let h : ℕ = hdr_size (header_at v o) in
        let before : HasCopy v o h j = copy_of v payload o j m well in
        let layout : IsLayout h (length v) payload j = layout_of v payload o j m well in
        let header : header_at w o ≡ header_at v o = same_header v w long o same (copy_sound w o b chosen) in
        let size : hdr_size (header_at w o) ≡ h = ap (λ x. hdr_size x) header in
        let json : json_at w o ≡ json_at v o = same_json o m.copies b m.chosen chosen same in
        let after : HasCopy w o h j = record {
          copies = b;
          chosen = chosen;
          size = size;
          uuid = subst (λ x. IsUuidField (uuid_field x)) (sym header) before.uuid;
          holds = subst (λ a. Json a j) (sym json) before.holds;
        } in
        all_kept v w payload o o h j j named before after long layout
        (same_metadata h (length v) payload named j j refl layout)
        (λ n a x. left_bytes v w h (length v) payload j d layout.fit rest (name.Segment n) a tt x)
        (λ n unnamed a x. left_bytes v w h (length v) payload j d layout.fit rest (name.Slot n) a (λ lost. unnamed (lost_named n lost)) x)

    pub keeps_before : (o : ℕ) (j : Value) (m : HasMetadata v o j) (b : Copies) → Chosen w (luks2 o b) → copy_at w o ≡ copy_at v o
        → SameBut (IsTouched (hdr_size (header_at v o)) (length v) payload j e) v w → Keeps payload (NamedKeyslots2 v e) v w
    keeps_before o j m b chosen same rest = kept_before (NamedKeyslots2 v e) e (lost_is_named v e) o j m b chosen same rest

    -- and so where one counts that the edit writes
    pub keeps_after : IsUnrefused2 v payload e random → WasOpened v e → (p : ℕ) (b : Copies) → Chosen w (luks2 p b) → (a : IsAllowed v payload e random w p)
        → SameBut (IsTouched (hdr_size (header_at v a.place)) (length v) payload a.value e) v w → Keeps payload (NamedKeyslots2 v e) v w
    keeps_after free opened p b chosen a rest =
        let h : ℕ = hdr_size (header_at v a.place) in
        let before : HasCopy v a.place h a.value = copy_of v payload a.place a.value a.metadata well in
        let layout : IsLayout h (length v) payload a.value = layout_of v payload a.place a.value a.metadata well in
        let after : HasCopy w p h a.new = written_copy v payload e random w well free p b chosen a in
        all_kept v w payload a.place p h a.value a.new (NamedKeyslots2 v e) before after long layout
        (edited_metadata v a.place payload e random a.value a.new a.metadata before ranges free opened a.edited layout)
        (λ n d x. left_bytes v w h (length v) payload a.value e layout.fit rest (name.Segment n) d tt x)
        (λ n unnamed d x. left_bytes v w h (length v) payload a.value e layout.fit rest (name.Slot n) d (λ lost. unnamed (lost_is_named v e n lost)) x)

one_start : {m n : ℕ} → m ≤ n → n ≤ m → m ≡ n
one_start low high = omega (arith, low, high)

same_area : (a b : Area) → a.start ≡ b.start → a.len ≡ b.len → a ≡ b
same_area a b start len = ap (λ s. record { start = s; len = a.len }) start ∙ ap (λ l. record { start = b.start; len = l }) len

-- a new area is one
one_new_area : (h total : ℕ) (payload : Data) (j : Value) (like : Like) (a b : Area) → IsNewArea h total payload j like a → IsNewArea h total payload j like b → a ≡ b
one_new_area h total payload j like a b x y =
    let s = same_stripes_like j like x.key_bytes x.stripes y.key_bytes y.stripes x.slot y.slot in
    let region : x.region ≡ y.region = some_same x.region y.region (sym x.region_is ∙ y.region_is) in
    let len : a.len ≡ b.len = x.len ∙ ap (λ k. rounded_to_blocks (k * x.stripes)) s.key_bytes ∙ ap (λ n. rounded_to_blocks (y.key_bytes * n)) s.stripes ∙ sym y.len in
    let moved : IsLeastGap (Luks2Area j h payload total) (2 * h) (key_areas_end h total x.region) a.len b.start =
    subst (λ r. IsLeastGap (Luks2Area j h payload total) (2 * h) (key_areas_end h total r) a.len b.start) (sym region)
    (subst (λ l. IsLeastGap (Luks2Area j h payload total) (2 * h) (key_areas_end h total y.region) l b.start) (sym len) y.gap) in
    same_area a b (one_start (x.gap.least b.start moved.gap) (moved.least a.start x.gap.gap)) len

-- so what a change makes of metadata is one value
changed_once : (h total : ℕ) (payload : Data) (n : ℕ) (asked : AskedDerivation) (salt : List ℕ) (j k i : Value) → HasChanged h total payload n asked salt j k
    → HasChanged h total payload n asked salt j i → k ≡ i
changed_once h total payload n asked salt j k i x y =
    let area : x.area ≡ y.area = one_new_area h total payload j (Keyslot n) x.area y.area x.place y.place in
    x.is ∙ ap (λ a. changed_slot n (members_of asked salt a) j) area ∙ sym y.is

-- where one counts that the edit writes, a keyslot that was sealed again opens by the new passphrase
opens_written : (v : List ℕ) (payload : Data) (e : Edit) (random w : List ℕ) → WellFormed v payload
    → HasRanges v e random → IsUnrefused2 v payload e random → length w ≡ length v → (j new : Value) (p : ℕ) (b : Copies) → Chosen w (luks2 p b)
    → (a : IsAllowed v payload e random w p) → IsEdited (hdr_size (header_at v a.place)) (length v) payload e (keyslot_salt random) a.value new
    → IsSealedBy v e random j w new → OpensEither2 v e w
opens_written v payload (Add by_ old new to iterations d) random w well ranges free long j k p b chosen a edited sealed = tt
opens_written v payload (AddByKey key new to iterations d) random w well ranges free long j k p b chosen a edited sealed = tt
opens_written v payload (Change slot old new iterations d) random w well ranges free long j k p b chosen a edited sealed =
    let e : Edit = Change slot old new iterations d in
    let h : ℕ = hdr_size (header_at v a.place) in
    let before : HasCopy v a.place h a.value = copy_of v payload a.place a.value a.metadata well in
    let layout : IsLayout h (length v) payload a.value = layout_of v payload a.place a.value a.metadata well in
    let after : HasCopy w p h a.new = written_copy v payload e random w well free p b chosen a in
    let now : IsLayout h (length w) payload a.new = subst (λ n. IsLayout h n payload a.new) (sym long)
    (edited_metadata v a.place payload e random a.value a.new a.metadata before ranges free (sealed.key, sealed.opened) a.edited layout).layout in
    let opener_ : Opener = opener.Keyslot slot old in
    let allowed : Allowed = allowed_for opener_ new.now in
    let model = model_by allowed v a.place a.value opener_ sealed.key (Keyslot slot) a.metadata sealed.opened refl in
    let ready = ready_by v a.place payload e random a.value a.metadata ranges free _ refl (Keyslot slot) refl model in
    let changes = changed_changes allowed v a.place h payload random a.value a.new before layout slot (asking iterations d) ready a.edited in
    let same : k ≡ a.new = changed_once h (length v) payload slot (asking iterations d) (keyslot_salt random) a.value k a.new edited a.edited in
    let there : HoldsKey w k slot new.now sealed.key (stripes_random random) =
    subst (λ n. HoldsKey w k n new.now sealed.key (stripes_random random)) sealed.is_made sealed.holds in
    let holds : HoldsKey w a.new slot new.now sealed.key (stripes_random random) = subst (λ i. HoldsKey w i slot new.now sealed.key (stripes_random random)) same there in
    let opened : AnswerWithin allowed w slot new.now (opens sealed.key) =
    changed_opens old.kind allowed v w payload a.place p h a.value a.new slot slot old.bytes.now new.now sealed.key (stripes_random random)
    a.metadata sealed.opened before layout after now holds
    (members_of (asking iterations d) (keyslot_salt random) a.edited.area) refl
    (long_salt allowed v a.place h payload random a.value a.new before layout (Keyslot slot) (asking iterations d) ready a.edited.area a.edited.place) ready.within changes in
    λ key was.
    (let key_same : sealed.key ≡ key = one_answer_to old.kind allowed v slot old.bytes.now (opens sealed.key) (opens key) sealed.opened was in
    inr (subst (λ x. AnswerWithin allowed w slot new.now (opens x)) key_same opened))
opens_written v payload (Remove slot by_ passphrase) random w well ranges free long j k p b chosen a edited sealed = tt
opens_written v payload Erase random w well ranges free long j k p b chosen a edited sealed = tt
opens_written v payload Repair random w well ranges free long j k p b chosen a edited sealed = tt
opens_written v payload (Label text subsystem) random w well ranges free long j k p b chosen a edited sealed = tt
opens_written v payload (Uuid uuid) random w well ranges free long j k p b chosen a edited sealed = tt
opens_written v payload (Amend c) random w well ranges free long j k p b chosen a edited sealed = tt

sealed_or_copy : (A B C : Type 0) → A ⊎ B → B ⊎ A ⊎ C
sealed_or_copy A B C (inl a) = inr (inl a)
sealed_or_copy A B C (inr b) = inl b

-- ---- by the step that failed

-- the chosen copy, and its place among the two
chosen_at : (p o h : ℕ) → 16384 ≤ h → (p ≡ 0) ⊎ (p ≡ h) → (o ≡ 0) ⊎ (o ≡ h)
    → (p ≡ o) ⊎ ((o ≡ 0) × (p ≡ h) × (p ≡ 0 → ⊥) ⊎ ((o ≡ h) × (p ≡ 0) × (o ≡ 0 → ⊥)))
chosen_at p o h room (inl p0) (inl o0) = inl (p0 ∙ sym o0)
chosen_at p o h room (inr ph) (inr oh) = inl (ph ∙ sym oh)
chosen_at p o h room (inr ph) (inl o0) = inr (inl (o0, ph, λ p0. not_both p0 ph room))
chosen_at p o h room (inl p0) (inr oh) = inr (inr (oh, p0, λ o0. not_both o0 oh room))

-- where an edit erases all keyslots: all have their answers, or none opens
abbrev pub ErasesAll : Data → List ℕ → Edit → List ℕ → Type 0
ErasesAll payload v e w = MatchDeed (deed_of e) (λ s. ⊤) (λ r. ⊤) (λ r. ⊤) (KeepsAllOrNone payload v w)

-- what counts, what is kept, and what opens
pub record Outcome (v : List ℕ) (payload : Data) (e : Edit) (random w : List ℕ) : Type 0 where
  pub whole : CountsAsBefore v w ⊎ CountsAsAfter v payload e random w
  pub keeps : Keeps payload (NamedKeyslots2 v e) v w
  pub opens_either : OpensEither2 v e w
  pub erases_all : ErasesAll payload v e w

-- while neither the copy that counted nor the keyslot's own area was touched, it gives by the old secret what it gave
opens_before : (v : List ℕ) (payload : Data) (e : Edit) (random w : List ℕ) → WellFormed v payload
    → HasRanges v e random → (o : ℕ) (j : Value) (m : HasMetadata v o j) (b : Copies) → Chosen w (luks2 o b) → copy_at w o ≡ copy_at v o
    → SameBut (IsOfEither (IsOfSealed (hdr_size (header_at v o)) (length v) payload j e) (IsOfCopies (hdr_size (header_at v o)))) v w → OpensEither2 v e w
opens_before v payload (Add by_ old new to iterations d) random w well ranges o j m b chosen same rest = tt
opens_before v payload (AddByKey key new to iterations d) random w well ranges o j m b chosen same rest = tt
opens_before v payload (Change slot old new iterations d) random w well ranges o j m b chosen same rest = λ key was.
    (let e : Edit = Change slot old new iterations d in
    let all : SameBut (IsTouched (hdr_size (header_at v o)) (length v) payload j (Add slot old new None iterations d)) v w =
    same_but-wider (λ p x. sealed_or_copy (IsOfSealed (hdr_size (header_at v o)) (length v) payload j e p) (IsOfCopies (hdr_size (header_at v o)) p) (IsOfLost j (Add slot old new None iterations d) p) x) rest in
    let kept : Keeps payload (λ n. ⊥) v w =
    kept_before v payload e random w well ranges rest.length_same (λ n. ⊥) (Add slot old new None iterations d) (λ n lost. lost)
    o j m b chosen same all in
    inl (gives_kept old.kind (allowed_for (opener.Keyslot slot old) new.now) payload v w slot old.bytes.now (Some key) o m.copies b m.chosen chosen
    (same_json v payload e random w well ranges rest.length_same o m.copies b m.chosen chosen same) (kept.slots slot (λ x. x)) was))
opens_before v payload (Remove slot by_ passphrase) random w well ranges o j m b chosen same rest = tt
opens_before v payload Erase random w well ranges o j m b chosen same rest = tt
opens_before v payload Repair random w well ranges o j m b chosen same rest = tt
opens_before v payload (Label text subsystem) random w well ranges o j m b chosen same rest = tt
opens_before v payload (Uuid uuid) random w well ranges o j m b chosen same rest = tt
opens_before v payload (Amend c) random w well ranges o j m b chosen same rest = tt

-- all keyslots have their areas and answers while neither the copy that counted nor a key area was touched
all_before : (v : List ℕ) (payload : Data) (e : Edit) (random w : List ℕ) → WellFormed v payload
    → HasRanges v e random → (o : ℕ) (j : Value) (m : HasMetadata v o j) (b : Copies) → Chosen w (luks2 o b) → copy_at w o ≡ copy_at v o
    → SameBut (IsOfEither (IsOfSealed (hdr_size (header_at v o)) (length v) payload j e) (IsOfCopies (hdr_size (header_at v o)))) v w → ErasesAll payload v e w
all_before v payload (Add by_ old new to iterations d) random w well ranges o j m b chosen same rest = tt
all_before v payload (AddByKey key new to iterations d) random w well ranges o j m b chosen same rest = tt
all_before v payload (Change slot old new iterations d) random w well ranges o j m b chosen same rest = tt
all_before v payload (Remove slot by_ passphrase) random w well ranges o j m b chosen same rest = tt
all_before v payload Erase random w well ranges o j m b chosen same rest =
    let copies : SameBut (IsTouched (hdr_size (header_at v o)) (length v) payload j Repair) v w =
    same_but-wider (λ p x. elim x [ inl sealed ↦ absurd sealed | inr at ↦ inl at ]) rest in
    let kept : Keeps payload (λ n. ⊥) v w = kept_before v payload Erase random w well ranges rest.length_same (λ n. ⊥) Repair (λ n lost. lost) o j m b chosen same copies in
    inl (λ n. (let slot = kept.slots n (λ x. x) in record { area = slot.area; answers = slot.answers }))
all_before v payload Repair random w well ranges o j m b chosen same rest = tt
all_before v payload (Label text subsystem) random w well ranges o j m b chosen same rest = tt
all_before v payload (Uuid uuid) random w well ranges o j m b chosen same rest = tt
all_before v payload (Amend c) random w well ranges o j m b chosen same rest = tt

-- none opens where one copy counts that the edit writes
none_written : (v : List ℕ) (payload : Data) (e : Edit) (random w : List ℕ) → WellFormed v payload → IsUnrefused2 v payload e random
    → (p : ℕ) (b : Copies) → Chosen w (luks2 p b) → IsAllowed v payload e random w p → ErasesAll payload v e w
none_written v payload (Add by_ old new to iterations d) random w well free p b chosen a = tt
none_written v payload (AddByKey key new to iterations d) random w well free p b chosen a = tt
none_written v payload (Change slot old new iterations d) random w well free p b chosen a = tt
none_written v payload (Remove slot by_ passphrase) random w well free p b chosen a = tt
none_written v payload Erase random w well free p b chosen a =
    inr (none_opens w p (hdr_size (header_at v a.place)) a.value a.new (written_copy v payload Erase random w well free p b chosen a) a.edited)
none_written v payload Repair random w well free p b chosen a = tt
none_written v payload (Label text subsystem) random w well free p b chosen a = tt
none_written v payload (Uuid uuid) random w well free p b chosen a = tt
none_written v payload (Amend c) random w well free p b chosen a = tt

-- the other copy's place
other_at : (h o : ℕ) → (o ≡ 0) ⊎ (o ≡ h) → 16384 ≤ h → (other_place h o ≡ 0) ⊎ (other_place h o ≡ h)
other_at h o (inl o0) room = inr (other_first h o o0)
other_at h o (inr oh) room = inl (other_second h o (o == 0) refl (λ o0. not_both o0 oh room))

-- no place is of both copies
apart_first : (h q p : ℕ) → q ≡ h → p < 0 + h → q ≤ p → ⊥
apart_first h q p there low high = absurd (omega (arith, there, low, high))

copies_apart : (h o p : ℕ) → (o ≡ 0) ⊎ (o ≡ h) → 16384 ≤ h → IsAt o h p → IsAt (other_place h o) h p → ⊥
copies_apart h o p (inl o0) room at other =
    let there : other_place h o ≡ h = other_first h o o0 in
    let high : p < o + h = at.1 in
    let low : other_place h o ≤ p = other.0 in
    apart_first h (other_place h o) p there (subst (λ n. p < n + h) o0 high) low
copies_apart h o p (inr oh) room at other =
    let there : other_place h o ≡ 0 = other_second h o (o == 0) refl (λ o0. not_both o0 oh room) in
    let high : p < other_place h o + h = other.1 in
    apart_first h o p oh (subst (λ n. p < n + h) there high) at.0

is_other : (p o h : ℕ) → 16384 ≤ h → (o ≡ 0) × (p ≡ h) × (p ≡ 0 → ⊥) ⊎ ((o ≡ h) × (p ≡ 0) × (o ≡ 0 → ⊥)) → p ≡ other_place h o
is_other p o h room (inl x) = x.1 ∙ sym (other_first h o x.0)
is_other p o h room (inr x) = x.1 ∙ sym (other_second h o (o == 0) refl x.2)

crossed : (h p : ℕ) → p < 2 * h → 2 * h ≤ p → ⊥
crossed h p low high = absurd (omega (arith, low, high))

module _
    (v : List ℕ) (payload : Data) (e : Edit) (random w : List ℕ) (well : WellFormed v payload)
    (ranges : HasRanges v e random) (free : IsUnrefused2 v payload e random) (stray : IsNotStray v payload e random w) (j new : Value)
    (m : HasMetadata v stray.place j)
    (edited : IsEdited (hdr_size (header_at v stray.place)) (length v) payload e (keyslot_salt random) j new)
  where
    abbrev o : ℕ
    o = stray.place

    abbrev h : ℕ
    h = hdr_size (header_at v stray.place)

    abbrev Touched : ℕ → Type 0
    Touched = IsTouched (hdr_size (header_at v stray.place)) (length v) payload j e

    abbrev Sealed : ℕ → Type 0
    Sealed = IsOfSealed (hdr_size (header_at v stray.place)) (length v) payload j e

    room : 16384 ≤ h
    room = listed_at_least h (copy_sound v o stray.copies stray.chosen).form.listed

    at_o : (o ≡ 0) ⊎ (o ≡ h)
    at_o = place_is v o stray.copies stray.chosen

    before_outcome : (b : Copies) → Chosen w (luks2 o b) → copy_at w o ≡ copy_at v o → SameBut (IsOfEither Sealed (IsOfCopies h)) v w → SameBut Touched v w
        → Outcome v payload e random w
    before_outcome b chosen same unlost rest = record {
      opens_either = opens_before v payload e random w well ranges o j m b chosen same unlost;
      whole = inl (record { place = o; old_copies = stray.copies; old_chosen = stray.chosen; new_copies = b; new_chosen = chosen; same = same });
      keeps = keeps_before v payload e random w well ranges rest.length_same o j m b chosen same rest;
      erases_all = all_before v payload e random w well ranges o j m b chosen same unlost;
    }

    after_outcome : IsSealedBy v e random j w new → (p : ℕ) (b : Copies) → Chosen w (luks2 p b) → IsAllowed v payload e random w p → SameBut Touched v w → Outcome v payload e random w
    after_outcome sealed p b chosen a rest =
        let opened : WasOpened v e = was_opened v e random j w new sealed in
        let place : a.place ≡ o = one_place v o a.place m.copies a.metadata.copies m.chosen a.metadata.chosen in
        let value : a.value ≡ j = one_metadata v o a.place m.copies a.metadata.copies j a.value m.chosen m.holds a.metadata.chosen a.metadata.holds in
        let there : SameBut (IsTouched (hdr_size (header_at v a.place)) (length v) payload j e) v w =
        subst (λ q. SameBut (IsTouched (hdr_size (header_at v q)) (length v) payload j e) v w) (sym place) rest in
        let all : SameBut (IsTouched (hdr_size (header_at v a.place)) (length v) payload a.value e) v w =
        subst (λ i. SameBut (IsTouched (hdr_size (header_at v a.place)) (length v) payload i e) v w) (sym value) there in
        record {
          whole = inr (record { place = p; copies = b; chosen = chosen; written = a });
          opens_either = opens_written v payload e random w well ranges free rest.length_same j new p b chosen a
              (subst (λ i. IsEdited (hdr_size (header_at v a.place)) (length v) payload e (keyslot_salt random) i new) (sym value)
              (subst (λ q. IsEdited (hdr_size (header_at v q)) (length v) payload e (keyslot_salt random) j new) (sym place) edited)) sealed;
          keeps = keeps_after v payload e random w well ranges rest.length_same free opened p b chosen a all;
          erases_all = none_written v payload e random w well free p b chosen a;
        }

    -- the places of a copy aren't sealed
    not_sealed : (q : ℕ) → (q ≡ 0) ⊎ (q ≡ h) → (p : ℕ) → IsAt q h p → Sealed p → ⊥
    not_sealed q at p here x = crossed h p (inside_copies h q p at here) (sealed_behind h (length v) payload j e p x)

    -- of the other copy
    of_copies : (p : ℕ) → (other_place h o ≡ 0) ⊎ (other_place h o ≡ h) → IsOfEither Sealed (IsAt (other_place h o) h) p → IsOfEither Sealed (IsOfCopies h) p
    of_copies p at (inl x) = inl x
    of_copies p at (inr x) = inr (inside_copies h (other_place h o) p at x)

    apart_by : (p : ℕ) → IsAt o h p → IsOfEither Sealed (IsAt (other_place h o) h) p → ⊥
    apart_by p here (inl x) = not_sealed o at_o p here x
    apart_by p here (inr x) = copies_apart h o p at_o room here x

    -- ---- while the new area was sealed

    left_size_by : (l : Left w h) → length w ≡ length v → (l.place ≡ 0) ⊎ (l.place ≡ h) → hdr_size (header_at w l.place) ≡ h
    left_size_by l long (inl zero_) =
        subst (λ q. hdr_size (header_at w q) ≡ h) (sym zero_) (first_size_left v payload e random w long stray (subst (IsSound w) zero_ (copy_sound w l.place l.copies l.chosen)))
    left_size_by l long (inr there) = (copy_sound w l.place l.copies l.chosen).form.second (λ zero_. not_both zero_ there room) ∙ there

    torn_area : SameBut Sealed v w → Outcome v payload e random w
    torn_area rest =
        let long : length w ≡ length v = rest.length_same in
        let all : SameBut Touched v w = torn_rest v payload e random o j new w (inl rest) in
        let was : copy_at w o ≡ copy_at v o = untouched_copy v w Sealed h o rest room (not_sealed o at_o) (inl refl) in
        let sound : IsSound w o = is_sound v w long o was (copy_sound v o stray.copies stray.chosen) in
        let l : Left w h = left_of v payload e random w long stray o at_o sound (choice_exists w).0 (choice_exists w).1 in
        elim (chosen_at l.place o h room l.at at_o) [
          | inl same ↦ before_outcome l.copies (subst (λ q. Chosen w (luks2 q l.copies)) same l.chosen) was (same_but-wider (λ p x. inl x) rest) all
          | inr other ↦ absurd (not_other v payload e random w long stray was l.place l.copies l.chosen
              (untouched_copy v w Sealed h l.place rest room (not_sealed l.place l.at) (inr (left_size_by l long l.at))) other)
        ]

    -- ---- while the copy that doesn't count was written

    torn_other : IsTornOther v payload e random o j new w → Outcome v payload e random w
    torn_other t =
        let long : length w ≡ length v = t.rest.length_same in
        let other_is : (other_place h o ≡ 0) ⊎ (other_place h o ≡ h) = other_at h o at_o room in
        let all : SameBut Touched v w = torn_rest v payload e random o j new w (inr (inl t)) in
        let was : copy_at w o ≡ copy_at v o = untouched_copy v w (IsOfEither Sealed (IsAt (other_place h o) h)) h o t.rest room (apart_by) (inl refl) in
        let sound : IsSound w o = is_sound v w long o was (copy_sound v o stray.copies stray.chosen) in
        let l : Left w h = left_of v payload e random w long stray o at_o sound (choice_exists w).0 (choice_exists w).1 in
        elim (chosen_at l.place o h room l.at at_o) [
          | inl same ↦ before_outcome l.copies (subst (λ q. Chosen w (luks2 q l.copies)) same l.chosen) was (same_but-wider (λ p. of_copies p other_is) t.rest) all
          | inr other ↦ elim (stray.known l.place l.at (copy_sound w l.place l.copies l.chosen)) [
            | inl same ↦ absurd (not_other v payload e random w long stray was l.place l.copies l.chosen same other)
            | inr a ↦ after_outcome t.sealed l.place l.copies l.chosen a all
          ]
        ]

    -- ---- while the copy that counts was written

    torn_chosen : IsTornChosen v payload e random o j new w → Outcome v payload e random w
    torn_chosen t =
        let long : length w ≡ length v = t.rest.length_same in
        let all : SameBut Touched v w = torn_rest v payload e random o j new w (inr (inr (inl t))) in
        let l : Left w h =
        left_of v payload e random w long stray (other_place h o) (other_at h o at_o room) t.other.renewed.sound (choice_exists w).0 (choice_exists w).1 in
        elim (chosen_at l.place o h room l.at at_o) [
          | inl same ↦ elim (stray.known l.place l.at (copy_sound w l.place l.copies l.chosen)) [
            | inl was ↦ before_outcome l.copies (subst (λ q. Chosen w (luks2 q l.copies)) same l.chosen) (subst (λ q. copy_at w q ≡ copy_at v q) same was) t.rest all
            | inr a ↦ after_outcome t.sealed l.place l.copies l.chosen a all
          ]
          | inr other ↦ after_outcome t.sealed l.place l.copies l.chosen
              (record {
                place = o;
                value = j;
                metadata = m;
                new = new;
                edited = edited;
                renewed = subst (IsRenewed v o e random new w) (sym (is_other l.place o h room other)) t.other.renewed;
              }) all
        ]

    -- ---- while the lost area was overwritten

    written_by : IsTornLost v payload e random o j new w → (p : ℕ) → (p ≡ 0) ⊎ (p ≡ h) → IsAllowed v payload e random w p
    written_by t p (inl zero_) = record {
      place = o;
      value = j;
      metadata = m;
      new = new;
      edited = edited;
      renewed = subst (IsRenewed v o e random new w) (sym zero_) t.first.renewed;
    }
    written_by t p (inr there) = record {
      place = o;
      value = j;
      metadata = m;
      new = new;
      edited = edited;
      renewed = subst (IsRenewed v o e random new w) (sym there) t.second.renewed;
    }

    torn_lost : IsTornLost v payload e random o j new w → Outcome v payload e random w
    torn_lost t =
        let l : Left w h =
        left_of v payload e random w t.rest.length_same stray 0 (inl refl) t.first.renewed.sound (choice_exists w).0 (choice_exists w).1 in
        after_outcome t.sealed l.place l.copies l.chosen (written_by t l.place l.at) (torn_rest v payload e random o j new w (inr (inr (inr t))))

    pub torn_outcome : IsTornAt v payload e random o j new w → Outcome v payload e random w
    torn_outcome (inl t) = torn_area t
    torn_outcome (inr (inl t)) = torn_other t
    torn_outcome (inr (inr (inl t))) = torn_chosen t
    torn_outcome (inr (inr (inr t))) = torn_lost t

-- ---- every leftover

-- a volume that is left as it was
same_outcome : (v : List ℕ) (payload : Data) (e : Edit) (random w : List ℕ) → WellFormed v payload
    → HasRanges v e random → IsNotStray v payload e random w → w ≡ v → (j : Value) (o : ℕ) → HasMetadata v o j → Outcome v payload e random w
same_outcome v payload e random w well ranges stray same j o m =
    let chosen : Chosen w (luks2 o m.copies) = subst (λ u. Chosen u (luks2 o m.copies)) (sym same) m.chosen in
    let copy : copy_at w o ≡ copy_at v o = ap (λ u. copy_at u o) same in
    record {
      whole = inl (record { place = o; old_copies = m.copies; old_chosen = m.chosen; new_copies = m.copies; new_chosen = chosen; same = copy });
      opens_either = opens_before v payload e random w well ranges o j m m.copies chosen copy
          (same_but-equal (IsOfEither (IsOfSealed (hdr_size (header_at v o)) (length v) payload j e) (IsOfCopies (hdr_size (header_at v o)))) same);
      keeps = keeps_before v payload e random w well ranges (ap length same) o j m m.copies chosen copy
          (same_but-equal (IsTouched (hdr_size (header_at v o)) (length v) payload j e) same);
      erases_all = all_before v payload e random w well ranges o j m m.copies chosen copy
          (same_but-equal (IsOfEither (IsOfSealed (hdr_size (header_at v o)) (length v) payload j e) (IsOfCopies (hdr_size (header_at v o)))) same);
    }

-- what was torn, at the place that counted
torn_there : (v : List ℕ) (payload : Data) (e : Edit) (random w : List ℕ) → WellFormed v payload
    → HasRanges v e random → IsUnrefused2 v payload e random → (stray : IsNotStray v payload e random w) → IsTorn2 v payload e random w → Outcome v payload e random w
torn_there v payload e random w well ranges free stray t =
    let place : t.place ≡ stray.place = one_place v stray.place t.place stray.copies t.metadata.copies stray.chosen t.metadata.chosen in
    torn_outcome v payload e random w well ranges free stray t.value t.new
    (subst (λ o. HasMetadata v o t.value) place t.metadata)
    (subst (λ o. IsEdited (hdr_size (header_at v o)) (length v) payload e (keyslot_salt random) t.value t.new) place t.edited)
    (subst (λ o. IsTornAt v payload e random o t.value t.new w) place t.torn)

-- a well formed LUKS2 volume has metadata
its_metadata : (v : List ℕ) (payload : Data) → WellFormed v payload → (o : ℕ) (b : Copies) → Chosen v (luks2 o b) → (j : Value) × HasMetadata v o j
its_metadata v payload well o b chosen =
    let formed = subst (λ c. WellFormedAs v payload c) (choices_agree v well.choice (luks2 o b) well.chosen chosen) well.formed in
    (formed.layout.0, record { copies = b; chosen = chosen; holds = formed.layout.1.metadata.json })

pub leftover_outcome : (v : List ℕ) (payload : Data) (e : Edit) (random w : List ℕ) → WellFormed v payload
    → HasRanges v e random → Leftover2 v payload e random w → IsNotStray v payload e random w → Outcome v payload e random w
leftover_outcome v payload e random w well ranges (inl same) stray =
    let m = its_metadata v payload well stray.place stray.copies stray.chosen in
    same_outcome v payload e random w well ranges stray same m.0 stray.place m.1
leftover_outcome v payload e random w well ranges (inr t) stray = torn_there v payload e random w well ranges t.0 stray t.1
