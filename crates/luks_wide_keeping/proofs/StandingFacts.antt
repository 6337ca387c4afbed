-- How a header that was selected stands to that of a backup.
use Rattle.std.proofs.Common.{◌≡◌, ◌≢◌, ℕ, List, refl, sym, ap, ◌∙◌}
use Rattle.luks_area.specs.Ranges.{part}
use Rattle.luks2_header.proofs.ChoiceFacts.{choices_agree}
use Rattle.luks2_header.specs.Header2.{header_at, seqid, uuid_field}
use Rattle.luks2_header.specs.Selection.{luks1, luks2, nothing, Choice, Chosen, IsSelected}
use Rattle.luks2_header.specs.declared.bin2.Bin2.{Bin2}
use Rattle.luks2_header.specs.declared.selection.Copies.{Copies}
use Rattle.luks2_header.specs.declared.selection.Selected.{Selected}
use Rattle.luks2_header.specs.declared.selection.Selected.TheVariants.{V1, V2}
use Rattle.luks_reading.specs.Header.{json_at}
use Rattle.luks_reading.proofs.ReadFaults.{same_json}
use Rattle.luks_keeping.specs.OtherHeaders.{selected_choice, selected_uuid}
use Rattle.luks_keeping.specs.SameVolume.{uuid_bytes, HasAnyHeader}
use Rattle.luks_keeping.proofs.SameFacts.{any_selected}
use Rattle.luks_wide_keeping.specs.Counting.{IsSameMetadata}
use Rattle.luks_wide_keeping.specs.Standings.{HasOneUuid, IsSameState, StandsSo}
use Rattle.luks_wide_keeping.specs.declared.standing.Standing.{Standing}
use Rattle.luks_wide_keeping.specs.declared.standing.Standing.TheVariants.{Nothing, Another, Same, Progressed}

uuid_of_selected : (t : List ℕ) (s : Selected) → IsSelected t s → selected_uuid s ≡ uuid_bytes t (selected_choice s)
uuid_of_selected t (V1 bytes) x = ap (λ l. part l 168 40) x.1
uuid_of_selected t (V2 header copies) x = sym x.1.uuid

chosen_selected : (t : List ℕ) (s : Selected) → IsSelected t s → Chosen t (selected_choice s)
chosen_selected t (V1 bytes) x = x.0
chosen_selected t (V2 header copies) x = x.0

selected_some : (s : Selected) → selected_choice s ≢ nothing
selected_some (V1 bytes) e = (let no : luks1 ≡ nothing = e in cc)
selected_some (V2 header copies) e = (let no : luks2 header.hdr_offset copies ≡ nothing = e in cc)

-- ---- nothing counts

pub nothing_there : (b t : List ℕ) → Chosen t nothing → StandsSo b t Nothing
nothing_there b t none x = x.some (choices_agree t x.choice nothing x.counts none)

-- no header of LUKS2 counts of the backup
pub no_luks2 : (b t : List ℕ) (c : Choice) (s : Selected) → Chosen b c → ((o : ℕ) (copies : Copies) → c ≡ luks2 o copies → ⊥) → IsSelected t s → StandsSo b t Another
no_luks2 b t c s chosen none there = (any_selected t s there, λ x. none x.place x.copies (choices_agree b c (luks2 x.place x.copies) chosen x.chosen))

pub of_luks1 : (b t : List ℕ) (s : Selected) → Chosen b luks1 → IsSelected t s → StandsSo b t Another
of_luks1 b t s chosen there = no_luks2 b t luks1 s chosen (λ o copies e. (let no : luks1 ≡ luks2 o copies = e in cc)) there

pub of_nothing : (b t : List ℕ) (s : Selected) → Chosen b nothing → IsSelected t s → StandsSo b t Another
of_nothing b t s chosen there = no_luks2 b t nothing s chosen (λ o copies e. (let no : nothing ≡ luks2 o copies = e in cc)) there

-- ---- both count

module _ (b t : List ℕ) (here : Bin2) (copies : Copies) (s : Selected) (own : IsSelected b (V2 here copies)) (there : IsSelected t s) where
  own_place : (o : ℕ) (others : Copies) → Chosen b (luks2 o others) → o ≡ here.hdr_offset
  own_place o others chosen =
      let same : luks2 o others ≡ luks2 here.hdr_offset copies = choices_agree b (luks2 o others) (luks2 here.hdr_offset copies) chosen own.0 in
      cc

  pub another : (selected_uuid s ≡ here.uuid → ⊥) → StandsSo b t Another
  another differ = (
    any_selected t s there,
    λ x. differ (
        uuid_of_selected t s there
        ∙ ap (uuid_bytes t) (choices_agree t (selected_choice s) x.other (chosen_selected t s there) x.counts)
        ∙ x.uuid
        ∙ ap (λ (o : ℕ). uuid_field (header_at b o)) (own_place x.place x.copies x.chosen)
        ∙ own.1.uuid),
  )

  pub one_uuid : selected_uuid s ≡ here.uuid → HasOneUuid b t
  one_uuid same = record {
    place = here.hdr_offset;
    copies = copies;
    chosen = own.0;
    other = selected_choice s;
    counts = chosen_selected t s there;
    some = selected_some s;
    uuid = sym (uuid_of_selected t s there) ∙ same ∙ sym own.1.uuid;
  }

-- a header of LUKS1 is another state
pub luks1_progressed : (b t : List ℕ) (here : Bin2) (copies : Copies) (bytes : List ℕ) → IsSelected b (V2 here copies) → IsSelected t (V1 bytes)
    → selected_uuid (V1 bytes) ≡ here.uuid → StandsSo b t Progressed
luks1_progressed b t here copies bytes own there same = (
  one_uuid b t here copies (V1 bytes) own there same,
  λ x. (let no : luks1 ≡ luks2 x.there x.others = choices_agree t luks1 (luks2 x.there x.others) there.0 x.counts in cc),
)

module _ (b t : List ℕ) (here there : Bin2) (copies others : Copies) (own : IsSelected b (V2 here copies)) (counts : IsSelected t (V2 there others)) where
  pub same_state : selected_uuid (V2 there others) ≡ here.uuid → IsSameMetadata b t here there → IsSameState b t
  same_state uuid x = record {
    place = here.hdr_offset;
    copies = copies;
    chosen = own.0;
    there = there.hdr_offset;
    others = others;
    counts = counts.0;
    uuid = counts.1.uuid ∙ uuid ∙ sym own.1.uuid;
    seqid = counts.1.seqid ∙ x.seqid ∙ sym own.1.seqid;
    metadata = sym (same_json t there counts.1) ∙ x.metadata ∙ same_json b here own.1;
  }

  pub same_metadata : IsSameState b t → IsSameMetadata b t here there
  same_metadata x =
      let first : luks2 x.place x.copies ≡ luks2 here.hdr_offset copies = choices_agree b (luks2 x.place x.copies) (luks2 here.hdr_offset copies) x.chosen own.0 in
      let second : luks2 x.there x.others ≡ luks2 there.hdr_offset others = choices_agree t (luks2 x.there x.others) (luks2 there.hdr_offset others) x.counts counts.0 in
      let place : x.place ≡ here.hdr_offset = cc in
      let other : x.there ≡ there.hdr_offset = cc in
      record {
        seqid = sym counts.1.seqid ∙ ap (λ (o : ℕ). seqid (header_at t o)) (sym other) ∙ x.seqid ∙ ap (λ (o : ℕ). seqid (header_at b o)) place ∙ own.1.seqid;
        metadata = same_json t there counts.1 ∙ ap (json_at t) (sym other) ∙ x.metadata ∙ ap (json_at b) place ∙ sym (same_json b here own.1);
      }

  pub luks2_progressed : selected_uuid (V2 there others) ≡ here.uuid → (IsSameMetadata b t here there → ⊥) → StandsSo b t Progressed
  luks2_progressed uuid differ = (one_uuid b t here copies (V2 there others) own counts uuid, λ x. differ (same_metadata x))

-- ---- one standing

any_of_one : (b t : List ℕ) → HasOneUuid b t → HasAnyHeader t
any_of_one b t x = record { choice = x.other; counts = x.counts; some = x.some }

one_of_same : (b t : List ℕ) → IsSameState b t → HasOneUuid b t
one_of_same b t x = record {
  place = x.place;
  copies = x.copies;
  chosen = x.chosen;
  other = luks2 x.there x.others;
  counts = x.counts;
  some = λ e. (let no : luks2 x.there x.others ≡ nothing = e in cc);
  uuid = x.uuid;
}

pub one_standing : (b t : List ℕ) (m n : Standing) → StandsSo b t m → StandsSo b t n → n ≡ m
one_standing b t Nothing Nothing x y = refl
one_standing b t Nothing Another x y = absurd (x y.0)
one_standing b t Nothing Same x y = absurd (x (any_of_one b t (one_of_same b t y)))
one_standing b t Nothing Progressed x y = absurd (x (any_of_one b t y.0))
one_standing b t Another Nothing x y = absurd (y x.0)
one_standing b t Another Another x y = refl
one_standing b t Another Same x y = absurd (x.1 (one_of_same b t y))
one_standing b t Another Progressed x y = absurd (x.1 y.0)
one_standing b t Same Nothing x y = absurd (y (any_of_one b t (one_of_same b t x)))
one_standing b t Same Another x y = absurd (y.1 (one_of_same b t x))
one_standing b t Same Same x y = refl
one_standing b t Same Progressed x y = absurd (y.1 x)
one_standing b t Progressed Nothing x y = absurd (y (any_of_one b t x.0))
one_standing b t Progressed Another x y = absurd (y.1 x.0)
one_standing b t Progressed Same x y = absurd (x.1 y)
one_standing b t Progressed Progressed x y = refl
