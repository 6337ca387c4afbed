-- The backup that was rescued: the volume as it was read, and what was made of it.
use Rattle.std.proofs.Common.{◌≡◌, ℕ, ◌+◌, ◌<◌, ◌≤◌, List, [], ◌∷◌, Bool, true, false, Option, None, All, length, replicate, zero, suc, get_or, inl, inr, refl, sym, ap, subst, ◌∙◌, arith}
use Rattle.std.proofs.lemmas.List.Elements.{All-nil, All-weaker}
use Rattle.luks_area.specs.Device.{count_after}
use Rattle.luks_area.specs.Ranges.{part, IsAt, SameBut}
use Rattle.luks_area.proofs.RangeFacts.{same_but-same}
use Rattle.luks_area.specs.declared.area.Area.{Area}
use Rattle.luks2_header.proofs.ChoiceFacts.{choices_agree}
use Rattle.luks2_header.specs.Header2.{hdr_size, header_at, uuid_field, HoldsBin2, IsUuidField}
use Rattle.luks2_header.specs.Selection.{Choice, luks1, luks2, nothing, Chosen}
use Rattle.luks_meta.specs.Accepted.{IsMeta}
use Rattle.luks_meta.specs.Content.{content}
use Rattle.luks_reading.proofs.CheckFacts.{formed_as}
use Rattle.luks_reading.specs.Checked.{WellFormed}
use Rattle.luks_reading.specs.Header.{json_at, IsHeader}
use Rattle.luks_reading.specs.declared.header.Header.{Header}
use Rattle.luks_reading.specs.declared.header.Header.TheVariants.{Luks1, Luks2}
use Rattle.luks_reading.specs.declared.report.Data.{Data}
use Rattle.luks_reading.specs.declared.report.Data.TheVariants.{Elsewhere}
use Rattle.luks_keeping.specs.Backup.{IsBackup, IsBackupSize, IsLuks1Size, IsLuks2Size, IsSizeAs}
use Rattle.luks_keeping.specs.BackupOrder.{BacksUpInTurn}
use Rattle.luks_keeping.specs.Judged.{IsFormedOn, IsFormedOnAs}
use Rattle.luks_keeping.specs.Kept.{header_size, HasAreas, HasHeader}
use Rattle.luks_keeping.specs.Laid.{choice_of, IsLaidOut}
use Rattle.luks_keeping.specs.Places.{AreApart, AreInside, HasPlace, HoldsAreas, HoldsHeader, IsOfPlaces}
use Rattle.luks_keeping.specs.ReadPlaces.{as_copied, EndsRead, IsMarked, IsOfArea, IsOfMarked, IsOfSome, LeavesAreas, lost_by, WritesReadAnew}
use Rattle.luks_keeping.specs.Rescued.{as_read, AnswersUnlessLost, AreasStand, EndsAfter, EndsBySource, IsLost, IsOfKeyArea, IsOfLost, IsPieceOf, IsRescue, RescuesInTurn}
use Rattle.luks_keeping.specs.Unread.{zeroed, HasOne}
use Rattle.luks_keeping.specs.declared.lost.LostKeyslots.{LostKeyslots}
use Rattle.luks_keeping.specs.declared.places.Places.{Places}
use Rattle.luks_keeping.proofs.AnswerFacts.{HasAreasOf}
use Rattle.luks_keeping.proofs.BackupFacts.{backup_of, is_backup, well_formed, IsBackupOf}
use Rattle.luks_keeping.proofs.KeptFacts.{chosen_there, fields_same, formed_there, header_same, json_same}
use Rattle.luks_keeping.proofs.LaidFacts.{chosen_of, from_kept, has_header, kept_areas, lead_same, to_kept}
use Rattle.luks_keeping.proofs.AsReadFacts.{areas_read, none_missing, read_header, read_lead, read_long}
use Rattle.luks_keeping.proofs.PieceFacts.{each_place, one_wider}
use Rattle.luks_keeping.proofs.ReadFacts.{some_areas}
use Rattle.luks_keeping.proofs.SizeFacts.{fits_elsewhere, formed_longer, one_size, size_by}
use Rattle.luks_keeping.proofs.TurnFacts.{anew_of}
use Rattle.luks_keeping.proofs.VolumeFacts.{header_inside, of_own, on_own, own_formed, slot_here, slot_there, something}

-- ---- what the same header says

-- the header that counts is the same
header_there : (v w : List ℕ) (header : Header) → IsHeader v header → HasHeader v (choice_of header) w → Chosen w (choice_of header) → IsHeader w header
header_there v w (Luks1 bytes) is h counts = (counts, is.1 ∙ sym (fields_same v w h))
header_there v w (Luks2 copy) is h counts =
    let o : ℕ = copy.header.hdr_offset in
    let head : header_at w o ≡ header_at v o = header_same v w o copy.copies is.chosen.1 h in
    let json : json_at w o ≡ json_at v o = json_same v w o copy.copies is.chosen.1 h in
    record {
      chosen = counts;
      header = subst (λ (b : List ℕ). HoldsBin2 b copy.header) (sym head) is.header;
      uuid = subst (λ (b : List ℕ). IsUuidField (uuid_field b)) (sym head) is.uuid;
      metadata = subst (λ (j : List ℕ). IsMeta j (content copy.meta)) (sym json) is.metadata;
      area_len = is.area_len ∙ ap length (sym json);
    }

-- so is the backup's size
size_there : (v w : List ℕ) (payload : Data) (c : Choice) (size : ℕ) → Chosen v c → HasHeader v c w → IsSizeAs v payload c size → IsSizeAs w payload c size
size_there v w payload luks1 size x h is = subst (λ (b : List ℕ). IsLuks1Size b payload size) (sym (fields_same v w h)) is
size_there v w payload (luks2 o copies) size x h is =
    subst (λ (b : List ℕ). IsLuks2Size (hdr_size b) (json_at w o) size) (sym (header_same v w o copies x.1 h))
    (subst (λ (j : List ℕ). IsLuks2Size (hdr_size (header_at v o)) j size) (sym (json_same v w o copies x.1 h)) is)
size_there v w payload nothing size x h is = is

-- ---- the volume as it was read

module _ (v : List ℕ) (payload : Data) (header : Header) (is : IsHeader v header) (places : Places) (laid : IsLaidOut header places) (well : WellFormed v payload)
    (apart : AreApart places) (there : AreInside places (length v)) (lead : places.lead ≤ places.first) where
  counts : Chosen v (choice_of header)
  counts = chosen_of v header is

  formed : IsFormedOnAs v payload (length v) (choice_of header)
  formed = on_own v payload (choice_of header) (formed_as v payload (choice_of header) counts well)

  inside_header : header_size v (choice_of header) ≤ length v
  inside_header = header_inside v payload (length v) (choice_of header) formed

  module _ (xs : List Area) (each : All (IsOfSome places) xs) where
    long : length (as_copied places xs v) ≡ length v
    long = read_long v places apart there lead xs each

    pub header_read : HasHeader v (choice_of header) (as_copied places xs v)
    header_read = has_header v header is places laid (as_copied places xs v) (read_header v places apart there lead xs each) (read_lead v places apart there lead xs each)

    pub chosen_read : Chosen (as_copied places xs v) (choice_of header)
    chosen_read =
        let same = long in
        let inside = inside_header in
        chosen_there v (as_copied places xs v) (choice_of header) counts header_read inside_header (omega (arith, same, inside)) (something v payload (length v) (choice_of header) formed)

    pub is_read : IsHeader (as_copied places xs v) header
    is_read = header_there v (as_copied places xs v) header is header_read chosen_read

    pub formed_read : WellFormed (as_copied places xs v) payload
    formed_read = record {
      choice = choice_of header;
      chosen = chosen_read;
      formed = of_own (as_copied places xs v) payload (choice_of header) (subst (λ (n : ℕ). IsFormedOnAs (as_copied places xs v) payload n (choice_of header)) (sym long)
          (formed_there v (as_copied places xs v) payload (length v) (choice_of header) counts header_read formed));
    }

    pub size_read : (size : ℕ) → IsBackupSize v payload size → IsBackupSize (as_copied places xs v) payload size
    size_read size is_size = record {
      choice = choice_of header;
      chosen = chosen_read;
      is = size_there v (as_copied places xs v) payload (choice_of header) size counts header_read (size_by v payload (choice_of header) size counts is_size);
    }

    pub as_is : as_copied places xs v ≡ as_read v (choice_of header) xs
    as_is = ap (λ (n : ℕ). zeroed (record { start = 0; len = n } ∷ xs) v) (lead_same v header is places laid)

    pub pieces_kept : All (IsOfKeyArea v (choice_of header)) xs
    pieces_kept = All-weaker (IsOfSome places) (IsOfKeyArea v (choice_of header)) (λ x y. record { number = y.number; is = kept_piece x y.number y.is }) xs each
      where
        kept_piece : (x : Area) (n : ℕ) → IsOfArea places n x → IsPieceOf v (choice_of header) n x
        kept_piece x n y = record {
          area = y.area;
          kept = to_kept v header is n y.area (laid.only n y.area y.is);
          low = y.piece_in.low;
          high = y.piece_in.high;
          some = y.piece_in.some;
          most = y.piece_in.most;
        }

  -- ---- what is left at any time

  module _ (size : ℕ) (is_size : IsBackupSize v payload size) (room : AreInside places size) (before after : ℕ) (old new : List ℕ) where
    turn_chosen : WritesReadAnew places size v before after old new → RescuesInTurn v (choice_of header) size before after old new
    turn_chosen x = record {
      pieces = x.pieces;
      few = x.few;
      each = pieces_kept x.pieces x.each;
      turn = subst (λ (l : List ℕ). BacksUpInTurn l (choice_of header) size old new) (as_is x.pieces x.each)
          (anew_of (as_copied places x.pieces v) header (is_read x.pieces x.each) places laid payload size (size_read x.pieces x.each size is_size) room
          (as_copied places x.pieces v) old new refl (λ large. x.turn) (choice_of header) size (chosen_read x.pieces x.each) (size_read x.pieces x.each size is_size));
    }

    pub rescues_in_turn : WritesReadAnew places size v before after old new → (c : Choice) (other : ℕ) → Chosen v c → IsBackupSize v payload other → RescuesInTurn v c other before after old new
    rescues_in_turn x c other chosen other_size =
        subst (λ (n : ℕ). RescuesInTurn v c n before after old new) (one_size v payload size other is_size other_size)
        (subst (λ (d : Choice). RescuesInTurn v d size before after old new) (choices_agree v (choice_of header) c counts chosen) (turn_chosen x))

  -- ---- what was left of the areas

  module _ (w : List ℕ) (within : AreInside places (length w)) (before after : ℕ) (keyslots : List Bool) (x : LeavesAreas (Unit {0}) places 32 v w before after keyslots) where
    all_some : All (IsOfSome places) x.pieces
    all_some = some_areas (Unit {0}) places v w before after keyslots x

    areas_are : HoldsAreas places (as_copied places x.pieces v) w
    areas_are = areas_read v places apart there lead x.pieces all_some w within (λ k a low has. x.holds tt k a low has)

    -- one more read failed
    pub stand : (last : ℕ) → last ≡ after + 1 → AreasStand v (choice_of header) before last w
    stand last one = record {
      pieces = x.pieces;
      counted = (let count = x.counted in omega (arith, one, count));
      each = pieces_kept x.pieces all_some;
      areas = subst (λ (l : List ℕ). HasAreas l (choice_of header) w) (as_is x.pieces all_some)
          (kept_areas (as_copied places x.pieces v) header (is_read x.pieces all_some) places laid w areas_are);
    }

    -- ---- the backup that was made

    module _ (old : List ℕ) (size : ℕ) (is_size : IsBackupSize v payload size) (room : size ≤ length w) (rest : SameBut (IsAt 0 size) old w) (held : HoldsHeader places v w)
        (front : part w 0 places.lead ≡ replicate places.lead 0) (zeros : (p : ℕ) → p < size → (IsOfPlaces places p → ⊥) → get_or w p 0 ≡ 0) where
      made : IsBackupOf (as_copied places x.pieces v) payload header places size old w
      made = backup_of (as_copied places x.pieces v) payload header (is_read x.pieces all_some) places laid size (size_read x.pieces all_some size is_size) (formed_read x.pieces all_some)
          (as_copied places x.pieces v) old w (length w) refl refl room rest
          (record { areas = areas_are; header = held ∙ sym (read_header v places apart there lead x.pieces all_some) }) front zeros

      pub formed_new : WellFormed w Elsewhere
      formed_new = well_formed (as_copied places x.pieces v) payload header places size old w made

      pub backup_read : IsBackup (as_read v (choice_of header) x.pieces) payload old w
      backup_read = subst (λ (l : List ℕ). IsBackup l payload old w) (as_is x.pieces all_some) (is_backup (as_copied places x.pieces v) payload header places size old w made)

      -- ---- the keyslots that are told

      module _ (lost : Option LostKeyslots) (tells : (n : ℕ) → n < 32 → IsMarked keyslots n → IsLost lost n) (told : (n : ℕ) → IsLost lost n → (n < 32) × IsMarked keyslots n) where
        lost_piece : (y : Area) → IsOfMarked places 32 keyslots y → IsOfLost v (choice_of header) lost y
        lost_piece y own = record {
          number = own.number;
          told = tells own.number own.below own.marked;
          is = piece_of y own.number own.is;
        }
          where
            piece_of : (y : Area) (n : ℕ) → IsOfArea places n y → IsPieceOf v (choice_of header) n y
            piece_of y n z = record {
              area = z.area;
              kept = to_kept v header is n z.area (laid.only n z.area z.is);
              low = z.piece_in.low;
              high = z.piece_in.high;
              some = z.piece_in.some;
              most = z.piece_in.most;
            }

        -- the key area of another keyslot is whole
        whole_place : (n : ℕ) (a : Area) → HasPlace places n a → (IsLost lost n → ⊥) → part w a.start a.len ≡ part v a.start a.len
        whole_place n a has safe = none_missing x.pieces v w a (there.areas n a has) (within.areas n a has)
            (λ p at of. each_place (IsOfMarked places 32 keyslots) (λ q. IsAt a.start a.len q → ⊥) (λ y own q inside here. (
            let low = own.is.piece_in.low in
            let high = own.is.piece_in.high in
            let first = inside.0 in
            let last = inside.1 in
            apart.disjoint n own.number a own.is.area has own.is.is
            (λ (e : n ≡ own.number). safe (subst (IsLost lost) (sym e) (tells own.number own.below own.marked)))
            q here (omega (arith, low, first), omega (arith, high, last)))) x.pieces x.each p of at)
            (x.holds tt n a has.0 has)

        whole_area : HasAreasOf (λ n. IsLost lost n → ⊥) v (choice_of header) w
        whole_area n a safe kept = whole_place n a (laid.all n a (from_kept v header is n a kept)) safe

        pub rescue_made : IsRescue v payload before after old w lost
        rescue_made = record {
          choice = choice_of header;
          chosen = counts;
          pieces = x.pieces;
          counted = x.counted;
          each = All-weaker (IsOfMarked places 32 keyslots) (IsOfLost v (choice_of header) lost) lost_piece x.pieces x.each;
          told = λ n is_lost. (
              let mark = told n is_lost in
              one_wider (IsOfArea places n) (IsPieceOf v (choice_of header) n) (λ y z. record {
                area = z.area;
                kept = to_kept v header is n z.area (laid.only n z.area z.is);
                low = z.piece_in.low;
                high = z.piece_in.high;
                some = z.piece_in.some;
                most = z.piece_in.most;
              }) x.pieces (x.told n mark.0 mark.1));
          backup = backup_read;
          whole = λ n a kept safe. whole_area n a safe kept;
        }

        fits : IsFormedOn v Elsewhere (length w)
        fits = formed_longer v size (length w) room (fits_elsewhere v payload size (own_formed v payload well) is_size)

        pub rescue_answers : AnswersUnlessLost v w lost
        rescue_answers allowed n p a safe = (
          slot_there v w payload Elsewhere (choice_of header) counts (has_header v header is places laid w held front) well fits (λ k. IsLost lost k → ⊥) whole_area allowed n safe p a,
          slot_here v w payload Elsewhere (choice_of header) counts (has_header v header is places laid w held front) well fits (λ k. IsLost lost k → ⊥) whole_area allowed n safe p a,
        )

        -- where none is told it is the backup
        pub rescue_whole : ((n : ℕ) → IsLost lost n → ⊥) → IsBackup v payload old w
        rescue_whole none = is_backup v payload header places size old w (backup_of v payload header is places laid size is_size well v old w (length w) refl refl room rest
            (record { areas = λ n a has. whole_place n a has (none n); header = held }) front zeros)

-- on devices that tell their bytes
pub told_left : (tells : Type 0) → tells → (places : Places) (end : ℕ) (s w : List ℕ) (before after : ℕ) (keyslots : List Bool) → LeavesAreas tells places end s w before after keyslots
    → LeavesAreas (Unit {0}) places end s w before after keyslots
told_left tells t places end s w before after keyslots x = record { pieces = x.pieces; counted = x.counted; each = x.each; told = x.told; holds = λ u. x.holds t }

-- what was left of the source as it was before its header was read
pub left_since : (tells : Type 0) → tells → (places : Places) (s v w : List ℕ) (mid before after : ℕ) (keyslots : List Bool) → s ≡ v → mid ≡ before
    → LeavesAreas tells places 32 s w mid after keyslots → LeavesAreas (Unit {0}) places 32 v w before after keyslots
left_since tells t places s v w mid before after keyslots same count x =
    subst (λ (l : List ℕ). LeavesAreas (Unit {0}) places 32 l w before after keyslots) same
    (subst (λ (n : ℕ). LeavesAreas (Unit {0}) places 32 s w n after keyslots) count (told_left tells t places 32 s w mid after keyslots x))

-- how the source ended it, whatever counts
pub ended_by : (v : List ℕ) (payload : Data) (header : Header) → IsHeader v header → (places : Places) → IsLaidOut header places → WellFormed v payload → AreApart places → AreInside places (length v)
    → places.lead ≤ places.first → (s w : List ℕ) → AreInside places (length w) → (tells : Type 0) → tells → (mid before after : ℕ) (old : List ℕ) → s ≡ v → mid ≡ before
    → EndsRead tells places s w mid after → (c : Choice) → Chosen v c → EndsBySource v c before after old w
ended_by v payload header is places laid well apart there lead s w within tells t mid before after old same count ends c chosen = elim ends [
  | inl x ↦ inr (inl (subst (λ (d : Choice). AreasStand v d before after w) (choices_agree v (choice_of header) c (chosen_of v header is) chosen)
      (stand v payload header is places laid well apart there lead w within before x.mid x.keyslots (left_since tells t places s v w mid before x.mid x.keyslots same count x.left) after x.counted)))
  | inr full ↦ inr (inr full)
]

-- no read failed, so none is marked
pub none_marked : (tells : Type 0) (places : Places) (v w : List ℕ) (before after : ℕ) (keyslots : List Bool) → after ≡ before → LeavesAreas tells places 32 v w before after keyslots
    → (n : ℕ) → n < 32 → IsMarked keyslots n → ⊥
none_marked tells places v w before after keyslots same x n low marked = none_of x.pieces (let count = x.counted in omega (arith, count, same)) (x.told n low marked)
  where
    none_of : (xs : List Area) → length xs ≡ 0 → HasOne (IsOfArea places n) xs → ⊥
    none_of [] empty is = is
    none_of (y ∷ ys) empty is = absurd (omega (arith, empty))

-- nothing was written yet
pub turn_still : (v : List ℕ) (c : Choice) (size before after : ℕ) (old : List ℕ) → before ≤ after → RescuesInTurn v c size before after old old
turn_still v c size before after old rose = record {
  pieces = [];
  few = omega (arith, rose);
  each = All-nil (IsOfKeyArea v c);
  turn = inl (same_but-same (IsAt 0 512) old);
}

-- ---- the devices

-- a count never falls
pub count_rises : (b : Bool) (s t : ℕ) → t ≡ count_after b s → s ≤ t
count_rises true s t e = omega (arith, e)
count_rises false s t e = omega (arith, e)

-- a fault of the source alone
pub ends_first : (b : Bool) (s t u : ℕ) → t ≡ count_after b s → EndsAfter b s t u u
ends_first true s t u e = inr (omega (arith, e), refl)
ends_first false s t u e = (e, refl)

-- none failed
pub ends_none : (b : Bool) (s t u : ℕ) → b ≡ false → t ≡ s → EndsAfter b s t u u
ends_none true s t u off e = absurd (let no = off in cc)
ends_none false s t u off e = (e, refl)

-- of a source that hadn't failed before
pub ends_since : (b : Bool) (s t u v w : ℕ) → t ≡ s → EndsAfter b t u v w → EndsAfter b s u v w
ends_since b s t u v w same ends = subst (λ (n : ℕ). EndsAfter b n u v w) same ends

-- ---- the keyslots that are told

pub marks_tell : (k : ℕ) (keyslots : List Bool) → (k ≡ 0 → (n : ℕ) → n < 32 → IsMarked keyslots n → ⊥) → (n : ℕ) → n < 32 → IsMarked keyslots n → IsLost (lost_by k keyslots) n
marks_tell zero keyslots none n low marked = absurd (none refl n low marked)
marks_tell (suc k) keyslots none n low marked = (low, marked)

pub marks_told : (k : ℕ) (keyslots : List Bool) (n : ℕ) → IsLost (lost_by k keyslots) n → (n < 32) × IsMarked keyslots n
marks_told zero keyslots n is = absurd is
marks_told (suc k) keyslots n is = is

pub none_lost : (k : ℕ) (keyslots : List Bool) → lost_by k keyslots ≡ None → k ≡ 0
none_lost zero keyslots is = refl
none_lost (suc k) keyslots is = absurd (let no = is in cc)

pub lost_none : (k : ℕ) (keyslots : List Bool) → k ≡ 0 → lost_by k keyslots ≡ None
lost_none zero keyslots is = refl
lost_none (suc k) keyslots is = absurd (omega (arith, is))
