-- What is left of a volume at any time, by what counts of the backup.
use Rattle.std.proofs.Common.{◌≡◌, ℕ, ◌≤◌, List, length, min, replicate, sym, ap, subst, ◌∙◌, arith, inl, inr}
use Rattle.luks_area.specs.Ranges.{part, IsAt, SameBut}
use Rattle.luks_area.proofs.RangeFacts.{same_but-wider}
use Rattle.luks2_header.proofs.ChoiceFacts.{choices_agree, chosen_is_sound}
use Rattle.luks2_header.proofs.CopyFacts.{listed_at_least}
use Rattle.luks2_header.specs.Header2.{hdr_size, header_at}
use Rattle.luks2_header.specs.Selection.{Choice, luks1, luks2, nothing, Chosen}
use Rattle.luks_reading.specs.Header.{IsHeader}
use Rattle.luks_reading.specs.declared.header.Header.{Header}
use Rattle.luks_reading.specs.declared.header.Header.TheVariants.{Luks1, Luks2}
use Rattle.luks_reading.specs.declared.report.Data.{Data}
use Rattle.luks_reading.specs.declared.report.Data.TheVariants.{Elsewhere, Here}
use Rattle.luks_keeping.specs.Backup.{IsBackupSize}
use Rattle.luks_keeping.specs.BackupOrder.{BacksUpInTurn}
use Rattle.luks_keeping.specs.Laid.{choice_of, first_size, IsLaidOut}
use Rattle.luks_keeping.specs.Places.{first_cleared, second_cleared, AreInside, ArePlacesGone, IsFirstCleared, IsOfBegun, IsOfSectors, IsSecondCleared, LeavesTurn, WritesAnew, WritesOver}
use Rattle.luks_keeping.specs.Restored.{AreGone, HasSecond, IsFrontAs, IsOfCleared, IsOfOlder, IsOfSectors as IsOfFirstSectors, IsSecondGone, LeavesInTurn, RestoresInTurn}
use Rattle.luks_keeping.specs.SecondPlaces.{IsOfCopies, IsOfListed}
use Rattle.luks_keeping.specs.declared.places.Places.{Places}
use Rattle.luks_keeping.proofs.LaidFacts.{chosen_of, kept_areas, whole_is}
use Rattle.luks_keeping.proofs.SizeFacts.{one_size, one_size_as}

-- the first place has more than a sector
large_head : (b : List ℕ) (header : Header) → IsHeader b header → 512 ≤ first_size header
large_head b (Luks1 bytes) is = omega arith
large_head b (Luks2 copy) is =
    let large = listed_at_least (hdr_size (header_at b copy.header.hdr_offset)) (chosen_is_sound b copy.header.hdr_offset copy.copies is.chosen.1).form.listed in
    let size : hdr_size (header_at b copy.header.hdr_offset) ≡ copy.header.hdr_size = is.header.hdr_size in
    omega (arith, large, size)

first_is : (b : List ℕ) (header : Header) → IsHeader b header → (places : Places) → IsLaidOut header places → first_cleared places ≡ 512
first_is b header is places laid = (let large = large_head b header is in let first = laid.first in omega (arith, large, first))

second_gone : (b : List ℕ) (header : Header) → IsHeader b header → (places : Places) → IsLaidOut header places → (w : List ℕ) → IsSecondCleared places w → IsSecondGone b (choice_of header) w
second_gone b (Luks1 bytes) is places laid w x = tt
second_gone b (Luks2 copy) is places laid w x =
    let size : hdr_size (header_at b copy.header.hdr_offset) ≡ copy.header.hdr_size = is.header.hdr_size in
    let large = large_head b (Luks2 copy) is in
    let second = laid.second in
    let n : second_cleared places ≡ 512 = omega (arith, large, second) in
    subst (λ (k : ℕ). part w k 512 ≡ replicate 512 0) (laid.first ∙ sym size) (subst (λ (m : ℕ). part w places.first m ≡ replicate m 0) n x)

second_held : (b : List ℕ) (header : Header) → IsHeader b header → (places : Places) → IsLaidOut header places → (w : List ℕ) → part w places.first places.second ≡ part b places.first places.second → HasSecond b (choice_of header) w
second_held b (Luks1 bytes) is places laid w x = tt
second_held b (Luks2 copy) is places laid w x =
    let size : hdr_size (header_at b copy.header.hdr_offset) ≡ copy.header.hdr_size = is.header.hdr_size in
    let h : ℕ = hdr_size (header_at b copy.header.hdr_offset) in
    subst (λ (k : ℕ). part w k h ≡ part b k h) (laid.first ∙ sym size) (subst (λ (m : ℕ). part w places.first m ≡ part b places.first m) (laid.second ∙ sym size) x)

sector_there : (b : List ℕ) (header : Header) → IsHeader b header → (places : Places) → IsLaidOut header places → (p : ℕ) → IsOfSectors places p → IsOfFirstSectors b (choice_of header) p
sector_there b (Luks1 bytes) is places laid p (inl at) = (let high = at.1 in (omega arith, omega (arith, high)))
sector_there b (Luks1 bytes) is places laid p (inr at) = (let low = at.0 in let high = at.1 in let second = laid.second in absurd (omega (arith, low, high, second)))
sector_there b (Luks2 copy) is places laid p (inl at) = (let high = at.1 in inl (omega arith, omega (arith, high)))
sector_there b (Luks2 copy) is places laid p (inr at) =
    let size : hdr_size (header_at b copy.header.hdr_offset) ≡ copy.header.hdr_size = is.header.hdr_size in
    let first = laid.first in
    let low = at.0 in
    let high = at.1 in
    inr (omega (arith, low, first, size), omega (arith, high, first, size))

-- the data begins at one place
pub one_front : (b : List ℕ) (payload : Data) (total : ℕ) (c : Choice) (x y : ℕ) → IsFrontAs b payload total c x → IsFrontAs b payload total c y → x ≡ y
one_front b Elsewhere total c x y p q = p ∙ sym q
one_front b Here total luks1 x y p q = p ∙ sym q
one_front b Here total (luks2 o copies) x y p q =
    let size : p.0 ≡ q.0 = one_size_as b Here (luks2 o copies) p.0 q.0 p.1.0 q.1.0 in
    p.1.1 ∙ ap (min total) size ∙ sym q.1.1
one_front b Here total nothing x y p q = absurd p

module _ (b : List ℕ) (header : Header) (is : IsHeader b header) (places : Places) (laid : IsLaidOut header places) where
  -- what is left of the steps after the clearing
  leaves_as : (new : List ℕ) → LeavesTurn places b new → LeavesInTurn b (choice_of header) new
  leaves_as new turn = elim turn [
    | inl x ↦ inl (
      none_first x.0,
      elim x.1 [
        | inl gone ↦ inl (second_gone b header is places laid new gone)
        | inr held ↦ inr (kept_areas b header is places laid new held)
      ],
    )
    | inr x ↦ inr (record { areas = kept_areas b header is places laid new x.areas; second = second_held b header is places laid new x.second })
  ]
    where
      none_first : IsFirstCleared places new → part new 0 512 ≡ replicate 512 0
      none_first x = subst (λ (n : ℕ). part new 0 n ≡ replicate n 0) (first_is b header is places laid) x

  gone_as : (cleared wider : ℕ → Type 0) (new : List ℕ) → ((p : ℕ) → wider p → cleared p) → ArePlacesGone places cleared new → AreGone wider b (choice_of header) new
  gone_as cleared wider new inner gone p x other = gone p (inner p x) (λ w. other (whole_is b header is places laid p w))

  -- ---- restoring

  module _ (payload : Data) (old : List ℕ) (limit : ℕ) (front : IsFrontAs b payload (length old) (choice_of header) limit) where
    pub older_as : (p : ℕ) → IsOfOlder b payload (choice_of header) old p → IsOfCopies old limit p
    older_as p x = subst (λ (n : ℕ). IsOfCopies old n p) (one_front b payload (length old) (choice_of header) x.limit limit x.front front) x.of_copies

    begun_there : (p : ℕ) → IsOfBegun places limit old p → IsOfCleared b payload (choice_of header) old p
    begun_there p (inl x) = inl (sector_there b header is places laid p x)
    begun_there p (inr x) = inr (record { limit = limit; front = front; of_copies = x })

    pub older_gone : (new : List ℕ) → ArePlacesGone places (IsOfCopies old limit) new → AreGone (IsOfOlder b payload (choice_of header) old) b (choice_of header) new
    older_gone new gone = gone_as (IsOfCopies old limit) (IsOfOlder b payload (choice_of header) old) new older_as gone

    turn_as : (new : List ℕ) → WritesOver places limit b old new → RestoresInTurn b payload (choice_of header) old new
    turn_as new turn = elim turn [
      | inl same ↦ inl (subst (λ (n : ℕ). SameBut (IsAt 0 n) old new) (first_is b header is places laid) same)
      | inr later ↦ elim later [
        | inl x ↦ inr (inl (subst (λ (n : ℕ). part new 0 n ≡ replicate n 0) (first_is b header is places laid) x.0, same_but-wider begun_there x.1))
        | inr x ↦ inr (inr (older_gone new x.0, leaves_as new x.1))
      ]
    ]

    -- writing over keeps the order
    pub turn_of : (new : List ℕ) → WritesOver places limit b old new → (c : Choice) → Chosen b c → RestoresInTurn b payload c old new
    turn_of new turn c chosen = subst (λ (d : Choice). RestoresInTurn b payload d old new) (choices_agree b (choice_of header) c (chosen_of b header is) chosen) (turn_as new turn)

  -- ---- backing up

  pub large_size : (size : ℕ) → AreInside places size → 512 ≤ size
  large_size size inside = (let large = large_head b header is in let first = laid.first in let all = inside.header in omega (arith, large, first, all))

  anew_as : (size : ℕ) (old new : List ℕ) → WritesAnew places size b old new → BacksUpInTurn b (choice_of header) size old new
  anew_as size old new turn = elim turn [
    | inl wiped ↦ elim wiped [
      | inl same ↦ inl same
      | inr x ↦ inr (inl x)
    ]
    | inr x ↦ inr (inr (gone_as (IsOfListed size) (IsOfListed size) new (λ p y. y) x.0, leaves_as new x.1))
  ]

  -- making a backup keeps the order
  pub anew_of : (payload : Data) (size : ℕ) → IsBackupSize b payload size → AreInside places size → (s old new : List ℕ) → s ≡ b → (512 ≤ size → WritesAnew places size s old new)
      → (c : Choice) (other : ℕ) → Chosen b c → IsBackupSize b payload other → BacksUpInTurn b c other old new
  anew_of payload size is_size inside s old new same turn c other chosen other_size =
      let own : WritesAnew places size b old new = subst (λ (l : List ℕ). WritesAnew places size l old new) same (turn (large_size size inside)) in
      subst (λ (n : ℕ). BacksUpInTurn b c n old new) (one_size b payload size other is_size other_size)
      (subst (λ (d : Choice). BacksUpInTurn b d size old new) (choices_agree b (choice_of header) c (chosen_of b header is) chosen) (anew_as size old new own))

-- restoring onto a target that was `old` before it was read, from a backup that was `b`
pub turn_over : (b : List ℕ) (header : Header) → IsHeader b header → (places : Places) → IsLaidOut header places → (payload : Data) (s old u new : List ℕ) (limit : ℕ)
    → IsFrontAs b payload (length old) (choice_of header) limit → s ≡ b → u ≡ old → WritesOver places limit s u new
    → (c : Choice) → Chosen b c → RestoresInTurn b payload c old new
turn_over b header is places laid payload s old u new limit front same unread turn =
    turn_of b header is places laid payload old limit front new (subst (λ (l : List ℕ). WritesOver places limit l old new) same (subst (λ (l : List ℕ). WritesOver places limit s l new) unread turn))
