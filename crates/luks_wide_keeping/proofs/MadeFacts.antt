-- What copying both copies of a header and the whole region makes.
use Rattle.std.proofs.Common.{◌≡◌, ◌≢◌, ℕ, ◌+◌, ◌*◌, ◌-◌, ◌<◌, ◌≤◌, List, length, false, min, replicate, get_or, refl, sym, ap, subst, ◌∙◌, arith, inl, inr, Result, Ok, Err, IfOk, OnOk}
use Rattle.std.proofs.lemmas.Bool.{cases_lt, true≢false}
use Rattle.std.proofs.lemmas.List.{get_or_past}
use Rattle.luks_area.specs.First.{NotAfter, IsLeast}
use Rattle.luks_area.specs.Ranges.{part, IsAt, IsOfEither, SameBut}
use Rattle.luks_area.proofs.RangeFacts.{same_but-wider}
use Rattle.luks2_header.proofs.ChoiceFacts.{choices_agree}
use Rattle.luks2_header.specs.Header2.{hdr_size, header_at}
use Rattle.luks2_header.specs.Selection.{luks2}
use Rattle.luks_reading.specs.Checked.{check_key}
use Rattle.luks_reading.specs.Failures.{is_check_failure}
use Rattle.luks_reading.specs.declared.check_fault.CheckFault.{CheckFault}
use Rattle.luks_reading.specs.declared.check_fault.CheckFault.TheVariants as check
use Rattle.luks_reading.specs.declared.report.Data.{Data}
use Rattle.luks_reading.specs.declared.report.Data.TheVariants.{Elsewhere}
use Rattle.luks_keeping.specs.Backup.{IsBackupSize}
use Rattle.luks_keeping.specs.BackupFaults.{backup_key, checked_backup, IsOfBackup, IsShort}
use Rattle.luks_keeping.specs.Kept.{lead_of, HasHeader}
use Rattle.luks_keeping.specs.Places.{header_end, HoldsAll, HoldsHeader, IsOfPlaces, IsOfWhole}
use Rattle.luks_keeping.specs.Restored.{IsFrontAs}
use Rattle.luks_keeping.specs.SecondPlaces.{IsOfCopies}
use Rattle.luks_keeping.specs.declared.backup_fault.BackupFault.{BackupFault}
use Rattle.luks_keeping.specs.declared.backup_fault.BackupFault.TheVariants.{NotAccepted, TooSmall, Memory, Device}
use Rattle.luks_keeping.specs.declared.places.Places.{Places}
use Rattle.luks_keeping.proofs.SizeFacts.{one_size}
use Rattle.luks_wide_reading.specs.declared.copy.UnderwayCopy.{UnderwayCopy}
use Rattle.luks_wide_reading.specs.Headers.{IsUnderwayCopy}
use Rattle.luks_wide_keeping.specs.Backup.{CanBackUpUnderway, IsUnderwayBackup, IsUnderwayBackupFault, IsUnderwayUnmade}
use Rattle.luks_wide_keeping.specs.Layout.{FitsUnderway, IsUnderwayFault}
use Rattle.luks_wide_keeping.specs.Restored.{IsOfUnderway, IsUnderwayRestored}
use Rattle.luks_wide_keeping.specs.Whole.{IsWholeLaid, IsWholeSize}
use Rattle.luks_wide_keeping.proofs.CopyFacts.{backup_size, bytes_are, copy_there, large, size_there}
use Rattle.luks_wide_keeping.proofs.PlacesFacts.{byte_held, lead_small, not_of_places, of_places, whole_below, whole_region}

module _ (v : List ℕ) (c : UnderwayCopy) (is : IsUnderwayCopy v c) (total : ℕ) (places : Places) (laid : IsWholeLaid c total places) (room : 2 * c.header.hdr_size ≤ total) where
  lead_is : places.lead ≡ lead_of c.copies
  lead_is = (let big = large v c is in let small = lead_small c.copies in let lead = laid.lead in omega (arith, big, small, lead))

  end_is : header_end places ≡ 2 * hdr_size (header_at v c.header.hdr_offset)
  end_is = (let same = bytes_are v c is in let first = laid.first in let second = laid.second in omega (arith, same, first, second))

  -- ---- the header

  lead_zeros : (w : List ℕ) → part w 0 places.lead ≡ replicate places.lead 0 → part w 0 (lead_of c.copies) ≡ replicate (lead_of c.copies) 0
  lead_zeros w zeros = subst (λ (n : ℕ). part w 0 n ≡ replicate n 0) lead_is zeros

  pub has_header : (w : List ℕ) → HoldsHeader places v w → part w 0 places.lead ≡ replicate places.lead 0 → HasHeader v (luks2 c.header.hdr_offset c.copies) w
  has_header w held zeros = record {
    lead = lead_zeros w zeros;
    behind = subst (λ (n : ℕ). part w (lead_of c.copies) (n - lead_of c.copies) ≡ part v (lead_of c.copies) (n - lead_of c.copies)) end_is
        (subst (λ (m : ℕ). part w m (header_end places - m) ≡ part v m (header_end places - m)) lead_is held);
  }

  -- ---- the size

  pub whole : IsWholeSize c (2 * c.header.hdr_size + laid.region)
  whole = record { region = laid.region; says = laid.says; is = refl }

  -- ---- a backup

  pub made : (old w : List ℕ) (size : ℕ) → IsWholeSize c size → length v ≡ total → size ≤ length w → SameBut (IsAt 0 size) old w → HoldsAll places v w
      → part w 0 places.lead ≡ replicate places.lead 0 → ((p : ℕ) → p < size → (IsOfPlaces places p → ⊥) → get_or w p 0 ≡ 0) → IsUnderwayBackup v old w
  made old w size sized long within rest held zeros others = record {
    place = c.header.hdr_offset;
    copies = c.copies;
    chosen = is.chosen;
    size = size;
    is_size = size_there v c is size sized;
    within = within;
    lead = lead_zeros w zeros;
    kept = kept;
    rest = rest;
  }
    where
      kept : (p : ℕ) → lead_of c.copies ≤ p → p < size → get_or w p 0 ≡ get_or v p 0
      kept p low high = elim (cases_lt p total) [
        | inl there ↦ (
            let all = whole_region c total places laid room size sized in
            let lead = lead_is in
            byte_held c total places laid room v w held p (of_places c total places laid room p (omega (arith, low, lead)) (omega (arith, high, all)) there))
        | inr past ↦ others p high (not_of_places c total places laid room p past) ∙ sym (get_or_past v p 0 (omega (arith, past, long)))
      ]

  -- ---- a restored one

  module _ (payload : Data) (t : List ℕ) (limit : ℕ) (front : IsFrontAs v payload (length t) (luks2 c.header.hdr_offset c.copies) limit) where
    pub changed : {w : List ℕ} → SameBut (IsOfEither (IsOfWhole places) (IsOfCopies t limit)) t w → SameBut (IsOfUnderway v payload t) t w
    changed same = same_but-wider of_changed same
      where
        of_changed : (p : ℕ) → IsOfEither (IsOfWhole places) (IsOfCopies t limit) p → IsOfUnderway v payload t p
        of_changed p x = record {
          place = c.header.hdr_offset;
          copies = c.copies;
          chosen = is.chosen;
          size = 2 * c.header.hdr_size + laid.region;
          is_size = size_there v c is _ whole;
          of_either = elim x [
            | inl at ↦ inl (whole_below c total places laid room _ refl p at)
            | inr older ↦ inr (record { limit = limit; front = front; of_copies = older })
          ];
        }

    pub put_back : (w : List ℕ) → total ≡ min (length v) (length w) → SameBut (IsOfEither (IsOfWhole places) (IsOfCopies t limit)) t w → HoldsAll places v w
        → part w 0 places.lead ≡ replicate places.lead 0 → IsUnderwayRestored v payload t w
    put_back w both rest held zeros = record {
      place = c.header.hdr_offset;
      copies = c.copies;
      chosen = is.chosen;
      size = 2 * c.header.hdr_size + laid.region;
      is_size = size_there v c is _ whole;
      lead = lead_zeros w zeros;
      kept = λ p low high here there. (
          let lead = lead_is in
          byte_held c total places laid room v w held p (of_places c total places laid room p (omega (arith, low, lead)) high (omega (arith, both, here, there))));
      rest = changed rest;
    }

-- whatever was read of the volume is read of what has its header
pub reads_there : (v w : List ℕ) (a c : UnderwayCopy) → IsUnderwayCopy v a → HasHeader v (luks2 a.header.hdr_offset a.copies) w → 2 * a.header.hdr_size ≤ length v → 2 * a.header.hdr_size ≤ length w
    → IsUnderwayCopy v c → IsUnderwayCopy w c
reads_there v w a c own has here there is =
    let same : luks2 a.header.hdr_offset a.copies ≡ luks2 c.header.hdr_offset c.copies = choices_agree v (luks2 a.header.hdr_offset a.copies) (luks2 c.header.hdr_offset c.copies) own.chosen is.chosen in
    let place : a.header.hdr_offset ≡ c.header.hdr_offset = cc in
    let size : c.header.hdr_size ≡ a.header.hdr_size = sym (bytes_are v c is) ∙ ap (λ (o : ℕ). hdr_size (header_at v o)) (sym place) ∙ bytes_are v a own in
    copy_there v c is w (subst (λ k. HasHeader v k w) same has) (omega (arith, size, here)) (omega (arith, size, there))

pub of_backup : (v : List ℕ) (c : UnderwayCopy) → IsUnderwayCopy v c → (payload : Data) (size : ℕ) → IsWholeSize c size → {u w : List ℕ} → SameBut (IsAt 0 size) u w → SameBut (IsOfBackup v payload) u w
of_backup v c is payload size sized same = same_but-wider (λ p at. record { size = size; is_size = backup_size v c is payload size sized; at = at }) same

-- ---- the faults

pub unmade_layout : (v : List ℕ) (total : ℕ) (f : CheckFault) → IsLeast check_key (IsUnderwayFault v Elsewhere (length v)) f → IsUnderwayUnmade v total (NotAccepted f)
unmade_layout v total f least = (least.0, after)
  where
    after : (g : BackupFault) → IsUnderwayBackupFault v total g → NotAfter (backup_key (NotAccepted f)) (backup_key g)
    after (NotAccepted g) bad = (omega arith, λ e. least.1 g bad)
    after TooSmall bad = (omega arith, λ e. absurd (omega (arith, e)))
    after other bad = absurd bad

-- what the layout is refused for, as the fault of a backup
pub unmade_checked : (v : List ℕ) (total : ℕ) (f : CheckFault) → is_check_failure f ≡ false → IsLeast check_key (IsUnderwayFault v Elsewhere (length v)) f → IsUnderwayUnmade v total (checked_backup f)
unmade_checked v total (check.Head f) own least = unmade_layout v total (check.Head f) least
unmade_checked v total (check.Meta f) own least = unmade_layout v total (check.Meta f) least
unmade_checked v total (check.Area f) own least = unmade_layout v total (check.Area f) least
unmade_checked v total check.Device own least = absurd (true≢false own)
unmade_checked v total check.Memory own least = absurd least.0.fault

-- none is a failed allocation
pub no_memory : (f : CheckFault) → f ≢ check.Memory → checked_backup f ≢ Memory
no_memory (check.Head f) own = λ e. (let no : NotAccepted (check.Head f) ≡ Memory = e in cc)
no_memory (check.Meta f) own = λ e. (let no : NotAccepted (check.Meta f) ≡ Memory = e in cc)
no_memory (check.Area f) own = λ e. (let no : NotAccepted (check.Area f) ≡ Memory = e in cc)
no_memory check.Device own = λ e. (let no : Device ≡ Memory = e in cc)
no_memory check.Memory own = absurd (own refl)

pub unmade_short : (v : List ℕ) (total : ℕ) → FitsUnderway v Elsewhere (length v) → IsShort v Elsewhere total → IsUnderwayUnmade v total TooSmall
unmade_short v total fits short = (short, after)
  where
    after : (g : BackupFault) → IsUnderwayBackupFault v total g → NotAfter (backup_key TooSmall) (backup_key g)
    after (NotAccepted g) bad = absurd (fits.none g bad)
    after TooSmall bad = (omega arith, λ e. tt)
    after other bad = absurd bad

pub can_back_up : (v : List ℕ) (total size : ℕ) → FitsUnderway v Elsewhere (length v) → IsBackupSize v Elsewhere size → size ≤ total → CanBackUpUnderway v total
can_back_up v total size fits is room = record { none = none }
  where
    none : (f : BackupFault) → IsUnderwayBackupFault v total f → ⊥
    none (NotAccepted f) bad = fits.none f bad
    none TooSmall bad = (let same = one_size v Elsewhere bad.size size bad.is_size is in let short = bad.short in omega (arith, same, short, room))
    none other bad = bad

pub length_made : (v : List ℕ) (total : ℕ) → FitsUnderway v Elsewhere (length v) → (r : Result ℕ BackupFault) → IfOk r (IsBackupSize v Elsewhere) → IfOk r (λ size. size ≤ total) → OnOk r (CanBackUpUnderway v total)
length_made v total fits (Ok size) is room = can_back_up v total size fits is room
length_made v total fits (Err f) is room = tt
