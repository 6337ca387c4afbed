-- What `key` opens.
use Rattle.std.proofs.Common.{◌≡◌, ℕ, List, length, true, Option, Some, None, Result, Ok, Err, IfErr, refl, subst}
use Rattle.luks_area.specs.Device.{CountsFailure}
use Rattle.luks2_header.proofs.ChoiceFacts.{choices_agree}
use Rattle.luks_json.specs.AreaText.{Json}
use Rattle.luks_slot.specs.declared.allowed.Allowed.{Allowed}
use Rattle.luks_reading.specs.Conversions.{unread_opened}
use Rattle.luks_reading.specs.Failures.{is_open_failure}
use Rattle.luks_reading.specs.Header.{json_at, IsHeader, IsUnread}
use Rattle.luks_reading.specs.HeaderAnswers.{IsHeaderUnlocking, IsSlotOpening}
use Rattle.luks_reading.specs.PlanAnswers.{IsOfDevice}
use Rattle.luks_reading.specs.declared.header.Header.{Header}
use Rattle.luks_reading.specs.declared.open_fault.OpenFault.{OpenFault}
use Rattle.luks_reading.specs.declared.open_fault.OpenFault.TheVariants as opening
use Rattle.luks_reading.specs.declared.read_fault.ReadFault.{ReadFault}
use Rattle.luks_reading.specs.declared.read_fault.ReadFault.TheVariants as reading
use Rattle.luks_reading.proofs.KeyslotAnswers.{unread_refused}
use Rattle.luks_reading.proofs.VolumeAnswers.{unread_locked}
use Rattle.luks_wider.specs.Underways.{content}
use Rattle.luks_wide_reading.specs.declared.copy.UnderwayCopy.{UnderwayCopy}
use Rattle.luks_wide_reading.specs.declared.open_fault.WideOpenFault.{WideOpenFault}
use Rattle.luks_wide_reading.specs.declared.open_fault.WideOpenFault.TheVariants as wide
use Rattle.luks_wide_reading.specs.declared.read_fault.WideReadFault.TheVariants as unread
use Rattle.luks_wide_reading.specs.Faults.{is_wide_open_failure, is_wide_own}
use Rattle.luks_wide_reading.specs.Headers.{IsFromOutside, IsUnderwayCopy, IsWideUnread}
use Rattle.luks_wide_reading.specs.Opening.{IsUnderwayOpening, UnderwayRefused, UnderwayTakesMemory}
use Rattle.luks_wide_reading.specs.Trying.{underway_order, IsUnderwayUnlocking}
use Rattle.luks_wide_reading.specs.Volume.{UnderwayRefuses}
use Rattle.luks_wide_reading.proofs.VolumeFacts.{counts_underway}
use Rattle.luks_commands.specs.OpenAnswers.{TakesMemoryUnderway}
use Rattle.luks_commands.proofs.NotUnderway.{read_narrow, unread_narrow}
use Rattle.luks_keeping_commands.specs.declared.key_refusal.KeyRefusal.TheVariants as unopened
use Rattle.luks_keeping_commands.specs.KeepingKey.{is_key_failure, key_of, opened_by, wide_opened_by, IsKeyFound, narrow, IsKeyOpened, IsLostKey, IsUnderwayFound, IsUnderwayOpened, IsUnderwayUnlocked}

-- ---- nothing is under way

-- a header that isn't read opens to no key
unread_key : (allowed : Allowed) (v : List ℕ) (slot : Option ℕ) (p : List ℕ) (f : ReadFault) → IsUnread v f → IsKeyOpened allowed v slot p (Err (unread_opened f))
unread_key allowed v (Some n) p f x = unread_refused allowed v n p f (choices_agree v) x
unread_key allowed v None p f x = unread_locked v f (choices_agree v) x

-- what the keyslot that is named gives
pub slot_key : (tells : Type 0) (allowed : Allowed) (v : List ℕ) (header : Header) (p : List ℕ) (n : ℕ) (r : Result (Option (List ℕ)) OpenFault)
    → tells → IsHeader v header → IsSlotOpening tells v header allowed n p r → IsKeyOpened allowed v (Some n) p r
slot_key tells allowed v header p n (Ok found) t is x = x.opens t is
slot_key tells allowed v header p n (Err f) t is x = x.refused t is

-- and the first that opens
pub volume_key : (tells : Type 0) (allowed : Allowed) (v : List ℕ) (header : Header) (p : List ℕ) (r : Result (Option (ℕ × List ℕ)) OpenFault)
    → tells → IsHeader v header → IsHeaderUnlocking tells v header allowed p r → IsKeyOpened allowed v None p (key_of r)
volume_key tells allowed v header p (Ok (Some found)) t is x = (found.0, x.unlocks t is)
volume_key tells allowed v header p (Ok None) t is x = x.unlocks t is
volume_key tells allowed v header p (Err f) t is x = x.refused t is

-- ---- something is under way

takes_memory : (allowed : Allowed) (v : List ℕ) (c : UnderwayCopy) (total n : ℕ) → IsUnderwayCopy v c → total ≡ length v
    → UnderwayTakesMemory allowed (json_at v c.header.hdr_offset) total n → TakesMemoryUnderway allowed v
takes_memory allowed v c total n is long x = record {
  json = json_at v c.header.hdr_offset;
  value = content c.meta;
  counts = counts_underway v c is;
  slot = n;
  takes = subst (λ (m : ℕ). UnderwayTakesMemory allowed (json_at v c.header.hdr_offset) m n) long x;
}

module _ (tells : Type 0) (allowed : Allowed) (total : ℕ) (v : List ℕ) (c : UnderwayCopy) (p : List ℕ) (t : tells) (long : total ≡ length v) (is : IsUnderwayCopy v c) where
  abbrev json : List ℕ
  json = json_at v c.header.hdr_offset

  refuses : (n : ℕ) (f : WideOpenFault) → is_wide_own f ≡ true → UnderwayRefused allowed json total n f → UnderwayRefuses allowed v n f
  refuses n f own x = record {
    json = json;
    value = content c.meta;
    counts = counts_underway v c is;
    least = (subst (λ (m : ℕ). UnderwayRefused allowed json m n f) long x).0 own;
  }

  named : (n : ℕ) (r : Result (Option (List ℕ)) WideOpenFault) → IsUnderwayOpening tells total v json allowed n p r → IsUnderwayOpened allowed v n p r
  named n (Ok found) x = record { json = json; value = content c.meta; counts = counts_underway v c is; opens = x.opens t }
  named n (Err (wide.Open (opening.Head f))) x = refuses n (wide.Open (opening.Head f)) refl x.refused
  named n (Err (wide.Open (opening.Meta f))) x = refuses n (wide.Open (opening.Meta f)) refl x.refused
  named n (Err (wide.Open opening.NoSuchSlot)) x = refuses n (wide.Open opening.NoSuchSlot) refl x.refused
  named n (Err (wide.Open opening.SlotFree)) x = refuses n (wide.Open opening.SlotFree) refl x.refused
  named n (Err (wide.Open opening.Outside)) x = refuses n (wide.Open opening.Outside) refl x.refused
  named n (Err (wide.Open (opening.Slot f))) x = refuses n (wide.Open (opening.Slot f)) refl x.refused
  named n (Err (wide.Open opening.Device)) x = tt
  named n (Err (wide.Open opening.Memory)) x = takes_memory allowed v c total n is long (x.refused.1 refl)
  named n (Err wide.NoKey) x = refuses n wide.NoKey refl x.refused

  -- the keyslot that is named
  pub underway_slot_key : (n : ℕ) (r : Result (Option (List ℕ)) WideOpenFault)
      → ((text : List ℕ) → Json text (content c.meta) → IsUnderwayOpening tells total v text allowed n p r) → IsUnderwayFound allowed v (Some n) p (wide_opened_by r)
  underway_slot_key n r x = record { opened = r; is = refl; told = named n r (x json (counts_underway v c is).holds) }

  first : (r : Result (Option (ℕ × List ℕ)) OpenFault) → IsUnderwayUnlocking tells total v json allowed p (underway_order (content c.meta)) r
      → IfErr r IsOfDevice → IsUnderwayUnlocked allowed v p (key_of r)
  first (Ok (Some found)) x kinds = (found.0, record { json = json; value = content c.meta; counts = counts_underway v c is; tries = x.tries t })
  first (Ok None) x kinds = record { json = json; value = content c.meta; counts = counts_underway v c is; tries = x.tries t }
  first (Err opening.Device) x kinds = tt
  first (Err opening.Memory) x kinds = let takes = x.memory refl in takes_memory allowed v c total takes.0 is long takes.1
  first (Err f) x kinds = absurd kinds

  -- and the first that opens
  pub underway_key : (r : Result (Option (ℕ × List ℕ)) OpenFault) → IfErr r IsOfDevice
      → ((text : List ℕ) → Json text (content c.meta) → IsUnderwayUnlocking tells total v text allowed p (underway_order (content c.meta)) r)
      → IsUnderwayFound allowed v None p (opened_by (key_of r))
  underway_key r kinds x = record { opened = key_of r; is = refl; told = first r (x json (counts_underway v c is).holds) kinds }

-- ---- any volume

-- the narrow reading's header was read
pub found_narrow : (allowed : Allowed) (v : List ℕ) (header : Header) (slot : Option ℕ) (p : List ℕ) (r : Result (Option (List ℕ)) OpenFault) → IsHeader v header
    → IsKeyOpened allowed v slot p r → IsKeyFound allowed v slot p (opened_by r)
found_narrow allowed v header slot p r is x = narrow (record { opened = r; is = refl; told = x; own = λ u. absurd (read_narrow v header is u) })

unread_of : (v : List ℕ) (f : ReadFault) → IsWideUnread v (unread.Read f) → IsUnread v f
unread_of v (reading.Head f) is = is
unread_of v (reading.Meta f) is = is.1
unread_of v reading.Device is = is
unread_of v reading.Memory is = is

lost_of : (f : ReadFault) → IsFromOutside (unread.Read f) → IsLostKey (Err (unread_opened f))
lost_of (reading.Head f) is = absurd is
lost_of (reading.Meta f) is = absurd is
lost_of reading.Device is = tt
lost_of reading.Memory is = tt

-- it wasn't
pub found_unread : (allowed : Allowed) (v : List ℕ) (slot : Option ℕ) (p : List ℕ) (f : ReadFault) → IsWideUnread v (unread.Read f)
    → IsKeyFound allowed v slot p (Err (unopened.Open (unread_opened f)))
found_unread allowed v slot p f is = narrow (record {
  opened = Err (unread_opened f);
  is = refl;
  told = unread_key allowed v slot p f (unread_of v f is);
  own = λ u. lost_of f (unread_narrow v f is u);
})

-- ---- the same calls have failed

pub counts_key : (r : Result (Option (ℕ × List ℕ)) OpenFault) (before after : ℕ) → CountsFailure is_open_failure r before after → CountsFailure is_open_failure (key_of r) before after
counts_key (Ok (Some found)) before after x = x
counts_key (Ok None) before after x = x
counts_key (Err f) before after x = x

pub counts_opened : (r : Result (Option (List ℕ)) OpenFault) (before after : ℕ) → CountsFailure is_open_failure r before after → CountsFailure is_key_failure (opened_by r) before after
counts_opened (Ok found) before after x = x
counts_opened (Err f) before after x = x

pub counts_wide : (r : Result (Option (List ℕ)) WideOpenFault) (before after : ℕ) → CountsFailure is_wide_open_failure r before after → CountsFailure is_key_failure (wide_opened_by r) before after
counts_wide (Ok found) before after x = x
counts_wide (Err (wide.Open f)) before after x = x
counts_wide (Err wide.NoKey) before after x = x
