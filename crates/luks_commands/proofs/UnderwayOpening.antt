-- What `open` answers of a volume in whose metadata something is under way.
use Rattle.std.proofs.Common.{◌≡◌, ℕ, ◌⊎◌, List, length, true, Option, Some, None, Ok, Err, inl, inr, refl, subst, sym}
use Rattle.luks_area.specs.Device.{count_after}
use Rattle.luks_slot.specs.declared.allowed.Allowed.{Allowed}
use Rattle.luks_reading.specs.declared.header.Header.{Header}
use Rattle.luks_reading.specs.declared.open_fault.OpenFault.{OpenFault}
use Rattle.luks_reading.specs.declared.open_fault.OpenFault.TheVariants as opening
use Rattle.luks_reading.specs.declared.read_fault.ReadFault.{ReadFault}
use Rattle.luks_reading.specs.declared.read_fault.ReadFault.TheVariants as reading
use Rattle.luks_reading.specs.Conversions.{unread_opened}
use Rattle.luks_reading.specs.Failures.{is_open_failure}
use Rattle.luks_reading.specs.Header.{json_at, IsHeader, IsUnread}
use Rattle.luks_reading.specs.PlanAnswers.{IsOfDevice}
use Rattle.luks_json.specs.AreaText.{Json}
use Rattle.luks_wider.specs.Underways.{content}
use Rattle.luks_wider.specs.declared.fault.WideFault.{WideFault}
use Rattle.luks_wide_reading.specs.declared.copy.UnderwayCopy.{UnderwayCopy}
use Rattle.luks_wide_reading.specs.declared.open_fault.WideOpenFault.{WideOpenFault}
use Rattle.luks_wide_reading.specs.declared.open_fault.WideOpenFault.TheVariants as wide
use Rattle.luks_wide_reading.specs.declared.read_fault.WideReadFault.{WideReadFault}
use Rattle.luks_wide_reading.specs.declared.read_fault.WideReadFault.TheVariants as unread
use Rattle.luks_wide_reading.specs.Faults.{is_wide_open_failure, is_wide_own, is_wide_read_failure}
use Rattle.luks_wide_reading.specs.Headers.{IsFromOutside, IsUnderwayCopy, IsUnderWayVolume, IsWideUnread}
use Rattle.luks_wide_reading.specs.Opening.{IsUnderwayOpening, UnderwayOpens, UnderwayRefused, UnderwayTakesMemory}
use Rattle.luks_wide_reading.specs.Trying.{underway_order, IsUnderwayUnlocking}
use Rattle.luks_wide_reading.specs.Volume.{UnderwayGives, UnderwayRefuses, UnderwayUnlocks}
use Rattle.luks_wide_reading.proofs.VolumeFacts.{counts_underway}
use Rattle.luks_commands.specs.Answer.{open_fault_answer}
use Rattle.luks_commands.specs.Lost.{IsLost}
use Rattle.luks_commands.specs.UnderwayAnswers.{IsMetadataRefused}
use Rattle.luks_commands.specs.declared.answers.Answer.{Answer}
use Rattle.luks_commands.specs.declared.answers.Answer.TheVariants.{Opens, Closed, NoneOpens, Refused, DeviceFault, NoMemory}
use Rattle.luks_commands.specs.declared.answers.Refusal.TheVariants.{Open, Underway}
use Rattle.luks_commands.specs.declared.underway_refusal.UnderwayRefusal.TheVariants.{Metadata, NoKey}
use Rattle.luks_commands.specs.OpenAnswers.{wide_open_answer, wide_read_answer, IsAnyUnderway, IsOneUnderway, IsOpenAnswer, IsTried, IsTriedUnderway, IsUnderwayAnswer, IsWideAnswer, TakesMemoryUnderway}
use Rattle.luks_commands.proofs.NotUnderway.{read_narrow, unread_narrow}
use Rattle.luks_commands.proofs.OpenFacts.{answers_narrow, answers_unread}

-- ---- from the copy that was read to its volume

opened_of : (v : List ℕ) (c : UnderwayCopy) (allowed : Allowed) (n : ℕ) (p : List ℕ) (found : Option (List ℕ)) → IsUnderwayCopy v c
    → UnderwayOpens allowed (json_at v c.header.hdr_offset) v n p found → UnderwayGives allowed v n p found
opened_of v c allowed n p found is x = record { json = json_at v c.header.hdr_offset; value = content c.meta; counts = counts_underway v c is; opens = x }

-- opening the keyslot `n` gave `found`
pub gives_underway : (tells : Type 0) (total : ℕ) (v : List ℕ) (c : UnderwayCopy) (allowed : Allowed) (n : ℕ) (p : List ℕ) (found : Option (List ℕ)) → tells → IsUnderwayCopy v c
    → ((json : List ℕ) → Json json (content c.meta) → IsUnderwayOpening tells total v json allowed n p (Ok found)) → UnderwayGives allowed v n p found
gives_underway tells total v c allowed n p found t is x =
    opened_of v c allowed n p found is ((x (json_at v c.header.hdr_offset) (counts_underway v c is).holds).opens t)

takes_memory : (v : List ℕ) (c : UnderwayCopy) (allowed : Allowed) (total n : ℕ) → IsUnderwayCopy v c → total ≡ length v
    → UnderwayTakesMemory allowed (json_at v c.header.hdr_offset) total n → TakesMemoryUnderway allowed v
takes_memory v c allowed total n is long x = record {
  json = json_at v c.header.hdr_offset;
  value = content c.meta;
  counts = counts_underway v c is;
  slot = n;
  takes = subst (λ (m : ℕ). UnderwayTakesMemory allowed (json_at v c.header.hdr_offset) m n) long x;
}

-- a fault of the keyslot that is named
one_refused : (tells : Type 0) (allowed : Allowed) (v : List ℕ) (n : ℕ) (p : List ℕ) (before after : ℕ) (f : WideOpenFault) → after ≡ count_after (is_wide_open_failure f) before
    → (tells → is_wide_own f ≡ true → UnderwayRefuses allowed v n f) → (tells → f ≡ wide.Open opening.Memory → TakesMemoryUnderway allowed v)
    → IsOneUnderway tells allowed v n p before after (wide_open_answer f)
one_refused tells allowed v n p before after (wide.Open (opening.Head f)) count own memory = (count, λ t. own t refl)
one_refused tells allowed v n p before after (wide.Open (opening.Meta f)) count own memory = (count, λ t. own t refl)
one_refused tells allowed v n p before after (wide.Open opening.NoSuchSlot) count own memory = (count, λ t. own t refl)
one_refused tells allowed v n p before after (wide.Open opening.SlotFree) count own memory = (count, λ t. own t refl)
one_refused tells allowed v n p before after (wide.Open opening.Outside) count own memory = (count, λ t. own t refl)
one_refused tells allowed v n p before after (wide.Open (opening.Slot f)) count own memory = (count, λ t. own t refl)
one_refused tells allowed v n p before after (wide.Open opening.Device) count own memory = count
one_refused tells allowed v n p before after (wide.Open opening.Memory) count own memory = (count, λ t. memory t refl)
one_refused tells allowed v n p before after wide.NoKey count own memory = (count, λ t. own t refl)

-- opening it by the copy that was read is refused
pub refused_underway : (tells : Type 0) (total : ℕ) (v : List ℕ) (c : UnderwayCopy) (allowed : Allowed) (n : ℕ) (p : List ℕ) (before after : ℕ) (f : WideOpenFault)
    → (tells → total ≡ length v) → after ≡ count_after (is_wide_open_failure f) before
    → ((json : List ℕ) → Json json (content c.meta) → IsUnderwayOpening tells total v json allowed n p (Err f))
    → IsOneUnderway (tells × IsUnderwayCopy v c) allowed v n p before after (wide_open_answer f)
refused_underway tells total v c allowed n p before after f long count x = one_refused (tells × IsUnderwayCopy v c) allowed v n p before after f count own memory
  where
    json : List ℕ
    json = json_at v c.header.hdr_offset

    refused : tells → IsUnderwayCopy v c → UnderwayRefused allowed json (length v) n f
    refused t is = subst (λ (m : ℕ). UnderwayRefused allowed json m n f) (long t) (x json (counts_underway v c is).holds).refused

    own : tells × IsUnderwayCopy v c → is_wide_own f ≡ true → UnderwayRefuses allowed v n f
    own t e = record { json = json; value = content c.meta; counts = counts_underway v c t.1; least = (refused t.0 t.1).0 e }

    memory : tells × IsUnderwayCopy v c → f ≡ wide.Open opening.Memory → TakesMemoryUnderway allowed v
    memory t e = takes_memory v c allowed (length v) n t.1 refl ((refused t.0 t.1).1 e)

-- ---- where no keyslot is named

pub unlocks_underway : (tells : Type 0) (total : ℕ) (v : List ℕ) (c : UnderwayCopy) (allowed : Allowed) (p : List ℕ) (found : Option (ℕ × List ℕ)) → tells → IsUnderwayCopy v c
    → ((json : List ℕ) → Json json (content c.meta) → IsUnderwayUnlocking tells total v json allowed p (underway_order (content c.meta)) (Ok found)) → UnderwayUnlocks allowed v p found
unlocks_underway tells total v c allowed p found t is x = record {
  json = json_at v c.header.hdr_offset;
  value = content c.meta;
  counts = counts_underway v c is;
  tries = (x (json_at v c.header.hdr_offset) (counts_underway v c is).holds).tries t;
}

any_refused : (tells : Type 0) (allowed : Allowed) (v p : List ℕ) (before after : ℕ) (f : OpenFault) → IsOfDevice f → after ≡ count_after (is_open_failure f) before
    → (tells → f ≡ opening.Memory → TakesMemoryUnderway allowed v) → IsAnyUnderway tells allowed v p before after (open_fault_answer f)
any_refused tells allowed v p before after opening.Device kind count memory = count
any_refused tells allowed v p before after opening.Memory kind count memory = (count, λ t. memory t refl)
any_refused tells allowed v p before after f kind count memory = absurd kind

pub lost_underway : (tells : Type 0) (total : ℕ) (v : List ℕ) (c : UnderwayCopy) (allowed : Allowed) (p : List ℕ) (before after : ℕ) (f : OpenFault)
    → (tells → total ≡ length v) → IsOfDevice f → after ≡ count_after (is_open_failure f) before
    → ((json : List ℕ) → Json json (content c.meta) → IsUnderwayUnlocking tells total v json allowed p (underway_order (content c.meta)) (Err f))
    → IsAnyUnderway (tells × IsUnderwayCopy v c) allowed v p before after (open_fault_answer f)
lost_underway tells total v c allowed p before after f long kind count x = any_refused (tells × IsUnderwayCopy v c) allowed v p before after f kind count memory
  where
    memory : tells × IsUnderwayCopy v c → f ≡ opening.Memory → TakesMemoryUnderway allowed v
    memory t e =
        let found = (x (json_at v c.header.hdr_offset) (counts_underway v c t.1).holds).memory e in
        takes_memory v c allowed total found.0 t.1 (long t.0) found.1

-- ---- the volume as it was before its header was read

-- what is answered by the copy that was read while its bytes were `v`, is answered of it; `w` are they now, as many calls have failed as before
module _ (tells : Type 0) (is : List ℕ → Type 0) (allowed : Allowed) (v w : List ℕ) (p : List ℕ) (before after : ℕ) (same : tells → w ≡ v) (read : tells → is v) where
  now : tells → tells × is w
  now t = (t, subst is (sym (same t)) (read t))

  one_before : (n : ℕ) (b : Answer) → IsOneUnderway (tells × is w) allowed w n p before after b → IsOneUnderway tells allowed v n p before after b
  one_before n (Opens m) x = (x.0, x.1, λ t. subst (λ u. (key : List ℕ) × UnderwayGives allowed u n p (Some key)) (same t) (x.2 (now t)))
  one_before n (Closed m) x = (x.0, x.1, λ t. subst (λ u. UnderwayGives allowed u n p None) (same t) (x.2 (now t)))
  one_before n (Refused (Open f)) x = (x.0, λ t. subst (λ u. UnderwayRefuses allowed u n (wide.Open f)) (same t) (x.1 (now t)))
  one_before n (Refused (Underway NoKey)) x = (x.0, λ t. subst (λ u. UnderwayRefuses allowed u n wide.NoKey) (same t) (x.1 (now t)))
  one_before n (Refused (Underway (Metadata f))) x = (x.0, λ t. subst (λ u. IsMetadataRefused u f) (same t) (x.1 (now t)))
  one_before n DeviceFault x = x
  one_before n NoMemory x = (x.0, λ t. subst (TakesMemoryUnderway allowed) (same t) (x.1 (now t)))
  one_before n b x = absurd x

  any_before : (b : Answer) → IsAnyUnderway (tells × is w) allowed w p before after b → IsAnyUnderway tells allowed v p before after b
  any_before (Opens n) x = (x.0, λ t. subst (λ u. (key : List ℕ) × UnderwayUnlocks allowed u p (Some (n, key))) (same t) (x.1 (now t)))
  any_before NoneOpens x = (x.0, λ t. subst (λ u. UnderwayUnlocks allowed u p None) (same t) (x.1 (now t)))
  any_before (Refused (Underway (Metadata f))) x = (x.0, λ t. subst (λ u. IsMetadataRefused u f) (same t) (x.1 (now t)))
  any_before DeviceFault x = x
  any_before NoMemory x = (x.0, λ t. subst (TakesMemoryUnderway allowed) (same t) (x.1 (now t)))
  any_before b x = absurd x

  underway_before : (slot : Option ℕ) (a : Answer) → IsUnderwayAnswer (tells × is w) allowed w slot p before after a → IsUnderwayAnswer tells allowed v slot p before after a
  underway_before (Some n) a x = one_before n a x
  underway_before None a x = any_before a x

-- ---- any volume

-- the narrow reading's header was read
pub wide_narrow : (tells : Type 0) (allowed : Allowed) (v w : List ℕ) (h : Header) (slot : Option ℕ) (p : List ℕ) (before after : ℕ) (a : Answer) → (tells → w ≡ v) → (tells → IsHeader v h)
    → IsOpenAnswer (tells × IsHeader w h) allowed w slot p before after a → IsWideAnswer tells allowed v slot p before after a
wide_narrow tells allowed v w h slot p before after a same read x =
    inl (answers_narrow tells (λ u. IsHeader u h) allowed v w slot p before after a same read x, λ t u. absurd (read_narrow v h (read t) u))

-- a copy was read in which something is under way
pub wide_underway : (tells : Type 0) (allowed : Allowed) (v w : List ℕ) (c : UnderwayCopy) (slot : Option ℕ) (p : List ℕ) (before after : ℕ) (a : Answer) → (tells → w ≡ v)
    → (tells → IsUnderwayCopy v c) → IsUnderwayAnswer (tells × IsUnderwayCopy w c) allowed w slot p before after a → IsWideAnswer tells allowed v slot p before after a
wide_underway tells allowed v w c slot p before after a same read x =
    inr (underway_before tells (λ u. IsUnderwayCopy u c) allowed v w p before after same read slot a x)

unread_of : (v : List ℕ) (f : ReadFault) → IsWideUnread v (unread.Read f) → IsUnread v f
unread_of v (reading.Head f) is = is
unread_of v (reading.Meta f) is = is.1
unread_of v reading.Device is = is
unread_of v reading.Memory is = is

lost_of : (f : ReadFault) → IsFromOutside (unread.Read f) → IsLost (open_fault_answer (unread_opened f))
lost_of (reading.Head f) is = absurd is
lost_of (reading.Meta f) is = absurd is
lost_of reading.Device is = tt
lost_of reading.Memory is = tt

metadata_refused : (tells : Type 0) (allowed : Allowed) (v : List ℕ) (slot : Option ℕ) (p : List ℕ) (before after : ℕ) (f : WideFault) → after ≡ before → (tells → IsMetadataRefused v f)
    → IsUnderwayAnswer tells allowed v slot p before after (Refused (Underway (Metadata f)))
metadata_refused tells allowed v (Some n) p before after f count is = (count, is)
metadata_refused tells allowed v None p before after f count is = (count, is)

-- none was read
pub wide_unread : (tells : Type 0) (allowed : Allowed) (v : List ℕ) (slot : Option ℕ) (p : List ℕ) (before after : ℕ) (f : WideReadFault)
    → after ≡ count_after (is_wide_read_failure f) before → (tells → IsWideUnread v f) → IsWideAnswer tells allowed v slot p before after (wide_read_answer f)
wide_unread tells allowed v slot p before after (unread.Read f) count is =
    inl (answers_unread tells allowed v slot p before after f count (λ t. unread_of v f (is t)), λ t u. lost_of f (unread_narrow v f (is t) u))
wide_unread tells allowed v slot p before after (unread.Underway f narrow_fault) count is =
    inr (metadata_refused tells allowed v slot p before after f count (λ t. (narrow_fault, is t)))

-- ---- the passphrase was read

pub tried_wide : (tells : Type 0) (allowed : Allowed) (v : List ℕ) (slot : Option ℕ) (HasWords : List ℕ → Type 0) (p : List ℕ) (before after : ℕ) (a : Answer) → HasWords p
    → IsWideAnswer tells allowed v slot p before after a
    → (IsTried tells allowed v slot HasWords before after a × (tells → IsUnderWayVolume v → IsLost a)) ⊎ IsTriedUnderway tells allowed v slot HasWords before after a
tried_wide tells allowed v slot HasWords p before after a has (inl x) = inl (record { passphrase = p; words = has; is = x.0 }, x.1)
tried_wide tells allowed v slot HasWords p before after a has (inr x) = inr (record { passphrase = p; words = has; is = x })
