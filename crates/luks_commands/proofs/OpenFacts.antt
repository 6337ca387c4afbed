-- What `open` answers where nothing is opened.
use Rattle.std.proofs.Common.{◌≡◌, ◌∙◌, ℕ, ◌+◌, List, Option, Some, None, Result, Ok, Err, IfOk, IfErr, inl, inr, refl, subst, sym}
use Rattle.luks_area.specs.Device.{count_after, CountsFailure}
use Rattle.luks_slot.specs.declared.allowed.Allowed.{Allowed}
use Rattle.luks_reading.specs.declared.open_fault.OpenFault.{OpenFault}
use Rattle.luks_reading.specs.declared.open_fault.OpenFault.TheVariants.{Head, Meta, NoSuchSlot, SlotFree, Outside, Slot, Device, Memory}
use Rattle.luks_reading.specs.declared.read_fault.ReadFault.{ReadFault}
use Rattle.luks_reading.specs.declared.read_fault.ReadFault.TheVariants as reading
use Rattle.luks_reading.specs.Answer.{opened_to, refused as refused_by, AnswerWithin as Gives, IsRefusedByWithin}
use Rattle.luks_reading.specs.Conversions.{unread_opened}
use Rattle.luks_reading.specs.Failures.{is_open_failure, is_read_failure}
use Rattle.luks_reading.specs.Header.{IsUnread, NeedsMetadata}
use Rattle.luks_reading.specs.Unlocking.{gives, locked, IsVolumeRefusedBy, UnlockAnswer, Unlocks}
use Rattle.luks_reading.proofs.KeyslotAnswers.{unread_refused}
use Rattle.luks_reading.proofs.VolumeAnswers.{unread_locked}
use Rattle.luks2_header.proofs.ChoiceFacts.{choices_agree}
use Rattle.luks_commands.specs.Answer.{open_fault_answer}
use Rattle.luks_commands.specs.declared.answers.Answer.{Answer}
use Rattle.luks_commands.specs.declared.answers.Answer.TheVariants.{Opens, Closed, NoneOpens, Refused, DeviceFault, NoMemory}
use Rattle.luks_commands.specs.declared.answers.Refusal.TheVariants.{Open}
use Rattle.luks_commands.specs.Searched.{Searches, UnlocksBeside, WithKey}
use Rattle.luks_commands.specs.OpenAnswers.{any_answer, IsAnswerBeside, IsAnyAnswer, IsOneAnswer, IsOpenAnswer, one_answer}

-- a fault of the keyslot that is named
one_fault : (tells : Type 0) (allowed : Allowed) (v : List ℕ) (n : ℕ) (p : List ℕ) (before after : ℕ) (f : OpenFault) → after ≡ count_after (is_open_failure f) before
    → (tells → IsRefusedByWithin allowed v n p f) → IsOneAnswer tells allowed v n p before after (open_fault_answer f)
one_fault tells allowed v n p before after (Head f) count is = (count, is)
one_fault tells allowed v n p before after (Meta f) count is = (count, is)
one_fault tells allowed v n p before after NoSuchSlot count is = (count, is)
one_fault tells allowed v n p before after SlotFree count is = (count, is)
one_fault tells allowed v n p before after Outside count is = (count, is)
one_fault tells allowed v n p before after (Slot f) count is = (count, is)
one_fault tells allowed v n p before after Device count is = count
one_fault tells allowed v n p before after Memory count is = (count, is)

-- and of the volume
any_fault : (tells : Type 0) (allowed : Allowed) (v p : List ℕ) (before after : ℕ) (f : OpenFault) → after ≡ count_after (is_open_failure f) before
    → (tells → IsVolumeRefusedBy v f) → IsAnyAnswer tells allowed v p before after (open_fault_answer f)
any_fault tells allowed v p before after (Head f) count is = (count, is)
any_fault tells allowed v p before after (Meta f) count is = (count, is)
any_fault tells allowed v p before after NoSuchSlot count is = (count, is)
any_fault tells allowed v p before after SlotFree count is = (count, is)
any_fault tells allowed v p before after Outside count is = (count, is)
any_fault tells allowed v p before after (Slot f) count is = (count, is)
any_fault tells allowed v p before after Device count is = inl count
any_fault tells allowed v p before after Memory count is = (count, is)

-- a header that isn't read is answered as its fault
pub answers_unread_header : (tells : Type 0) (allowed : Allowed) (v p : List ℕ) (before after : ℕ) (f : ReadFault) → after ≡ count_after (is_read_failure f) before
    → (tells → IsVolumeRefusedBy v (unread_opened f)) → IsAnyAnswer tells allowed v p before after (open_fault_answer (unread_opened f))
answers_unread_header tells allowed v p before after (reading.Head f) count is = (count, is)
answers_unread_header tells allowed v p before after (reading.Meta f) count is = (count, is)
answers_unread_header tells allowed v p before after reading.Device count is = inl count
answers_unread_header tells allowed v p before after reading.Memory count is = (count, is)

pub one_unread_header : (tells : Type 0) (allowed : Allowed) (v : List ℕ) (n : ℕ) (p : List ℕ) (before after : ℕ) (f : ReadFault) → after ≡ count_after (is_read_failure f) before
    → (tells → IsRefusedByWithin allowed v n p (unread_opened f)) → IsOneAnswer tells allowed v n p before after (open_fault_answer (unread_opened f))
one_unread_header tells allowed v n p before after (reading.Head f) count is = (count, is)
one_unread_header tells allowed v n p before after (reading.Meta f) count is = (count, is)
one_unread_header tells allowed v n p before after reading.Device count is = count
one_unread_header tells allowed v n p before after reading.Memory count is = (count, is)

-- where a keyslot is named, what opening it gave is answered
pub answers_one : (tells : Type 0) (allowed : Allowed) (v : List ℕ) (n : ℕ) (p : List ℕ) (before after : ℕ) (r : Result (Option (List ℕ)) OpenFault)
    → CountsFailure is_open_failure r before after → (tells → IfOk r (λ found. Gives allowed v n p (opened_to found))) → (tells → IfErr r (IsRefusedByWithin allowed v n p))
    → IsOneAnswer tells allowed v n p before after (one_answer n r)
answers_one tells allowed v n p before after (Ok (Some key)) count opens refused = (count, refl, λ t. (key, opens t))
answers_one tells allowed v n p before after (Ok None) count opens refused = (count, refl, opens)
answers_one tells allowed v n p before after (Err f) count opens refused = one_fault tells allowed v n p before after f count refused

-- and where none is, what opening the volume gave
pub answers_any : (tells : Type 0) (allowed : Allowed) (v p : List ℕ) (before after : ℕ) (r : Result (Option (ℕ × List ℕ)) OpenFault)
    → CountsFailure is_open_failure r before after → (tells → IfOk r (Unlocks allowed v p)) → (tells → IfErr r (IsVolumeRefusedBy v))
    → IsAnyAnswer tells allowed v p before after (any_answer r)
answers_any tells allowed v p before after (Ok (Some found)) count opens refused = inl (count, λ t. (found.1, opens t))
answers_any tells allowed v p before after (Ok None) count opens refused = (count, opens)
answers_any tells allowed v p before after (Err f) count opens refused = any_fault tells allowed v p before after f count refused

-- where a call failed, what is answered beside that
pub answers_beside : (tells : Type 0) (allowed : Allowed) (v p : List ℕ) (before mid after : ℕ) (a : Answer) → mid ≡ before + 1
    → IsAnswerBeside tells allowed v p mid after a → IsAnyAnswer tells allowed v p before after a
answers_beside tells allowed v p before mid after (Opens n) count x = inr (subst (λ m. Searches tells allowed v p m after (Some n)) count x)
answers_beside tells allowed v p before mid after DeviceFault count (inl none) = inl (none ∙ count)
answers_beside tells allowed v p before mid after DeviceFault count (inr x) = inr (subst (λ m. Searches tells allowed v p m after None) count x)
answers_beside tells allowed v p before mid after a count x = absurd x

-- what is answered by the volume's header, that was read while its bytes were `v`, is answered of it; `w` are they now
pub answers_header : (tells : Type 0) (is : List ℕ → Type 0) (allowed : Allowed) (v w p : List ℕ) (before after : ℕ) (a : Answer) → (tells → w ≡ v) → (tells → is v)
    → IsAnyAnswer (tells × is w) allowed w p before after a → IsAnyAnswer tells allowed v p before after a
answers_header tells is allowed v w p before after a same read = answered a
  where
    now : tells → tells × is w
    now t = (t, subst is (sym (same t)) (read t))

    searched : (found : Option ℕ) → Searches (tells × is w) allowed w p (before + 1) after found → Searches tells allowed v p (before + 1) after found
    searched found x = record { lost = x.lost; count = x.count; gives = λ t. subst (λ u. WithKey (UnlocksBeside allowed u p x.lost) found) (same t) (x.gives (now t)) }

    answered : (b : Answer) → IsAnyAnswer (tells × is w) allowed w p before after b → IsAnyAnswer tells allowed v p before after b
    answered (Opens n) (inl x) = inl (x.0, λ t. subst (λ u. (key : List ℕ) × UnlockAnswer allowed u p (gives (Some (n, key)))) (same t) (x.1 (now t)))
    answered (Opens n) (inr x) = inr (searched (Some n) x)
    answered NoneOpens x = (x.0, λ t. subst (λ u. UnlockAnswer allowed u p (gives None)) (same t) (x.1 (now t)))
    answered (Refused (Open f)) x = (x.0, λ t. subst (λ u. UnlockAnswer allowed u p (locked f)) (same t) (x.1 (now t)))
    answered DeviceFault (inl x) = inl x
    answered DeviceFault (inr x) = inr (searched None x)
    answered NoMemory x = (x.0, λ t. subst NeedsMetadata (same t) (x.1 (now t)))
    answered b x = absurd x

-- likewise where a keyslot is named
answers_named : (tells : Type 0) (is : List ℕ → Type 0) (allowed : Allowed) (v w : List ℕ) (n : ℕ) (p : List ℕ) (before after : ℕ) (a : Answer) → (tells → w ≡ v) → (tells → is v)
    → IsOneAnswer (tells × is w) allowed w n p before after a → IsOneAnswer tells allowed v n p before after a
answers_named tells is allowed v w n p before after a same read = answered a
  where
    now : tells → tells × is w
    now t = (t, subst is (sym (same t)) (read t))

    answered : (b : Answer) → IsOneAnswer (tells × is w) allowed w n p before after b → IsOneAnswer tells allowed v n p before after b
    answered (Opens m) x = (x.0, x.1, λ t. subst (λ u. (key : List ℕ) × Gives allowed u n p (opened_to (Some key))) (same t) (x.2 (now t)))
    answered (Closed m) x = (x.0, x.1, λ t. subst (λ u. Gives allowed u n p (opened_to None)) (same t) (x.2 (now t)))
    answered (Refused (Open f)) x = (x.0, λ t. subst (λ u. Gives allowed u n p (refused_by f)) (same t) (x.1 (now t)))
    answered DeviceFault x = x
    answered NoMemory x = (x.0, λ t. subst NeedsMetadata (same t) (x.1 (now t)))
    answered b x = absurd x

-- and where one may be
pub answers_narrow : (tells : Type 0) (is : List ℕ → Type 0) (allowed : Allowed) (v w : List ℕ) (slot : Option ℕ) (p : List ℕ) (before after : ℕ) (a : Answer)
    → (tells → w ≡ v) → (tells → is v) → IsOpenAnswer (tells × is w) allowed w slot p before after a → IsOpenAnswer tells allowed v slot p before after a
answers_narrow tells is allowed v w (Some n) p before after a same read x = answers_named tells is allowed v w n p before after a same read x
answers_narrow tells is allowed v w None p before after a same read x = answers_header tells is allowed v w p before after a same read x

-- a header that isn't read is answered as its fault, a keyslot named or none
pub answers_unread : (tells : Type 0) (allowed : Allowed) (v : List ℕ) (slot : Option ℕ) (p : List ℕ) (before after : ℕ) (f : ReadFault)
    → after ≡ count_after (is_read_failure f) before → (tells → IsUnread v f) → IsOpenAnswer tells allowed v slot p before after (open_fault_answer (unread_opened f))
answers_unread tells allowed v (Some n) p before after f count is =
    one_unread_header tells allowed v n p before after f count (λ t. unread_refused allowed v n p f (choices_agree v) (is t))
answers_unread tells allowed v None p before after f count is =
    answers_unread_header tells allowed v p before after f count (λ t. unread_locked v f (choices_agree v) (is t))
