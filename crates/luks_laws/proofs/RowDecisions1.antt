-- What refuses an edit by the entries of a LUKS1 volume: each row stands or doesn't.
use Rattle.std.proofs.Common.{◌≡◌, ℕ, List, length, Option, Some, None, refl, ap, ◌∙◌, arith, inl, inr}
use Rattle.std.specs.Prelude.{MatchOption, false}
use Rattle.std.proofs.lemmas.Bool.{cases_eq}
use Rattle.luks1_header.specs.Header1.{active_word, disabled_word, enabled_word, entry}
use Rattle.luks_edit.specs.declared.edit.Edit.{Edit}
use Rattle.luks_edit.specs.declared.deed.Removed.{Removed}
use Rattle.luks_edit.specs.declared.deed.Rewritten.{Rewritten}
use Rattle.luks_edit.specs.declared.deed.Sealed.{Sealed}
use Rattle.luks_edit.specs.Asked.{removed_by, rewritten_by, sealed_by, sets_uuid_at_most, uuid_by, Wants}
use Rattle.luks_edit.specs.NewUuids.{uuid_need}
use Rattle.luks1_edits.specs.Edited.{IsFree, IsInUse, IsLeastFree, IsNewKeyslot, IsSealedIn, number_asked}
use Rattle.luks1_edits.specs.Refused.{HasNoFree, IsAbsent, IsLabel, IsLast, IsMiscounted, IsTaken, IsTakenFor, keyslot_need, LacksFree, Need1, NeedsFor}
use Rattle.luks_laws.proofs.AskedDecisions.{wanted_decided}
use Rattle.luks_laws.proofs.DecidedFacts.{alike_decided, both_decided, Decided, false_decided, less_decided, not_decided}
use Rattle.luks_laws.proofs.SearchFacts.{least_or_none_below, OneOrNone, other_decided, some_decided, SomeOrNone}

-- ---- keyslots in use and free

-- a keyslot is in use, or it isn't
in_use_decided : (v : List ℕ) (n : ℕ) → Decided (IsInUse v n)
in_use_decided v n = both_decided _ _ (less_decided n 8) (cases_eq (active_word (entry v n)) enabled_word)

-- a keyslot is free, or it isn't
free_decided : (v : List ℕ) (n : ℕ) → Decided (IsFree v n)
free_decided v n = both_decided _ _ (less_decided n 8) (cases_eq (active_word (entry v n)) disabled_word)

-- there is a least keyslot that is free, or none is
least_free : (v : List ℕ) → SomeOrNone ℕ (IsLeastFree v)
least_free v = elim (least_or_none_below (IsFree v) (free_decided v) 8) [
  | inl found ↦ inl (found.0, record { free = found.1; least = found.2 })
  | inr none ↦ inr (λ n x. none n x.free.0 x.free)
]

-- no keyslot is free, or some is
none_free_decided : (v : List ℕ) → Decided ((n : ℕ) → IsFree v n → ⊥)
none_free_decided v = elim (least_or_none_below (IsFree v) (free_decided v) 8) [
  | inl found ↦ inr (λ none. none found.0 found.1)
  | inr none ↦ inl (λ n free. none n free.0 free)
]

-- no keyslot but `slot` is in use, or some is
only_in_use_decided : (v : List ℕ) (slot : ℕ) → Decided ((n : ℕ) → IsInUse v n → n ≡ slot)
only_in_use_decided v slot =
    elim (least_or_none_below (λ n. IsInUse v n × (n ≡ slot → ⊥)) (λ n. both_decided _ _ (in_use_decided v n) (not_decided _ (cases_eq n slot))) 8) [
      | inl other ↦ inr (λ only. other.1.1 (only other.0 other.1.0))
      | inr none ↦ inl (λ n used. elim (cases_eq n slot) [ inl same ↦ same | inr other ↦ absurd (none n used.0 (used, other)) ])
    ]

-- ---- the keyslots that the edit wants and makes

-- a keyslot that it wants isn't in use, or all are
pub absent_decided : (v : List ℕ) (e : Edit) → Decided (IsAbsent v e)
absent_decided v e = alike_decided ((n : ℕ) × Wants e n × (IsInUse v n → ⊥)) (IsAbsent v e)
    (λ x. record { slot = x.0; wanted = x.1; unused = x.2 }) (λ x. (x.slot, x.wanted, x.unused))
    (wanted_decided e (λ n. IsInUse v n → ⊥) (λ n. not_decided (IsInUse v n) (in_use_decided v n)))

-- the number that is asked for is taken, or it isn't
taken_for_decided : (v : List ℕ) (to : Option ℕ) → Decided (IsTakenFor v to)
taken_for_decided v (Some t) = in_use_decided v t
taken_for_decided v None = inr (λ bad. bad)

-- the same of an edit
pub taken_decided : (v : List ℕ) (e : Edit) → Decided (IsTaken v e)
taken_decided v e = some_decided Sealed (sealed_by e) (λ s. IsTakenFor v (number_asked s.place)) (λ s. taken_for_decided v (number_asked s.place))

-- there is no number for a new keyslot, or there is one
lacks_free_decided : (v : List ℕ) (to : Option ℕ) → Decided (LacksFree v to)
lacks_free_decided v (Some t) = less_decided 7 t
lacks_free_decided v None = none_free_decided v

-- the same of an edit
pub no_free_decided : (v : List ℕ) (e : Edit) → Decided (HasNoFree v e)
no_free_decided v e = some_decided Sealed (sealed_by e) (λ s. LacksFree v (number_asked s.place)) (λ s. lacks_free_decided v (number_asked s.place))

-- ---- the rest of the edit

-- it removes the last keyslot, or it doesn't
pub last_decided : (v : List ℕ) (e : Edit) → Decided (IsLast v e)
last_decided v e = some_decided Removed (removed_by e) (λ r. (n : ℕ) → IsInUse v n → n ≡ r.slot) (λ r. only_in_use_decided v r.slot)

-- it sets something beside the uuid, or it doesn't
pub label_decided : (e : Edit) → Decided (IsLabel e)
label_decided e = some_decided Rewritten (rewritten_by e) (λ r. sets_uuid_at_most r ≡ false) (λ r. false_decided (sets_uuid_at_most r))

-- ---- random bytes

-- the number of random bytes for the keyslot of a set of one
need_like : (v : List ℕ) (is_new : ℕ → Type 0) (n : ℕ) → is_new n → ((m : ℕ) → is_new m → m ≡ n) → OneOrNone (NeedsFor v is_new)
need_like v is_new n is only = inl (keyslot_need v n, record { slot = n; is = is; count = refl }, λ k x. x.count ∙ ap (keyslot_need v) (only x.slot x.is))

-- their number for the least free keyslot, or none is free
need_of_free : (v : List ℕ) → OneOrNone (NeedsFor v (IsLeastFree v))
need_of_free v = elim (least_free v) [
  | inl found ↦ need_like v (IsLeastFree v) found.0 found.1
      (λ m x. let low = x.least found.0 found.1.free in let high = found.1.least m x.free in omega (arith, low, high))
  | inr none ↦ inr (λ k x. none x.slot x.is)
]

-- the same of the number that is asked for
need_of_new : (v : List ℕ) (to : Option ℕ) → OneOrNone (NeedsFor v (IsNewKeyslot v to))
need_of_new v (Some t) = need_like v (IsNewKeyslot v (Some t)) t refl (λ m x. x)
need_of_new v None = need_of_free v

-- an edit that seals nothing takes those of its uuid
no_need : (n : ℕ) → OneOrNone (λ k. k ≡ n)
no_need n = inl (n, refl, λ m x. x)

-- an edit takes so many random bytes, or lacks a free keyslot
need_in : (v : List ℕ) (n : ℕ) (o : Option Sealed) → OneOrNone (λ k. MatchOption o (k ≡ n) (λ s. NeedsFor v (IsSealedIn v s) k))
need_in v n None = no_need n
need_in v n (Some s) = need_of_new v (number_asked s.place)

one_need : (v : List ℕ) (e : Edit) → OneOrNone (Need1 v e)
one_need v e = need_in v (uuid_need (uuid_by e)) (sealed_by e)

-- the random bytes aren't as many, or they are
pub miscounted_decided : (v : List ℕ) (e : Edit) (r : List ℕ) → Decided (IsMiscounted v e r)
miscounted_decided v e r = alike_decided ((k : ℕ) × Need1 v e k × (length r ≡ k → ⊥)) (IsMiscounted v e r) (λ x. record { need = x.0; is = x.1; other = x.2 })
    (λ x. (x.need, x.is, x.other)) (other_decided (Need1 v e) (one_need v e) (length r))
