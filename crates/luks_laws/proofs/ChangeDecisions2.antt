-- What refuses a change of the metadata of a LUKS2 volume, and what it makes: each stands or doesn't.
use Rattle.std.proofs.Common.{◌≡◌, ℕ, List, [], Option, Some, None, is_some, refl, ap, subst, inl, inr}
use Rattle.std.specs.Prelude.{IsSomeAnd}
use Rattle.serde_json.specs.Data.{Data as Value, depth}
use Rattle.serde_json.specs.Read.{max_depth}
use Rattle.serde_json.specs.View.{view}
use Rattle.luks_rules.specs.declared.fault.MetaFault.{MetaFault}
use Rattle.luks_rules.specs.declared.fault.MetaFault.TheVariants as meta
use Rattle.luks_rules.specs.declared.table.Outer.TheVariants as outer
use Rattle.luks_rules.specs.declared.table.Section.TheVariants.{Tokens}
use Rattle.luks_rules.specs.Faults.{Among, object_at, type_at}
use Rattle.luks_rules.specs.MetaFault.{meta_key}
use Rattle.luks_rules.specs.Valued.{IsValueFault}
use Rattle.luks_making.specs.Amended.{with_priority, with_token, without_token}
use Rattle.luks_making.specs.declared.amended.Change.{Change}
use Rattle.luks_making.specs.declared.amended.Change.TheVariants as changes
use Rattle.luks_edit.specs.Asked.{AmendsSlot}
use Rattle.luks2_edit_laws.specs.Edited.{HasNewToken, IsAmended}
use Rattle.luks2_edit_laws.specs.Metadata.{HasToken, IsFreeToken, IsLeastFreeToken, IsNewToken}
use Rattle.luks2_edit_laws.specs.Refused.{HasNoFreeToken, HasNoTokenNumber, IsBadToken, IsFaultyWith, IsTokenAt, IsTokenTaken, IsUnreadable, IsUnreadableToken, LacksToken}
use Rattle.luks2_edit_laws.proofs.AmendedFacts.{token_once}
use Rattle.luks_laws.proofs.AskedDecisions.{of_one_decided}
use Rattle.luks_laws.proofs.DecidedFacts.{alike_decided, both_decided, Decided, less_decided, not_decided, one_decided, same_list_decided, true_decided}
use Rattle.luks_laws.proofs.HeaderDecisions2.{data_fault_decided, known_value, meta_candidates}
use Rattle.luks_laws.proofs.MemberDecisions2.{none_decided}
use Rattle.luks_laws.proofs.SearchFacts.{least_or_none_below, some_decided, some_same, SomeOrNone}

-- ---- the keyslot whose priority is set

-- what is decided of each keyslot is decided of it
pub amended_decided : (o : Option Change) (P : ℕ → Type 0) → ((n : ℕ) → Decided (P n)) → Decided ((n : ℕ) × AmendsSlot o n × P n)
amended_decided None P decide = inr (λ x. x.1)
amended_decided (Some (changes.Priority slot priority)) P decide = of_one_decided P decide slot
amended_decided (Some (changes.AddToken to token)) P decide = inr (λ x. x.1)
amended_decided (Some (changes.RemoveToken number)) P decide = inr (λ x. x.1)

-- ---- tokens that are there, and numbers that are free

-- a token is there, or it isn't
token_decided : (j : Value) (n : ℕ) → Decided (HasToken j n)
token_decided j n = both_decided _ _ (less_decided n 32) (true_decided (is_some (object_at j Tokens n)))

-- a number is free, or it isn't
free_decided : (j : Value) (n : ℕ) → Decided (IsFreeToken j n)
free_decided j n = both_decided _ _ (less_decided n 32) (none_decided (object_at j Tokens n))

-- there is a least number that is free, or none is
least_free : (j : Value) → SomeOrNone ℕ (IsLeastFreeToken j)
least_free j = elim (least_or_none_below (IsFreeToken j) (free_decided j) 32) [
  | inl found ↦ inl (found.0, record { free = found.1; least = found.2 })
  | inr none ↦ inr (λ n x. none n x.free.0 x.free)
]

-- no number is free, or some is
none_free_decided : (j : Value) → Decided ((n : ℕ) → IsFreeToken j n → ⊥)
none_free_decided j = elim (least_or_none_below (IsFreeToken j) (free_decided j) 32) [
  | inl found ↦ inr (λ none. none found.0 found.1)
  | inr none ↦ inl (λ n free. none n free.0 free)
]

-- the number of a token that is added
new_number : (j : Value) (to : Option ℕ) → SomeOrNone ℕ (IsNewToken j to)
new_number j (Some t) = inl (t, refl)
new_number j None = least_free j

-- ---- what refuses the change

lacks_decided : (j : Value) (c : Change) → Decided (LacksToken j c)
lacks_decided j (changes.Priority slot priority) = inr (λ bad. bad)
lacks_decided j (changes.AddToken to token) = inr (λ bad. bad)
lacks_decided j (changes.RemoveToken number) = not_decided _ (token_decided j number)

at_decided : (j : Value) (to : Option ℕ) → Decided (IsTokenAt j to)
at_decided j (Some t) = token_decided j t
at_decided j None = inr (λ bad. bad)

taken_decided : (j : Value) (c : Change) → Decided (IsTokenTaken j c)
taken_decided j (changes.Priority slot priority) = inr (λ bad. bad)
taken_decided j (changes.AddToken to token) = at_decided j to
taken_decided j (changes.RemoveToken number) = inr (λ bad. bad)

no_number_decided : (j : Value) (to : Option ℕ) → Decided (HasNoTokenNumber j to)
no_number_decided j (Some t) = less_decided 31 t
no_number_decided j None = none_free_decided j

no_free_decided : (j : Value) (c : Change) → Decided (HasNoFreeToken j c)
no_free_decided j (changes.Priority slot priority) = inr (λ bad. bad)
no_free_decided j (changes.AddToken to token) = no_number_decided j to
no_free_decided j (changes.RemoveToken number) = inr (λ bad. bad)

-- it is the empty text, or it isn't
empty_decided : (o : Option (List ℕ)) → Decided (o ≡ Some [])
empty_decided None = inr (λ same. cc)
empty_decided (Some t) = alike_decided (t ≡ []) (Some t ≡ Some []) (λ same. ap Some same) (λ same. some_same t [] same) (same_list_decided t [])

unreadable_decided : (token : Value) → Decided (IsUnreadable token)
unreadable_decided token = one_decided _ _ (empty_decided (type_at token outer.Top)) (less_decided 29 (depth token))

unread_decided : (c : Change) → Decided (IsUnreadableToken c)
unread_decided (changes.Priority slot priority) = inr (λ bad. bad)
unread_decided (changes.AddToken to token) = unreadable_decided (view token.now)
unread_decided (changes.RemoveToken number) = inr (λ bad. bad)

-- ---- a fault of the metadata with a token

value_fault_decided : (len : ℕ) (j : Value) (f : MetaFault) → Decided (IsValueFault len j f)
value_fault_decided len j meta.BadJson = less_decided max_depth (depth j)
value_fault_decided len j f = data_fault_decided len j f

-- by its number, which is one
faulty_decided : (len : ℕ) (j : Value) (to : Option ℕ) (token : Value) (f : MetaFault) → Decided (IsFaultyWith len j to token f)
faulty_decided len j to token f = elim (new_number j to) [
  | inl n ↦ alike_decided (IsValueFault len (with_token n.0 token j) f) (IsFaultyWith len j to token f)
      (λ x. record { number = n.0; is_new = n.1; fault = x })
      (λ x. subst (λ m. IsValueFault len (with_token m token j) f) (token_once j to x.number n.0 x.is_new n.1) x.fault)
      (value_fault_decided len (with_token n.0 token j) f)
  | inr none ↦ inr (λ x. none x.number x.is_new)
]

bad_decided : (len : ℕ) (j : Value) (f : MetaFault) (c : Change) → Decided (IsBadToken len j f c)
bad_decided len j f (changes.Priority slot priority) = inr (λ bad. bad)
bad_decided len j f (changes.AddToken to token) = faulty_decided len j to (view token.now) f
bad_decided len j f (changes.RemoveToken number) = inr (λ bad. bad)

-- a candidate stands with the same key
pub known_token : (len : ℕ) (j : Value) (f : MetaFault) (o : Option Change) → IsSomeAnd o (IsBadToken len j f)
    → (g : MetaFault) × Among g meta_candidates × IsSomeAnd o (IsBadToken len j g) × (meta_key g ≡ meta_key f)
known_token len j f None bad = absurd bad
known_token len j f (Some (changes.Priority slot priority)) bad = absurd bad
known_token len j f (Some (changes.RemoveToken number)) bad = absurd bad
known_token len j f (Some (changes.AddToken to token)) bad =
    let x = known_value len (with_token bad.number (view token.now) j) f bad.fault in
    (x.0, x.1, record { number = bad.number; is_new = bad.is_new; fault = x.2 }, x.3)

-- ---- the same of an edit's change, if there is one

pub some_lacks_decided : (j : Value) (o : Option Change) → Decided (IsSomeAnd o (LacksToken j))
some_lacks_decided j o = some_decided Change o (LacksToken j) (lacks_decided j)

pub some_taken_decided : (j : Value) (o : Option Change) → Decided (IsSomeAnd o (IsTokenTaken j))
some_taken_decided j o = some_decided Change o (IsTokenTaken j) (taken_decided j)

pub some_no_free_decided : (j : Value) (o : Option Change) → Decided (IsSomeAnd o (HasNoFreeToken j))
some_no_free_decided j o = some_decided Change o (HasNoFreeToken j) (no_free_decided j)

pub some_unread_decided : (o : Option Change) → Decided (IsSomeAnd o IsUnreadableToken)
some_unread_decided o = some_decided Change o IsUnreadableToken unread_decided

pub some_bad_decided : (len : ℕ) (j : Value) (f : MetaFault) (o : Option Change) → Decided (IsSomeAnd o (IsBadToken len j f))
some_bad_decided len j f o = some_decided Change o (IsBadToken len j f) (bad_decided len j f)

-- ---- what the change makes

added_or_none : (j : Value) (to : Option ℕ) (token : Value) → SomeOrNone Value (HasNewToken to token j)
added_or_none j to token = elim (new_number j to) [
  | inl n ↦ inl (with_token n.0 token j, record { number = n.0; is_new = n.1; is = refl })
  | inr none ↦ inr (λ k x. none x.number x.is_new)
]

pub amended_or_none : (j : Value) (o : Option Change) → SomeOrNone Value (IsAmended o j)
amended_or_none j None = inl (j, refl)
amended_or_none j (Some (changes.Priority slot priority)) = inl (with_priority slot priority j, refl)
amended_or_none j (Some (changes.AddToken to token)) = added_or_none j to (view token.now)
amended_or_none j (Some (changes.RemoveToken number)) = inl (without_token number j, refl)
