-- The metadata that a change makes is what the edit makes, and its faults are those of the edit.
use Rattle.std.proofs.Common.{◌≡◌, ◌≢◌, ℕ, Option, Some, None, IfErr, IfOk, IfSome, Result, sym, subst, ◌∙◌, ap}
use Rattle.std.specs.Prelude.{IsSomeAnd}
use Rattle.std.specs.Borrow.{Bor}
use Rattle.serde_json.specs.Data.{Data as Value}
use Rattle.serde_json.specs.declared.value.Value.{Value as TheValue}
use Rattle.serde_json.specs.View.{view}
use Rattle.luks_area.specs.First.{IsLeast}
use Rattle.luks_rules.specs.declared.fault.MetaFault.{MetaFault}
use Rattle.luks_rules.specs.declared.fault.MetaFault.TheVariants as unread
use Rattle.luks_rules.specs.MetaFault.{meta_key}
use Rattle.luks_rules.specs.Held.{IsHeld}
use Rattle.luks_rules.specs.Valued.{IsValueFault}
use Rattle.luks_making.specs.Amended.{with_priority, with_token, without_token}
use Rattle.luks_making.specs.declared.amended.Change.{Change}
use Rattle.luks_making.specs.declared.amended.Priority.{Priority}
use Rattle.luks_making.specs.declared.amended.Change.TheVariants as changes
use Rattle.luks_meta.specs.declared.meta.Meta.{Meta}
use Rattle.luks_meta.specs.Content.{content}
use Rattle.luks_edit.specs.declared.edit_fault.EditFault.{EditFault}
use Rattle.luks2_edit_laws.specs.Edited.{IsAmended}
use Rattle.luks2_edit_laws.specs.Refused.{IsBadToken}
use Rattle.luks2_edit_laws.proofs.AmendedFacts.{token_once}
use Rattle.luks2_edit_laws.proofs.ValuedFacts.{held_valued}
use Rattle.luks2_judging.specs.declared.judged.JudgedChange.{JudgedChange}
use Rattle.luks2_judging.specs.declared.judged.JudgedChange.TheVariants as judged
use Rattle.luks2_judging.specs.Changes.{IsTakenAs, IsTakenChange}
use Rattle.luks2_editing.specs.Amending.{HasMadeFault, IsChangedBy, IsFaultOf, IsNumbered, IsUnmade}
use Rattle.luks2_editing.specs.Amending.{token_fault as fault_by}

-- the number of what is taken is one
numbered_as : (j : Value) (c : Change) (t : JudgedChange) → IsTakenAs j c t → IsNumbered t
numbered_as j (changes.Priority slot priority) (judged.Priority n p) x = x.2.0
numbered_as j (changes.AddToken to token) (judged.AddToken n t) x = x.1.free.0
numbered_as j (changes.RemoveToken number) (judged.RemoveToken n) x = x.1.0
numbered_as j (changes.Priority slot priority) (judged.AddToken n t) x = absurd x
numbered_as j (changes.Priority slot priority) (judged.RemoveToken n) x = absurd x
numbered_as j (changes.AddToken to token) (judged.Priority n p) x = absurd x
numbered_as j (changes.AddToken to token) (judged.RemoveToken n) x = absurd x
numbered_as j (changes.RemoveToken number) (judged.Priority n p) x = absurd x
numbered_as j (changes.RemoveToken number) (judged.AddToken n t) x = absurd x

pub taken_numbered : (j : Value) (o : Option Change) (t : Option JudgedChange) → IsTakenChange j o t → IfSome t IsNumbered
taken_numbered j o None x = tt
taken_numbered j (Some c) (Some t) x = numbered_as j c t x
taken_numbered j None (Some t) x = absurd x

-- what is made is what the edit makes
amended_as : (j k : Value) (c : Change) (t : JudgedChange) → IsTakenAs j c t → IsChangedBy (Some t) j k → IsAmended (Some c) j k
amended_as j k (changes.Priority slot priority) (judged.Priority n p) x made = made ∙ ap (λ m. with_priority m p j) x.0 ∙ ap (λ q. with_priority slot q j) x.1
amended_as j k (changes.AddToken to token) (judged.AddToken n t) x made =
    record { number = n; is_new = x.1.is_new; is = made ∙ ap (λ u. with_token n (view u.now) j) x.0 }
amended_as j k (changes.RemoveToken number) (judged.RemoveToken n) x made = made ∙ ap (λ m. without_token m j) x.0
amended_as j k (changes.Priority slot priority) (judged.AddToken n t) x made = absurd x
amended_as j k (changes.Priority slot priority) (judged.RemoveToken n) x made = absurd x
amended_as j k (changes.AddToken to token) (judged.Priority n p) x made = absurd x
amended_as j k (changes.AddToken to token) (judged.RemoveToken n) x made = absurd x
amended_as j k (changes.RemoveToken number) (judged.Priority n p) x made = absurd x
amended_as j k (changes.RemoveToken number) (judged.AddToken n t) x made = absurd x

pub amended_by : (j k : Value) (o : Option Change) (t : Option JudgedChange) → IsTakenChange j o t → IsChangedBy t j k → IsAmended o j k
amended_by j k None None x made = made
amended_by j k (Some c) (Some t) x made = amended_as j k c t x made
amended_by j k None (Some t) x made = absurd x
amended_by j k (Some c) None x made = absurd x

-- its faults are those of the edit
fault_as : (len : ℕ) (j : Value) (f : MetaFault) (c : Change) (t : JudgedChange) → IsTakenAs j c t → IsBadToken len j f c → HasMadeFault len j (Some t) f
fault_as len j f (changes.AddToken to token) (judged.AddToken n t) x bad =
    subst (λ u. IsValueFault len (with_token n (view u.now) j) f) (sym x.0)
    (subst (λ m. IsValueFault len (with_token m (view token.now) j) f) (token_once j to bad.number n bad.is_new x.1.is_new) bad.fault)
fault_as len j f (changes.AddToken to token) (judged.Priority n p) x bad = absurd x
fault_as len j f (changes.AddToken to token) (judged.RemoveToken n) x bad = absurd x
fault_as len j f (changes.Priority slot priority) t x bad = absurd bad
fault_as len j f (changes.RemoveToken number) t x bad = absurd bad

pub made_fault : (len : ℕ) (j : Value) (f : MetaFault) (o : Option Change) (t : Option JudgedChange) → IsTakenChange j o t → IsSomeAnd o (IsBadToken len j f) → HasMadeFault len j t f
made_fault len j f None t x bad = absurd bad
made_fault len j f (Some c) (Some t) x bad = fault_as len j f c t x bad
made_fault len j f (Some c) None x bad = absurd x

token_fault_as : (len : ℕ) (j : Value) (f : MetaFault) (c : Change) (t : JudgedChange) → IsTakenAs j c t → HasMadeFault len j (Some t) f → IsBadToken len j f c
token_fault_as len j f (changes.AddToken to token) (judged.AddToken n t) x bad =
    record { number = n; is_new = x.1.is_new; fault = subst (λ u. IsValueFault len (with_token n (view u.now) j) f) x.0 bad }
token_fault_as len j f (changes.AddToken to token) (judged.Priority n p) x bad = absurd x
token_fault_as len j f (changes.AddToken to token) (judged.RemoveToken n) x bad = absurd x
token_fault_as len j f (changes.Priority slot priority) (judged.AddToken n t) x bad = absurd x
token_fault_as len j f (changes.Priority slot priority) (judged.Priority n p) x bad = absurd bad
token_fault_as len j f (changes.Priority slot priority) (judged.RemoveToken n) x bad = absurd bad
token_fault_as len j f (changes.RemoveToken number) (judged.AddToken n t) x bad = absurd x
token_fault_as len j f (changes.RemoveToken number) (judged.Priority n p) x bad = absurd bad
token_fault_as len j f (changes.RemoveToken number) (judged.RemoveToken n) x bad = absurd bad

pub token_fault : (len : ℕ) (j : Value) (f : MetaFault) (o : Option Change) (t : Option JudgedChange) → IsTakenChange j o t → HasMadeFault len j t f → IsSomeAnd o (IsBadToken len j f)
token_fault len j f o None x bad = absurd bad
token_fault len j f (Some c) (Some t) x bad = token_fault_as len j f c t x bad
token_fault len j f None (Some t) x bad = absurd x

-- metadata that is held has no fault
pub unfaulted : (len : ℕ) (j k : Value) (t : Option JudgedChange) → IsChangedBy t j k → IsHeld len k → (f : MetaFault) → HasMadeFault len j t f → ⊥
unfaulted len j k None made held f bad = bad
unfaulted len j k (Some (judged.AddToken number token)) made held f bad = held_valued len (with_token number (view token.now) j) (subst (IsHeld len) made held) f bad
unfaulted len j k (Some (judged.Priority slot priority)) made held f bad = bad
unfaulted len j k (Some (judged.RemoveToken number)) made held f bad = bad

-- the first fault is answered as one of the token
pub fault_of_token : (faults : MetaFault → Type 0) (f : MetaFault) → (f ≢ unread.Memory → IsLeast meta_key faults f) → IsFaultOf faults (fault_by f)
fault_of_token faults unread.Memory least = tt
fault_of_token faults f least = least (λ same. cc)

-- what is made by each change is made by it
pub prioritized_by : (o : Option JudgedChange) (slot : ℕ) (priority : Priority) (j : Value) (r : Result Meta EditFault) → o ≡ Some (judged.Priority slot priority)
    → IfOk r (λ m. content m ≡ with_priority slot priority j) → IfOk r (λ m. IsChangedBy o j (content m))
prioritized_by o slot priority j r is x = rw is x

pub token_by : (o : Option JudgedChange) (n : ℕ) (token : Bor TheValue) (j : Value) (r : Result Meta EditFault) → o ≡ Some (judged.AddToken n token)
    → IfOk r (λ m. content m ≡ with_token n (view token.now) j) → IfOk r (λ m. IsChangedBy o j (content m))
token_by o n token j r is x = rw is x

pub unmade_by : (o : Option JudgedChange) (n : ℕ) (token : Bor TheValue) (len : ℕ) (j : Value) (r : Result Meta EditFault) → o ≡ Some (judged.AddToken n token)
    → IfErr r (IsFaultOf (IsValueFault len (with_token n (view token.now) j))) → IfErr r (IsUnmade len j o)
unmade_by o n token len j r is x = rw is x
