-- Which tokens the metadata has, and what a change of it takes.
use Rattle.std.proofs.Common.{◌≡◌, ℕ, ◌+◌, ◌<◌, ◌≤◌, Option, Some, None, below_more, is_some, sym, subst, ap, ◌∙◌, arith, inl, inr}
use Rattle.std.specs.Prelude.{IsSomeAnd}
use Rattle.std.proofs.lemmas.Bool.{cases_lt, false≢true}
use Rattle.serde_json.specs.Data.{Data as Value}
use Rattle.serde_json.specs.declared.value.Value.{Value as Json}
use Rattle.serde_json.specs.View.{view}
use Rattle.std.specs.Borrow.{Bor}
use Rattle.luks_making.specs.declared.amended.Change.{Change}
use Rattle.luks_making.specs.declared.amended.Change.TheVariants as changes
use Rattle.luks_edit.specs.declared.edit_fault.EditFault.TheVariants as fault
use Rattle.luks2_edit_laws.specs.Metadata.{HasToken, IsFreeToken, IsLeastFreeToken}
use Rattle.luks2_edit_laws.specs.Refused.{HasNoFreeToken, HasNoTokenNumber, IsTokenAt, IsTokenTaken, IsUnreadable, IsUnreadableToken, LacksToken}
use Rattle.luks2_judging.specs.declared.judged.JudgedChange.{JudgedChange}
use Rattle.luks2_judging.specs.declared.judged.JudgedChange.TheVariants as judged
use Rattle.luks2_judging.specs.Changes.{IsChangeFault, IsNewTokenNumber, IsTakenAs, IsTakenChange}

-- ---- number by number

-- no token is there and free
pub token_or_free : (j : Value) (n : ℕ) → HasToken j n → IsFreeToken j n → ⊥
token_or_free j n there free = false≢true (sym (ap is_some free.1) ∙ there.1)

-- the tokens below `m` are there
abbrev pub AllThere : Value → ℕ → Type 0
AllThere j m = (k : ℕ) → k < m → HasToken j k

pub least_of : (j : Value) (n : ℕ) → AllThere j n → IsFreeToken j n → IsLeastFreeToken j n
least_of j n all free = record {
  free = free;
  least = λ m other. elim (cases_lt m n) [ inl before ↦ absurd (token_or_free j m (all m before) other) | inr past ↦ past ];
}

pub none_free : (j : Value) (end : ℕ) → 32 ≤ end → AllThere j end → (n : ℕ) → IsFreeToken j n → ⊥
none_free j end past all n free = let low = free.0 in token_or_free j n (all n (omega (arith, past, low))) free

pub all_more : (j : Value) (n : ℕ) → AllThere j n → HasToken j n → AllThere j (n + 1)
all_more j n all here = below_more (HasToken j) n all here

-- ---- the number of a token that is added

new_untaken : (j : Value) (to : Option ℕ) (n : ℕ) → IsNewTokenNumber j to n → IsTokenAt j to → ⊥
new_untaken j (Some t) n x taken = token_or_free j n (subst (λ k. HasToken j k) (sym x.is_new) taken) x.free
new_untaken j None n x taken = taken

new_numbered : (j : Value) (to : Option ℕ) (n : ℕ) → IsNewTokenNumber j to n → HasNoTokenNumber j to → ⊥
new_numbered j (Some t) n x over = let small = x.free.0 in let same : n ≡ t = x.is_new in omega (arith, small, same, over)
new_numbered j None n x over = over n x.free

-- where there is no number, none is taken
unnumbered_untaken : (j : Value) (to : Option ℕ) → HasNoTokenNumber j to → IsTokenAt j to → ⊥
unnumbered_untaken j (Some t) over taken = let low = taken.0 in omega (arith, low, over)
unnumbered_untaken j None over taken = taken

-- ---- one of the three refusals is at most

lacks_taken : (j : Value) (c : Change) → LacksToken j c → IsTokenTaken j c → ⊥
lacks_taken j (changes.Priority slot priority) x y = x
lacks_taken j (changes.AddToken to token) x y = x
lacks_taken j (changes.RemoveToken number) x y = y

lacks_numbered : (j : Value) (c : Change) → LacksToken j c → HasNoFreeToken j c → ⊥
lacks_numbered j (changes.Priority slot priority) x y = x
lacks_numbered j (changes.AddToken to token) x y = x
lacks_numbered j (changes.RemoveToken number) x y = y

taken_unnumbered : (j : Value) (c : Change) → IsTokenTaken j c → HasNoFreeToken j c → ⊥
taken_unnumbered j (changes.Priority slot priority) x y = x
taken_unnumbered j (changes.AddToken to token) x y = unnumbered_untaken j to y x
taken_unnumbered j (changes.RemoveToken number) x y = x

pub lacks_apart : (j : Value) (o : Option Change) → IsSomeAnd o (LacksToken j) → IsSomeAnd o (IsTokenTaken j) → ⊥
lacks_apart j None x y = x
lacks_apart j (Some c) x y = lacks_taken j c x y

pub lacks_unfree : (j : Value) (o : Option Change) → IsSomeAnd o (LacksToken j) → IsSomeAnd o (HasNoFreeToken j) → ⊥
lacks_unfree j None x y = x
lacks_unfree j (Some c) x y = lacks_numbered j c x y

pub taken_unfree : (j : Value) (o : Option Change) → IsSomeAnd o (IsTokenTaken j) → IsSomeAnd o (HasNoFreeToken j) → ⊥
taken_unfree j None x y = x
taken_unfree j (Some c) x y = taken_unnumbered j c x y

lacks_readable : (j : Value) (c : Change) → LacksToken j c → IsUnreadableToken c → ⊥
lacks_readable j (changes.Priority slot priority) x y = x
lacks_readable j (changes.AddToken to token) x y = x
lacks_readable j (changes.RemoveToken number) x y = y

pub lacks_unread : (j : Value) (o : Option Change) → IsSomeAnd o (LacksToken j) → IsSomeAnd o IsUnreadableToken → ⊥
lacks_unread j None x y = x
lacks_unread j (Some c) x y = lacks_readable j c x y

-- where a token can't be read, none of the others stands
pub unread_is : (j : Value) (o : Option Change) → IsSomeAnd o (λ c. IsChangeFault j c fault.UnreadableToken) → IsSomeAnd o IsUnreadableToken
unread_is j None x = x
unread_is j (Some c) x = x.2

pub unread_untaken : (j : Value) (o : Option Change) → IsSomeAnd o (λ c. IsChangeFault j c fault.UnreadableToken) → IsSomeAnd o (IsTokenTaken j) → ⊥
unread_untaken j None x y = x
unread_untaken j (Some c) x y = x.0 y

pub unread_numbered : (j : Value) (o : Option Change) → IsSomeAnd o (λ c. IsChangeFault j c fault.UnreadableToken) → IsSomeAnd o (HasNoFreeToken j) → ⊥
unread_numbered j None x y = x
unread_numbered j (Some c) x y = x.1 y

-- no other fault is one of a change
pub no_change_fault : (o : Option Change) → IsSomeAnd o (λ c. ⊥) → ⊥
no_change_fault None x = x
no_change_fault (Some c) x = x

-- of a token that has a number it is the fault that it can't be read
pub unreadable_of : (j : Value) (c : Change) (to : Option ℕ) (token : Bor Json) (n : ℕ) → c ≡ changes.AddToken to token → IsNewTokenNumber j to n → IsUnreadable (view token.now)
    → (IsTokenTaken j c → ⊥) × (HasNoFreeToken j c → ⊥) × IsUnreadableToken c
unreadable_of j c to token n is new bad = rw is (new_untaken j to n new, new_numbered j to n new, bad)

-- ---- what is taken is refused by none

there_by : (j : Value) (c : Change) (t : JudgedChange) → IsTakenAs j c t → LacksToken j c → ⊥
there_by j (changes.RemoveToken number) (judged.RemoveToken n) x bad = bad (subst (HasToken j) x.0 x.1)
there_by j (changes.RemoveToken number) (judged.Priority n p) x bad = x
there_by j (changes.RemoveToken number) (judged.AddToken n t) x bad = x
there_by j (changes.Priority slot priority) t x bad = bad
there_by j (changes.AddToken to token) t x bad = bad

untaken_by : (j : Value) (c : Change) (t : JudgedChange) → IsTakenAs j c t → IsTokenTaken j c → ⊥
untaken_by j (changes.AddToken to token) (judged.AddToken n t) x bad = new_untaken j to n x.1 bad
untaken_by j (changes.AddToken to token) (judged.Priority n p) x bad = x
untaken_by j (changes.AddToken to token) (judged.RemoveToken n) x bad = x
untaken_by j (changes.Priority slot priority) t x bad = bad
untaken_by j (changes.RemoveToken number) t x bad = bad

numbered_by : (j : Value) (c : Change) (t : JudgedChange) → IsTakenAs j c t → HasNoFreeToken j c → ⊥
numbered_by j (changes.AddToken to token) (judged.AddToken n t) x bad = new_numbered j to n x.1 bad
numbered_by j (changes.AddToken to token) (judged.Priority n p) x bad = x
numbered_by j (changes.AddToken to token) (judged.RemoveToken n) x bad = x
numbered_by j (changes.Priority slot priority) t x bad = bad
numbered_by j (changes.RemoveToken number) t x bad = bad

readable_by : (j : Value) (c : Change) (t : JudgedChange) → IsTakenAs j c t → IsUnreadableToken c → ⊥
readable_by j (changes.AddToken to token) (judged.AddToken n t) x bad = x.2 bad
readable_by j (changes.AddToken to token) (judged.Priority n p) x bad = x
readable_by j (changes.AddToken to token) (judged.RemoveToken n) x bad = x
readable_by j (changes.Priority slot priority) t x bad = bad
readable_by j (changes.RemoveToken number) t x bad = bad

pub taken_there : (j : Value) (o : Option Change) (t : Option JudgedChange) → IsTakenChange j o t → IsSomeAnd o (LacksToken j) → ⊥
taken_there j None t x bad = bad
taken_there j (Some c) (Some t) x bad = there_by j c t x bad
taken_there j (Some c) None x bad = x

pub taken_untaken : (j : Value) (o : Option Change) (t : Option JudgedChange) → IsTakenChange j o t → IsSomeAnd o (IsTokenTaken j) → ⊥
taken_untaken j None t x bad = bad
taken_untaken j (Some c) (Some t) x bad = untaken_by j c t x bad
taken_untaken j (Some c) None x bad = x

pub taken_numbered : (j : Value) (o : Option Change) (t : Option JudgedChange) → IsTakenChange j o t → IsSomeAnd o (HasNoFreeToken j) → ⊥
taken_numbered j None t x bad = bad
taken_numbered j (Some c) (Some t) x bad = numbered_by j c t x bad
taken_numbered j (Some c) None x bad = x

pub taken_readable : (j : Value) (o : Option Change) (t : Option JudgedChange) → IsTakenChange j o t → IsSomeAnd o IsUnreadableToken → ⊥
taken_readable j None t x bad = bad
taken_readable j (Some c) (Some t) x bad = readable_by j c t x bad
taken_readable j (Some c) None x bad = x
