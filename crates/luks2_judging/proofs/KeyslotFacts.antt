-- Which keyslots the metadata has, number by number.
use Rattle.std.proofs.Common.{◌≡◌, ◌⊎◌, ℕ, ◌+◌, ◌^◌, ◌<◌, ◌≤◌, length, Option, Some, None, below_more, refl, sym, subst, ap, ◌∙◌, arith, inl, inr, is_some, IfSome, Result, Ok, Err}
use Rattle.std.proofs.lemmas.Bool.{cases_Bool, cases_lt, false≢true}
use Rattle.std.proofs.lemmas.Option.{same_Some}
use Rattle.serde_json.specs.Data.{Data as Value}
use Rattle.luks_rules.specs.declared.table.Section.TheVariants.{Keyslots}
use Rattle.luks_rules.specs.Faults.{object_at}
use Rattle.luks_making.specs.Conditions.{IsFree}
use Rattle.luks_making.specs.declared.amended.Change.{Change}
use Rattle.luks_making.specs.declared.amended.Change.TheVariants as changes
use Rattle.luks_making.specs.declared.amended.Priority.{Priority}
use Rattle.luks_edit.specs.declared.edit.Edit.{Edit}
use Rattle.luks_edit.specs.declared.edit.Edit.TheVariants.{Add, AddByKey, Change as ChangeKey, Remove, Erase, Repair, Label, Uuid, Amend}
use Rattle.luks_edit.specs.declared.edit.Opener.{Opener}
use Rattle.luks_edit.specs.declared.edit.Opener.TheVariants as opener
use Rattle.luks_edit.specs.declared.edit.Secret.{Secret}
use Rattle.luks_edit.specs.declared.edit.SecretKind.{SecretKind}
use Rattle.luks_edit.specs.declared.edit.SecretKind.TheVariants.{Passphrase, Key}
use Rattle.luks_edit.specs.declared.edit_fault.EditFault.{EditFault}
use Rattle.luks_edit.specs.declared.deed.Deed.TheVariants as deed
use Rattle.luks_edit.specs.declared.deed.Removed.{Removed}
use Rattle.luks_edit.specs.declared.deed.Rewritten.{Rewritten}
use Rattle.luks_edit.specs.declared.deed.Sealed.{Sealed}
use Rattle.luks_edit.specs.Asked.{AreShortIn, bytes_of, deed_of, HasShortPassphrases, MatchOpener, NamesItself, opener_at, opener_in, opener_of, remover_by, remover_of, Wants}
use Rattle.luks2_edit_laws.specs.declared.like.Like.{Like}
use Rattle.luks2_edit_laws.specs.declared.like.Like.TheVariants as made_like
use Rattle.luks2_edit_laws.specs.Likes.{IsLike}
use Rattle.luks2_edit_laws.specs.Metadata.{IsInUse, IsLeastFree}
use Rattle.luks2_edit_laws.specs.Refused.{IsAbsent}
use Rattle.luks2_edit_laws.proofs.LikeFacts.{model_by_key, IsModel}
use Rattle.luks2_judging.specs.Changes.{HasPriorityThere}
use Rattle.luks2_judging.specs.Judged.{IsAbsentAmended, IsUnusable, IsUsable, Judges}
use Rattle.luks2_judging.specs.Keys.{IsThereLike}
use Rattle.luks2_judging.specs.Room.{IsSealableLike}

-- no keyslot is there and free
pub used_or_free : (j : Value) (n : ℕ) → IsInUse j n → IsFree j n → ⊥
used_or_free j n used free = false≢true (sym (ap is_some free.free) ∙ used.1)

-- the keyslots below `m` are there
abbrev pub AllInUse : Value → ℕ → Type 0
AllInUse j m = (k : ℕ) → k < m → IsInUse j k

pub least_of : (j : Value) (n : ℕ) → AllInUse j n → IsFree j n → IsLeastFree j n
least_of j n all free = record {
  free = free;
  least = λ m other. elim (cases_lt m n) [ inl before ↦ absurd (used_or_free j m (all m before) other) | inr past ↦ past ];
}

pub none_free : (j : Value) (end : ℕ) → 32 ≤ end → AllInUse j end → (n : ℕ) → IsFree j n → ⊥
none_free j end past all n free = let low = free.small in used_or_free j n (all n (omega (arith, past, low))) free

pub all_more : (j : Value) (n : ℕ) → AllInUse j n → IsInUse j n → AllInUse j (n + 1)
all_more j n all here = below_more (IsInUse j) n all here

in_use_or_not : (j : Value) (n : ℕ) → IsInUse j n ⊎ (IsInUse j n → ⊥)
in_use_or_not j n =
    elim (cases_lt n 32) [
      | inl lt ↦ (elim (cases_Bool (is_some (object_at j Keyslots n))) [
        | inl there ↦ inl (lt, there)
        | inr not ↦ inr (λ used. false≢true (sym not ∙ used.1))
      ])
      | inr past ↦ inr (λ used. (let low = used.0 in omega (arith, past, low)))
    ]

-- of an opener the keyslot, if it is of one
abbrev slot_in : Opener → ℕ
slot_in (opener.Keyslot slot secret) = slot
slot_in (opener.Key key) = 0

remover_slot : (slot n : ℕ) (kind : SecretKind) (secret it : Secret) → Some (remover_by slot kind secret) ≡ Some (opener.Keyslot n it) → n ≡ slot
remover_slot slot n Passphrase secret it same = sym (ap slot_in (same_Some (opener.Keyslot slot secret) (opener.Keyslot n it) same))
remover_slot slot n Key secret it same = absurd (cc)

remover_other : (slot n : ℕ) (by_ : Option ℕ) (secret it : Secret) → Some (remover_of slot by_ secret) ≡ Some (opener.Keyslot n it) → n ≡ opener_of slot by_
remover_other slot n None secret it same = remover_slot slot n secret.kind secret it same
remover_other slot n (Some other) secret it same = sym (ap slot_in (same_Some (opener.Keyslot other secret) (opener.Keyslot n it) same))

-- an edit wants the keyslot that it opens
pub opener_wanted : (e : Edit) (n : ℕ) (secret : Secret) → opener_in (deed_of e) ≡ Some (opener.Keyslot n secret) → Wants e n
opener_wanted (Add by_ old new to iterations chosen) n secret asked = sym (ap slot_in (same_Some (opener.Keyslot by_ old) (opener.Keyslot n secret) asked))
opener_wanted (AddByKey key new to iterations chosen) n secret asked = absurd (cc)
opener_wanted (ChangeKey slot old new iterations chosen) n secret asked = sym (ap slot_in (same_Some (opener.Keyslot slot old) (opener.Keyslot n secret) asked))
opener_wanted (Remove slot by_ own) n secret asked = inl (remover_other slot n by_ own secret asked)
opener_wanted Erase n secret asked = absurd (cc)
opener_wanted Repair n secret asked = absurd (cc)
opener_wanted (Label text subsystem) n secret asked = absurd (cc)
opener_wanted (Uuid uuid) n secret asked = absurd (cc)
opener_wanted (Amend c) n secret asked = absurd (cc)

-- one that needs no key wants none
pub none_wanted : (e : Edit) → opener_in (deed_of e) ≡ None → (n : ℕ) → Wants e n → ⊥
none_wanted (Add by_ old new to iterations chosen) none n wanted = absurd (cc)
none_wanted (AddByKey key new to iterations chosen) none n wanted = wanted
none_wanted (ChangeKey slot old new iterations chosen) none n wanted = absurd (cc)
none_wanted (Remove slot by_ own) none n wanted = absurd (cc)
none_wanted Erase none n wanted = wanted
none_wanted Repair none n wanted = wanted
none_wanted (Label text subsystem) none n wanted = wanted
none_wanted (Uuid uuid) none n wanted = wanted
none_wanted (Amend c) none n wanted = wanted

-- a keyslot that isn't missed is there
wanted_used : (j : Value) (e : Edit) (n : ℕ) → Wants e n → (IsAbsent j e → ⊥) → IsInUse j n
wanted_used j e n wanted there = elim (in_use_or_not j n) [
  | inl used ↦ used
  | inr unused ↦ absurd (there (record { slot = n; wanted = inl wanted; unused = unused }))
]

pub used_of : (j : Value) (e : Edit) (n : ℕ) (secret : Secret) → opener_in (deed_of e) ≡ Some (opener.Keyslot n secret) → (IsAbsent j e → ⊥) → IsInUse j n
used_of j e n secret asked there = wanted_used j e n (opener_wanted e n secret asked) there

-- so the opener can be asked
pub usable_of : (j : Value) (e : Edit) (o : Opener) → opener_in (deed_of e) ≡ Some o → (IsAbsent j e → ⊥) → IsUsable j o
usable_of j e (opener.Keyslot slot secret) asked there = used_of j e slot secret asked there
usable_of j e (opener.Key key) asked there = tt

-- where it can't its keyslot is missed
pub absent_of : (j : Value) (e : Edit) (o : Opener) → opener_in (deed_of e) ≡ Some o → IsUnusable j o → IsAbsent j e
absent_of j e (opener.Keyslot slot secret) asked unused = record { slot = slot; wanted = inl (opener_wanted e slot secret asked); unused = unused }
absent_of j e (opener.Key key) asked unused = absurd unused

-- what gives the key that an edit seals, and what does for one that removes a keyslot
pub sealed_opens : (e : Edit) (s : Sealed) → deed_of e ≡ deed.Seal s → opener_in (deed_of e) ≡ Some (opener_at s.place)
sealed_opens e s is = ap opener_in is

pub removed_opens : (e : Edit) (d : Removed) → deed_of e ≡ deed.Remove d → opener_in (deed_of e) ≡ Some (remover_of d.slot d.by_ d.secret)
removed_opens e d is = ap opener_in is

-- and it wants the one that it removes
pub removed_wanted : (e : Edit) (d : Removed) → deed_of e ≡ deed.Remove d → Wants e d.slot
removed_wanted e d is = rw is (inr refl)

-- so that one is there, where it isn't missed
pub removed_used : (j : Value) (e : Edit) (d : Removed) → deed_of e ≡ deed.Remove d → (IsAbsent j e → ⊥) → IsInUse j d.slot
removed_used j e d is there = wanted_used j e d.slot (removed_wanted e d is) there

-- their secrets are short where all of the edit's are
pub sealed_short : (e : Edit) (s : Sealed) → deed_of e ≡ deed.Seal s → HasShortPassphrases e → length (bytes_of (opener_at s.place)) < 2 ^ 32
sealed_short e s is x = (subst AreShortIn is x).0

pub removed_short : (e : Edit) (d : Removed) → deed_of e ≡ deed.Remove d → HasShortPassphrases e → length (bytes_of (remover_of d.slot d.by_ d.secret)) < 2 ^ 32
removed_short e d is x = subst AreShortIn is x

-- an edit names itself where the keyslot that is to open is the one that it removes
pub itself_is : (e : Edit) (d : Removed) → deed_of e ≡ deed.Remove d → d.by_ ≡ Some d.slot → NamesItself e
itself_is e d is same = rw is same

pub itself_only : (e : Edit) (d : Removed) → deed_of e ≡ deed.Remove d → NamesItself e → d.by_ ≡ Some d.slot
itself_only e d is same = rw is at same

pub sealing_apart : (e : Edit) (s : Sealed) → deed_of e ≡ deed.Seal s → NamesItself e → ⊥
sealing_apart e s is same = rw is at same

pub rewriting_apart : (e : Edit) (r : Rewritten) → deed_of e ≡ deed.Rewrite r → NamesItself e → ⊥
rewriting_apart e r is same = rw is at same

pub erasing_apart : (e : Edit) → deed_of e ≡ deed.Erase → NamesItself e → ⊥
erasing_apart e is same = rw is at same

-- no keyslot is missed by an edit where that of its opener is there, and the one that it removes
opener_used : (j : Value) (o : Opener) (n : ℕ) → IsUsable j o → MatchOpener o (λ slot secret. n ≡ slot) (λ key. ⊥) → IsInUse j n
opener_used j (opener.Keyslot slot secret) n used same = subst (λ m. IsInUse j m) (sym same) used
opener_used j (opener.Key key) n used same = absurd same

-- the keyslot that removes another is that of the opener, or by the volume key the removed one
remover_used : (j : Value) (slot : ℕ) (by_ : Option ℕ) (secret : Secret) → IsInUse j slot → IsUsable j (remover_of slot by_ secret) → IsInUse j (opener_of slot by_)
remover_used j slot None secret here used = here
remover_used j slot (Some other) secret here used = used

module _ (j : Value) (e : Edit) where
  pub removal_there : (d : Removed) → deed_of e ≡ deed.Remove d → IsUsable j (remover_of d.slot d.by_ d.secret) → IsInUse j d.slot → IsAbsent j e → ⊥
  removal_there d is usable here absent = elim (rw is at absent.wanted) [
    | inl wanted ↦ elim wanted [
      | inl opener_ ↦ absent.unused (subst (λ n. IsInUse j n) (sym opener_) (remover_used j d.slot d.by_ d.secret here usable))
      | inr removed ↦ absent.unused (subst (λ n. IsInUse j n) (sym removed) here)
    ]
    | inr amended ↦ absurd amended
  ]

  pub sealing_there : (s : Sealed) → deed_of e ≡ deed.Seal s → IsUsable j (opener_at s.place) → IsAbsent j e → ⊥
  sealing_there s is usable absent = elim (rw is at absent.wanted) [
    | inl wanted ↦ absent.unused (opener_used j (opener_at s.place) absent.slot usable wanted)
    | inr amended ↦ absurd amended
  ]

  -- nor by one that erases all
  pub erasing_there : deed_of e ≡ deed.Erase → IsAbsent j e → ⊥
  erasing_there is absent = elim (rw is at absent.wanted) [ inl wanted ↦ absurd wanted | inr amended ↦ absurd amended ]

-- one that writes the header anew misses the keyslot whose priority it sets, or none
pub rewriting_there : (j : Value) (e : Edit) (r : Rewritten) → deed_of e ≡ deed.Rewrite r → IsAbsent j e → IsAbsentAmended j r.change
rewriting_there j e r is absent = elim (rw is at absent.wanted) [
  | inl wanted ↦ absurd wanted
  | inr amended ↦ record { slot = absent.slot; amends = amended; unused = absent.unused }
]

pub rewriting_absent : (j : Value) (e : Edit) (r : Rewritten) → deed_of e ≡ deed.Rewrite r → IsAbsentAmended j r.change → IsAbsent j e
rewriting_absent j e r is absent = record { slot = absent.slot; wanted = inr (rw is absent.amends); unused = absent.unused }

-- a keyslot that isn't missed is there
amends_there : (j : Value) (o : Option Change) → (IsAbsentAmended j o → ⊥) → IfSome o (HasPriorityThere j)
amends_there j None there = tt
amends_there j (Some (changes.Priority slot priority)) there = elim (in_use_or_not j slot) [
  | inl used ↦ used
  | inr unused ↦ absurd (there (record { slot = slot; amends = refl; unused = unused }))
]
amends_there j (Some (changes.AddToken to token)) there = tt
amends_there j (Some (changes.RemoveToken number)) there = tt

pub amended_there : (j : Value) (e : Edit) (r : Rewritten) → deed_of e ≡ deed.Rewrite r → (IsAbsent j e → ⊥) → IfSome r.change (HasPriorityThere j)
amended_there j e r is there = amends_there j r.change (λ absent. there (rewriting_absent j e r is absent))

-- and one that is there isn't missed
pub priority_there : (j : Value) (slot : ℕ) (priority : Priority) → IsInUse j slot → IsAbsentAmended j (Some (changes.Priority slot priority)) → ⊥
priority_there j slot priority used absent = absent.unused (subst (λ n. IsInUse j n) (sym absent.amends) used)

-- a row is judged alike by an equivalent fact
pub judged_as : (A P Q : Type 0) (row : EditFault) → (P → Q) → (Q → P) → (r : Result A EditFault) → Judges P row r → Judges Q row r
judged_as A P Q row to from (Ok x) not = λ q. not (from q)
judged_as A P Q row to from (Err f) is = (is.0, to is.1)

-- what a new keyslot is made like can be sealed
sealable_model : (j : Value) (it : Like) → IsModel j it → IsSealableLike j it
sealable_model j (made_like.Keyslot n) x = (x.there.named, ap is_some x.there.is)
sealable_model j (made_like.Digest number key_bytes) x = (x.long.from, x.long.to)

pub sealable_of : (j : Value) (o : Opener) (it : Like) → IsUsable j o → IsLike j o it → IsSealableLike j it
sealable_of j (opener.Keyslot slot secret) it used is = subst (IsSealableLike j) (sym is) used
sealable_of j (opener.Key key) it used is = sealable_model j it (model_by_key key.allowed.older j key.bytes.now it is)

-- so it is there, if it is a keyslot
pub there_of : (j : Value) (it : Like) → IsSealableLike j it → IsThereLike j it
there_of j (made_like.Keyslot n) can = can
there_of j (made_like.Digest number key_bytes) can = tt
