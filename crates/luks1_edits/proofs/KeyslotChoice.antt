-- Which keyslots are in use and which is the least that is free, keyslot by keyslot.
use Rattle.std.proofs.Common.{◌≡◌, ◌≢◌, ℕ, ◌<◌, ◌≤◌, List, arith, inl, inr}
use Rattle.std.proofs.lemmas.Bool.{cases_eq, cases_lt}
use Rattle.luks1_header.specs.Header1.{HoldsSlots}
use Rattle.luks1_header.specs.declared.luks1.Luks1Slot.{Luks1Slot}
use Rattle.luks1_edits.specs.Edited.{IsFree, IsInUse, IsLeastFree}
use Rattle.luks1_edits.proofs.OpenerFacts.{used_or_free}

-- of the keyslots below `m` none but `n` is in use
abbrev pub NoneInUse : List Luks1Slot → ℕ → ℕ → Type 0
NoneInUse slots n m = (k : ℕ) → k < m → k ≢ n → (v : List ℕ) → HoldsSlots v slots → IsFree v k

-- the keyslots below `m` are in use
abbrev pub AllInUse : List Luks1Slot → ℕ → Type 0
AllInUse slots m = (k : ℕ) → k < m → (v : List ℕ) → HoldsSlots v slots → IsInUse v k

pub only_in_use : (slots : List Luks1Slot) (n end : ℕ) → 8 ≤ end → NoneInUse slots n end → (v : List ℕ) → HoldsSlots v slots → (m : ℕ) → IsInUse v m → m ≡ n
only_in_use slots n end all none v holds m used = elim (cases_eq m n) [
  | inl same ↦ same
  | inr other ↦ (let low = used.0 in absurd (used_or_free v m used (none m (omega (arith, all, low)) other v holds)))
]

pub least_of : (slots : List Luks1Slot) (n : ℕ) → AllInUse slots n → (v : List ℕ) → HoldsSlots v slots → IsFree v n → IsLeastFree v n
least_of slots n all v holds free = record {
  free = free;
  least = λ m other. elim (cases_lt m n) [
    | inl before ↦ absurd (used_or_free v m (all m before v holds) other)
    | inr past ↦ past
  ];
}

pub none_free : (slots : List Luks1Slot) (end : ℕ) → 8 ≤ end → AllInUse slots end → (v : List ℕ) → HoldsSlots v slots → (n : ℕ) → IsFree v n → ⊥
none_free slots end past all v holds n free = let low = free.0 in used_or_free v n (all n (omega (arith, past, low)) v holds) free
