-- The first fault of an edit among a set of faults, row by row of the table.
use Rattle.std.proofs.Common.{◌≡◌, ℕ, ◌+◌, ◌<◌, ◌≤◌, [], ◌∷◌, Bool, true, false, refl, sym, ap, subst, ◌∙◌, arith, ◌⊎◌, inl, inr}
use Rattle.std.specs.Prelude.{◌==◌, if◌then◌else◌}
use Rattle.std.proofs.lemmas.Bool.{cases_lt, false≢true}
use Rattle.luks_area.specs.First.{NotAfter, IsLeast}
use Rattle.luks_rules.specs.declared.fault.MetaFault.{MetaFault}
use Rattle.luks_rules.specs.MetaFault.{meta_key}
use Rattle.luks_slot.specs.declared.fault.SlotFault.{SlotFault}
use Rattle.luks_reading.specs.declared.check_fault.CheckFault.{CheckFault}
use Rattle.luks_reading.specs.Answer.{slot_row}
use Rattle.luks_reading.specs.Checked.{check_key}
use Rattle.luks_edit.specs.declared.edit_fault.EditFault.{EditFault}
use Rattle.luks_edit.specs.declared.edit_fault.EditFault.TheVariants as fault
use Rattle.luks_edit.specs.EditFaults.{edit_key, edit_place, edit_row}

-- ---- what a fault is: one of the check, one of a plan, one of the metadata with a token, or the only one of its row

-- the row has one place
abbrev pub is_plain : ℕ → Bool
is_plain k = if k == 0 then false else (if k == 7 then false else (if k == 20 then false else true))

-- the fault of a row with one place
abbrev fault_at : ℕ → EditFault
fault_at n =
    if n == 1 then fault.Requirements
    else (if n == 2 then fault.NoSuchSlot
    else (if n == 3 then fault.SameSlot
    else (if n == 4 then fault.Locked
    else (if n == 5 then fault.KeyLength
    else (if n == 6 then fault.WrongKey
    else (if n == 8 then fault.SlotTaken
    else (if n == 9 then fault.NoFreeSlot
    else (if n == 10 then fault.NoRoom
    else (if n == 11 then fault.LastSlot
    else (if n == 12 then fault.Iterations
    else (if n == 13 then fault.Argon2
    else (if n == 14 then fault.BadLabel
    else (if n == 15 then fault.NoSuchToken
    else (if n == 16 then fault.TokenTaken
    else (if n == 17 then fault.NoFreeToken
    else (if n == 18 then fault.UnreadableToken
    else (if n == 19 then fault.BadUuid
    else (if n == 21 then fault.SeqExhausted
    else (if n == 22 then fault.MetadataFull
    else (if n == 23 then fault.RandomLength
    else (if n == 24 then fault.Memory
    else fault.Device)))))))))))))))))))))

pub record IsOnly (f : EditFault) : Type 0 where
  pub plain : is_plain (edit_row f) ≡ true
  pub is : fault_at (edit_row f) ≡ f
  pub place : edit_place f ≡ []
  pub low : 1 ≤ edit_row f
  pub high : edit_row f ≤ 25

abbrev pub View : EditFault → Type 0
View f = ((c : CheckFault) × (f ≡ fault.NotAccepted c)) ⊎ (((s : SlotFault) × (f ≡ fault.Slot s)) ⊎ (((m : MetaFault) × (f ≡ fault.BadToken m)) ⊎ IsOnly f))

-- by this no fact of a set goes by all faults
pub view : (f : EditFault) → View f
view (fault.NotAccepted c) = inl (c, refl)
view (fault.Slot s) = inr (inl (s, refl))
view (fault.BadToken m) = inr (inr (inl (m, refl)))
view f = inr (inr (inr (record { plain = refl; is = refl; place = refl; low = omega arith; high = omega arith })))

-- a row that isn't plain isn't that of an only fault
not_plain : (k : ℕ) (f : EditFault) → edit_row f ≡ k → is_plain k ≡ false → is_plain (edit_row f) ≡ true → ⊥
not_plain k f row not plain = false≢true (sym not ∙ ap is_plain (sym row) ∙ plain)

-- the fault of a plain row is the only one of it
only_of : (f : EditFault) → is_plain (edit_row f) ≡ true → IsOnly f
only_of f plain = elim (view f) [
  | inl c ↦ absurd (not_plain 0 f (ap edit_row c.1) refl plain)
  | inr other ↦ (elim other [
    | inl s ↦ absurd (not_plain 7 f (ap edit_row s.1) refl plain)
    | inr rest ↦ (elim rest [
      | inl m ↦ absurd (not_plain 20 f (ap edit_row m.1) refl plain)
      | inr only ↦ only
    ])
  ])
]

pub only_one : (f g : EditFault) → is_plain (edit_row f) ≡ true → edit_row g ≡ edit_row f → g ≡ f
only_one f g plain same = sym (only_of g (ap is_plain same ∙ plain)).is ∙ ap fault_at same ∙ (only_of f plain).is

-- each row is one of the table
pub in_table : (f : EditFault) → edit_row f < 26
in_table f = elim (view f) [
  | inl c ↦ (let row : edit_row f ≡ 0 = ap edit_row c.1 in omega (arith, row))
  | inr other ↦ (elim other [
    | inl s ↦ (let row : edit_row f ≡ 7 = ap edit_row s.1 in omega (arith, row))
    | inr rest ↦ (elim rest [
      | inl m ↦ (let row : edit_row f ≡ 20 = ap edit_row m.1 in omega (arith, row))
      | inr only ↦ (let high = only.high in omega (arith, high))
    ])
  ])
]

-- a fault of the row of an opened keyslot's plan
pub plan_of : (g : EditFault) → edit_row g ≡ 7 → (s : SlotFault) × (g ≡ fault.Slot s)
plan_of g row = elim (view g) [
  | inl c ↦ (let first : edit_row g ≡ 0 = ap edit_row c.1 in absurd (omega (arith, row, first)))
  | inr other ↦ (elim other [
    | inl s ↦ s
    | inr rest ↦ (elim rest [
      | inl m ↦ (let token : edit_row g ≡ 20 = ap edit_row m.1 in absurd (omega (arith, row, token)))
      | inr only ↦ absurd (not_plain 7 g row refl only.plain)
    ])
  ])
]

-- a fault of the row of the metadata with a token
token_of : (g : EditFault) → edit_row g ≡ 20 → (m : MetaFault) × (g ≡ fault.BadToken m)
token_of g row = elim (view g) [
  | inl c ↦ (let first : edit_row g ≡ 0 = ap edit_row c.1 in absurd (omega (arith, row, first)))
  | inr other ↦ (elim other [
    | inl s ↦ (let plan : edit_row g ≡ 7 = ap edit_row s.1 in absurd (omega (arith, row, plan)))
    | inr rest ↦ (elim rest [
      | inl m ↦ m
      | inr only ↦ absurd (not_plain 20 g row refl only.plain)
    ])
  ])
]

-- ---- rows that have been judged

-- the set has no fault of a row before the row `k`
pub record Passed (faults : EditFault → Type 0) (k : ℕ) : Type 0 where
  pub none : (g : EditFault) → edit_row g < k → faults g → ⊥

module _ (faults : EditFault → Type 0) where
  pub not_before : (k : ℕ) (g : EditFault) → Passed faults k → faults g → k ≤ edit_row g
  not_before k g passed bad = elim (cases_lt (edit_row g) k) [ inl lt ↦ absurd (passed.none g lt bad) | inr le ↦ le ]

  pub passed_from : (k : ℕ) → ((g : EditFault) → faults g → k ≤ edit_row g) → Passed faults k
  passed_from k each = record { none = λ g under bad. (let over : k ≤ edit_row g = each g bad in omega (arith, under, over)) }

  -- there is none at all
  pub none_at_all : Passed faults 26 → (f : EditFault) → faults f → ⊥
  none_at_all passed f bad = passed.none f (in_table f) bad

  -- a fault of the row `k`, and none before it
  of_row : (k : ℕ) (g : EditFault) → Passed faults k → edit_row g < k + 1 → faults g → edit_row g ≡ k
  of_row k g passed under bad = let over : k ≤ edit_row g = not_before k g passed bad in omega (arith, under, over)

  -- a row with one place
  pub next : (f : EditFault) → is_plain (edit_row f) ≡ true → Passed faults (edit_row f) → (faults f → ⊥) → Passed faults (edit_row f + 1)
  next f plain passed not = record { none = λ g under bad. not (subst faults (only_one f g plain (of_row (edit_row f) g passed under bad)) bad) }

  -- the row of a volume's check
  pub after_check : ((c : CheckFault) → faults (fault.NotAccepted c) → ⊥) → Passed faults 1
  after_check not = record { none = none }
    where
      none : (g : EditFault) → edit_row g < 1 → faults g → ⊥
      none g under bad = elim (view g) [
        | inl c ↦ not c.0 (subst faults c.1 bad)
        | inr other ↦ (elim other [
          | inl s ↦ (let row : edit_row g ≡ 7 = ap edit_row s.1 in omega (arith, row, under))
          | inr rest ↦ (elim rest [
            | inl m ↦ (let row : edit_row g ≡ 20 = ap edit_row m.1 in omega (arith, row, under))
            | inr only ↦ (let low = only.low in omega (arith, low, under))
          ])
        ])
      ]

  pub after_plan : Passed faults 7 → ((s : SlotFault) → faults (fault.Slot s) → ⊥) → Passed faults 8
  after_plan passed not = record { none = λ g under bad. (let s = plan_of g (of_row 7 g passed under bad) in not s.0 (subst faults s.1 bad)) }

  pub after_token : Passed faults 20 → ((m : MetaFault) → faults (fault.BadToken m) → ⊥) → Passed faults 21
  after_token passed not = record { none = λ g under bad. (let m = token_of g (of_row 20 g passed under bad) in not m.0 (subst faults m.1 bad)) }

  -- the rows of the token's number and text, and of the uuid, from `NoSuchToken` on
  pub past_token_number : Passed faults 15 → (faults fault.NoSuchToken → ⊥) → (faults fault.TokenTaken → ⊥) → (faults fault.NoFreeToken → ⊥)
      → (faults fault.UnreadableToken → ⊥) → (faults fault.BadUuid → ⊥) → Passed faults 20
  past_token_number passed there untaken free read good =
      next fault.BadUuid refl (next fault.UnreadableToken refl (next fault.NoFreeToken refl (next fault.TokenTaken refl (next fault.NoSuchToken refl passed there) untaken) free) read) good

  pub past_tokens : Passed faults 15 → (faults fault.NoSuchToken → ⊥) → (faults fault.TokenTaken → ⊥) → (faults fault.NoFreeToken → ⊥)
      → (faults fault.UnreadableToken → ⊥) → (faults fault.BadUuid → ⊥) → ((m : MetaFault) → faults (fault.BadToken m) → ⊥) → Passed faults 21
  past_tokens passed there untaken free read good sound = after_token (past_token_number passed there untaken free read good) sound

  -- ---- the first fault

  -- that of a row with one place is
  pub first_of_row : (f : EditFault) → is_plain (edit_row f) ≡ true → Passed faults (edit_row f) → faults f → IsLeast edit_key faults f
  first_of_row f plain passed here = (
    here,
    λ g bad. (not_before (edit_row f) g passed bad, λ _. subst (λ xs. NotAfter xs (edit_place g)) (sym (only_of f plain).place) tt),
  )

  -- that of a check is, where it is the first of the check
  pub first_of_check : (f : CheckFault) → faults (fault.NotAccepted f) → ((g : CheckFault) → faults (fault.NotAccepted g) → NotAfter (check_key f) (check_key g))
      → IsLeast edit_key faults (fault.NotAccepted f)
  first_of_check f here least = (here, after)
    where
      after : (g : EditFault) → faults g → NotAfter (edit_key (fault.NotAccepted f)) (edit_key g)
      after g bad = elim (view g) [
        | inl c ↦ rw c.1 (omega arith, λ _. least c.0 (subst faults c.1 bad))
        | inr other ↦ (elim other [
          | inl s ↦ (let row : edit_row g ≡ 7 = ap edit_row s.1 in (omega (arith, row), λ same. absurd (omega (arith, same, row))))
          | inr rest ↦ (elim rest [
            | inl m ↦ (let row : edit_row g ≡ 20 = ap edit_row m.1 in (omega (arith, row), λ same. absurd (omega (arith, same, row))))
            | inr only ↦ (let low = only.low in (omega (arith, low), λ same. absurd (omega (arith, same, low))))
          ])
        ])
      ]

  -- that of a plan is, where it is the first of the plan
  pub first_of_plan : (f : SlotFault) → Passed faults 7 → faults (fault.Slot f) → ((g : SlotFault) → faults (fault.Slot g) → slot_row f ≤ slot_row g)
      → IsLeast edit_key faults (fault.Slot f)
  first_of_plan f passed here least = (here, λ g bad. (not_before 7 g passed bad, λ same. place g bad same))
    where
      place : (g : EditFault) → faults g → 7 ≡ edit_row g → NotAfter (slot_row f ∷ []) (edit_place g)
      place g bad same = let s = plan_of g (sym same) in rw s.1 (least s.0 (subst faults s.1 bad), λ _. tt)

  -- that of the metadata with a token is, where it is the first of them
  pub first_of_token : (f : MetaFault) → Passed faults 20 → faults (fault.BadToken f) → ((g : MetaFault) → faults (fault.BadToken g) → NotAfter (meta_key f) (meta_key g))
      → IsLeast edit_key faults (fault.BadToken f)
  first_of_token f passed here least = (here, λ g bad. (not_before 20 g passed bad, λ same. place g bad same))
    where
      place : (g : EditFault) → faults g → 20 ≡ edit_row g → NotAfter (meta_key f) (edit_place g)
      place g bad same = let m = token_of g (sym same) in rw m.1 (least m.0 (subst faults m.1 bad))

  -- ---- the rows of what gives the key, from `Locked` to that of a keyslot's plan

  -- none stands
  pub after_opening : Passed faults 4 → ((f : EditFault) → 4 ≤ edit_row f → edit_row f < 8 → faults f → ⊥) → Passed faults 8
  after_opening passed none = record { none = λ g under bad. none g (not_before 4 g passed bad) under bad }

  -- one does, and none of these comes before it
  pub first_of_opening : (f : EditFault) → Passed faults 4 → edit_row f < 8 → faults f → ((g : EditFault) → 4 ≤ edit_row g → edit_row g < 8 → faults g → NotAfter (edit_key f) (edit_key g))
      → IsLeast edit_key faults f
  first_of_opening f passed low here least = (here, after)
    where
      after : (g : EditFault) → faults g → NotAfter (edit_key f) (edit_key g)
      after g bad = elim (cases_lt (edit_row g) 8) [
        | inl under ↦ least g (not_before 4 g passed bad) under bad
        | inr over ↦ (omega (arith, low, over), λ same. absurd (omega (arith, low, over, same)))
      ]
