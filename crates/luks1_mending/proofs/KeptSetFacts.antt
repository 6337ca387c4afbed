-- There is a set of kept keyslots for any bytes: each condition on a keyslot can be decided.
use Rattle.std.proofs.Common.{◌≡◌, ◌≢◌, ◌⊎◌, ◌↔◌, ℕ, ◌+◌, ◌<◌, ◌≤◌, Bool, true, List, length, set, zero, suc, inl, inr, refl, ap, ◌∙◌, subst, arith, add-one, length-set}
use Rattle.std.proofs.lemmas.Bool.{cases_Bool, cases_lt}
use Rattle.luks_area.specs.Area.{Meet}
use Rattle.luks_area.specs.declared.area.Area.{Area}
use Rattle.luks1_header.specs.Faults.{HasUnknownState, IsEntryFault, LacksIterations}
use Rattle.luks1_header.specs.Header1.{active_word, disabled_word, enabled_word, entry, entry_iterations, entry_stripes, luks1_size}
use Rattle.luks1_header.specs.declared.fault.HeadFault.{HeadFault}
use Rattle.luks1_header.specs.declared.fault.HeadFault.TheVariants as fault
use Rattle.luks1_header.specs.declared.fault.IterationsOf.TheVariants as of
use Rattle.luks1_mending.specs.Areas.{own_area}
use Rattle.luks1_mending.specs.Judging.{set_of, AreKeptSoFar, IsNext, IsPassedOver, MeetsOne}
use Rattle.luks1_mending.specs.Kept.{rank, AreKept, IsBeforeAndMeets, IsKept, IsSound}
use Rattle.luks1_mending.specs.MeetsNone.{MeetsNoneBefore}
use Rattle.luks1_mending.proofs.KeptFacts.{all_judged, is_in, none, none_among, none_so_far, of_set, same_or_other, so_far_next, so_far_set, so_far_without, sound_of}
use Rattle.luks1_mending.proofs.MeetFacts.{meet_of, meet_second}
use Rattle.luks1_mending.proofs.OrderFacts.{not_self}

-- a fact that is decided
abbrev Decided : Type 0 → Type 0
Decided P = P ⊎ (P → ⊥)

-- ---- areas

meet_first : (a b : Area) → Meet a b → a.start < b.start + b.len
meet_first a b m = (let low = m.1.0.0 in let high = m.1.1.1 in omega (arith, low, high))

some_first : (a b : Area) → Meet a b → 0 < a.len
some_first a b m = (let low = m.1.0.0 in let high = m.1.0.1 in omega (arith, low, high))

some_second : (a b : Area) → Meet a b → 0 < b.len
some_second a b m = (let low = m.1.1.0 in let high = m.1.1.1 in omega (arith, low, high))

decide_meet : (a b : Area) → Decided (Meet a b)
decide_meet a b = elim (cases_lt 0 a.len) [
  | inr empty ↦ inr (λ m. (let some = some_first a b m in omega (arith, empty, some)))
  | inl one ↦ elim (cases_lt 0 b.len) [
    | inr empty ↦ inr (λ m. (let some = some_second a b m in omega (arith, empty, some)))
    | inl other ↦ elim (cases_lt a.start (b.start + b.len)) [
      | inr over ↦ inr (λ m. (let before = meet_first a b m in omega (arith, over, before)))
      | inl first ↦ elim (cases_lt b.start (a.start + a.len)) [
        | inr over ↦ inr (λ m. (let before = meet_second a b m in omega (arith, over, before)))
        | inl second ↦ inl (meet_of a b one other first second)
      ]
    ]
  ]
]

-- ---- the rules of a keyslot

decide_state : (e : List ℕ) → Decided (HasUnknownState e)
decide_state e = elim (same_or_other (active_word e) enabled_word) [
  | inl on ↦ inr (λ x. x.0 on)
  | inr not_on ↦ elim (same_or_other (active_word e) disabled_word) [
    | inl off ↦ inr (λ x. x.1 off)
    | inr not_off ↦ inl (not_on, not_off)
  ]
]

decide_iterations : (e : List ℕ) → Decided (LacksIterations e)
decide_iterations e = elim (same_or_other (active_word e) enabled_word) [
  | inr off ↦ inr (λ x. off x.0)
  | inl on ↦ elim (same_or_other (entry_iterations e) 0) [
    | inl none ↦ inl (on, none)
    | inr some ↦ inr (λ x. some x.1)
  ]
]

clear : (n : ℕ) (e : List ℕ) → (HasUnknownState e → ⊥) → (entry_stripes e ≢ 0) → (LacksIterations e → ⊥) → (f : HeadFault) → IsEntryFault n e f → ⊥
clear n e stated striped iterated (fault.SlotState m) x = stated x.1
clear n e stated striped iterated (fault.Stripes m) x = striped x.1
clear n e stated striped iterated (fault.Iterations (of.Slot m)) x = iterated x.1
clear n e stated striped iterated (fault.Iterations of.Digest) x = x
clear n e stated striped iterated fault.TooShort x = x
clear n e stated striped iterated fault.NotLuks x = x
clear n e stated striped iterated fault.Version x = x
clear n e stated striped iterated fault.NoSoundCopy x = x
clear n e stated striped iterated (fault.Text t) x = x
clear n e stated striped iterated fault.Uuid x = x
clear n e stated striped iterated fault.KeyBytes x = x
clear n e stated striped iterated fault.Device x = x
clear n e stated striped iterated fault.Memory x = x

decide_rules : (n : ℕ) (e : List ℕ) → Decided ((f : HeadFault) → IsEntryFault n e f → ⊥)
decide_rules n e = elim (decide_state e) [
  | inl unknown ↦ inr (λ free. free (fault.SlotState n) (refl, unknown))
  | inr stated ↦ elim (same_or_other (entry_stripes e) 0) [
    | inl none ↦ inr (λ free. free (fault.Stripes n) (refl, none))
    | inr striped ↦ elim (decide_iterations e) [
      | inl lacks ↦ inr (λ free. free (fault.Iterations (of.Slot n)) (refl, lacks))
      | inr iterated ↦ inl (clear n e stated striped iterated)
    ]
  ]
]

module _ (h : List ℕ) (k total : ℕ) where
  decide_sound : (n : ℕ) → Decided (IsSound h k total n)
  decide_sound n = elim (cases_lt n 8) [
    | inr over ↦ inr (λ x. (let low = x.numbered in omega (arith, over, low)))
    | inl low ↦ elim (decide_rules n (entry h n)) [
      | inr broken ↦ inr (λ x. broken x.faultless)
      | inl free ↦ elim (cases_lt (own_area h k n).start luks1_size) [
        | inl before ↦ inr (λ x. (let behind = x.behind in omega (arith, before, behind)))
        | inr behind ↦ elim (cases_lt total ((own_area h k n).start + (own_area h k n).len)) [
          | inl past ↦ inr (λ x. (let inside = x.inside in omega (arith, past, inside)))
          | inr inside ↦ inl (record { numbered = low; faultless = free; behind = behind; inside = inside })
        ]
      ]
    ]
  ]

  -- ---- whether it meets one of the set

  decide_one : (kept : ℕ → Bool) (area : Area) (m : ℕ) → Decided (MeetsOne h k kept area m)
  decide_one kept area m = elim (cases_Bool (kept m)) [
    | inr out ↦ inr (λ x. (let here : kept m ≡ true = x.among in absurd (cc)))
    | inl here ↦ elim (decide_meet (own_area h k m) area) [
      | inl meet ↦ inl (record { among = here; meet = meet })
      | inr apart ↦ inr (λ x. apart x.meet)
    ]
  ]

  decide_below : (kept : ℕ → Bool) (area : Area) (b : ℕ) → ((m : ℕ) × MeetsOne h k kept area m) ⊎ ((m : ℕ) → m < b → MeetsOne h k kept area m → ⊥)
  decide_below kept area zero = inr (λ m low x. omega (arith, low))
  decide_below kept area (suc b) = elim (decide_below kept area b) [
    | inl found ↦ inl found
    | inr before ↦ elim (decide_one kept area b) [
      | inl meets ↦ inl (b, meets)
      | inr apart ↦ inr (λ m low x. elim (same_or_other m b) [
        | inl same ↦ apart (subst (λ (q : ℕ). MeetsOne h k kept area q) same x)
        | inr other ↦ before m (omega (arith, low, other)) x
      ])
    ]
  ]

  -- ---- the set

  -- eight keyslots; those before the place (r, i) are judged
  record Array (r i : ℕ) : Type 0 where
    pub kept : List Bool
    pub eight : length kept ≡ 8
    pub are : AreKeptSoFar h k total r i (set_of kept)

  passed : (r i : ℕ) (x : Array r i) → IsPassedOver h k total r (set_of x.kept) i → Array r (i + 1)
  passed r i x over = record { kept = x.kept; eight = x.eight; are = so_far_without h k total r i (set_of x.kept) x.are over }

  one_more : (r i : ℕ) (x : Array r i) → i < 8 → IsNext h k total r (set_of x.kept) i → Array r (i + 1)
  one_more r i x low next = record {
    kept = set x.kept i true;
    eight = length-set x.kept i true ∙ x.eight;
    are = so_far_set h k total r i x.kept (set x.kept i true) x.are next (let eight = x.eight in omega (arith, low, eight)) refl;
  }

  judge : (r i : ℕ) → i < 8 → Array r i → Array r (i + 1)
  judge r i low x = elim (same_or_other (rank h k i) r) [
    | inr other ↦ passed r i x (λ ranked sound. absurd (other ranked))
    | inl ranked ↦ elim (decide_sound i) [
      | inr broken ↦ passed r i x (λ also sound. absurd (broken sound))
      | inl sound ↦ elim (decide_below (set_of x.kept) (own_area h k i) 8) [
        | inl found ↦ passed r i x (λ also well. found)
        | inr apart ↦ one_more r i x low (record { ranked = ranked; sound = sound; apart = λ m meets. apart m (x.are.sound m meets.among).numbered meets })
      ]
    ]
  ]

  numbers : (r i : ℕ) → i ≤ 8 → Array r 0 → Array r i
  numbers r zero low x = x
  numbers r (suc i) low x = subst (λ (j : ℕ). Array r j) (add-one i) (judge r i (omega (arith, low)) (numbers r i (omega (arith, low)) x))

  ranks : (r : ℕ) → Array r 0
  ranks zero = record { kept = none; eight = refl; are = none_so_far h k total (set_of none) none_among }
  ranks (suc r) =
      let x : Array r 8 = numbers r 8 (omega arith) (ranks r) in
      subst (λ (q : ℕ). Array q 0) (add-one r) (record { kept = x.kept; eight = x.eight; are = so_far_next h k total r (set_of x.kept) x.are })

  pub there_is : (kept : ℕ → Bool) × AreKept h k total kept
  there_is = (set_of (ranks 4).kept, all_judged h k total (set_of (ranks 4).kept) (ranks 4).are)

  -- ---- what follows of each keyslot

  pub kept_apart : (m n : ℕ) → m ≢ n → IsKept h k total m → IsKept h k total n → Meet (own_area h k m) (own_area h k n) → ⊥
  kept_apart m n other x y meet = x.are.apart m n other x.this (is_in h k total x.kept x.are n y) meet

  pub kept_or_meets : (n : ℕ) → IsSound h k total n → IsKept h k total n ⊎ ((m : ℕ) × (IsKept h k total m × IsBeforeAndMeets h k m n))
  kept_or_meets n sound =
      let all : (kept : ℕ → Bool) × AreKept h k total kept = there_is in
      elim (cases_Bool (all.0 n)) [
        | inl here ↦ inl (of_set h k total all.0 all.1 n here)
        | inr out ↦ (let found : (m : ℕ) × ((all.0 m ≡ true) × IsBeforeAndMeets h k m n) = all.1.rest n sound out in
            inr (found.0, (of_set h k total all.0 all.1 found.0 found.1.0, found.1.1)))
      ]

  yields_to_none : (n : ℕ) → IsKept h k total n → (m : ℕ) → IsKept h k total m → IsBeforeAndMeets h k m n → ⊥
  yields_to_none n x m y z =
      kept_apart m n (λ same. not_self (rank h k m) m (rank h k n) n z.before (ap (λ (q : ℕ). rank h k q) same) same) y x z.meet

  unyielding : (n : ℕ) → IsSound h k total n → ((m : ℕ) → IsKept h k total m → IsBeforeAndMeets h k m n → ⊥) → IsKept h k total n
  unyielding n sound apart = elim (kept_or_meets n sound) [
    | inl kept ↦ kept
    | inr found ↦ absurd (apart found.0 found.1.0 found.1.1)
  ]

  pub kept_exactly : (n : ℕ) → IsKept h k total n ↔ (IsSound h k total n × ((m : ℕ) → IsKept h k total m → IsBeforeAndMeets h k m n → ⊥))
  kept_exactly n = (λ x. (sound_of h k total n x, yields_to_none n x), λ x. unyielding n x.0 x.1)

  pub none_before_kept : (n : ℕ) → MeetsNoneBefore h k total n → IsKept h k total n
  none_before_kept n x = unyielding n x.sound (λ m kept meets. x.none m (sound_of h k total m kept) meets)
