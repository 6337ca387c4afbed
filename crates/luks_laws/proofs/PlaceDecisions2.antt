-- A place of the metadata has a fault or none.
use Rattle.std.proofs.Common.{◌≡◌, ◌⊎◌, ℕ, zero, suc, ◌<◌, Bool, true, false, List, [], ◌∷◌, ◌++◌, Option, Some, None, refl, sym, ap, subst, ◌∙◌, arith, inl, inr}
use Rattle.std.proofs.lemmas.Bool.{cases_Bool, cases_eq, true≢false}
use Rattle.std.specs.Option.{option_map_or}
use Rattle.luks_json.specs.Number.{number_text}
use Rattle.luks_rules.specs.declared.table.Row.{Row}
use Rattle.luks_rules.specs.declared.table.Section.{Section}
use Rattle.luks_rules.specs.declared.table.Section.TheVariants.{Config, Digests, Keyslots, Segments, Tokens}
use Rattle.luks_rules.specs.Faults.{after_point, Among, HasPlace, is_numbered, row_path}
use Rattle.luks_rules.specs.Table.{rows_of, section_name}
use Rattle.luks_laws.proofs.DecidedFacts.{among_left, among_right, both_decided, Decided, one_decided, same_list_decided, some_below_decided, true_decided}

abbrev pub path_of : Section → Option ℕ → Option Row → List ℕ
path_of s n r = section_name s ++ (option_map_or (λ m. after_point (number_text m)) n [] ++ option_map_or (λ q. after_point (row_path q)) r [])

-- ---- some place has the property

pub record Somewhere (P : Section → Option ℕ → Option Row → Type 0) : Type 0 where
  pub section : Section
  pub number : Option ℕ
  pub row : Option Row
  pub place : HasPlace section number row
  pub is : P section number row

some_row_decided : (P : Row → Type 0) → ((r : Row) → Decided (P r)) → (rows : List Row) → Decided ((r : Row) × Among r rows × P r)
some_row_decided P decide [] = inr (λ x. x.1)
some_row_decided P decide (q ∷ qs) = elim (decide q) [
  | inl here ↦ inl (q, inl refl, here)
  | inr away ↦ elim (some_row_decided P decide qs) [
    | inl found ↦ inl (found.0, inr found.1, found.2)
    | inr none ↦ inr (λ x. elim (x.1) [
      | inl same ↦ away (subst P same x.2)
      | inr later ↦ none (x.0, later, x.2)
    ])
  ]
]

not_numbered_decided : (b : Bool) → Decided (b ≡ false)
not_numbered_decided b = elim (cases_Bool b) [ inl yes_ ↦ inr (λ e. true≢false (sym yes_ ∙ e)) | inr no_ ↦ inl no_ ]

module _ (P : Section → Option ℕ → Option Row → Type 0) (decide : (s : Section) (n : Option ℕ) (r : Option Row) → Decided (P s n r)) where
  -- in the section `s`: itself, a member of it, an object, a member of one
  abbrev AtMember : Section → Type 0
  AtMember s = (is_numbered s ≡ false) × ((r : Row) × Among r (rows_of s) × P s None (Some r))

  abbrev AtObject : Section → Type 0
  AtObject s = (is_numbered s ≡ true) × ((k : ℕ) × (k < 32) × P s (Some k) None)

  abbrev AtObjectMember : Section → Type 0
  AtObjectMember s = (is_numbered s ≡ true) × ((k : ℕ) × (k < 32) × ((r : Row) × Among r (rows_of s) × P s (Some k) (Some r)))

  abbrev InSection : Section → Type 0
  InSection s = (P s None None ⊎ AtMember s) ⊎ (AtObject s ⊎ AtObjectMember s)

  in_section_decided : (s : Section) → Decided (InSection s)
  in_section_decided s = one_decided _ _
      (one_decided _ _ (decide s None None)
      (both_decided _ _ (not_numbered_decided (is_numbered s)) (some_row_decided (λ r. P s None (Some r)) (λ r. decide s None (Some r)) (rows_of s))))
      (one_decided _ _
      (both_decided _ _ (true_decided (is_numbered s)) (some_below_decided (λ k. P s (Some k) None) (λ k. decide s (Some k) None) 32))
      (both_decided _ _ (true_decided (is_numbered s))
      (some_below_decided (λ k. (r : Row) × Among r (rows_of s) × P s (Some k) (Some r))
      (λ k. some_row_decided (λ r. P s (Some k) (Some r)) (λ r. decide s (Some k) (Some r)) (rows_of s)) 32)))

  somewhere : (s : Section) → InSection s → Somewhere P
  somewhere s (inl (inl here)) = record { section = s; number = None; row = None; place = tt; is = here }
  somewhere s (inl (inr x)) = record { section = s; number = None; row = Some x.1.0; place = (x.0, x.1.1); is = x.1.2 }
  somewhere s (inr (inl x)) = record { section = s; number = Some x.1.0; row = None; place = (x.0, x.1.1); is = x.1.2 }
  somewhere s (inr (inr x)) = record { section = s; number = Some x.1.0; row = Some x.1.2.0; place = (x.0, x.1.1, x.1.2.1); is = x.1.2.2 }

  in_section : (s : Section) (n : Option ℕ) (r : Option Row) → HasPlace s n r → P s n r → InSection s
  in_section s None None at is = inl (inl is)
  in_section s None (Some r) at is = inl (inr (at.0, (r, at.1, is)))
  in_section s (Some n) None at is = inr (inl (at.0, (n, at.1, is)))
  in_section s (Some n) (Some r) at is = inr (inr (at.0, (n, at.1, (r, at.2, is))))

  pub somewhere_decided : Decided (Somewhere P)
  somewhere_decided = elim (in_section_decided Config) [
    | inl here ↦ inl (somewhere Config here)
    | inr config ↦ elim (in_section_decided Digests) [
      | inl here ↦ inl (somewhere Digests here)
      | inr digests ↦ elim (in_section_decided Keyslots) [
        | inl here ↦ inl (somewhere Keyslots here)
        | inr keyslots ↦ elim (in_section_decided Segments) [
          | inl here ↦ inl (somewhere Segments here)
          | inr segments ↦ elim (in_section_decided Tokens) [
            | inl here ↦ inl (somewhere Tokens here)
            | inr tokens ↦ inr (λ x. nowhere config digests keyslots segments tokens x.section (in_section x.section x.number x.row x.place x.is))
          ]
        ]
      ]
    ]
  ]
    where
      nowhere : (InSection Config → ⊥) → (InSection Digests → ⊥) → (InSection Keyslots → ⊥) → (InSection Segments → ⊥) → (InSection Tokens → ⊥) → (s : Section) → InSection s → ⊥
      nowhere config digests keyslots segments tokens Config x = config x
      nowhere config digests keyslots segments tokens Digests x = digests x
      nowhere config digests keyslots segments tokens Keyslots x = keyslots x
      nowhere config digests keyslots segments tokens Segments x = segments x
      nowhere config digests keyslots segments tokens Tokens x = tokens x

-- a fault at a place with this path stands or not, of a test that says `bad` of each place
abbrev pub IsAtPath : (Section → Option ℕ → Option Row → Bool) → List ℕ → Section → Option ℕ → Option Row → Type 0
IsAtPath bad path s n r = (bad s n r ≡ true) × (path ≡ path_of s n r)

pub path_fault_decided : (bad : Section → Option ℕ → Option Row → Bool) (path : List ℕ) (A : Type 0)
    → ((s : Section) (n : Option ℕ) (r : Option Row) → HasPlace s n r → bad s n r ≡ true → path ≡ path_of s n r → A) → (A → Somewhere (IsAtPath bad path)) → Decided A
path_fault_decided bad path A into back =
    elim (somewhere_decided (IsAtPath bad path) (λ s n r. both_decided _ _ (true_decided (bad s n r)) (same_list_decided path (path_of s n r)))) [
      | inl x ↦ inl (into x.section x.number x.row x.place x.is.0 x.is.1)
      | inr none ↦ inr (λ a. none (back a))
    ]

-- ---- the paths of all places

abbrev paths_of_rows : Section → Option ℕ → List Row → List (List ℕ)
paths_of_rows s n [] = []
paths_of_rows s n (r ∷ rs) = path_of s n (Some r) ∷ paths_of_rows s n rs

paths_of_objects : Section → ℕ → List (List ℕ)
paths_of_objects s zero = []
paths_of_objects s (suc k) = path_of s (Some k) None ∷ (paths_of_rows s (Some k) (rows_of s) ++ paths_of_objects s k)

paths_in : Section → List (List ℕ)
paths_in s = path_of s None None ∷ (paths_of_rows s None (rows_of s) ++ paths_of_objects s 32)

pub all_paths : List (List ℕ)
all_paths = paths_in Config ++ (paths_in Digests ++ (paths_in Keyslots ++ (paths_in Segments ++ paths_in Tokens)))

among_rows : (s : Section) (n : Option ℕ) (r : Row) (rows : List Row) → Among r rows → Among (path_of s n (Some r)) (paths_of_rows s n rows)
among_rows s n r [] at = absurd at
among_rows s n r (q ∷ qs) (inl same) = inl (ap (λ x. path_of s n (Some x)) same)
among_rows s n r (q ∷ qs) (inr later) = inr (among_rows s n r qs later)

among_object : (s : Section) (k m : ℕ) → m < k → Among (path_of s (Some m) None) (paths_of_objects s k)
unfolding paths_of_objects
among_object s zero m low = absurd (omega (arith, low))
among_object s (suc k) m low = elim (cases_eq m k) [
  | inl same ↦ inl (ap (λ x. path_of s (Some x) None) same)
  | inr other ↦ inr (among_right _ (paths_of_rows s (Some k) (rows_of s)) (paths_of_objects s k) (among_object s k m (omega (arith, low, other))))
]

among_object_row : (s : Section) (k m : ℕ) (r : Row) → m < k → Among r (rows_of s) → Among (path_of s (Some m) (Some r)) (paths_of_objects s k)
unfolding paths_of_objects
among_object_row s zero m r low at = absurd (omega (arith, low))
among_object_row s (suc k) m r low at = elim (cases_eq m k) [
  | inl same ↦ inr (among_left _ (paths_of_rows s (Some k) (rows_of s)) (paths_of_objects s k)
      (subst (λ x. Among (path_of s (Some x) (Some r)) (paths_of_rows s (Some k) (rows_of s))) (sym same) (among_rows s (Some k) r (rows_of s) at)))
  | inr other ↦ inr (among_right _ (paths_of_rows s (Some k) (rows_of s)) (paths_of_objects s k) (among_object_row s k m r (omega (arith, low, other)) at))
]

among_section : (s : Section) (n : Option ℕ) (r : Option Row) → HasPlace s n r → Among (path_of s n r) (paths_in s)
unfolding paths_in
among_section s None None at = inl refl
among_section s None (Some r) at = inr (among_left _ (paths_of_rows s None (rows_of s)) (paths_of_objects s 32) (among_rows s None r (rows_of s) at.1))
among_section s (Some n) None at = inr (among_right _ (paths_of_rows s None (rows_of s)) (paths_of_objects s 32) (among_object s 32 n at.1))
among_section s (Some n) (Some r) at = inr (among_right _ (paths_of_rows s None (rows_of s)) (paths_of_objects s 32) (among_object_row s 32 n r at.1 at.2))

among_paths : (s : Section) (path : List ℕ) → Among path (paths_in s) → Among path all_paths
unfolding all_paths
among_paths Config path at = among_left path (paths_in Config) _ at
among_paths Digests path at = among_right path (paths_in Config) _ (among_left path (paths_in Digests) _ at)
among_paths Keyslots path at = among_right path (paths_in Config) _ (among_right path (paths_in Digests) _ (among_left path (paths_in Keyslots) _ at))
among_paths Segments path at =
    among_right path (paths_in Config) _ (among_right path (paths_in Digests) _ (among_right path (paths_in Keyslots) _ (among_left path (paths_in Segments) (paths_in Tokens) at)))
among_paths Tokens path at =
    among_right path (paths_in Config) _ (among_right path (paths_in Digests) _ (among_right path (paths_in Keyslots) _ (among_right path (paths_in Segments) (paths_in Tokens) at)))

pub among_places : (s : Section) (n : Option ℕ) (r : Option Row) → HasPlace s n r → Among (path_of s n r) all_paths
among_places s n r at = among_paths s (path_of s n r) (among_section s n r at)
