-- The order of texts by their bytes, and that the rows, the numbers and the sections are in it.
use Rattle.std.proofs.Common.{◌≡◌, ℕ, ◌<◌, ◌≤◌, Bool, true, false, ◌&&◌, List, [], ◌∷◌, ◌++◌, refl, arith, inl, inr}
use Rattle.std.specs.Prelude.{◌||◌, ◌==◌, nat_lt}
use Rattle.std.specs.List.{list_all}
use Rattle.std.proofs.lemmas.Bool.{ltb-true, eqb-true, and_parts, or_cases}
use Rattle.luks_area.specs.First.{NotAfter}
use Rattle.luks_rules.specs.declared.table.Section.{Section}
use Rattle.luks_rules.specs.declared.table.Section.TheVariants.{Config, Digests, Keyslots, Segments, Tokens}
use Rattle.luks_rules.specs.Table.{section_name, rows_of}
use Rattle.luks_json.specs.Number.{number_text}
use Rattle.luks_rules.specs.Walk.{numbers}
use Rattle.luks_rules.specs.Faults.{row_path}

abbrev pub not_after : List ℕ → List ℕ → Bool
not_after [] ys = true
not_after (x ∷ xs) [] = false
not_after (x ∷ xs) (y ∷ ys) = nat_lt x y || (x == y && not_after xs ys)

-- at the first place where they differ both have a byte, and the first's is less
abbrev pub strictly : List ℕ → List ℕ → Bool
strictly [] ys = false
strictly (x ∷ xs) [] = false
strictly (x ∷ xs) (y ∷ ys) = nat_lt x y || (x == y && strictly xs ys)

heads : (x y : ℕ) (b : Bool) (P : Type 0) → (nat_lt x y || (x == y && b)) ≡ true → (b ≡ true → P) → (x ≤ y) × (x ≡ y → P)
heads x y b P h tail = elim (or_cases _ _ h) [
  | inl less ↦ let lt : x < y = ltb-true x y less in (omega arith, λ e. absurd (omega arith))
  | inr both ↦ let p = and_parts _ _ both in let e : x ≡ y = eqb-true x y p.0 in (omega arith, λ _. tail p.1)
]

pub told : (xs ys : List ℕ) → not_after xs ys ≡ true → NotAfter xs ys
told [] ys h = tt
told (x ∷ xs) [] h = absurd (cc)
told (x ∷ xs) (y ∷ ys) h = heads x y _ _ h (told xs ys)

pub apart : (xs ys us vs : List ℕ) → strictly xs ys ≡ true → NotAfter (xs ++ us) (ys ++ vs)
apart [] ys us vs h = absurd (cc)
apart (x ∷ xs) [] us vs h = absurd (cc)
apart (x ∷ xs) (y ∷ ys) us vs h = heads x y _ _ h (apart xs ys us vs)

-- nothing, or what begins with a point
abbrev pub IsTail : List ℕ → Type 0
IsTail [] = Unit {0}
IsTail (c ∷ cs) = c ≡ 46

pub before : (xs ys us vs : List ℕ) → strictly (xs ++ 46 ∷ []) ys ≡ true → IsTail us → NotAfter (xs ++ us) (ys ++ vs)
before [] [] us vs h t = absurd (cc)
before [] (y ∷ ys) [] vs h t = tt
before [] (y ∷ ys) (u ∷ us) vs h t = heads u y false _ (rw t h) (λ e. absurd (cc))
before (x ∷ xs) [] us vs h t = absurd (cc)
before (x ∷ xs) (y ∷ ys) us vs h t = heads x y _ _ h (λ e. before xs ys us vs e t)

pub after_prefix : (ps xs ys : List ℕ) → NotAfter xs ys → NotAfter (ps ++ xs) (ps ++ ys)
after_prefix [] xs ys h = h
after_prefix (p ∷ ps) xs ys h = (omega arith, λ _. after_prefix ps xs ys h)

-- each one stands so to each later one
abbrev pub pairwise : {A : Type 0} → (A → A → Bool) → List A → Bool
pairwise R [] = true
pairwise R (x ∷ xs) = list_all (R x) xs && pairwise R xs

abbrev pub sections : List Section
sections = Config ∷ Digests ∷ Keyslots ∷ Segments ∷ Tokens ∷ []

pub rows_in_order : (s : Section) → pairwise (λ r q. not_after (row_path r) (row_path q)) (rows_of s) ≡ true
rows_in_order Config = refl
rows_in_order Digests = refl
rows_in_order Keyslots = refl
rows_in_order Segments = refl
rows_in_order Tokens = refl

pub numbers_in_order : pairwise (λ m n. strictly (number_text m ++ 46 ∷ []) (number_text n)) numbers ≡ true
numbers_in_order = refl

pub sections_in_order : pairwise (λ s t. strictly (section_name s) (section_name t)) sections ≡ true
sections_in_order = refl
