-- Each area holds a value, or a text that is none, or no text, and only one of the three.
use Rattle.std.proofs.Common.{◌≡◌, ◌≢◌, ℕ, zero, suc, ◌<◌, true, List, [], ◌∷◌, ◌++◌, length, get_or, Option, Some, None, refl, sym, ap, subst, ◌∙◌, inl, inr, arith}
use Rattle.std.specs.Prelude.{◌⊎◌, IsUtf8, All, replicate}
use Rattle.std.specs.Str.{is_utf8}
use Rattle.std.proofs.lemmas.Bool.{cases_eq, cases_Bool}
use Rattle.std.proofs.lemmas.Str.{IsUtf8-from_is_utf8, is_utf8-from_IsUtf8}
use Rattle.serde_json.specs.Data.{Data}
use Rattle.serde_json.specs.Read.{read}
use Rattle.luks_json.specs.AreaText.{IsBadJson, Json, JsonText}
use Rattle.luks_json.proofs.AreaTexts.{one_text}

-- ---- whether an area holds a text

abbrev NoZero : List ℕ → Type 0
NoZero [] = Unit {0}
NoZero (c ∷ cs) = (c ≢ 0) × NoZero cs

all_cons : (c : ℕ) (cs : List ℕ) → c ≢ 0 → All (λ x. x ≢ 0) cs → (k d : ℕ) → k < length (c ∷ cs) → get_or (c ∷ cs) k d ≢ 0
all_cons c cs h all zero d lt = h
all_cons c cs h all (suc k) d lt = all k d (omega arith)

all_of : (t : List ℕ) → NoZero t → All (λ c. c ≢ 0) t
all_of [] h = λ k d lt. absurd (omega arith)
all_of (c ∷ cs) h = all_cons c cs h.0 (all_of cs h.1)

none_of : (t : List ℕ) → All (λ c. c ≢ 0) t → NoZero t
none_of [] h = tt
none_of (c ∷ cs) h = (h 0 0 (omega arith), none_of cs (λ k d lt. h (suc k) d (omega arith)))

not_zeros : (c : ℕ) (cs : List ℕ) → c ≢ 0 → (n : ℕ) → c ∷ cs ≡ replicate n 0 → ⊥
not_zeros c cs nz zero e = absurd (cc)
not_zeros c cs nz (suc n) e = nz (cc)

tail_zeros : (c : ℕ) (cs : List ℕ) → ((n : ℕ) → cs ≡ replicate n 0 → ⊥) → (n : ℕ) → c ∷ cs ≡ replicate n 0 → ⊥
tail_zeros c cs f zero e = absurd (cc)
tail_zeros c cs f (suc n) e = f n (cc)

zeros_or : (bs : List ℕ) → ((n : ℕ) × (bs ≡ replicate n 0)) ⊎ ((n : ℕ) → bs ≡ replicate n 0 → ⊥)
zeros_or [] = inl (0, refl)
zeros_or (c ∷ cs) = elim (cases_eq c 0) [
  | inl z ↦ elim (zeros_or cs) [
    | inl p ↦ inl (suc p.0, rw (z, p.1) refl)
    | inr f ↦ inr (tail_zeros c cs f)
  ]
  | inr nz ↦ inr (not_zeros c cs nz)
]

-- a text without zeros, and zeros after it
record IsSplit (bs : List ℕ) : Type 0 where
  text : List ℕ
  zeros : ℕ
  whole : NoZero text
  ended : 0 < zeros
  filled : bs ≡ text ++ replicate zeros 0

no_more : (c : ℕ) (cs : List ℕ) → c ≡ 0 → ((n : ℕ) → c ∷ cs ≡ replicate n 0 → ⊥) → (t : List ℕ) (n : ℕ) → NoZero t → 0 < n → c ∷ cs ≡ t ++ replicate n 0 → ⊥
no_more c cs z f [] n h lt e = f n e
no_more c cs z f (d ∷ ds) n h lt e = let same : c ≡ d = cc in h.0 (sym same ∙ z)

no_less : (c : ℕ) (cs : List ℕ) → c ≢ 0 → ((t : List ℕ) (n : ℕ) → NoZero t → 0 < n → cs ≡ t ++ replicate n 0 → ⊥)
    → (t : List ℕ) (n : ℕ) → NoZero t → 0 < n → c ∷ cs ≡ t ++ replicate n 0 → ⊥
no_less c cs nz f [] n h lt e = not_zeros c cs nz n e
no_less c cs nz f (d ∷ ds) n h lt e = let rest : cs ≡ ds ++ replicate n 0 = cc in f ds n h.1 lt rest

nothing : (t : List ℕ) (n : ℕ) → 0 < n → [] ≡ t ++ replicate n 0 → ⊥
nothing [] zero lt e = absurd (omega arith)
nothing [] (suc n) lt e = absurd (cc)
nothing (c ∷ cs) n lt e = absurd (cc)

some_zeros : (c : ℕ) (cs : List ℕ) (n : ℕ) → c ∷ cs ≡ replicate n 0 → 0 < n
some_zeros c cs zero e = absurd (cc)
some_zeros c cs (suc n) e = omega arith

split_or : (bs : List ℕ) → IsSplit bs ⊎ ((t : List ℕ) (n : ℕ) → NoZero t → 0 < n → bs ≡ t ++ replicate n 0 → ⊥)
split_or [] = inr (λ t n h lt e. nothing t n lt e)
split_or (c ∷ cs) = elim (cases_eq c 0) [
  | inl z ↦ elim (zeros_or (c ∷ cs)) [
    | inl p ↦ inl (record { text = []; zeros = p.0; whole = tt; ended = some_zeros c cs p.0 p.1; filled = p.1 })
    | inr f ↦ inr (no_more c cs z f)
  ]
  | inr nz ↦ elim (split_or cs) [
    | inl s ↦ inl (record { text = c ∷ s.text; zeros = s.zeros; whole = (nz, s.whole); ended = s.ended; filled = ap (λ xs. c ∷ xs) s.filled })
    | inr f ↦ inr (no_less c cs nz f)
  ]
]

text_of_split : (area : List ℕ) (t : List ℕ) (n : ℕ) → NoZero t → 0 < n → area ≡ t ++ replicate n 0 → (c : ℕ) (cs : List ℕ) → area ≡ c ∷ cs → c ≡ 123
    → (text : List ℕ) × JsonText area text
text_of_split area [] zero h lt e c cs f b = absurd (omega arith)
text_of_split area [] (suc n) h lt e c cs f b = absurd (let g : 0 ∷ replicate n 0 ≡ c ∷ cs = sym e ∙ f in let z : 0 ≡ c = cc in omega arith)
text_of_split area (d ∷ ds) n h lt e c cs f b =
    let g : d ∷ (ds ++ replicate n 0) ≡ c ∷ cs = sym e ∙ f in
    let same : d ≡ c = cc in
    (d ∷ ds, record { rest = ds; begins = ap (λ x. x ∷ ds) (same ∙ b); whole = all_of (d ∷ ds) h; zeros = n; ended = lt; filled = e })

begins_so : (area text : List ℕ) → JsonText area text → (c : ℕ) (cs : List ℕ) → area ≡ c ∷ cs → c ≡ 123
begins_so area text j c cs f =
    let e : c ∷ cs ≡ (123 ∷ j.rest) ++ replicate j.zeros 0 = sym f ∙ (j.filled ∙ ap (λ t. t ++ replicate j.zeros 0) j.begins) in
    cc

text_or : (area : List ℕ) → ((text : List ℕ) × JsonText area text) ⊎ ((text : List ℕ) → JsonText area text → ⊥)
text_or [] = inr (λ text j. let e : [] ≡ (123 ∷ j.rest) ++ replicate j.zeros 0 = j.filled ∙ ap (λ t. t ++ replicate j.zeros 0) j.begins in absurd (cc))
text_or (c ∷ cs) = elim (cases_eq c 123) [
  | inl b ↦ elim (split_or (c ∷ cs)) [
    | inl s ↦ inl (text_of_split (c ∷ cs) s.text s.zeros s.whole s.ended s.filled c cs refl b)
    | inr f ↦ inr (λ text j. f text j.zeros (none_of text j.whole) j.ended j.filled)
  ]
  | inr nb ↦ inr (λ text j. nb (begins_so (c ∷ cs) text j c cs refl))
]

utf8_or : (text : List ℕ) → IsUtf8 text ⊎ (IsUtf8 text → ⊥)
utf8_or text = elim (cases_Bool (is_utf8 text)) [
  | inl e ↦ inl (IsUtf8-from_is_utf8 text e)
  | inr e ↦ inr (λ u. absurd (let t : is_utf8 text ≡ true = is_utf8-from_IsUtf8 text u in cc))
]

value_by : (area text : List ℕ) → JsonText area text → IsUtf8 text → (o : Option Data) → read text ≡ o → ((j : Data) × Json area j) ⊎ IsBadJson area
value_by area text placed u None e = inr (record { text = text; placed = placed; bad = λ _. e })
value_by area text placed u (Some j) e = inl (j, record { text = text; placed = placed; utf8 = u; reads = e })

pub kind_of : (area : List ℕ) → ((j : Data) × Json area j) ⊎ IsBadJson area ⊎ ((text : List ℕ) → JsonText area text → ⊥)
kind_of area = elim (text_or area) [
  | inl p ↦ elim (utf8_or p.0) [
    | inl u ↦ elim (value_by area p.0 p.1 u (read p.0) refl) [
      | inl v ↦ inl v
      | inr b ↦ inr (inl b)
    ]
    | inr nu ↦ inr (inl (record { text = p.0; placed = p.1; bad = λ u. absurd (nu u) }))
  ]
  | inr none ↦ inr (inr none)
]

pub not_bad : (area : List ℕ) (j : Data) → Json area j → IsBadJson area → ⊥
not_bad area j json h =
    let e : json.text ≡ h.text = one_text area json.text h.text json.placed h.placed in
    let P : List ℕ → Type 0 = λ t. IsUtf8 t in
    let none : read h.text ≡ None = h.bad (subst P e json.utf8) in
    let same : read json.text ≡ read h.text = ap read e in
    let some : read json.text ≡ Some j = json.reads in
    cc
