-- Fields that are put one after another into zeros.
use Rattle.std.proofs.Common.{inl, inr, ◌≡◌, ◌==◌, true, false, ℕ, zero, suc, ◌+◌, ◌-◌, ◌^◌, ◌<◌, ◌≤◌, List, [], ◌∷◌, ◌++◌, length, get_or, replicate, slice_index, refl, sym, ap, ◌∙◌, arith, subst}
use Rattle.std.specs.Prelude.{take, not}
use Rattle.std.specs.List.{prefix_len}
use Rattle.std.proofs.Math.Nat.{mod-lt}
use Rattle.std.proofs.lemmas.List.{append-nil}
use Rattle.std.proofs.lemmas.Bool.{cases_lt, cases_Bool, eq-eqb}
use Rattle.byteorder.specs.Endian.{big_bytes, big_number}
use Rattle.byteorder.specs.Numbers.{big_number-reads_back}
use Rattle.std.specs.Int.{byte_at}
use Rattle.luks_area.specs.Ranges.{part, written, IsAt, SameBut}
use Rattle.luks_area.proofs.RangeFacts.{get_or-part, part-add, part-same_but, part-written, same_but-same_outside, same_but-then, same_but-wider, same_outside-written}
use Rattle.luks_area.specs.Text.{text_of}
use Rattle.luks1_header.specs.Bytes.{number_at, text_at}
use Rattle.luks1_header.specs.Written.{AreBytes, AreZeros}

-- the places from n on
abbrev pub IsFrom : ℕ → ℕ → Type 0
IsFrom n k = n ≤ k

-- `size` bytes of which all from the place n on are zeros
pub record IsFilled (v : List ℕ) (size n : ℕ) : Type 0 where
  pub long : length v ≡ size
  pub blank : (k : ℕ) → n ≤ k → slice_index v k ≡ 0

-- each place of a list of zeros is zero, and so is what lies past it
pub slice_index-zeros : (n k : ℕ) → slice_index (replicate n 0) k ≡ 0
slice_index-zeros zero k = refl
slice_index-zeros (suc n) zero = refl
slice_index-zeros (suc n) (suc k) = slice_index-zeros n k

-- what a field leaves outside it
pub put_apart : (u v b : List ℕ) (at n : ℕ) → v ≡ written u at b → length b ≡ n → at + n ≤ length u → SameBut (IsAt at n) u v
put_apart u v b at n is len inside =
    let within : at + length b ≤ length u = omega (arith, len, inside) in
    let apart : SameBut (IsAt at (length b)) u (written u at b) = same_but-same_outside (same_outside-written u at b within) in
    let B : List ℕ → Type 0 = λ x. SameBut (IsAt at n) u x in
    let N : ℕ → Type 0 = λ m. SameBut (IsAt at m) u (written u at b) in
    subst B (sym is) (subst N len apart)

-- a field put behind those before it leaves zeros behind itself
pub put_next : (u v b : List ℕ) (size from at n : ℕ) → IsFilled u size from → v ≡ written u at b → length b ≡ n → from ≤ at → at + n ≤ size
    → IsFilled v size (at + n)
put_next u v b size from at n state is len order inside =
    let apart : SameBut (IsAt at n) u v = put_apart u v b at n is len (omega (arith, state.long, inside)) in
    record {
      long = apart.length_same ∙ state.long;
      blank = λ k past. apart.each k (λ here. (let high = here.1 in absurd (omega (arith, past, high)))) ∙ state.blank k (omega (arith, past, order));
    }

-- the bytes before a field stay as they are, whatever is put from `next` on
pub put_keeps : (u v w b : List ℕ) (size at n next : ℕ) → length u ≡ size → v ≡ written u at b → length b ≡ n → at + n ≤ size → at + n ≤ next
    → SameBut (IsFrom next) v w → SameBut (IsFrom at) u w
put_keeps u v w b size at n next long is len inside order rest =
    same_but-then
    (same_but-wider (λ p here. here.0) (put_apart u v b at n is len (omega (arith, long, inside))))
    (same_but-wider (λ p past. omega (arith, past, order)) rest)

-- a field stands where it was put
pub put_stands : (u v w b : List ℕ) (size at n next : ℕ) → length u ≡ size → v ≡ written u at b → length b ≡ n → at + n ≤ size → at + n ≤ next
    → SameBut (IsFrom next) v w → part w at n ≡ b
put_stands u v w b size at n next long is len inside order rest =
    part-same_but at n rest (λ p here past. (let high = here.1 in absurd (omega (arith, high, past, order))))
    ∙ ap (λ x. part x at n) is
    ∙ ap (λ m. part (written u at b) at m) (sym len)
    ∙ part-written u at b (omega (arith, len, long, inside))

-- the bytes between two fields are zeros
pub put_leaves : (v w : List ℕ) (size n next : ℕ) → IsFilled v size n → SameBut (IsFrom next) v w → AreZeros w n next
put_leaves v w size n next state rest = λ k past before. rest.each k (λ there. absurd (omega (arith, before, there))) ∙ state.blank k past

-- a number that is in its bytes is read from them
pub number_stands : (w : List ℕ) (at l x : ℕ) → part w at l ≡ big_bytes l x → x < 256 ^ l → number_at w at l ≡ x
number_stands w at l x stands fits =
    ap (λ b. big_number l b) (stands ∙ sym (append-nil (big_bytes l x))) ∙ big_number-reads_back l x [] fits

-- each byte of a number is a byte
byte_small : (k x : ℕ) → byte_at k x < 256
byte_small zero x = mod-lt x (omega arith)
byte_small (suc k) x = mod-lt _ (omega arith)

pub big_bytes-small : (l x k : ℕ) → get_or (big_bytes l x) k 0 < 256
big_bytes-small zero x k = omega arith
big_bytes-small (suc l) x zero = byte_small l x
big_bytes-small (suc l) x (suc k) = big_bytes-small l x k

pub number_is_bytes : (w : List ℕ) (at l x : ℕ) → part w at l ≡ big_bytes l x → AreBytes w at (at + l)
number_is_bytes w at l x stands = λ k past before.
    let there : at + (k - at) ≡ k = omega (arith, past) in
    let here : get_or (part w at l) (k - at) 0 ≡ get_or w k 0 = get_or-part w at l (k - at) (omega (arith, past, before)) ∙ ap (λ p. get_or w p 0) there in
    rw (← here, stands) (big_bytes-small l x (k - at))

-- bytes up to a place and from it on
pub bytes_join : (w : List ℕ) (from mid end : ℕ) → AreBytes w from mid → AreBytes w mid end → AreBytes w from end
bytes_join w from mid end low high = λ k past before. elim (cases_lt k mid) [ inl under ↦ low k past under | inr over ↦ high k over before ]

take_one_more : (n x : ℕ) (xs : List ℕ) → take (1 + n) (x ∷ xs) ≡ x ∷ take n xs
take_one_more n x xs = let next : 1 + n ≡ suc n = omega arith in ap (λ m. take m (x ∷ xs)) next

-- a byte that isn't zero is of the text
pub text_of-next : (x : ℕ) (xs : List ℕ) → (x == 0) ≡ false → text_of (x ∷ xs) ≡ x ∷ text_of xs
text_of-next x xs goes = rw goes (take_one_more (prefix_len (λ c. not (c == 0)) xs) x xs)

pub text_of-end : (x : ℕ) (xs : List ℕ) → (x == 0) ≡ true → text_of (x ∷ xs) ≡ []
text_of-end x xs ends = rw ends refl

-- a text that is followed by zeros is the text of its field
text_ends : (text rest : List ℕ) → text_of text ≡ text → slice_index rest 0 ≡ 0 → text_of (text ++ rest) ≡ text
text_ends [] [] whole zero_ = refl
text_ends [] (y ∷ rest) whole zero_ = text_of-end y rest (eq-eqb y 0 zero_)
text_ends (x ∷ text) rest whole zero_ =
    elim (cases_Bool (x == 0)) [
      | inl ends ↦ (let none : text_of (x ∷ text) ≡ [] = text_of-end x text ends in absurd (cc))
      | inr goes ↦
          let front : x ∷ text_of text ≡ x ∷ text = sym (text_of-next x text goes) ∙ whole in
          let later : text_of text ≡ text = cc in
          text_of-next x (text ++ rest) goes ∙ ap (λ xs. x ∷ xs) (text_ends text rest later zero_)
    ]

pub text_stands : (w : List ℕ) (at len : ℕ) (text : List ℕ) → length text ≤ len → part w at (length text) ≡ text
    → AreZeros w (at + length text) (at + len) → text_of text ≡ text → text_at w at len ≡ text
text_stands w at len text fits stands zeros whole =
    let n : ℕ = length text in
    let split : part w at (n + (len - n)) ≡ part w at n ++ part w (at + n) (len - n) = part-add w at n (len - n) in
    let amount : n + (len - n) ≡ len = omega (arith, fits) in
    let first : slice_index (part w (at + n) (len - n)) 0 ≡ 0 = elim (cases_lt 0 (len - n)) [
      | inl some ↦ get_or-part w (at + n) (len - n) 0 some ∙ zeros ((at + n) + 0) (omega arith) (omega (arith, some))
      | inr none ↦ (let empty : len - n ≡ 0 = omega (arith, none) in ap (λ m. slice_index (part w (at + n) m) 0) empty)
    ] in
    ap (λ m. text_of (part w at m)) (sym amount) ∙ ap text_of (split ∙ ap (λ front. front ++ part w (at + n) (len - n)) stands)
    ∙ text_ends text (part w (at + n) (len - n)) whole first
