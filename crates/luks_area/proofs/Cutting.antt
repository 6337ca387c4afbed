-- The place of the first element that passes, and what precedes it; printable bytes are ASCII.
use Rattle.std.proofs.Common.{◌≡◌, ℕ, zero, suc, ◌≤◌, ◌<◌, Bool, true, nat_lt, nat_le, List, [], ◌∷◌, length, take, None, Some, position, sym, ap, arith, unwrap_or, lit<}
use Rattle.std.specs.List.{before_first, position_or_len, list_all}
use Rattle.std.specs.Str.{IsAscii}
use Rattle.std.proofs.lemmas.Bool.{cond_both, ltb-false, leb-true, and_parts}
use Rattle.std.proofs.lemmas.List.{take_all}
use Rattle.luks_area.specs.Text.{is_printable, is_plain}

pub take-position : {X : Type 0} → (p : X → Bool) (xs : List X) (e : ℕ) → position p xs ≡ Some e → take e xs ≡ before_first p xs
take-position p xs e =
    cond_both (nat_lt (position_or_len p xs) (length xs)) (Some (position_or_len p xs)) None
    (λ o. o ≡ Some e → take e xs ≡ before_first p xs)
    (λ _ h. ap (λ o. take (unwrap_or o 0) xs) (sym h))
    (λ _ h. absurd (cc))

pub before_first-all : {X : Type 0} → (p : X → Bool) (xs : List X) → position p xs ≡ None → xs ≡ before_first p xs
before_first-all p xs =
    cond_both (nat_lt (position_or_len p xs) (length xs)) (Some (position_or_len p xs)) None
    (λ o. o ≡ None → xs ≡ before_first p xs)
    (λ _ h. absurd (cc))
    (λ no _. sym (take_all (position_or_len p xs) xs (ltb-false _ _ no)))

printable-ascii : (c : ℕ) → is_printable c ≡ true → c < 128
printable-ascii c h = let top : c ≤ 0x7E = leb-true c 0x7E (and_parts (nat_le 0x20 c) (nat_le c 0x7E) h).1 in omega (arith, top)

pub plain-ascii : (text : List ℕ) → is_plain text ≡ true → IsAscii text
plain-ascii [] h i = lit< tt
plain-ascii (c ∷ text) h zero = printable-ascii c (and_parts (is_printable c) (list_all is_printable text) h).0
plain-ascii (c ∷ text) h (suc i) = plain-ascii text (and_parts (is_printable c) (list_all is_printable text) h).1 i
