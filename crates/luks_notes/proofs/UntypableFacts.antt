-- A passphrase is or ends in one thing alone that nobody types.
use Rattle.std.proofs.Common.{◌≡◌, ℕ, ◌-◌, suc, List, [], ◌∷◌, length, drop, refl, sym, ap, ◌∙◌, subst, arith, drop-cons, length-drop}
use Rattle.std.proofs.lemmas.List.{drop_all}
use Rattle.luks_notes.specs.declared.untypable.Untypable.{Untypable}
use Rattle.luks_notes.specs.declared.untypable.Untypable.TheVariants.{Empty, Newline, CarriageReturn, CarriageReturnNewline}
use Rattle.luks_notes.specs.Untypable.{EndsIn, IsUntypable}

-- where there is no byte, none is the last
not_empty : (p : List ℕ) (x : ℕ) (xs : List ℕ) → p ≡ [] → EndsIn p (x ∷ xs) → ⊥
not_empty p x xs none ends =
    let no_byte : length p ≡ 0 = ap length none in
    let e : [] ≡ x ∷ xs = sym (drop_all (length p - length (x ∷ xs)) p (omega (arith, no_byte))) ∙ ends in cc

-- the last byte is one alone
last_byte : (p : List ℕ) (x y : ℕ) → EndsIn p (x ∷ []) → EndsIn p (y ∷ []) → x ≡ y
last_byte p x y one other = let same : x ∷ [] ≡ y ∷ [] = sym one ∙ other in cc

-- the second of the last two bytes is the last one
last_of_two : (p : List ℕ) (x y : ℕ) → EndsIn p (x ∷ y ∷ []) → EndsIn p (y ∷ [])
last_of_two p x y ends =
    let two : length p - (length p - 2) ≡ 2 = sym (length-drop (length p - 2) p) ∙ ap length ends in
    let next = drop-cons p (length p - 2) 0 (omega (arith, two)) in
    let rest : drop (suc (length p - 2)) p ≡ y ∷ [] = (let e = sym next ∙ ends in cc) in
    let place : suc (length p - 2) ≡ length p - 1 = omega (arith, two) in
    subst (λ (n : ℕ). drop n p ≡ y ∷ []) place rest

pub only_one : (p : List ℕ) (a b : Untypable) → IsUntypable p a → IsUntypable p b → a ≡ b
only_one p Empty Empty x y = refl
only_one p Empty Newline x y = absurd (not_empty p 10 [] x y.0)
only_one p Empty CarriageReturn x y = absurd (not_empty p 13 [] x y)
only_one p Empty CarriageReturnNewline x y = absurd (not_empty p 13 (10 ∷ []) x y)
only_one p Newline Empty x y = absurd (not_empty p 10 [] y x.0)
only_one p Newline Newline x y = refl
only_one p Newline CarriageReturn x y = absurd (let same = last_byte p 10 13 x.0 y in omega (arith, same))
only_one p Newline CarriageReturnNewline x y = absurd (x.1 y)
only_one p CarriageReturn Empty x y = absurd (not_empty p 13 [] y x)
only_one p CarriageReturn Newline x y = absurd (let same = last_byte p 10 13 y.0 x in omega (arith, same))
only_one p CarriageReturn CarriageReturn x y = refl
only_one p CarriageReturn CarriageReturnNewline x y = absurd (let same = last_byte p 13 10 x (last_of_two p 13 10 y) in omega (arith, same))
only_one p CarriageReturnNewline Empty x y = absurd (not_empty p 13 (10 ∷ []) y x)
only_one p CarriageReturnNewline Newline x y = absurd (y.1 x)
only_one p CarriageReturnNewline CarriageReturn x y = absurd (let same = last_byte p 13 10 y (last_of_two p 13 10 x) in omega (arith, same))
only_one p CarriageReturnNewline CarriageReturnNewline x y = refl
