-- The pieces of two areas: one more byte, one more sector, and that they lie inside.
use Rattle.std.proofs.Common.{◌≡◌, ℕ, zero, suc, ◌+◌, ◌-◌, ◌*◌, ◌/◌, ◌<◌, ◌≤◌, List, [], ◌∷◌, ◌++◌, Bool, true, false, cond, inl, inr, length, nat_le, refl, sym, ap, ◌∙◌, arith, subst, add-one, append_assoc, length-append}
use Rattle.std.proofs.lemmas.Bool.{cases_Bool, cond_both}
use Rattle.std.proofs.lemmas.List.{append-nil}
use Rattle.std.proofs.lemmas.List.Elements.{All-append}
use Rattle.std.proofs.lemmas.List.FromFn.{filter_of_map_range_with_len_more}
use Rattle.luks_vouching.specs.Pieces.{byte_piece, bytes_from, differ_at, pieces, pieces_before, pieces_in, AreInside}
use Rattle.luks_vouching.specs.declared.pieces.Piece.{Piece}

module _ (a b : List ℕ) (from : ℕ) where
  bytes_more : (n : ℕ) → bytes_from a b from (n + 1) ≡ bytes_from a b from n ++ cond (differ_at a b (from + n)) (byte_piece (from + n) ∷ []) []
  unfolding bytes_from
  bytes_more n = filter_of_map_range_with_len_more (λ (piece : Piece). differ_at a b piece.at) byte_piece from n (from + n) refl

  -- of no bytes
  pub bytes_none : bytes_from a b from 0 ≡ []
  unfolding bytes_from
  bytes_none = refl

  -- one more byte
  pub bytes_yes : (n : ℕ) → differ_at a b (from + n) ≡ true → bytes_from a b from (n + 1) ≡ bytes_from a b from n ++ byte_piece (from + n) ∷ []
  bytes_yes n is = bytes_more n ∙ ap (λ (x : Bool). bytes_from a b from n ++ cond x (byte_piece (from + n) ∷ []) []) is

  pub bytes_no : (n : ℕ) → differ_at a b (from + n) ≡ false → bytes_from a b from (n + 1) ≡ bytes_from a b from n
  bytes_no n is =
      bytes_more n ∙ ap (λ (x : Bool). bytes_from a b from n ++ cond x (byte_piece (from + n) ∷ []) []) is ∙ append-nil (bytes_from a b from n)

  -- in the first bytes there are not more than in more of them
  pub bytes_grow : (n d : ℕ) → length (bytes_from a b from n) ≤ length (bytes_from a b from (n + d))
  bytes_grow n zero = let at : n + 0 ≡ n = omega arith in subst (λ k. length (bytes_from a b from n) ≤ length (bytes_from a b from k)) (sym at) (omega arith)
  bytes_grow n (suc d) =
      let at : (n + d) + 1 ≡ n + suc d = omega arith in
      let so_far = bytes_grow n d in
      let more : length (bytes_from a b from (n + d)) ≤ length (bytes_from a b from ((n + d) + 1)) = elim (cases_Bool (differ_at a b (from + (n + d)))) [
        | inl is ↦
            let long : length (bytes_from a b from ((n + d) + 1)) ≡ length (bytes_from a b from (n + d)) + 1 =
            ap length (bytes_yes (n + d) is) ∙ length-append (bytes_from a b from (n + d)) (byte_piece (from + (n + d)) ∷ []) in
            omega (arith, long)
        | inr not ↦
            let same : length (bytes_from a b from ((n + d) + 1)) ≡ length (bytes_from a b from (n + d)) = ap length (bytes_no (n + d) not) in
            omega (arith, same)
      ] in
      subst (λ k. length (bytes_from a b from n) ≤ length (bytes_from a b from k)) at (omega (arith, more, so_far))

  pub bytes_few : (n : ℕ) → length (bytes_from a b from n) ≤ n
  bytes_few zero = let none : length (bytes_from a b from 0) ≡ 0 = ap length bytes_none in omega (arith, none)
  bytes_few (suc n) =
      let so_far = bytes_few n in
      let next : length (bytes_from a b from (n + 1)) ≤ n + 1 = elim (cases_Bool (differ_at a b (from + n))) [
        | inl is ↦
            let long : length (bytes_from a b from (n + 1)) ≡ length (bytes_from a b from n) + 1 =
            ap length (bytes_yes n is) ∙ length-append (bytes_from a b from n) (byte_piece (from + n) ∷ []) in
            omega (arith, long, so_far)
        | inr not ↦
            let same : length (bytes_from a b from (n + 1)) ≡ length (bytes_from a b from n) = ap length (bytes_no n not) in
            omega (arith, same, so_far)
      ] in
      subst (λ k. length (bytes_from a b from k) ≤ k) (add-one n) next

-- where one more byte doesn't fit all don't
pub no_room : (a b : List ℕ) (old new : List Piece) (from n : ℕ) → n < 512 → differ_at a b (from + n) ≡ true → new ≡ old ++ bytes_from a b from n → length new ≡ 32
    → 32 < length (old ++ bytes_from a b from 512)
no_room a b old new from n below is found full =
    let back : (n + 1) + (512 - (n + 1)) ≡ 512 = omega (arith, below) in
    let grow : length (bytes_from a b from (n + 1)) ≤ length (bytes_from a b from 512) =
    subst (λ k. length (bytes_from a b from (n + 1)) ≤ length (bytes_from a b from k)) back (bytes_grow a b from (n + 1) (512 - (n + 1))) in
    let more : length (bytes_from a b from (n + 1)) ≡ length (bytes_from a b from n) + 1 =
    ap length (bytes_yes a b from n is) ∙ length-append (bytes_from a b from n) (byte_piece (from + n) ∷ []) in
    let one : length new ≡ length old + length (bytes_from a b from n) = ap length found ∙ length-append old (bytes_from a b from n) in
    let all : length (old ++ bytes_from a b from 512) ≡ length old + length (bytes_from a b from 512) = length-append old (bytes_from a b from 512) in
    omega (arith, grow, more, one, all, full)

-- one more that is added
pub one_added : (a b : List ℕ) (old new next : List Piece) (from n : ℕ) → differ_at a b (from + n) ≡ true → new ≡ old ++ bytes_from a b from n
    → next ≡ new ++ byte_piece (from + n) ∷ [] → next ≡ old ++ bytes_from a b from (n + 1)
one_added a b old new next from n is found pushed =
    pushed ∙ ap (λ l. l ++ byte_piece (from + n) ∷ []) found ∙ append_assoc old (bytes_from a b from n) (byte_piece (from + n) ∷ [])
    ∙ ap (λ l. old ++ l) (sym (bytes_yes a b from n is))

-- one more sector
pub pieces_more : (a b : List ℕ) (n : ℕ) → pieces_before a b (n + 1) ≡ pieces_before a b n ++ pieces_in a b n
pieces_more a b n = ap (pieces_before a b) (add-one n)

pub pieces_grow : (a b : List ℕ) (n d : ℕ) → length (pieces_before a b n) ≤ length (pieces_before a b (n + d))
pieces_grow a b n zero = let at : n + 0 ≡ n = omega arith in subst (λ k. length (pieces_before a b n) ≤ length (pieces_before a b k)) (sym at) (omega arith)
pieces_grow a b n (suc d) =
    let at : (n + d) + 1 ≡ n + suc d = omega arith in
    let so_far = pieces_grow a b n d in
    let more : length (pieces_before a b ((n + d) + 1)) ≡ length (pieces_before a b (n + d)) + length (pieces_in a b (n + d)) =
    ap length (pieces_more a b (n + d)) ∙ length-append (pieces_before a b (n + d)) (pieces_in a b (n + d)) in
    subst (λ k. length (pieces_before a b n) ≤ length (pieces_before a b k)) at (omega (arith, more, so_far))

-- where those of one more sector don't fit all don't
pub no_room_for_all : (a b : List ℕ) (n count : ℕ) → n < count → 32 < length (pieces_before a b n ++ pieces_in a b n) → 32 < length (pieces_before a b count)
no_room_for_all a b n count below many =
    let back : (n + 1) + (count - (n + 1)) ≡ count = omega (arith, below) in
    let grow : length (pieces_before a b (n + 1)) ≤ length (pieces_before a b count) =
    subst (λ k. length (pieces_before a b (n + 1)) ≤ length (pieces_before a b k)) back (pieces_grow a b (n + 1) (count - (n + 1))) in
    let same : length (pieces_before a b (n + 1)) ≡ length (pieces_before a b n ++ pieces_in a b n) = ap length (pieces_more a b n) in
    omega (arith, grow, same, many)

-- ---- they lie inside

-- what lies inside so many bytes lies inside more
inside_more : (m n : ℕ) (xs : List Piece) → m ≤ n → AreInside m xs → AreInside n xs
inside_more m n xs le x = λ k d lt. let h = x k d lt in omega (arith, h, le)

inside_none : (n : ℕ) → AreInside n []
inside_none n = λ k d lt. absurd (omega (arith, lt))

inside_one : (n : ℕ) (p : Piece) → p.at + p.len ≤ n → AreInside n (p ∷ [])
inside_one n p h zero d lt = h
inside_one n p h (suc k) d lt = absurd (omega (arith, lt))

bytes_inside : (a b : List ℕ) (from n : ℕ) → AreInside (from + n) (bytes_from a b from n)
bytes_inside a b from zero = subst (AreInside (from + 0)) (sym (bytes_none a b from)) (inside_none (from + 0))
bytes_inside a b from (suc n) =
    let at : n + 1 ≡ suc n = omega arith in
    let so_far : AreInside (from + (n + 1)) (bytes_from a b from n) = inside_more (from + n) (from + (n + 1)) (bytes_from a b from n) (omega arith) (bytes_inside a b from n) in
    let next : AreInside (from + (n + 1)) (bytes_from a b from (n + 1)) = elim (cases_Bool (differ_at a b (from + n))) [
      | inl is ↦
          subst (AreInside (from + (n + 1))) (sym (bytes_yes a b from n is))
          (All-append (λ (piece : Piece). piece.at + piece.len ≤ from + (n + 1)) (bytes_from a b from n) (byte_piece (from + n) ∷ []) so_far
          (inside_one (from + (n + 1)) (byte_piece (from + n)) (omega arith)))
      | inr not ↦ subst (AreInside (from + (n + 1))) (sym (bytes_no a b from n not)) so_far
    ] in
    subst (λ k. AreInside (from + k) (bytes_from a b from k)) at next

abbrev sector_piece : ℕ → Piece
sector_piece k = record { at = 512 * k; len = 512 }

pieces_in_inside : (a b : List ℕ) (k : ℕ) → AreInside (512 * k + 512) (pieces_in a b k)
pieces_in_inside a b k = cond_both (nat_le (length (bytes_from a b (512 * k) 512)) 16) (bytes_from a b (512 * k) 512) (sector_piece k ∷ []) (AreInside (512 * k + 512))
    (λ is. bytes_inside a b (512 * k) 512) (λ is. inside_one (512 * k + 512) (sector_piece k) (omega arith))

before_inside : (a b : List ℕ) (n : ℕ) → AreInside (512 * n) (pieces_before a b n)
before_inside a b zero = inside_none (512 * 0)
before_inside a b (suc n) =
    All-append (λ (piece : Piece). piece.at + piece.len ≤ 512 * suc n) (pieces_before a b n) (pieces_in a b n)
    (inside_more (512 * n) (512 * suc n) (pieces_before a b n) (omega arith) (before_inside a b n))
    (inside_more (512 * n + 512) (512 * suc n) (pieces_in a b n) (omega arith) (pieces_in_inside a b n))

-- of whole areas
pub pieces_inside : (a b : List ℕ) → AreInside (length a) (pieces a b)
pieces_inside a b =
    let n : ℕ = length a / 512 in
    inside_more (512 * (length a / 512)) (length a) (pieces a b) (omega arith) (before_inside a b (length a / 512))
