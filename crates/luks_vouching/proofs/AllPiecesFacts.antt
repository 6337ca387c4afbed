-- Each composition of pieces has a number.
use Rattle.std.proofs.Common.{◌≡◌, ℕ, zero, suc, ◌+◌, ◌-◌, ◌*◌, ◌/◌, ◌%◌, ◌^◌, ◌<◌, ◌≤◌, ◌⊎◌, ◌==◌, List, [], ◌∷◌, ◌++◌, true, if◌then◌else◌, inl, inr, length, get_or, refl, sym, ap, ◌∙◌, arith, subst, add-one}
use Rattle.std.specs.List.{All}
use Rattle.std.proofs.lemmas.Bool.{cases_Bool, cases_lt, cond_both, eqb-true}
use Rattle.std.proofs.lemmas.Grind.{same_number_lists}
use Rattle.std.proofs.lemmas.List.{get_or-drop, get_or-take}
use Rattle.std.proofs.Math.Nat.{pow-suc}
use Rattle.luks_area.specs.Ranges.{part, IsAt}
use Rattle.luks_area.proofs.RangeFacts.{get_or-part, length-part_inside, length-written, part-written, same_outside-written}
use Rattle.luks_vouching.specs.Composed.{IsWholeSectors}
use Rattle.luks_vouching.specs.Pieces.{byte_piece, bytes_from, differ_at, numbered, pieces, pieces_before, pieces_in, with_piece, AreInside, IsComposedOfPieces, IsOfPieces}
use Rattle.luks_vouching.specs.declared.pieces.Piece.{Piece}
use Rattle.luks_vouching.proofs.PieceFacts.{bytes_no, bytes_yes, pieces_inside}
use Rattle.luks_vouching.proofs.SectorFacts.{not_false}

-- the place is of one of these pieces
abbrev IsOf : ℕ → List Piece → Type 0
IsOf p [] = ⊥
IsOf p (u ∷ us) = IsAt u.at u.len p ⊎ IsOf p us

of_left : (p : ℕ) (xs ys : List Piece) → IsOf p xs → IsOf p (xs ++ ys)
of_left p [] ys is = absurd is
of_left p (x ∷ xs) ys is = elim is [ inl here ↦ inl here | inr there ↦ inr (of_left p xs ys there) ]

of_right : (p : ℕ) (xs ys : List Piece) → IsOf p ys → IsOf p (xs ++ ys)
of_right p [] ys is = is
of_right p (x ∷ xs) ys is = inr (of_right p xs ys is)

-- ---- each byte that differs is of a piece

of_bytes : (a b : List ℕ) (from n p : ℕ) → from ≤ p → p < from + n → differ_at a b p ≡ true → IsOf p (bytes_from a b from n)
of_bytes a b from zero p low high is = absurd (omega (arith, low, high))
of_bytes a b from (suc n) p low high is =
    let next : IsOf p (bytes_from a b from (n + 1)) = elim (cases_lt p (from + n)) [
      | inl below ↦ (
          let before : IsOf p (bytes_from a b from n) = of_bytes a b from n p low below is in
          elim (cases_Bool (differ_at a b (from + n))) [
            | inl differ ↦ subst (IsOf p) (sym (bytes_yes a b from n differ)) (of_left p (bytes_from a b from n) (byte_piece (from + n) ∷ []) before)
            | inr same ↦ subst (IsOf p) (sym (bytes_no a b from n same)) before
          ])
      | inr past ↦ (
          let here : p ≡ from + n = omega (arith, past, high) in
          subst (IsOf p) (sym (bytes_yes a b from n (ap (differ_at a b) (sym here) ∙ is)))
          (of_right p (bytes_from a b from n) (byte_piece (from + n) ∷ []) (inl (omega (arith, here), omega (arith, here)))))
    ] in
    subst (λ k. IsOf p (bytes_from a b from k)) (add-one n) next

abbrev whole_sector : ℕ → Piece
whole_sector k = record { at = 512 * k; len = 512 }

of_pieces_in : (a b : List ℕ) (k p : ℕ) → 512 * k ≤ p → p < 512 * k + 512 → differ_at a b p ≡ true → IsOf p (pieces_in a b k)
of_pieces_in a b k p low high is =
    cond_both _ (bytes_from a b (512 * k) 512) (whole_sector k ∷ []) (IsOf p) (λ few. of_bytes a b (512 * k) 512 p low high is) (λ many. inl (low, high))

of_before : (a b : List ℕ) (n p : ℕ) → p < 512 * n → differ_at a b p ≡ true → IsOf p (pieces_before a b n)
of_before a b zero p high is = absurd (omega (arith, high))
of_before a b (suc n) p high is = elim (cases_lt p (512 * n)) [
  | inl below ↦ of_left p (pieces_before a b n) (pieces_in a b n) (of_before a b n p below is)
  | inr past ↦ of_right p (pieces_before a b n) (pieces_in a b n) (of_pieces_in a b n p (omega (arith, past)) (omega (arith, high)) is)
]

-- ---- the byte at one place, after a piece was put there

module _ (b x : List ℕ) (u : Piece) (inside : u.at + u.len ≤ length b) (long : length x ≡ length b) where
  piece_long : length (part b u.at u.len) ≡ u.len
  piece_long = length-part_inside b u.at u.len inside

  fits : u.at + length (part b u.at u.len) ≤ length x
  fits = let n = piece_long in omega (arith, n, long, inside)

  pub length-with_piece : length (with_piece b u x) ≡ length x
  length-with_piece = length-written x u.at (part b u.at u.len) fits

  pub at_piece : (p : ℕ) → IsAt u.at u.len p → get_or (with_piece b u x) p 0 ≡ get_or b p 0
  at_piece p is =
      let low : u.at ≤ p = is.0 in
      let high : p < u.at + u.len = is.1 in
      let here : u.at + (p - u.at) ≡ p = omega (arith, low) in
      let below : p - u.at < u.len = omega (arith, low, high) in
      let whole : part (with_piece b u x) u.at u.len ≡ part b u.at u.len =
      ap (part (with_piece b u x) u.at) (sym piece_long) ∙ part-written x u.at (part b u.at u.len) fits in
      ap (λ k. get_or (with_piece b u x) k 0) (sym here) ∙ sym (get_or-part (with_piece b u x) u.at u.len (p - u.at) below)
      ∙ ap (λ l. get_or l (p - u.at) 0) whole ∙ get_or-part b u.at u.len (p - u.at) below ∙ ap (λ k. get_or b k 0) here

  pub beside_piece : (p : ℕ) → (IsAt u.at u.len p → ⊥) → get_or (with_piece b u x) p 0 ≡ get_or x p 0
  beside_piece p other =
      let outside = same_outside-written x u.at (part b u.at u.len) fits in
      elim (cases_lt p u.at) [
        | inl before ↦ sym (get_or-take u.at (with_piece b u x) p 0 before) ∙ ap (λ l. get_or l p 0) outside.before ∙ get_or-take u.at x p 0 before
        | inr past ↦ elim (cases_lt p (u.at + u.len)) [
          | inl within ↦ absurd (other (omega (arith, past), within))
          | inr behind ↦ (
              let end : ℕ = u.at + length (part b u.at u.len) in
              let n = piece_long in
              let here : (u.at + length (part b u.at u.len)) + (p - (u.at + length (part b u.at u.len))) ≡ p = omega (arith, n, behind) in
              ap (λ k. get_or (with_piece b u x) k 0) (sym here) ∙ sym (get_or-drop end (with_piece b u x) (p - end) 0)
              ∙ ap (λ l. get_or l (p - end) 0) outside.after ∙ get_or-drop end x (p - end) 0 ∙ ap (λ k. get_or x k 0) here
              )
        ]
      ]

-- ---- the number

-- the piece has the same bytes in both
same_piece : (i j : List ℕ) (u : Piece) → part j u.at u.len ≡ part i u.at u.len → (p : ℕ) → IsAt u.at u.len p → get_or j p 0 ≡ get_or i p 0
same_piece i j u same p is =
    let low : u.at ≤ p = is.0 in
    let high : p < u.at + u.len = is.1 in
    let here : u.at + (p - u.at) ≡ p = omega (arith, low) in
    let below : p - u.at < u.len = omega (arith, low, high) in
    ap (λ k. get_or j k 0) (sym here) ∙ sym (get_or-part j u.at u.len (p - u.at) below) ∙ ap (λ l. get_or l (p - u.at) 0) same
    ∙ get_or-part i u.at u.len (p - u.at) below ∙ ap (λ k. get_or i k 0) here

is_at : (at len p : ℕ) → IsAt at len p ⊎ (IsAt at len p → ⊥)
is_at at len p = elim (cases_lt p at) [
  | inl before ↦ inr (λ is. let low : at ≤ p = is.0 in omega (arith, before, low))
  | inr past ↦ elim (cases_lt p (at + len)) [
    | inl within ↦ inl (omega (arith, past), within)
    | inr behind ↦ inr (λ is. let high : p < at + len = is.1 in omega (arith, behind, high))
  ]
]

module _ (a b j : List ℕ) (long : length b ≡ length a) (as_first : length j ≡ length a) where
  abbrev IsEither : Piece → Type 0
  IsEither u = (part j u.at u.len ≡ part a u.at u.len) ⊎ (part j u.at u.len ≡ part b u.at u.len)

  -- `x` has at each place the byte of `j` or of the first area, and what isn't of these pieces is that of `j`
  record Goes (us : List Piece) (x : List ℕ) : Type 0 where
    as_long : length x ≡ length a
    own : (p : ℕ) → (get_or x p 0 ≡ get_or j p 0) ⊎ (get_or x p 0 ≡ get_or a p 0)
    done : (p : ℕ) → p < length j → (get_or x p 0 ≡ get_or j p 0) ⊎ IsOf p us

  number_of : (us : List Piece) (x : List ℕ) → AreInside (length a) us → All IsEither us → Goes us x → (n : ℕ) × (n < 2 ^ length us) × (j ≡ numbered b us n x)
  number_of [] x inside each goes = (
    0,
    omega arith,
    same_number_lists j x (as_first ∙ sym goes.as_long) (λ p lt. elim (goes.done p lt) [ inl is ↦ sym is | inr none ↦ absurd none ]),
  )
  number_of (u ∷ us) x inside each goes =
      let here : u.at + u.len ≤ length a = inside 0 u (omega arith) in
      let within : u.at + u.len ≤ length b = omega (arith, here, long) in
      let x_long : length x ≡ length b = goes.as_long ∙ sym long in
      let inside_rest : AreInside (length a) us = λ k d lt. inside (suc k) d (omega (arith, lt)) in
      let each_rest : All IsEither us = λ k d lt. each (suc k) d (omega (arith, lt)) in
      let doubled : 2 ^ suc (length us) ≡ 2 ^ length us * 2 = pow-suc 2 (length us) in
      elim (each 0 u (omega arith)) [
        | inl first ↦ (
            let next : Goes us x = record {
              as_long = goes.as_long;
              own = goes.own;
              done = λ p lt. elim (goes.done p lt) [
                | inl is ↦ inl is
                | inr of ↦ elim of [
                  | inl at ↦ elim (goes.own p) [
                    | inl is ↦ inl is
                    | inr is ↦ inl (is ∙ sym (same_piece a j u first p at))
                  ]
                  | inr there ↦ inr there
                ]
              ];
            } in
            let r = number_of us x inside_rest each_rest next in
            let below : r.0 < 2 ^ length us = r.1 in
            let half : (r.0 * 2) / 2 ≡ r.0 = omega arith in
            let even : (r.0 * 2) % 2 ≡ 0 = omega arith in (
              r.0 * 2,
              omega (arith, below, doubled),
              r.2 ∙ ap (λ k. numbered b us k x) (sym half) ∙ ap (λ k. numbered b us ((r.0 * 2) / 2) (if k == 1 then with_piece b u x else x)) (sym even),
            )
            )
        | inr second ↦ (
            let y : List ℕ = with_piece b u x in
            let next : Goes us (with_piece b u x) = record {
              as_long = length-with_piece b x u within x_long ∙ goes.as_long;
              own = λ p. elim (is_at u.at u.len p) [
                | inl at ↦ inl (at_piece b x u within x_long p at ∙ sym (same_piece b j u second p at))
                | inr other ↦ elim (goes.own p) [
                  | inl is ↦ inl (beside_piece b x u within x_long p other ∙ is)
                  | inr is ↦ inr (beside_piece b x u within x_long p other ∙ is)
                ]
              ];
              done = λ p lt. elim (is_at u.at u.len p) [
                | inl at ↦ inl (at_piece b x u within x_long p at ∙ sym (same_piece b j u second p at))
                | inr other ↦ elim (goes.done p lt) [
                  | inl is ↦ inl (beside_piece b x u within x_long p other ∙ is)
                  | inr of ↦ elim of [ inl at ↦ absurd (other at) | inr there ↦ inr there ]
                ]
              ];
            } in
            let r = number_of us (with_piece b u x) inside_rest each_rest next in
            let below : r.0 < 2 ^ length us = r.1 in
            let half : (r.0 * 2 + 1) / 2 ≡ r.0 = omega arith in
            let odd : (r.0 * 2 + 1) % 2 ≡ 1 = omega arith in (
              r.0 * 2 + 1,
              omega (arith, below, doubled),
              r.2 ∙ ap (λ k. numbered b us k (with_piece b u x)) (sym half) ∙ ap (λ k. numbered b us ((r.0 * 2 + 1) / 2) (if k == 1 then with_piece b u x else x)) (sym odd),
            )
            )
      ]

-- each has a number
pub composed_of_pieces : (a b j : List ℕ) → IsWholeSectors a → length b ≡ length a → IsComposedOfPieces a b j → IsOfPieces a b j
composed_of_pieces a b j whole long composed =
    let same : length j ≡ length a = composed.as_first in
    let end : 512 * (length a / 512) ≡ length a = whole in
    number_of a b j long composed.as_first (pieces a b) a (pieces_inside a b) composed.each (record {
      as_long = refl;
      own = λ p. inr refl;
      done = λ p lt. elim (cases_Bool (differ_at a b p)) [
        | inl differ ↦ inr (of_before a b (length a / 512) p (omega (arith, lt, same, end)) differ)
        | inr alike ↦ inl (sym (composed.rest p lt (eqb-true (get_or a p 0) (get_or b p 0) (not_false (get_or a p 0 == get_or b p 0) alike))))
      ];
    })
