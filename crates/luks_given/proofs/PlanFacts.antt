-- Facts on plans of writes.
use Rattle.std.proofs.Common.{◌≡◌, ℕ, ◌+◌, ◌-◌, ◌≤◌, ◌⊎◌, inl, inr, List, [], ◌∷◌, ◌++◌, length, take, drop, refl, sym, ap, ◌∙◌, arith, append_assoc, length-drop, length-take}
use Rattle.std.proofs.lemmas.List.{drop-append-le, take-append-le, take_all}
use Rattle.luks_area.specs.Ranges.{written, IsAt, SameBut}
use Rattle.luks_area.proofs.RangeFacts.{length-written, same_but-same, same_but-same_outside, same_but-then, same_but-wider, same_outside-written, written-none}
use Rattle.luks_given.specs.declared.parts.Part.{Part}
use Rattle.luks_given.specs.Parts.{HasPlace}
use Rattle.luks_given.specs.declared.planned_writes.PlannedCall.{PlannedCall}
use Rattle.luks_given.specs.Plan.{furthest, planned_length, played, HasNoFlush, IsUnflushed, IsWrittenBy, WritesGiven}

-- one more call
pub planned_length-more : (calls : List PlannedCall) (call : PlannedCall) → planned_length (calls ++ call ∷ []) ≡ planned_length calls + call.len
unfolding planned_length
planned_length-more [] call = omega arith
planned_length-more (c ∷ cs) call = let rest : planned_length (cs ++ call ∷ []) ≡ planned_length cs + call.len = planned_length-more cs call in omega (arith, rest)

-- one more call that ends within
pub furthest-more : (calls : List PlannedCall) (call : PlannedCall) (total : ℕ) → furthest calls ≤ total → call.at + call.len ≤ total → furthest (calls ++ call ∷ []) ≤ total
unfolding furthest
furthest-more [] call total before within = omega (arith, within)
furthest-more (c ∷ cs) call total before within =
    let rest : furthest (cs ++ call ∷ []) ≤ total = furthest-more cs call total (omega (arith, before)) within in omega (arith, before, rest)

-- one more call writes behind all others
pub played-more : (calls : List PlannedCall) (call : PlannedCall) (bytes from v : List ℕ) → planned_length calls ≡ length bytes → call.len ≡ length from
    → played (calls ++ call ∷ []) (bytes ++ from) v ≡ written (played calls bytes v) call.at from
unfolding played planned_length
played-more [] call [] from v counted long = ap (written v call.at) (take_all call.len from (omega (arith, long)))
played-more [] call (b ∷ bs) from v counted long = absurd (omega (arith, counted))
played-more (c ∷ cs) call bytes from v counted long =
    let inside : c.len ≤ length bytes = omega (arith, counted) in
    let left : length (drop c.len bytes) ≡ length bytes - c.len = length-drop c.len bytes in
    ap (λ b. played (cs ++ call ∷ []) b (written v c.at (take c.len (bytes ++ from)))) (drop-append-le c.len bytes from inside)
    ∙ ap (λ b. played (cs ++ call ∷ []) (drop c.len bytes ++ from) (written v c.at b)) (take-append-le c.len bytes from inside)
    ∙ played-more cs call (drop c.len bytes) from (written v c.at (take c.len bytes)) (omega (arith, counted, left)) long

-- a flush added to calls: none of these is without one any more
no_flush-more : (calls : List PlannedCall) (call : PlannedCall) → HasNoFlush (calls ++ call ∷ []) → (call.len ≡ 0 → ⊥) × HasNoFlush calls
unfolding HasNoFlush
no_flush-more [] call none = (none.0, tt)
no_flush-more (c ∷ cs) call none = let rest = no_flush-more cs call none.1 in (rest.0, (none.0, rest.1))

-- a flush that is added settles each place
pub unflushed-flush : (calls : List PlannedCall) (call : PlannedCall) (p : ℕ) → call.len ≡ 0 → IsUnflushed (calls ++ call ∷ []) p → ⊥
unfolding IsUnflushed
unflushed-flush [] call p flush is = elim is [
  | inl none ↦ none
  | inr last ↦ (let low = last.0.0 in let high = last.0.1 in omega (arith, flush, low, high))
]
unflushed-flush (c ∷ cs) call p flush is = elim is [
  | inl later ↦ unflushed-flush cs call p flush later
  | inr here ↦ (no_flush-more cs call here.1).0 flush
]

-- a write that is added unsettles its own places alone
pub unflushed-write : (calls : List PlannedCall) (call : PlannedCall) (p : ℕ) → IsUnflushed (calls ++ call ∷ []) p → IsUnflushed calls p ⊎ IsAt call.at call.len p
unfolding IsUnflushed
unflushed-write [] call p is = elim is [
  | inl none ↦ absurd none
  | inr last ↦ inr last.0
]
unflushed-write (c ∷ cs) call p is = elim is [
  | inl later ↦ (elim (unflushed-write cs call p later) [
    | inl before ↦ inl (inl before)
    | inr last ↦ inr last
  ])
  | inr here ↦ inl (inr (here.0, (no_flush-more cs call here.1).1))
]

-- a plan that stays within the first bytes leaves all behind them
pub played-front : (calls : List PlannedCall) (bytes first rest : List ℕ) → furthest calls ≤ length first → planned_length calls ≤ length bytes
    → played calls bytes (first ++ rest) ≡ played calls bytes first ++ rest
unfolding played furthest planned_length
played-front [] bytes first rest inside counted = refl
played-front (c ∷ cs) bytes first rest inside counted =
    let from : List ℕ = take c.len bytes in
    let some : length from ≡ c.len = length-take c.len bytes ∙ omega (arith, counted) in
    let within : c.at + length from ≤ length first = omega (arith, inside, some) in
    let left : length (drop c.len bytes) ≡ length bytes - c.len = length-drop c.len bytes in
    let long : length (written first c.at from) ≡ length first = length-written first c.at from within in
    ap (λ v. played cs (drop c.len bytes) v) (written-front first rest c.at from within)
    ∙ played-front cs (drop c.len bytes) (written first c.at from) rest (omega (arith, inside, long)) (omega (arith, counted, left))
  where
    -- a write to the front leaves the rest
    written-front : (first rest : List ℕ) (at : ℕ) (from : List ℕ) → at + length from ≤ length first → written (first ++ rest) at from ≡ written first at from ++ rest
    written-front first rest at from inside =
        ap (λ l. (l ++ from) ++ drop (at + length from) (first ++ rest)) (take-append-le at first rest (omega (arith, inside)))
        ∙ ap (λ l. (take at first ++ from) ++ l) (drop-append-le (at + length from) first rest inside)
        ∙ sym (append_assoc (take at first ++ from) (drop (at + length from) first) rest)

-- a flush that is added leaves the same
pub played-flush : (calls : List PlannedCall) (bytes v : List ℕ) → planned_length calls ≡ length bytes
    → played (calls ++ record { at = 0; len = 0 } ∷ []) (bytes ++ []) v ≡ played calls bytes v
played-flush calls bytes v counted = played-more calls (record { at = 0; len = 0 }) bytes [] v counted (omega arith) ∙ written-none (played calls bytes v) 0

-- one more call writes its own places
pub writes-more : (calls : List PlannedCall) (call : PlannedCall) (p : ℕ) → IsWrittenBy (calls ++ call ∷ []) p → IsWrittenBy calls p ⊎ IsAt call.at call.len p
unfolding IsWrittenBy
writes-more [] call p is = elim is [ inl last ↦ inr last | inr none ↦ absurd none ]
writes-more (c ∷ cs) call p is = elim is [
  | inl first ↦ inl (inl first)
  | inr later ↦ (elim (writes-more cs call p later) [ inl before ↦ inl (inr before) | inr last ↦ inr last ])
]

-- a plan changes the places alone that its calls write
pub played-others : (calls : List PlannedCall) (bytes v : List ℕ) → furthest calls ≤ length v → planned_length calls ≤ length bytes
    → SameBut (IsWrittenBy calls) v (played calls bytes v)
unfolding played furthest planned_length IsWrittenBy
played-others [] bytes v inside counted = same_but-same _ v
played-others (c ∷ cs) bytes v inside counted =
    let from : List ℕ = take c.len bytes in
    let some : length from ≡ c.len = length-take c.len bytes ∙ omega (arith, counted) in
    let left : length (drop c.len bytes) ≡ length bytes - c.len = length-drop c.len bytes in
    let fits : c.at + length from ≤ length v = omega (arith, inside, some) in
    let long : length (written v c.at from) ≡ length v = length-written v c.at from fits in
    same_but-then
    (same_but-wider (λ p is. inl (is.0, (let high = is.1 in omega (arith, high, some)))) (same_but-same_outside (same_outside-written v c.at from fits)))
    (same_but-wider (λ p is. inr is) (played-others cs (drop c.len bytes) (written v c.at from) (omega (arith, inside, long)) (omega (arith, counted, left))))

-- so one that writes given places alone leaves all others
pub played-given : (parts : List Part) (calls : List PlannedCall) (bytes v : List ℕ) → WritesGiven parts calls → furthest calls ≤ length v → planned_length calls ≤ length bytes
    → SameBut (HasPlace parts) v (played calls bytes v)
played-given parts calls bytes v given inside counted =
    let same = played-others calls bytes v inside counted in
    record { length_same = same.length_same; each = λ p out. same.each p (λ by_. given p out by_) }
