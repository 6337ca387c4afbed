-- Runs of units, one unit more at a time.
use Rattle.std.proofs.Common.{◌≡◌, ℕ, ◌+◌, ◌-◌, ◌*◌, ◌/◌, ◌%◌, ◌<◌, ◌≤◌, List, length, take, drop, sym, ap, ap₂, ◌∙◌, refl, arith, ⊎_elim}
use Rattle.std.proofs.lemmas.Bool.{cases_lt}
use Rattle.std.proofs.lemmas.List.{length-take-le, length-drop, drop_at, drop-take, take-take}
use Rattle.std.proofs.lemmas.Slice.{take-put_mid, take-put_mid_below}
use borrow.Rule.Slice.PartMut.{put_mid}
use Rattle.luks_modes.specs.declared.xts.Direction.{Direction}
use Rattle.luks_modes.specs.declared.xts.Direction.TheVariants.{Seal, Open}
use Rattle.luks_modes.specs.Xts.{block_key, tweak_of}
use Rattle.luks_modes.specs.Units.{unit_at, AreMade, converted, converted_blocks, opposite}
use Rattle.luks_aes.specs.States.{AreBytes}
use Rattle.luks_aes.proofs.ByteFacts.{bytes-take, bytes-drop}
use Rattle.luks_modes.proofs.UnitFacts.{seal_undone, open_undone}
use Rattle.luks_modes.proofs.UnitLoopFacts.{left_past, sealed_unit, opened_unit}

-- a unit that lies in the front of a list
front_unit : (xs : List ℕ) (n u : ℕ) → 512 * u + 512 ≤ n → unit_at (take n xs) u ≡ unit_at xs u
unfolding unit_at
front_unit xs n u room =
    let rest : n ≡ 512 * u + (n - 512 * u) = omega arith in
    ap (λ (k : ℕ). take 512 (drop (512 * u) (take k xs))) rest
    ∙ ap (take 512) (drop-take (512 * u) (n - 512 * u) xs)
    ∙ take-take 512 (n - 512 * u) (drop (512 * u) xs) (omega arith)

-- a unit of a list with the same front
same_front : (xs ys : List ℕ) (n u : ℕ) → 512 * u + 512 ≤ n → take n xs ≡ take n ys → unit_at xs u ≡ unit_at ys u
same_front xs ys n u room same =
    sym (front_unit xs n u room) ∙ ap (λ (zs : List ℕ). unit_at zs u) same ∙ front_unit ys n u room

-- the length of a unit
pub length-unit : (xs : List ℕ) (u : ℕ) → u < length xs / 512 → length (unit_at xs u) ≡ 512
unfolding unit_at
length-unit xs u low = length-take-le 512 (drop (512 * u) xs) (omega (arith, length-drop (512 * u) xs))

-- a loop over a run: the units before n are made, and the rest is left
pub record IsRunUnderWay (f : ℕ → List ℕ → List ℕ) (first : ℕ) (old now : List ℕ) (n : ℕ) : Type 0 where
  pub made : (u : ℕ) → u < n → unit_at now u ≡ f (first + u) (unit_at old u)
  pub left : drop (512 * n) now ≡ drop (512 * n) old

-- before the first unit
pub run_start : (f : ℕ → List ℕ → List ℕ) (first : ℕ) (old : List ℕ) → IsRunUnderWay f first old old 0
run_start f first old = record { made = λ u low. absurd (omega arith); left = refl }

-- the unit that is made is there
unit_put : (now new : List ℕ) (at n : ℕ) → at ≡ 512 * n → at + 512 ≤ length now → length new ≡ 512 → unit_at (put_mid at (at + 512 - at) now new) n ≡ new
unfolding unit_at
unit_put now new at n start room size =
    let xs = put_mid at (at + 512 - at) now new in
    ap (λ (k : ℕ). take 512 (drop k xs)) (sym start)
    ∙ sym (drop-take at 512 xs)
    ∙ ap (drop at) (take-put_mid at (at + 512 - at) now new (at + 512) (omega (arith, size)) (omega arith))
    ∙ drop_at (take at now) new at (length-take-le at now (omega arith))

-- one unit more
pub run_more : (f : ℕ → List ℕ → List ℕ) (first : ℕ) (old now new : List ℕ) (n : ℕ) → 512 * n + 512 ≤ length now → length new ≡ 512
    → IsRunUnderWay f first old now n
    → new ≡ f (first + n) (take (512 * n + 512 - 512 * n) (drop (512 * n) now))
    → IsRunUnderWay f first old (put_mid (512 * n) (512 * n + 512 - 512 * n) now new) (n + 1)
unfolding unit_at
run_more f first old now new n room size h is =
    let at = 512 * n in
    let xs = put_mid at (at + 512 - at) now new in
    let block : at + 512 - at ≡ 512 = omega arith in
    record {
      made = λ u low.
          ⊎_elim
          (λ (below : u < n).
          same_front xs now at u (omega arith) (take-put_mid_below at (at + 512 - at) now new at (omega arith) (omega arith)) ∙ h.made u below)
          (λ (above : n ≤ u).
          let last : u ≡ n = omega arith in
          ap (unit_at xs) last
          ∙ unit_put now new at n refl room size
          ∙ is
          ∙ ap₂ (λ (k : ℕ) (s : List ℕ). f (first + n) (take k s)) block h.left
          ∙ ap (λ (k : ℕ). f (first + k) (unit_at old k)) (sym last))
          (cases_lt u n);
      left = left_past at (at + 512 - at) (512 * (n + 1)) old now new (omega arith) (omega arith) (omega (arith, size)) h.left;
    }

-- a run whose units are all made
pub run_end : (f : ℕ → List ℕ → List ℕ) (first : ℕ) (old now : List ℕ) (n : ℕ) → n ≡ length old / 512 → IsRunUnderWay f first old now n → AreMade f first old now
run_end f first old now n end h = record { each = λ u low. h.made u (omega arith) }

-- a run whose units are undone
pub run_undone : (f g : ℕ → List ℕ → List ℕ) → ((u : ℕ) (s : List ℕ) → AreBytes s → length s % 16 ≡ 0 → g u (f u s) ≡ s)
    → (first : ℕ) (old new : List ℕ) → length new ≡ length old → AreBytes old → AreMade f first old new → AreMade g first new old
unfolding unit_at
run_undone f g undone first old new same bytes h =
    record {
      each = λ u low.
          let below : u < length old / 512 = omega arith in
          let unit = unit_at old u in
          sym
          (ap (g (first + u)) (h.each u below)
          ∙ undone (first + u) unit (bytes-take 512 (drop (512 * u) old) (bytes-drop (512 * u) old bytes)) (omega (arith, length-unit old u below)));
    }

-- ---- in either direction

-- the unit of a key whose first half is known
pub converted_unit : (direction : Direction) (key first : List ℕ) (unit : ℕ) (bytes : List ℕ) → first ≡ block_key key
    → converted_blocks direction first (tweak_of key unit) bytes (length bytes / 16) ≡ converted direction key unit bytes
converted_unit Seal = sealed_unit
converted_unit Open = opened_unit

-- a unit that is undone
pub converted_undone : (direction : Direction) (key : List ℕ) → AreBytes (block_key key)
    → (unit : ℕ) (bytes : List ℕ) → AreBytes bytes → length bytes % 16 ≡ 0 → converted (opposite direction) key unit (converted direction key unit bytes) ≡ bytes
converted_undone Seal key first unit bytes fits whole = seal_undone key unit bytes first fits whole
converted_undone Open key first unit bytes fits whole = open_undone key unit bytes first fits whole
