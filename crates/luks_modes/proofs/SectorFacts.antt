-- Runs of sectors whose numbers are counted up.
use Rattle.std.proofs.Common.{◌≡◌, ℕ, ◌+◌, ◌-◌, ◌*◌, ◌/◌, ◌%◌, ◌^◌, ◌<◌, ◌≤◌, List, length, take, drop, ap, ap₂, sym, ◌∙◌, arith, ⊎_elim}
use Rattle.std.proofs.lemmas.Bool.{cases_lt}
use Rattle.std.specs.Int.{w128, to_le_bytes}
use borrow.Rule.Slice.PartMut.{put_mid}
use Rattle.sha2.specs.Sha256.{sha256}
use Rattle.luks_aes.specs.Aes.{Aes}
use Rattle.luks_modes.specs.Cbc.{CbcKeyOf, CbcOpen, CbcSeal, iv_of, opened_from, sealed_from}
use Rattle.luks_modes.specs.declared.vectors.IvKind.{IvKind}
use Rattle.luks_modes.specs.declared.vectors.IvKind.TheVariants.{Plain, Plain64, Essiv}
use Rattle.luks_modes.specs.Units.{AreMade, unit_at}
use Rattle.luks_modes.proofs.RunFacts.{IsRunUnderWay, run_more, run_start}

-- a number in 64 bits has the IV of the number
iv_wrapped : (ivs : IvKind) (key : List ℕ) (n : ℕ) → iv_of ivs key (n % 2 ^ 64) ≡ iv_of ivs key n
iv_wrapped Plain key n =
    let same : n % 2 ^ 64 % 2 ^ 32 ≡ n % 2 ^ 32 = omega arith in
    ap (to_le_bytes w128) same
iv_wrapped Plain64 key n =
    let same : n % 2 ^ 64 % 2 ^ 64 ≡ n % 2 ^ 64 = omega arith in
    ap (to_le_bytes w128) same
iv_wrapped Essiv key n =
    let same : n % 2 ^ 64 % 2 ^ 64 ≡ n % 2 ^ 64 = omega arith in
    ap (λ m. Aes (sha256 key) (to_le_bytes w128 m)) same

-- a sector sealed and opened under such a number
pub sealed_wrapped : (key : CbcKeyOf) (n : ℕ) (bytes : List ℕ) → CbcSeal key (n % 2 ^ 64) bytes ≡ CbcSeal key n bytes
sealed_wrapped key n bytes = ap (λ iv. sealed_from key.bytes iv bytes) (iv_wrapped key.ivs key.bytes n)

pub opened_wrapped : (key : CbcKeyOf) (n : ℕ) (bytes : List ℕ) → CbcOpen key (n % 2 ^ 64) bytes ≡ CbcOpen key n bytes
opened_wrapped key n bytes = ap (λ iv. opened_from key.bytes iv bytes) (iv_wrapped key.ivs key.bytes n)

-- a loop over a run: the sectors before n are f's of the old ones, and g undoes that
pub record IsRun (f g : ℕ → List ℕ → List ℕ) (first : ℕ) (old now : List ℕ) (n : ℕ) : Type 0 where
  pub way : IsRunUnderWay f first old now n
  pub undone : (u : ℕ) → u < n → g (first + u) (f (first + u) (unit_at old u)) ≡ unit_at old u

-- before the first sector
pub run_begins : (f g : ℕ → List ℕ → List ℕ) (first : ℕ) (old : List ℕ) → IsRun f g first old old 0
run_begins f g first old = record { way = run_start f first old; undone = λ u low. absurd (omega arith) }

-- one sector more
pub run_goes_on : (f g : ℕ → List ℕ → List ℕ) (first : ℕ) (old now new : List ℕ) (n : ℕ) → 512 * n + 512 ≤ length now → length new ≡ 512
    → IsRun f g first old now n
    → new ≡ f (first + n) (take (512 * n + 512 - 512 * n) (drop (512 * n) now))
    → g (first + n) new ≡ take (512 * n + 512 - 512 * n) (drop (512 * n) now)
    → IsRun f g first old (put_mid (512 * n) (512 * n + 512 - 512 * n) now new) (n + 1)
unfolding unit_at
run_goes_on f g first old now new n room size h is back =
    let block : 512 * n + 512 - 512 * n ≡ 512 = omega arith in
    let here : take (512 * n + 512 - 512 * n) (drop (512 * n) now) ≡ unit_at old n = ap₂ (λ (k : ℕ) (s : List ℕ). take k s) block h.way.left in
    record {
      way = run_more f first old now new n room size h.way is;
      undone = λ u low.
          ⊎_elim
          (λ (below : u < n). h.undone u below)
          (λ (above : n ≤ u).
          let last : n ≡ u = omega arith in
          ap (λ (k : ℕ). g (first + k) (f (first + k) (unit_at old k))) (sym last)
          ∙ ap (λ (s : List ℕ). g (first + n) (f (first + n) s)) (sym here)
          ∙ ap (g (first + n)) (sym is)
          ∙ back
          ∙ here
          ∙ ap (unit_at old) last)
          (cases_lt u n);
    }

-- a run whose sectors are undone
pub run_undone : (f g : ℕ → List ℕ → List ℕ) (first : ℕ) (old now : List ℕ) (n : ℕ) → n ≡ length old / 512 → length now ≡ length old
    → IsRun f g first old now n → AreMade g first now old
run_undone f g first old now n end same h =
    record { each = λ u low. sym (ap (g (first + u)) (h.way.made u (omega arith)) ∙ h.undone u (omega arith)) }
