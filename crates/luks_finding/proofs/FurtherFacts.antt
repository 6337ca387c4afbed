-- What a step of a search tells of a disk that can't be read everywhere.
use Rattle.std.proofs.Common.{◌≡◌, ℕ, zero, suc, ◌+◌, ◌-◌, ◌*◌, ◌<◌, ◌≤◌, List, [], ◌∷◌, ◌++◌, None, inl, inr, length, get_or, refl, sym, subst, arith}
use Rattle.std.proofs.lemmas.Bool.{cases_lt}
use Rattle.luks_area.specs.Ranges.{part}
use Rattle.luks_finding.specs.Blocks.{FindsIn, IsFirstIn}
use Rattle.luks_finding.specs.Finding.{AreStartsBetween}
use Rattle.luks_finding.specs.Readable.{passed_by, told_by, told_by_step, AreReadStarts, AreReadTo, AreUntoldAt, EndBefore, IsBlock, IsFirstRead, IsPassed, IsReadSign, JudgesAt, UntoldAt}
use Rattle.luks_finding.specs.Starts.{IsAmong, IsFirstSign, IsSign}
use Rattle.luks_finding.specs.declared.finding.Step.{Step}
use Rattle.luks_finding.specs.declared.passed.Further.{Further}
use Rattle.luks_finding.specs.declared.passed.Further.TheVariants as further
use Rattle.luks_finding.specs.declared.passed.Passed.{Passed}
use Rattle.luks_finding.proofs.BlockFacts.{before-first, begins-inside, block-room, sign-seen}
use Rattle.luks_finding.proofs.ReadFacts.{before-both, before-further, passed-below, passed-either, passed-left, passed-right, read-further, AreSameBefore}
use Rattle.luks_finding.proofs.SignFacts.{sign-begins, sign-sector}

-- no sign is at the sectors from `from` on and before `next`
abbrev pub HasNone : List ℕ → ℕ → ℕ → Type 0
HasNone v from next = (n s : ℕ) → from ≤ n → n < next → IsSign v s (512 * n) → ⊥

-- one more stretch behind the sector changes nothing before it
pub same-more : (xs : List Passed) (x : Passed) (from : ℕ) → from ≤ x.from → AreSameBefore (512 * from) xs (xs ++ x ∷ [])
same-more xs x from low = λ p below. (
  passed-left xs (x ∷ []) p,
  λ is. elim (passed-either xs (x ∷ []) p is) [
    | inl left ↦ left
    | inr right ↦ elim right [
      | inl here ↦ (let on : 512 * x.from ≤ p = here.0 in absurd (omega (arith, on, below, low)))
      | inr none ↦ absurd none
    ]
  ],
)

pub same-none : (xs : List Passed) (from : ℕ) → AreSameBefore (512 * from) xs (xs ++ [])
same-none xs from = λ p below. (
  passed-left xs [] p,
  λ is. elim (passed-either xs [] p is) [
    | inl left ↦ left
    | inr right ↦ absurd right
  ],
)

-- nothing begins at these sectors
pub read-on : (v : List ℕ) (xs : List Passed) (from next : ℕ) (told : List ℕ) → from ≤ next → HasNone v from next → AreReadTo v xs from told
    → AreReadTo v (xs ++ []) next (told ++ [])
read-on v xs from next told further none so_far =
    read-further v xs (xs ++ []) from from next told [] further (same-none xs from)
    (before-both xs [] next (before-further xs from next further so_far.behind) tt) so_far
    (record {
      low = omega arith;
      high = inl refl;
      none = λ n s low high other sign. none n s low high sign.sign;
      signs = λ i lt. absurd (omega (arith, lt));
      fresh = λ i lt. absurd (omega (arith, lt));
      rising = λ i j lt within. absurd (omega (arith, within));
      all = λ s high sign. absurd (none from s (omega arith) high sign.sign);
    })

-- a sector tells what wasn't told
pub read-at : (v : List ℕ) (xs : List Passed) (from k : ℕ) (told list : List ℕ) → from ≤ k → HasNone v from k → AreUntoldAt v (512 * k) told list
    → AreReadTo v xs from told → AreReadTo v (xs ++ []) (k + 1) (told ++ list)
read-at v xs from k told list low none news so_far =
    let ends : EndBefore (xs ++ []) (k + 1) = before-both xs [] (k + 1) (before-further xs from (k + 1) (omega (arith, low)) so_far.behind) tt in
    let clear : IsPassed (xs ++ []) (512 * k) → ⊥ = λ is.
    let back : IsPassed xs (512 * k) = (same-none xs (k + 1) (512 * k) (omega arith)).1 is in
    let below : 512 * k < 512 * from = passed-below xs from (512 * k) so_far.behind back in
    omega (arith, below, low) in
    read-further v xs (xs ++ []) from k (k + 1) told list (omega (arith, low)) (same-none xs from) ends so_far
    (record {
      low = low;
      high = inr (omega arith);
      none = λ n s on below other sign. none n s on (omega (arith, below, other)) sign.sign;
      signs = λ i lt. record { sign = news.signs i lt; read = clear };
      fresh = news.fresh;
      rising = news.rising;
      all = λ s high sign. news.all s sign.sign;
    })

-- some sectors are passed over, before which nothing begins
pub read-over : (v : List ℕ) (xs : List Passed) (x : Passed) (from next : ℕ) (told : List ℕ) → from ≤ x.from → x.from ≤ next → x.to ≡ next → HasNone v from x.from
    → AreReadTo v xs from told → AreReadTo v (xs ++ x ∷ []) next (told ++ [])
read-over v xs x from next told low high ends none so_far =
    let further : from ≤ next = omega (arith, low, high) in
    let nothing : (n s : ℕ) → from ≤ n → n < next → IsReadSign v (xs ++ x ∷ []) s (512 * n) → ⊥ = λ n s on below sign. elim (cases_lt n x.from) [
      | inl before ↦ none n s on before sign.sign
      | inr behind ↦ sign.read (passed-right xs (x ∷ []) (512 * n) (inl (omega (arith, behind), omega (arith, below, ends))))
    ] in
    read-further v xs (xs ++ x ∷ []) from from next told [] further (same-more xs x from low)
    (before-both xs (x ∷ []) next (before-further xs from next further so_far.behind) (omega (arith, ends), tt)) so_far
    (record {
      low = omega arith;
      high = inl refl;
      none = λ n s on below other sign. nothing n s on below sign;
      signs = λ i lt. absurd (omega (arith, lt));
      fresh = λ i lt. absurd (omega (arith, lt));
      rising = λ i j lt within. absurd (omega (arith, within));
      all = λ s below sign. absurd (nothing from s (omega arith) below sign);
    })

-- ---- blocks

-- nothing begins in a block
pub none-in-block : (v : List ℕ) (sector len count : ℕ) → IsBlock (length v) sector len → 512 * count < len + 512 → FindsIn (part v (512 * sector) len) None
    → HasNone v sector (sector + count)
none-in-block v sector len count block fewest none = λ k s low high sign.
    let inside : 512 * k + 8 ≤ length v = begins-inside v (512 * k) (sign-begins v s (512 * k) sign) in
    none (k - sector) (sign-seen v sector len k s low (block-room v sector block.sectors len count k block.is fewest inside low high) sign)

-- nor before the first sign that begins in one
pub none-before : (v : List ℕ) (sector len index : ℕ) → IsFirstIn (part v (512 * sector) len) index → HasNone v sector (sector + index)
none-before v sector len index first = λ k s low high sign. before-first v sector len index first k s low high sign

-- ---- the whole search

-- at the end of the disk all are told
pub read-all : (v : List ℕ) (xs : List Passed) (end : ℕ) (list : List ℕ) → length v ≤ 512 * end → AreReadTo v xs end list → AreReadStarts v xs list
read-all v xs end list long told = record {
  sound = λ i lt. let is = told.sound i lt in (is.place, is.first.sign);
  complete = λ s p sign.
      let at = sign-sector v s p sign.sign in
      let k : ℕ = at.0 in
      let there : p ≡ 512 * k = at.1 in
      let inside : p + 8 ≤ length v = begins-inside v p (sign-begins v s p sign.sign) in
      told.complete k s (omega (arith, inside, there, long)) (subst (IsReadSign v xs s) there sign);
  once = λ i j lt within same.
      let right = told.sound j within in
      let first : IsFirstRead v xs (get_or list i 0) right.place = subst (λ (t : ℕ). IsFirstRead v xs t right.place) (sym same) right.first in
      elim (told.in_order i j right.place right.place lt within first right.first) [
        | inl before ↦ omega (arith, before)
        | inr rising ↦ (let below : get_or list i 0 < get_or list j 0 = rising.1 in omega (arith, below, same))
      ];
  in_order = told.in_order;
}

-- ---- a disk of which all was read so far

first-read : (v : List ℕ) (s p : ℕ) → IsFirstSign v s p → IsFirstRead v [] s p
first-read v s p first = record {
  sign = record { sign = first.sign; read = λ is. is };
  first = λ before. first.first (record { place = before.place; before = before.before; sign = before.sign.sign });
}

read-first : (v : List ℕ) (s p : ℕ) → IsFirstRead v [] s p → IsFirstSign v s p
read-first v s p first = record {
  sign = first.sign.sign;
  first = λ before. first.first (record { place = before.place; before = before.before; sign = record { sign = before.sign; read = λ is. is } });
}

-- each start with a sign before the sector is in the list
among-before : (v list : List ℕ) (end : ℕ) → AreStartsBetween v 0 end list → (n s p : ℕ) → p < n → p < 512 * end → IsSign v s p → IsAmong list s
among-before v list end told zero s p below low sign = absurd (omega (arith, below))
among-before v list end told (suc n) s p below low sign =
    let at = sign-sector v s p sign in
    let k : ℕ = at.0 in
    let there : p ≡ 512 * k = at.1 in
    elim (told.complete k s (omega arith) (omega (arith, low, there)) (subst (IsSign v s) there sign)) [
      | inl earlier ↦
          let before : earlier.place < 512 * k = earlier.before in
          among-before v list end told n s earlier.place (omega (arith, before, there, below)) (omega (arith, before, there, low)) earlier.sign
      | inr among ↦ among
    ]

pub read-so-far : (v : List ℕ) (end : ℕ) (list : List ℕ) → AreStartsBetween v 0 end list → AreReadTo v [] end list
read-so-far v end list told = record {
  behind = tt;
  sound = λ i lt. let is = told.sound i lt in record { place = is.place; below = is.below; first = first-read v (get_or list i 0) is.place is.first };
  complete = λ k s below sign. among-before v list end told (512 * k + 1) s (512 * k) (omega arith) (omega (arith, below)) sign.sign;
  in_order = λ i j p q lt within first second. told.in_order i j p q lt within (read-first v (get_or list i 0) p first) (read-first v (get_or list j 0) q second);
}

-- ---- a sector that was judged

tells-by : (v : List ℕ) (xs : List Passed) (from k : ℕ) (told : List ℕ) (step : Step) → from ≤ k → HasNone v from k → AreUntoldAt v (512 * k) told (told_by_step step)
    → AreReadTo v xs from told → AreReadTo v (xs ++ []) (k + 1) (told ++ told_by_step step)
tells-by v xs from k told step low none news so_far = read-at v xs from k told (told_by_step step) low none news so_far

-- tells what wasn't told, or is passed over
pub judged-further : (v : List ℕ) (xs : List Passed) (from k : ℕ) (told : List ℕ) (f : Further) (rose : ℕ) → from ≤ k → HasNone v from k → UntoldAt v k told f → JudgesAt k rose f
    → AreReadTo v xs from told → AreReadTo v (xs ++ passed_by f) (k + 1) (told ++ told_by f)
judged-further v xs from k told (further.Step step) rose low none news judges so_far = tells-by v xs from k told step low none news so_far
judged-further v xs from k told (further.Passed x) rose low none news judges so_far =
    let here : x.from ≡ k = judges.0 in
    read-over v xs x from (k + 1) told (omega (arith, here, low)) (omega (arith, here)) judges.1 (subst (HasNone v from) (sym here) none) so_far
