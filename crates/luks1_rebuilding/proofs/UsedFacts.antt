-- The key areas of a header, and what copying them and writing the header leaves.
use Rattle.std.proofs.Common.{◌≡◌, ℕ, ◌+◌, ◌-◌, ◌<◌, ◌≤◌, ◌++◌, List, length, replicate, append-nil, ap, sym, subst, ◌∙◌, arith, inl, inr, Result, Ok, Err, OnOk}
use Rattle.std.proofs.lemmas.Bool.{cases_eq}
use Rattle.luks_area.specs.Ranges.{part, written, IsAt, SameBut, SameOutside}
use Rattle.luks_area.proofs.RangeFacts.{part-same_but, part-same_but_at, part-written, same_but-same_outside, same_but-then, same_but-wider}
use Rattle.luks_area.specs.declared.area.Area.{Area}
use Rattle.luks1_header.specs.Written.{WritesLuks1}
use Rattle.luks1_header.specs.declared.luks1.Luks1.{Luks1}
use Rattle.luks_writing.specs.Cleared.{AreCleared, ClearsInTurn, IsOfFirstSectors}
use Rattle.luks_writing.proofs.MadeInOrderFacts.{clearing_widens}
use Rattle.luks1_rebuilding.specs.Used.{AreApart, HasUsedAreas, IsOfUsed, IsOfUsedAreas, IsOfWritten, IsUsedArea, IsWritten, WritesFirst1, WritesInTurn1}

-- a keyslot has one area
pub one_area : (d : Luks1) (n : ℕ) (a b : Area) → IsUsedArea d n a → IsUsedArea d n b → a ≡ b
one_area d n a b p q = p.is ∙ sym q.is

-- ---- one area

whole_copied : (s w : List ℕ) (a : Area) → part w a.start a.len ≡ part s a.start a.len ++ replicate (a.len - a.len) 0
    → part w a.start a.len ≡ part s a.start a.len
whole_copied s w a copied =
    let none : a.len - a.len ≡ 0 = omega arith in
    copied ∙ ap (λ n. part s a.start a.len ++ replicate n 0) none ∙ append-nil (part s a.start a.len)

copied_as : (d : Luks1) (n : ℕ) (b : Area) (s w : List ℕ) → IsUsedArea d n b → part w b.start b.len ≡ part s b.start b.len ++ replicate (b.len - b.len) 0
    → (a : Area) → IsUsedArea d n a → part w a.start a.len ≡ part s a.start a.len
copied_as d n b s w has copied a is =
    subst (λ (x : Area). part w x.start x.len ≡ part s x.start x.len) (one_area d n b a has is) (whole_copied s w b copied)

pub slot_copied : {A F : Type 0} (r : Result A F) (d : Luks1) (n : ℕ) (b : Area) (s w : List ℕ) → IsUsedArea d n b
    → OnOk r (part w b.start b.len ≡ part s b.start b.len ++ replicate (b.len - b.len) 0)
    → OnOk r ((a : Area) → IsUsedArea d n a → part w a.start a.len ≡ part s a.start a.len)
slot_copied (Ok x) d n b s w has copied = copied_as d n b s w has copied
slot_copied (Err f) d n b s w has copied = tt

pub of_slot : {u w : List ℕ} (d : Luks1) (n : ℕ) (a : Area) → IsUsedArea d n a → SameBut (IsAt a.start a.len) u w → SameBut (IsOfUsed d n) u w
of_slot d n a has same = same_but-wider (λ p here. record { area = a; is = has; at = here }) same

pub one_of : {u w : List ℕ} (d : Luks1) (n : ℕ) → SameBut (IsOfUsed d n) u w → SameBut (IsOfUsedAreas d) u w
one_of d n same = same_but-wider (λ p is. record { number = n; of_slot = is }) same

-- ---- the areas of several keyslots

module _ (d : Luks1) (apart : AreApart d) where
  stays : (s u w : List ℕ) (m n : ℕ) (a : Area) → m < n → IsUsedArea d m a → SameBut (IsOfUsed d n) u w
      → part u a.start a.len ≡ part s a.start a.len → part w a.start a.len ≡ part s a.start a.len
  stays s u w m n a less has same there =
      part-same_but a.start a.len same (λ p here other.
      apart.apart m n a other.area has other.is (λ e. omega (arith, e, less)) p here other.at) ∙ there

  pub next_copied : (s u w : List ℕ) (n : ℕ)
      → ((m : ℕ) (a : Area) → m < n → IsUsedArea d m a → part u a.start a.len ≡ part s a.start a.len)
      → SameBut (IsOfUsed d n) u w → ((a : Area) → IsUsedArea d n a → part w a.start a.len ≡ part s a.start a.len)
      → (m : ℕ) (a : Area) → m < n + 1 → IsUsedArea d m a → part w a.start a.len ≡ part s a.start a.len
  next_copied s u w n before same there m a below has = elim (cases_eq m n) [
    | inl is ↦ there a (subst (λ k. IsUsedArea d k a) is has)
    | inr other ↦ (let less : m < n = omega (arith, below, other) in stays s u w m n a less has same (before m a less has))
  ]

  -- ---- then the header

  pub areas_rest : {u v : List ℕ} → SameBut (IsOfUsedAreas d) u v → SameBut (IsOfWritten d) u v
  areas_rest same = same_but-wider (λ p is. inr (inr is)) same

  head_same : {v w : List ℕ} (bytes : List ℕ) → WritesLuks1 bytes d → SameOutside v w 0 (length bytes) → SameBut (IsAt 0 592) v w
  head_same {v} {w} bytes put outside = subst (λ (m : ℕ). SameBut (IsAt 0 m) v w) put.long (same_but-same_outside outside)

  pub both_rest : {u v w : List ℕ} (bytes : List ℕ) → WritesLuks1 bytes d → SameBut (IsOfUsedAreas d) u v → SameOutside v w 0 (length bytes) → SameBut (IsOfWritten d) u w
  both_rest bytes put same outside = same_but-then (areas_rest same) (same_but-wider (λ p at. inl at) (head_same bytes put outside))

  -- while key areas are written the first sector waits
  pub first_waits : {u v : List ℕ} (s : List ℕ) → SameBut (IsOfUsedAreas d) u v → WritesInTurn1 d s u v
  first_waits s same = inl (part-same_but 0 512 same (λ p here other.
      let low = apart.behind other.number other.of_slot.area other.of_slot.is in
      let at = other.of_slot.at.0 in
      let high = here.1 in
      absurd (omega (arith, low, at, high))))

  -- while the header is written they stand
  areas_kept : (s v w bytes : List ℕ) → WritesLuks1 bytes d → SameOutside v w 0 (length bytes) → HasUsedAreas d s v → HasUsedAreas d s w
  areas_kept s v w bytes put outside areas n a is =
      let low = apart.behind n a is in
      part-same_but_at 0 592 a.start a.len (head_same bytes put outside) (inr (omega (arith, low))) ∙ areas n a is

  pub areas_stand : (s u v w bytes : List ℕ) → WritesLuks1 bytes d → SameOutside v w 0 (length bytes) → HasUsedAreas d s v → WritesInTurn1 d s u w
  areas_stand s u v w bytes put outside areas = inr (areas_kept s v w bytes put outside areas)

  pub all_written : (s v w bytes : List ℕ) → WritesLuks1 bytes d → SameOutside v w 0 (length bytes) → HasUsedAreas d s v
      → 592 ≤ length v → w ≡ written v 0 bytes → (own : List ℕ) → bytes ≡ own → IsWritten d own s w
  all_written s v w bytes put outside areas large wrote own is =
      let fits : 0 + length bytes ≤ length v = (let long = put.long in omega (arith, long, large)) in
      let there : part w 0 592 ≡ bytes = ap (λ l. part l 0 592) wrote ∙ ap (λ n. part (written v 0 bytes) 0 n) (sym put.long) ∙ part-written v 0 bytes fits in
      record { header = there ∙ is; areas = areas_kept s v w bytes put outside areas }

-- ---- over what was cleared

sectors_there : (d : Luks1) (p : ℕ) → IsOfFirstSectors 16384 p → IsOfWritten d p
sectors_there d p (inl at) = inl (let low = at.0 in omega (arith, low), let high = at.1 in omega (arith, high))
sectors_there d p (inr at) = inr (inl at)

pub cleared_rest : {t u : List ℕ} (d : Luks1) → SameBut (IsOfFirstSectors 16384) t u → SameBut (IsOfWritten d) t u
cleared_rest d same = same_but-wider (sectors_there d) same

pub over_rest : {t u w : List ℕ} (d : Luks1) → SameBut (IsOfFirstSectors 16384) t u → SameBut (IsOfWritten d) u w → SameBut (IsOfWritten d) t w
over_rest d cleared same = clearing_widens 16384 (sectors_there d) cleared same

-- clearing that failed keeps the order
pub clearing_fails : (d : Luks1) (s t u : List ℕ) → ClearsInTurn t u → WritesFirst1 d s t u
clearing_fails d s t u (inl first) = inl first
clearing_fails d s t u (inr cleared) = inr (inl cleared)

-- the steps that follow the clearing keep its order
pub over_order : (d : Luks1) (s t u w : List ℕ) → AreCleared 16384 u → WritesInTurn1 d s u w → WritesFirst1 d s t w
over_order d s t u w cleared (inl same) = inr (inl (same ∙ cleared.first_copy))
over_order d s t u w cleared (inr stands) = inr (inr stands)
