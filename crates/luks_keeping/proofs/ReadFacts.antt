-- What copying a sector, an area and several leaves where not all can be read.
use Rattle.std.proofs.Common.{◌≡◌, ◌≢◌, ℕ, ◌+◌, ◌-◌, ◌<◌, ◌≤◌, ◌++◌, List, [], ◌∷◌, Bool, true, false, All, length, replicate, get_or, set, inl, inr, refl, sym, ap, subst, ◌∙◌, arith, length-append, get_or-set_other, get_or-set_same}
use Rattle.std.proofs.lemmas.Bool.{cases_eq, cases_lt}
use Rattle.std.proofs.lemmas.List.{get_or-replicate, length-replicate}
use Rattle.std.proofs.lemmas.List.Elements.{All-append, All-cons, All-nil, All-weaker}
use Rattle.luks_area.specs.Ranges.{part, written, IsAt, SameBut}
use Rattle.luks_area.proofs.RangeFacts.{get_or-part, length-part_inside}
use Rattle.luks_area.specs.declared.area.Area.{Area}
use Rattle.luks_keeping.specs.Clearing.{WipesInTurn}
use Rattle.luks_keeping.specs.Places.{header_end, AreApart, AreCleared, ArePlacesGone, HasPlace, IsOfHeader, IsOfPlace}
use Rattle.luks_keeping.specs.ReadPlaces.{as_copied, bytes_read, count_read, CopiesReadInTurn, HoldsBut, IsMarked, IsOfArea, IsOfMarked, IsOfSome, IsPieceIn, LeavesAreas, LeavesPlace, LeavesRange, WritesReadAnew}
use Rattle.luks_keeping.specs.SecondPlaces.{IsOfListed}
use Rattle.luks_keeping.specs.Unread.{HasOne, IsOfPieces}
use Rattle.luks_keeping.specs.declared.places.Places.{Places}
use Rattle.luks_keeping.proofs.PieceFacts.{at_or_not, each_place, of_back, of_either, of_front, one_back, one_front, one_of_all, written_but, written_in}
use Rattle.luks_keeping.proofs.OverFacts.{cleared_then}
use Rattle.luks_keeping.proofs.PlaceFacts.{one_place}

-- ---- one sector

read_long : (b : Bool) (bytes : List ℕ) (n : ℕ) → length bytes ≡ n → length (bytes_read b bytes n) ≡ n
read_long true bytes n long = long
read_long false bytes n long = length-replicate {A = ℕ} n 0

wider_piece : (start m n : ℕ) (x : Area) → IsPieceIn start m x → IsPieceIn start (m + n) x
wider_piece start m n x is = record { low = is.low; high = (let high = is.high in omega (arith, high)); some = is.some; most = is.most }

piece_below : (start m : ℕ) (xs : List Area) → All (IsPieceIn start m) xs → (p : ℕ) → IsOfPieces xs p → p < start + m
piece_below start m xs each p is = each_place (IsPieceIn start m) (λ p. p < start + m) (λ x own p at. (let high = own.high in let here = at.1 in omega (arith, high, here))) xs each p is

-- `u` has the first `m` bytes from `start` on, and `w` is what it became by the `n` bytes behind them
module _ (s u w : List ℕ) (start m n : ℕ) (b : Bool) (there : start + (m + n) ≤ length s) (within : start + (m + n) ≤ length u)
    (wrote : w ≡ written u (start + m) (bytes_read b (part s (start + m) n) n)) where
  bytes_long : length (bytes_read b (part s (start + m) n) n) ≡ n
  bytes_long = read_long b (part s (start + m) n) n (length-part_inside s (start + m) n (omega (arith, there)))

  inside : (start + m) + length (bytes_read b (part s (start + m) n) n) ≤ length u
  inside = (let long = bytes_long in omega (arith, long, within))

  front_same : (p : ℕ) → p < start + m → get_or w p 0 ≡ get_or u p 0
  front_same p below = ap (λ l. get_or l p 0) wrote ∙ (written_but u (bytes_read b (part s (start + m) n) n) (start + m) inside).each p (λ at. (let low = at.0 in absurd (omega (arith, low, below))))

  new_bytes : (p : ℕ) → IsAt (start + m) n p → get_or w p 0 ≡ get_or (bytes_read b (part s (start + m) n) n) (p - (start + m)) 0
  new_bytes p at =
      let long = bytes_long in
      let high = at.1 in
      ap (λ l. get_or l p 0) wrote ∙ written_in u (bytes_read b (part s (start + m) n) n) (start + m) inside p (at.0, omega (arith, high, long))

read_byte : (s : List ℕ) (at n p : ℕ) → IsAt at n p → get_or (part s at n) (p - at) 0 ≡ get_or s p 0
read_byte s at n p here =
    let low = here.0 in
    let high = here.1 in
    let back : at + (p - at) ≡ p = omega (arith, low) in
    get_or-part s at n (p - at) (omega (arith, low, high)) ∙ ap (λ k. get_or s k 0) back

-- the bytes that were read
holds_on : (xs : List Area) (s u w : List ℕ) (start m n : ℕ) → All (IsPieceIn start m) xs → start + (m + n) ≤ length s → start + (m + n) ≤ length u
    → w ≡ written u (start + m) (part s (start + m) n) → HoldsBut xs s u start m → HoldsBut xs s w start (m + n)
holds_on xs s u w start m n each there within wrote before = record {
  zeros = λ p at is. (
      let below = piece_below start m xs each p is in
      front_same s u w start m n true there within wrote p below ∙ before.zeros p (at.0, below) is);
  read = λ p at none. elim (cases_lt p (start + m)) [
    | inl below ↦ front_same s u w start m n true there within wrote p below ∙ before.read p (at.0, below) none
    | inr past ↦ (
        let high = at.1 in
        let here : IsAt (start + m) n p = (past, omega (arith, high)) in
        new_bytes s u w start m n true there within wrote p here ∙ read_byte s (start + m) n p here)
  ];
}

-- or weren't
holds_zeros : (xs : List Area) (s u w : List ℕ) (start m n : ℕ) → All (IsPieceIn start m) xs → start + (m + n) ≤ length s → start + (m + n) ≤ length u
    → w ≡ written u (start + m) (replicate n 0) → HoldsBut xs s u start m → HoldsBut (record { start = start + m; len = n } ∷ xs) s w start (m + n)
holds_zeros xs s u w start m n each there within wrote before = record {
  zeros = λ p at is. elim (at_or_not (start + m) n p) [
    | inl here ↦ (
        let low = here.0 in
        let high = here.1 in
        new_bytes s u w start m n false there within wrote p here ∙ get_or-replicate n (p - (start + m)) 0 0 (omega (arith, low, high)))
    | inr other ↦ elim is [
      | inl here ↦ absurd (other here)
      | inr later ↦ (
          let below = piece_below start m xs each p later in
          front_same s u w start m n false there within wrote p below ∙ before.zeros p (at.0, below) later)
    ]
  ];
  read = λ p at none. elim (cases_lt p (start + m)) [
    | inl below ↦ front_same s u w start m n false there within wrote p below ∙ before.read p (at.0, below) (λ is. none (inr is))
    | inr past ↦ (let high = at.1 in absurd (none (inl (past, omega (arith, high)))))
  ];
}

-- ---- an area

pub none_left : (tells : Type 0) (s w : List ℕ) (start before : ℕ) → LeavesRange tells s w start 0 before before
none_left tells s w start before = record {
  pieces = [];
  counted = omega arith;
  each = All-nil (IsPieceIn start 0);
  holds = λ t. record {
    zeros = λ p at is. absurd is;
    read = λ p at none. (let low = at.0 in let high = at.1 in absurd (omega (arith, low, high)));
  };
}

-- a sector more
pub next_range : (tells : Type 0) (s u w : List ℕ) (start m n before mid after : ℕ) (b : Bool) → 1 ≤ n → n ≤ 512 → after ≡ count_read b mid
    → (tells → start + (m + n) ≤ length s) → (tells → start + (m + n) ≤ length u) → (tells → w ≡ written u (start + m) (bytes_read b (part s (start + m) n) n))
    → LeavesRange tells s u start m before mid → LeavesRange tells s w start (m + n) before after
next_range tells s u w start m n before mid after true some most count there within wrote x = record {
  pieces = x.pieces;
  counted = count ∙ x.counted;
  each = All-weaker (IsPieceIn start m) (IsPieceIn start (m + n)) (wider_piece start m n) x.pieces x.each;
  holds = λ t. holds_on x.pieces s u w start m n x.each (there t) (within t) (wrote t) (x.holds t);
}
next_range tells s u w start m n before mid after false some most count there within wrote x = record {
  pieces = record { start = start + m; len = n } ∷ x.pieces;
  counted = (let old = x.counted in omega (arith, count, old));
  each = All-cons (IsPieceIn start (m + n)) (record { start = start + m; len = n }) x.pieces
      (record { low = omega arith; high = omega arith; some = some; most = most })
      (All-weaker (IsPieceIn start m) (IsPieceIn start (m + n)) (wider_piece start m n) x.pieces x.each);
  holds = λ t. holds_zeros x.pieces s u w start m n x.each (there t) (within t) (wrote t) (x.holds t);
}

-- all of it, whatever a flush leaves of it
pub all_left : (tells : Type 0) (s u w : List ℕ) (start m n before after : ℕ) → m ≡ n → (tells → w ≡ u) → LeavesRange tells s u start m before after → LeavesRange tells s w start n before after
all_left tells s u w start m n before after full same x = record {
  pieces = x.pieces;
  counted = x.counted;
  each = subst (λ (k : ℕ). All (IsPieceIn start k) x.pieces) full x.each;
  holds = λ t. subst (λ (k : ℕ). HoldsBut x.pieces s w start k) full (subst (λ (l : List ℕ). HoldsBut x.pieces s l start m) (sym (same t)) (x.holds t));
}

-- ---- the area of a keyslot

pub place_left : (tells : Type 0) (places : Places) (n : ℕ) (b : Area) (s w : List ℕ) (before after : ℕ) → HasPlace places n b
    → LeavesRange tells s w b.start b.len before after → LeavesPlace tells places n s w before after
place_left tells places n b s w before after has x = record {
  pieces = x.pieces;
  counted = x.counted;
  each = All-weaker (IsPieceIn b.start b.len) (IsOfArea places n) (λ y is. record { area = b; is = has; piece_in = is }) x.pieces x.each;
  holds = λ t a is. subst (λ (y : Area). HoldsBut x.pieces s w y.start y.len) (one_place places n b a has is) (x.holds t);
}

pub no_place_left : (tells : Type 0) (places : Places) (n : ℕ) (s w : List ℕ) (count : ℕ) → ((a : Area) → HasPlace places n a → ⊥) → LeavesPlace tells places n s w count count
no_place_left tells places n s w count none = record {
  pieces = [];
  counted = omega arith;
  each = All-nil (IsOfArea places n);
  holds = λ t a is. absurd (none a is);
}

-- the source is as it was when the first area was copied
pub source_left : (tells : Type 0) (places : Places) (n : ℕ) (s now w : List ℕ) (before after : ℕ) → (tells → now ≡ s) → LeavesPlace tells places n now w before after → LeavesPlace tells places n s w before after
source_left tells places n s now w before after same x = record {
  pieces = x.pieces;
  counted = x.counted;
  each = x.each;
  holds = λ t a is. subst (λ (l : List ℕ). HoldsBut x.pieces l w a.start a.len) (same t) (x.holds t a is);
}

-- ---- the areas of several

pub no_areas_left : (tells : Type 0) (places : Places) (s w : List ℕ) (before : ℕ) (keyslots : List Bool) → LeavesAreas tells places 0 s w before before keyslots
no_areas_left tells places s w before keyslots = record {
  pieces = [];
  counted = omega arith;
  each = All-nil (IsOfMarked places 0 keyslots);
  told = λ k low is. absurd (omega (arith, low));
  holds = λ t k a low is. absurd (omega (arith, low));
}

module _ (places : Places) (apart : AreApart places) where
  -- the pieces of one area lie in no other one
  others : (m n : ℕ) (a : Area) → m ≢ n → HasPlace places m a → (x : Area) → IsOfArea places n x → (p : ℕ) → IsAt x.start x.len p → IsAt a.start a.len p → ⊥
  others m n a other has x is p at here =
      let low = is.piece_in.low in
      let high = is.piece_in.high in
      let first = at.0 in
      let last = at.1 in
      apart.disjoint m n a is.area has is.is other p here (omega (arith, low, first), omega (arith, high, last))

  -- an area that is left as it was, while one more is copied
  holds_still : (xs ys : List Area) (s u w : List ℕ) (k n : ℕ) (a : Area) → k ≢ n → HasPlace places k a → All (IsOfArea places n) ys → SameBut (IsOfPlace places n) u w
      → HoldsBut xs s u a.start a.len → HoldsBut (ys ++ xs) s w a.start a.len
  holds_still xs ys s u w k n a other has each same x = record {
    zeros = λ p at is. still p at ∙ x.zeros p at (elim (of_either ys xs p is) [ inl new ↦ absurd (not_new p at new) | inr old ↦ old ]);
    read = λ p at none. still p at ∙ x.read p at (λ is. none (of_back ys xs p is));
  }
    where
      not_new : (p : ℕ) → IsAt a.start a.len p → IsOfPieces ys p → ⊥
      not_new p at is = each_place (IsOfArea places n) (λ q. IsAt a.start a.len q → ⊥) (λ y own q here. others k n a other has y own q here) ys each p is at

      still : (p : ℕ) → IsAt a.start a.len p → get_or w p 0 ≡ get_or u p 0
      still p at = same.each p (λ of. apart.disjoint k n a of.area has of.is other p at of.at)

  -- the one that is copied
  holds_new : (xs ys : List Area) (s w : List ℕ) (n : ℕ) (keyslots : List Bool) (a : Area) → HasPlace places n a → All (IsOfMarked places n keyslots) xs
      → HoldsBut ys s w a.start a.len → HoldsBut (ys ++ xs) s w a.start a.len
  holds_new xs ys s w n keyslots a has each x = record {
    zeros = λ p at is. x.zeros p at (elim (of_either ys xs p is) [ inl new ↦ new | inr old ↦ absurd (not_old p at old) ]);
    read = λ p at none. x.read p at (λ is. none (of_front ys xs p is));
  }
    where
      not_old : (p : ℕ) → IsAt a.start a.len p → IsOfPieces xs p → ⊥
      not_old p at is = each_place (IsOfMarked places n keyslots) (λ q. IsAt a.start a.len q → ⊥) (λ y own q here. (
          let below = own.below in
          others n own.number a (λ (e : n ≡ own.number). omega (arith, e, below)) has y own.is q here)) xs each p is at

  -- one keyslot more, which is marked where reads failed
  module _ (tells : Type 0) (s u w : List ℕ) (n before mid after : ℕ) (keyslots : List Bool) (lost : Bool) (long : n < length keyslots)
      (yes_ : lost ≡ true → after ≢ mid) (no_ : after ≢ mid → lost ≡ true) where
    marked_still : (k : ℕ) → k < n → IsMarked keyslots k → IsMarked (set keyslots n lost) k
    marked_still k low is = (let other : k ≢ n = (λ e. omega (arith, e, low)) in rw get_or-set_other is)

    marked_before : (k : ℕ) → k < n → IsMarked (set keyslots n lost) k → IsMarked keyslots k
    marked_before k low is = (let other : k ≢ n = (λ e. omega (arith, e, low)) in sym (the_same other) ∙ is)
      where
        the_same : k ≢ n → get_or (set keyslots n lost) k false ≡ get_or keyslots k false
        the_same other = simp get_or-set_other refl

    own_mark : get_or (set keyslots n lost) n false ≡ lost
    own_mark = simp get_or-set_same refl

    some_read : (ys : List Area) → after ≡ mid + length ys → lost ≡ true → 1 ≤ length ys
    some_read [] count is = absurd (yes_ is (omega (arith, count)))
    some_read (y ∷ ys) count is = omega arith

    marks : (ys : List Area) → after ≡ mid + length ys → 1 ≤ length ys → IsMarked (set keyslots n lost) n
    marks ys count some = own_mark ∙ no_ (λ e. omega (arith, e, count, some))

    old_ones : (x : Area) → IsOfMarked places n keyslots x → IsOfMarked places (n + 1) (set keyslots n lost) x
    old_ones x is = record { number = is.number; below = (let low = is.below in omega (arith, low)); marked = marked_still is.number is.below is.marked; is = is.is }

    new_ones : (ys : List Area) → after ≡ mid + length ys → All (IsOfArea places n) ys → All (IsOfMarked places (n + 1) (set keyslots n lost)) ys
    new_ones [] count each = All-nil (IsOfMarked places (n + 1) (set keyslots n lost))
    new_ones (y ∷ ys) count each = All-weaker (IsOfArea places n) (IsOfMarked places (n + 1) (set keyslots n lost))
        (λ x is. record { number = n; below = omega arith; marked = marks (y ∷ ys) count (omega arith); is = is }) (y ∷ ys) each

    pub next_left : (tells → SameBut (IsOfPlace places n) u w) → LeavesAreas tells places n s u before mid keyslots → LeavesPlace tells places n s w mid after
        → LeavesAreas tells places (n + 1) s w before after (set keyslots n lost)
    next_left same x y = record {
      pieces = y.pieces ++ x.pieces;
      counted = (let old = x.counted in let new = y.counted in let both = length-append y.pieces x.pieces in omega (arith, old, new, both));
      each = All-append (IsOfMarked places (n + 1) (set keyslots n lost)) y.pieces x.pieces (new_ones y.pieces y.counted y.each)
          (All-weaker (IsOfMarked places n keyslots) (IsOfMarked places (n + 1) (set keyslots n lost)) old_ones x.pieces x.each);
      told = λ k low is. elim (cases_eq k n) [
        | inl this ↦ one_front (IsOfArea places k) y.pieces x.pieces (subst (λ (m : ℕ). HasOne (IsOfArea places m) y.pieces) (sym this)
            (one_of_all (IsOfArea places n) y.pieces (some_read y.pieces y.counted (sym own_mark ∙ subst (IsMarked (set keyslots n lost)) this is)) y.each))
        | inr other ↦ (
            let under : k < n = omega (arith, low, other) in
            one_back (IsOfArea places k) y.pieces x.pieces (x.told k under (marked_before k under is)))
      ];
      holds = λ t k a low is. elim (cases_eq k n) [
        | inl this ↦ (
            let own : HasPlace places n a = subst (λ (m : ℕ). HasPlace places m a) this is in
            holds_new x.pieces y.pieces s w n keyslots a own x.each (y.holds t a own))
        | inr other ↦ holds_still x.pieces y.pieces s u w k n a other is y.each (same t) (x.holds t k a (omega (arith, low, other)) is)
      ];
    }

-- what is written beside the areas leaves them
pub areas_left : (tells : Type 0) (places : Places) (s u w : List ℕ) (before after : ℕ) (keyslots : List Bool)
    → (tells → (k : ℕ) (a : Area) → HasPlace places k a → (p : ℕ) → IsAt a.start a.len p → get_or w p 0 ≡ get_or u p 0)
    → LeavesAreas tells places 32 s u before after keyslots → LeavesAreas tells places 32 s w before after keyslots
areas_left tells places s u w before after keyslots same x = record {
  pieces = x.pieces;
  counted = x.counted;
  each = x.each;
  told = x.told;
  holds = λ t k a low is. (
      let held = x.holds t k a low is in
      record {
        zeros = λ p at of. same t k a is p at ∙ held.zeros p at of;
        read = λ p at none. same t k a is p at ∙ held.read p at none;
      });
}

-- the header is
pub header_beside : (places : Places) → AreApart places → places.lead ≤ places.first → (u w : List ℕ) → SameBut (IsOfHeader places) u w
    → (k : ℕ) (a : Area) → HasPlace places k a → (p : ℕ) → IsAt a.start a.len p → get_or w p 0 ≡ get_or u p 0
header_beside places apart lead u w same k a has p at = same.each p (λ of. (
    let behind = apart.behind k a has p at in
    let high = of.1 in
    absurd (omega (arith, behind, high, lead))))

-- ---- in turn

-- before a piece counts
pub turn_none : (places : Places) (s : List ℕ) (before after : ℕ) (old new : List ℕ) → before ≤ after → part new 0 (header_end places) ≡ part old 0 (header_end places)
    → CopiesReadInTurn places s before after old new
turn_none places s before after old new rose same = record { pieces = []; few = omega (arith, rose); each = All-nil (IsOfSome places); turn = inl same }

-- the pieces of the areas that were copied
pub some_areas : (tells : Type 0) (places : Places) (s w : List ℕ) (before after : ℕ) (keyslots : List Bool) (x : LeavesAreas tells places 32 s w before after keyslots) → All (IsOfSome places) x.pieces
some_areas tells places s w before after keyslots x = All-weaker (IsOfMarked places 32 keyslots) (IsOfSome places) (λ y own. record { number = own.number; is = own.is }) x.pieces x.each

-- clearing that failed keeps the order
pub anew_none : (places : Places) (size : ℕ) (s : List ℕ) (count : ℕ) (old new : List ℕ) → WipesInTurn size old new → WritesReadAnew places size s count count old new
anew_none places size s count old new turn = record { pieces = []; few = omega arith; each = All-nil (IsOfSome places); turn = inl turn }

-- and so do the steps that follow it
pub anew_read : (places : Places) (size : ℕ) (s : List ℕ) (before after : ℕ) (old mid new : List ℕ) → ArePlacesGone places (IsOfListed size) new → AreCleared places mid
    → CopiesReadInTurn places s before after mid new → WritesReadAnew places size s before after old new
anew_read places size s before after old mid new gone cleared x = record {
  pieces = x.pieces;
  few = x.few;
  each = x.each;
  turn = inr (gone, cleared_then places (as_copied places x.pieces s) mid new cleared x.turn);
}
