use Rattle.std.proofs.Common.{◌≡◌, ◌≢◌, ℕ, ◌+◌, ◌-◌, ◌*◌, ◌/◌, ◌<◌, ◌≤◌, List, ◌++◌, length, take, drop, refl, sym, ap, ◌∙◌, arith, subst, length-take-le}
use Rattle.std.proofs.lemmas.List.{take-take, take_all}
use borrow.Rule.Slice.PartMut.{put_mid}
use Rattle.sha2.specs.Hashers.{Holds256}
use Rattle.sha2.specs.declared.Sha256.{Sha256}
use Rattle.luks_vouching.specs.Composed.{sector, IsComposed, IsWholeSectors}
use Rattle.luks_vouching.specs.Tried.{IsFirstOfAll}
use Rattle.luks_vouching.proofs.SectorFacts.{sector_take}
use Rattle.luks_vouching.proofs.SearchFacts.{found_first, found_none, found_second, front_cut, moved, moved_none, next_cut, only_found, only_none, put_before, put_inside, rest_cut, same_long, whole_front, whole_inside, whole_next, whole_rest, Begins, MeetsAfter}
use Rattle.luks_vouching.proofs.search.+search.Goals as goal

-- both areas are alike from end to end
all_alike : (a b : List ℕ) (m : ℕ) → m * 512 ≡ length a → length b ≡ length a → take (512 * m) a ≡ take (512 * m) b → a ≡ b
all_alike a b m whole long alike =
    sym (take_all (512 * m) a (omega (arith, whole))) ∙ alike ∙ take_all (512 * m) b (omega (arith, whole, long))

all_fed : (a : List ℕ) (m : ℕ) → m * 512 ≡ length a → take (m * 512) a ≡ a
all_fed a m whole = take_all (m * 512) a (omega (arith, whole))

-- the next sector is whole
next_inside : (a : List ℕ) (m : ℕ) → IsWholeSectors a → 512 * m ≤ length a → m * 512 ≢ length a → 512 * (m + 1) ≤ length a
next_inside a m whole inside other =
    let n : ℕ = length a / 512 in
    let is : 512 * n ≡ length a = whole in
    let less : m < n = omega (arith, is, inside, other) in
    omega (arith, is, less)

-- what is fed with the next sector
with_next : (h : Sha256) (a b done : List ℕ) (m : ℕ) → Holds256 h ((done ++ take (m * 512) a) ++ take (m * 512 + 512 - m * 512) (drop (m * 512) b))
    → Holds256 h ((done ++ take (512 * m) a) ++ sector b m)
with_next h a b done m held =
    subst (λ l. Holds256 h ((done ++ l) ++ sector b m)) (front_cut a m) (subst (λ l. Holds256 h ((done ++ take (m * 512) a) ++ l)) (next_cut b m) held)

-- `whole` begins with the sectors that both areas share and one more, and then holds what was found
record Joins (a x found whole : List ℕ) (m : ℕ) : Type 0 where
  begins : Begins a x whole m
  rest : drop (512 * (m + 1)) whole ≡ found
  inside : 512 * (m + 1) ≤ length whole

joins : (a b json found whole : List ℕ) (m : ℕ) → 512 * (m + 1) ≤ length a → length b ≡ length a → m * 512 + 512 ≤ length json
    → take (512 * m) a ≡ take (512 * m) b → whole ≡ take (m * 512 + 512) b ++ drop (length (take (m * 512 + 512) b)) (put_mid (m * 512 + 512) (length json - (m * 512 + 512)) json found)
    → Joins a (sector b m) found whole m
joins a b json found whole m inside long room alike is =
    let n : m * 512 + 512 ≡ 512 * (m + 1) = omega arith in
    let front : List ℕ = take (m * 512 + 512) b in
    let size : length front ≡ m * 512 + 512 = length-take-le (m * 512 + 512) b (omega (arith, inside, long)) in
    let put : whole ≡ front ++ found = is ∙ put_before json found front (m * 512 + 512) size room in
    let cut : take (512 * m) front ≡ take (512 * m) b = take-take (512 * m) (m * 512 + 512) b (omega arith) in
    let own : sector front m ≡ sector b m = ap (λ k. sector (take k b) m) n ∙ sector_take b (m + 1) m (omega arith) in
    record {
      begins = record {
        front = whole_front front found whole m (size ∙ n) put ∙ cut ∙ sym alike;
        next = whole_next front found whole m (size ∙ n) put ∙ own;
      };
      rest = whole_rest front found whole m (size ∙ n) put;
      inside = whole_inside front found whole m (size ∙ n) put;
    }

joins_long : (a b x found whole sum done : List ℕ) (m : ℕ) → 512 * (m + 1) ≤ length a → Joins a x found whole m
    → IsFirstOfAll (drop (512 * (m + 1)) a) (drop (512 * (m + 1)) b) (MeetsAfter sum done) (drop (512 * (m + 1)) whole) → length whole ≡ length a
joins_long a b x found whole sum done m inside j got = same_long a whole (512 * (m + 1)) inside j.inside got.composed.as_first

pub returns-then-at-first-clause-found : goal.returns-then-at-first-clause-found
returns-then-at-first-clause-found g t c = λ done held is.
    let a : List ℕ = c.args.first.now in
    let fed : Holds256 c.update.new.self (done ++ a) = subst (λ l. Holds256 c.update.new.self (done ++ l)) (all_fed a c.alike-at.result c.if-at-first.true) (c.update.ensures done held) in
    subst (IsFirstOfAll a c.args.second.now (MeetsAfter c.args.sum.now done)) (sym c.copy_from_slice.ensures.after)
    (only_found a c.args.second.now (MeetsAfter c.args.sum.now done) (all_alike a c.args.second.now c.alike-at.result c.if-at-first.true c.requires.long c.alike-at.ensures.alike)
    (c.is_sum.ensures.met (done ++ a) fed is))

pub returns-then-at-first-clause-none : goal.returns-then-at-first-clause-none
returns-then-at-first-clause-none g t c = λ done held is.
    let a : List ℕ = c.args.first.now in
    let fed : Holds256 c.update.new.self (done ++ a) = subst (λ l. Holds256 c.update.new.self (done ++ l)) (all_fed a c.alike-at.result c.if-at-first.true) (c.update.ensures done held) in
    only_none a c.args.second.now (MeetsAfter c.args.sum.now done) (all_alike a c.args.second.now c.alike-at.result c.if-at-first.true c.requires.long c.alike-at.ensures.alike)
    (c.is_sum.ensures.not_met (done ++ a) fed is)

pub returns-then-search-clause-found : goal.returns-then-search-clause-found
returns-then-search-clause-found g t c = λ done held is.
    let a : List ℕ = c.args.first.now in
    let b : List ℕ = c.args.second.now in
    let m : ℕ = c.alike-at.result in
    let inside : 512 * (m + 1) ≤ length a = next_inside a m c.requires.whole c.alike-at.ensures.inside c.if-at-first.false in
    let room : m * 512 + 512 ≤ length c.args.json.now = let same = c.requires.room in omega (arith, inside, same) in
    let D : List ℕ = (done ++ take (512 * m) a) ++ sector a m in
    let fed : Holds256 c.fed-own.result D = with_next c.fed-own.result a a done m (c.fed-own.ensures (done ++ take (m * 512) a) (c.update.ensures done held)) in
    let got : IsFirstOfAll (take (length a - (m * 512 + 512)) (drop (m * 512 + 512) a)) (take (length b - (m * 512 + 512)) (drop (m * 512 + 512) b)) (MeetsAfter c.args.sum.now D) c.search.new.json =
    c.search.ensures.found D fed c.if-search.true in
    let j : Joins a (sector a m) c.search.new.json c.put_front.new.json m = joins a a c.args.json.now c.search.new.json c.put_front.new.json m inside refl room refl c.put_front.ensures in
    let rest : IsFirstOfAll (drop (512 * (m + 1)) a) (drop (512 * (m + 1)) b) (MeetsAfter c.args.sum.now D) (drop (512 * (m + 1)) c.put_front.new.json) =
    moved _ _ _ _ c.args.sum.now D _ _ (rest_cut a m) (rest_cut b m) (sym j.rest) got in
    found_first a b c.args.sum.now done m c.requires.long (omega (arith, inside)) c.alike-at.ensures.alike c.put_front.new.json
    (joins_long a b (sector a m) c.search.new.json c.put_front.new.json c.args.sum.now D m inside j rest)
    (c.alike-at.ensures.next (omega (arith, inside))) j.begins rest

-- none with the first copy's sector
pub returns-clause-found : goal.returns-clause-found
returns-clause-found g t c = λ done held is.
    let a : List ℕ = c.args.first.now in
    let b : List ℕ = c.args.second.now in
    let m : ℕ = c.alike-at.result in
    let inside : 512 * (m + 1) ≤ length a = next_inside a m c.requires.whole c.alike-at.ensures.inside c.if-at-first.false in
    let there : m * 512 + 512 ≤ length c.args.json.now = let same = c.requires.room in omega (arith, inside, same) in
    let json : List ℕ = put_mid (m * 512 + 512) (length c.args.json.now - (m * 512 + 512)) c.args.json.now c.search.new.json in
    let room : m * 512 + 512 ≤ length json = put_inside c.args.json.now c.search.new.json (m * 512 + 512) (length c.args.json.now - (m * 512 + 512)) there in
    let before : List ℕ = done ++ take (512 * m) a in
    let fed_own : Holds256 c.fed-own.result (before ++ sector a m) = with_next c.fed-own.result a a done m (c.fed-own.ensures (done ++ take (m * 512) a) (c.update.ensures done held)) in
    let none : (j : List ℕ) → IsComposed (take (length a - (m * 512 + 512)) (drop (m * 512 + 512) a)) (take (length b - (m * 512 + 512)) (drop (m * 512 + 512) b)) j → MeetsAfter c.args.sum.now (before ++ sector a m) j → ⊥ =
    c.search.ensures.none (before ++ sector a m) fed_own c.if-search.false in
    let fed : Holds256 c.fed-other.result (before ++ sector b m) = with_next c.fed-other.result a b done m (c.fed-other.ensures (done ++ take (m * 512) a) (c.update.ensures done held)) in
    let got : IsFirstOfAll (take (length a - (m * 512 + 512)) (drop (m * 512 + 512) a)) (take (length b - (m * 512 + 512)) (drop (m * 512 + 512) b)) (MeetsAfter c.args.sum.now (before ++ sector b m)) c.search-found.new.json =
    c.search-found.ensures.found (before ++ sector b m) fed is in
    let j : Joins a (sector b m) c.search-found.new.json c.put_front-2.new.json m = joins a b json c.search-found.new.json c.put_front-2.new.json m inside c.requires.long room c.alike-at.ensures.alike c.put_front-2.ensures in
    let rest : IsFirstOfAll (drop (512 * (m + 1)) a) (drop (512 * (m + 1)) b) (MeetsAfter c.args.sum.now (before ++ sector b m)) (drop (512 * (m + 1)) c.put_front-2.new.json) =
    moved _ _ _ _ c.args.sum.now (before ++ sector b m) _ _ (rest_cut a m) (rest_cut b m) (sym j.rest) got in
    found_second a b c.args.sum.now done m c.requires.long (omega (arith, inside)) c.alike-at.ensures.alike c.put_front-2.new.json
    (joins_long a b (sector b m) c.search-found.new.json c.put_front-2.new.json c.args.sum.now (before ++ sector b m) m inside j rest)
    (moved_none _ _ _ _ c.args.sum.now (before ++ sector a m) (rest_cut a m) (rest_cut b m) none) j.begins rest

pub returns-clause-none : goal.returns-clause-none
returns-clause-none g t c = λ done held is.
    let a : List ℕ = c.args.first.now in
    let b : List ℕ = c.args.second.now in
    let m : ℕ = c.alike-at.result in
    let inside : 512 * (m + 1) ≤ length a = next_inside a m c.requires.whole c.alike-at.ensures.inside c.if-at-first.false in
    let before : List ℕ = done ++ take (512 * m) a in
    let fed_own : Holds256 c.fed-own.result (before ++ sector a m) = with_next c.fed-own.result a a done m (c.fed-own.ensures (done ++ take (m * 512) a) (c.update.ensures done held)) in
    let none : (j : List ℕ) → IsComposed (take (length a - (m * 512 + 512)) (drop (m * 512 + 512) a)) (take (length b - (m * 512 + 512)) (drop (m * 512 + 512) b)) j → MeetsAfter c.args.sum.now (before ++ sector a m) j → ⊥ =
    c.search.ensures.none (before ++ sector a m) fed_own c.if-search.false in
    let fed : Holds256 c.fed-other.result (before ++ sector b m) = with_next c.fed-other.result a b done m (c.fed-other.ensures (done ++ take (m * 512) a) (c.update.ensures done held)) in
    let neither : (j : List ℕ) → IsComposed (take (length a - (m * 512 + 512)) (drop (m * 512 + 512) a)) (take (length b - (m * 512 + 512)) (drop (m * 512 + 512) b)) j → MeetsAfter c.args.sum.now (before ++ sector b m) j → ⊥ =
    c.search-found.ensures.none (before ++ sector b m) fed is in
    found_none a b c.args.sum.now done m c.requires.long (omega (arith, inside)) c.alike-at.ensures.alike
    (moved_none _ _ _ _ c.args.sum.now (before ++ sector a m) (rest_cut a m) (rest_cut b m) none)
    (moved_none _ _ _ _ c.args.sum.now (before ++ sector b m) (rest_cut a m) (rest_cut b m) neither)
