-- Bits that change places between two vectors, and bytes as the numbers of their bits.
use Rattle.std.proofs.Common.{◌≡◌, ℕ, ◌<◌, ◌+◌, ◌-◌, ◌*◌, ◌/◌, ◌%◌, ◌^◌, ◌∙◌, sym, ap, ap₂, Bool, true, false, cond, ◌&&◌, List, [], length, slice_index, eqb, arith, refl, ⊎_elim}
use Rattle.std.specs.Int.Bits.{bit_and, bit_xor, xor_zero_l, xor_zero_r}
use Rattle.std.specs.Simd.Lanes.{zip2}
use Rattle.std.specs.Prelude.{replicate, slice_index_or}
use Rattle.std.proofs.lemmas.Bool.{and_parts, eqb-true}
use Rattle.std.proofs.lemmas.Nat.{xor_lt, and_le_r}
use Rattle.std.proofs.lemmas.Simd.{length-zip2, get_or-replicate}
use Rattle.std.proofs.lemmas.List.FromFn.{fill_by_all}
use Rattle.luks_aes.specs.Field.{number_of_bits}
use Rattle.luks_aes.proofs.TableFacts.{all_below, all_below-at}
use Rattle.luks_aes.specs.Planes.{IsPlane, bit_of, byte_of, block_of, IsStep}
use Rattle.luks_aes.proofs.GateFacts.{lane_zip, bit_of_xor}

-- a lane of a function of a vector and of one number in all lanes
pub lane_with : (f : ℕ → ℕ → ℕ) (x : List ℕ) → length x ≡ 16 → (m k : ℕ) → k < 16
    → slice_index (zip2 f x (replicate 16 m)) k ≡ f (slice_index x k) m
lane_with f x l m k h = lane_zip f x (replicate 16 m) l refl k h ∙ ap (f (slice_index x k)) (get_or-replicate 16 k m 0 h)

-- the parts of a byte, at the places of a step and at the others
abbrev pub up : ℕ → ℕ → ℕ
up a n = a * 2 ^ n % 2 ^ 8

-- the byte shifted to the lower places
abbrev pub down : ℕ → ℕ → ℕ
down a n = a / 2 ^ n

-- whether bit i is one of the first of its pairs
abbrev first_place : ℕ → ℕ → Bool
first_place n i = eqb (i / n % 2) 0

-- at each byte and place: the parts that `lower` takes, and those that `upper` takes
abbrev lower_at : ℕ → ℕ → ℕ → ℕ → Bool
lower_at n mask a i =
    eqb (bit_and a mask / 2 ^ i % 2) (cond (first_place n i) (a / 2 ^ i % 2) 0)
    && eqb (bit_and (up a n) (255 - mask) / 2 ^ i % 2) (cond (first_place n i) 0 (a / 2 ^ (i - n) % 2))

-- and those that `upper` takes
abbrev upper_at : ℕ → ℕ → ℕ → ℕ → Bool
upper_at n mask a i =
    eqb (bit_and (down a n) mask / 2 ^ i % 2) (cond (first_place n i) (a / 2 ^ (i + n) % 2) 0)
    && eqb (bit_and a (255 - mask) / 2 ^ i % 2) (cond (first_place n i) 0 (a / 2 ^ i % 2))

-- a test at each byte and place
abbrev everywhere : (ℕ → ℕ → Bool) → Bool
everywhere t = all_below (λ a. all_below (t a) 8) 256

-- at one of them
everywhere-at : (t : ℕ → ℕ → Bool) → everywhere t ≡ true → (a i : ℕ) → a < 256 → i < 8 → t a i ≡ true
everywhere-at t e a i ha hi = all_below-at (t a) 8 i (all_below-at (λ a. all_below (t a) 8) 256 a e ha) hi

-- `lower` at each byte and place
lower_test : (n mask : ℕ) → IsStep n mask → everywhere (lower_at n mask) ≡ true
lower_test n mask step =
    ⊎_elim (λ (e : (n ≡ 1) × (mask ≡ 0x55)). rw (e.0, e.1) refl)
    (⊎_elim (λ (e : (n ≡ 2) × (mask ≡ 0x33)). rw (e.0, e.1) refl) (λ (e : (n ≡ 4) × (mask ≡ 0x0F)). rw (e.0, e.1) refl)) step

-- `upper` at each byte and place
upper_test : (n mask : ℕ) → IsStep n mask → everywhere (upper_at n mask) ≡ true
upper_test n mask step =
    ⊎_elim (λ (e : (n ≡ 1) × (mask ≡ 0x55)). rw (e.0, e.1) refl)
    (⊎_elim (λ (e : (n ≡ 2) × (mask ≡ 0x33)). rw (e.0, e.1) refl) (λ (e : (n ≡ 4) × (mask ≡ 0x0F)). rw (e.0, e.1) refl)) step

-- a sum of which one part is 0
either : (c : Bool) (x y : ℕ) → bit_xor (cond c x 0) (cond c 0 y) ≡ cond c x y
either true x y = xor_zero_r x
either false x y = xor_zero_l y

-- the bits that `lower` gives
pub lower_bits : (a b : List ℕ) → IsPlane a → IsPlane b → (n mask : ℕ) → IsStep n mask → (k i : ℕ) → k < 16 → i < 8
    → bit_of k i (zip2 bit_xor (zip2 bit_and a (replicate 16 mask)) (zip2 bit_and (zip2 up b (replicate 16 n)) (replicate 16 (255 - mask))))
    ≡ cond (first_place n i) (bit_of k i a) (bit_of k (i - n) b)
lower_bits a b pa pb n mask step k i h low =
    let shifted = zip2 up b (replicate 16 n) in
    let ls : length shifted ≡ 16 = length-zip2 up b (replicate 16 n) pb.long ∙ pb.long in
    let l1 : length (zip2 bit_and a (replicate 16 mask)) ≡ 16 = length-zip2 bit_and a (replicate 16 mask) pa.long ∙ pa.long in
    let l2 : length (zip2 bit_and shifted (replicate 16 (255 - mask))) ≡ 16 = length-zip2 bit_and shifted (replicate 16 (255 - mask)) ls ∙ ls in
    let x : ℕ = slice_index a k in
    let y : ℕ = slice_index b k in
    let tx = and_parts _ _ (everywhere-at (lower_at n mask) (lower_test n mask step) x i (pa.bytes k h) low) in
    let ty = and_parts _ _ (everywhere-at (lower_at n mask) (lower_test n mask step) y i (pb.bytes k h) low) in
    bit_of_xor (zip2 bit_and a (replicate 16 mask)) (zip2 bit_and shifted (replicate 16 (255 - mask))) l1 l2 k i h
    ∙ ap₂ bit_xor
    (ap (λ (v : ℕ). v / 2 ^ i % 2) (lane_with bit_and a pa.long mask k h) ∙ eqb-true _ _ tx.0)
    (ap (λ (v : ℕ). v / 2 ^ i % 2) (lane_with bit_and shifted ls (255 - mask) k h ∙ ap (λ (v : ℕ). bit_and v (255 - mask)) (lane_with up b pb.long n k h)) ∙ eqb-true _ _ ty.1)
    ∙ either (first_place n i) (x / 2 ^ i % 2) (y / 2 ^ (i - n) % 2)

-- the bits that `upper` gives
pub upper_bits : (a b : List ℕ) → IsPlane a → IsPlane b → (n mask : ℕ) → IsStep n mask → (k i : ℕ) → k < 16 → i < 8
    → bit_of k i (zip2 bit_xor (zip2 bit_and (zip2 down a (replicate 16 n)) (replicate 16 mask)) (zip2 bit_and b (replicate 16 (255 - mask))))
    ≡ cond (first_place n i) (bit_of k (i + n) a) (bit_of k i b)
upper_bits a b pa pb n mask step k i h low =
    let shifted = zip2 down a (replicate 16 n) in
    let ls : length shifted ≡ 16 = length-zip2 down a (replicate 16 n) pa.long ∙ pa.long in
    let l1 : length (zip2 bit_and shifted (replicate 16 mask)) ≡ 16 = length-zip2 bit_and shifted (replicate 16 mask) ls ∙ ls in
    let l2 : length (zip2 bit_and b (replicate 16 (255 - mask))) ≡ 16 = length-zip2 bit_and b (replicate 16 (255 - mask)) pb.long ∙ pb.long in
    let x : ℕ = slice_index a k in
    let y : ℕ = slice_index b k in
    let tx = and_parts _ _ (everywhere-at (upper_at n mask) (upper_test n mask step) x i (pa.bytes k h) low) in
    let ty = and_parts _ _ (everywhere-at (upper_at n mask) (upper_test n mask step) y i (pb.bytes k h) low) in
    bit_of_xor (zip2 bit_and shifted (replicate 16 mask)) (zip2 bit_and b (replicate 16 (255 - mask))) l1 l2 k i h
    ∙ ap₂ bit_xor
    (ap (λ (v : ℕ). v / 2 ^ i % 2) (lane_with bit_and shifted ls mask k h ∙ ap (λ (v : ℕ). bit_and v mask) (lane_with down a pa.long n k h)) ∙ eqb-true _ _ tx.0)
    (ap (λ (v : ℕ). v / 2 ^ i % 2) (lane_with bit_and b pb.long (255 - mask) k h) ∙ eqb-true _ _ ty.1)
    ∙ either (first_place n i) (x / 2 ^ (i + n) % 2) (y / 2 ^ i % 2)

-- what they make is a vector of bytes: the parts are no more than a mask
pub parts_plane : (x y : List ℕ) (m n : ℕ) → m < 256 → n < 256 → length x ≡ 16 → length y ≡ 16
    → IsPlane (zip2 bit_xor (zip2 bit_and x (replicate 16 m)) (zip2 bit_and y (replicate 16 n)))
parts_plane x y m n hm hn lx ly =
    let p = zip2 bit_and x (replicate 16 m) in
    let q = zip2 bit_and y (replicate 16 n) in
    let lp : length p ≡ 16 = length-zip2 bit_and x (replicate 16 m) lx ∙ lx in
    let lq : length q ≡ 16 = length-zip2 bit_and y (replicate 16 n) ly ∙ ly in
    record {
      long = length-zip2 bit_xor p q (lp ∙ sym lq) ∙ lp;
      bytes = λ k h.
          rw (lane_zip bit_xor p q lp lq k h, lane_with bit_and x lx m k h, lane_with bit_and y ly n k h)
          (xor_lt 8 (bit_and (slice_index x k) m) (bit_and (slice_index y k) n) (omega (arith, and_le_r (slice_index x k) m)) (omega (arith, and_le_r (slice_index y k) n)));
    }

-- a byte is the number of its bits
number_test : all_below (λ v. eqb (number_of_bits (λ i. v / 2 ^ i % 2) 8) v) 256 ≡ true
unfolding number_of_bits
number_test = refl

-- a byte is the number of its bits
number_back : (v : ℕ) → v < 256 → number_of_bits (λ i. v / 2 ^ i % 2) 8 ≡ v
number_back v h = eqb-true _ _ (all_below-at (λ v. eqb (number_of_bits (λ i. v / 2 ^ i % 2) 8) v) 256 v number_test h)

-- equal bits, equal numbers
pub same_number : (f g : ℕ → ℕ) → ((i : ℕ) → i < 8 → f i ≡ g i) → number_of_bits f 8 ≡ number_of_bits g 8
unfolding number_of_bits
same_number f g h =
    rw (h 0 (omega arith), h 1 (omega arith), h 2 (omega arith), h 3 (omega arith), h 4 (omega arith), h 5 (omega arith), h 6 (omega arith), h 7 (omega arith)) refl

-- a byte of a block, from the bits of a vector
pub byte_is : (planes : List (List ℕ)) (x : List ℕ) → IsPlane x → (k b : ℕ) → k < 16
    → ((i : ℕ) → i < 8 → bit_of k b (slice_index_or planes i []) ≡ bit_of k i x) → byte_of k b planes ≡ slice_index x k
byte_is planes x p k b h same =
    same_number (λ i. bit_of k b (slice_index_or planes i [])) (λ i. bit_of k i x) same ∙ number_back (slice_index x k) (p.bytes k h)

-- a block, from its bytes
pub block_is : (planes : List (List ℕ)) (x : List ℕ) → length x ≡ 16 → (b : ℕ)
    → ((k : ℕ) → k < 16 → byte_of k b planes ≡ slice_index x k) → block_of b planes ≡ x
block_is planes x l b h = sym (fill_by_all (λ k. byte_of k b planes) x 16 0 l (λ k low. sym (h k low)))

-- ---- a bit of a byte in all its bits

-- the difference of two bytes, modulo 2^8
abbrev pub minus : ℕ → ℕ → ℕ
minus a b = (a + (2 ^ 8 - b)) % 2 ^ 8

-- bit i of a byte, from the difference that spreads it
abbrev spread_at : ℕ → ℕ → ℕ → Bool
spread_at i v b = eqb (minus 0 (bit_and (down v i) 1) / 2 ^ b % 2) (v / 2 ^ i % 2)

-- at each byte and place
spread_test : all_below (λ i. everywhere (spread_at i)) 8 ≡ true
spread_test = refl

-- the bits of what `spread` gives
pub spread_bits : (x : List ℕ) → IsPlane x → (i : ℕ) → i < 8 → (k b : ℕ) → k < 16 → b < 8
    → bit_of k b (zip2 minus (replicate 16 0) (zip2 bit_and (zip2 down x (replicate 16 i)) (replicate 16 1))) ≡ bit_of k i x
spread_bits x p i hi k b h low =
    let shifted = zip2 down x (replicate 16 i) in
    let ls : length shifted ≡ 16 = length-zip2 down x (replicate 16 i) p.long ∙ p.long in
    let masked = zip2 bit_and shifted (replicate 16 1) in
    let lm : length masked ≡ 16 = length-zip2 bit_and shifted (replicate 16 1) ls ∙ ls in
    ap (λ (v : ℕ). v / 2 ^ b % 2)
    (lane_zip minus (replicate 16 0) masked refl lm k h
    ∙ ap₂ minus (get_or-replicate {A = ℕ} 16 k 0 0 h) (lane_with bit_and shifted ls 1 k h ∙ ap (λ (v : ℕ). bit_and v 1) (lane_with down x p.long i k h)))
    ∙ eqb-true _ _ (everywhere-at (spread_at i) (all_below-at (λ i. everywhere (spread_at i)) 8 i spread_test hi) (slice_index x k) b (p.bytes k h) low)
