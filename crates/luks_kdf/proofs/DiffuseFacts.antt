-- Facts about diffusion.
use Rattle.std.proofs.Common.{◌≡◌, ℕ, zero, suc, ◌+◌, ◌-◌, ◌*◌, ◌<◌, ◌≤◌, min, inl, inr, List, [], ◌++◌, length, take, drop, refl, ap, ap₂, sym, ◌∙◌, arith, length-append, append_assoc, add_comm, add-zero, add-suc, add-one}
use Rattle.std.specs.Int.{w32, to_be_bytes}
use borrow.Rule.Slice.PartMut.{put_mid}
use Rattle.std.proofs.Math.Nat.{mul-le-mul_left, mul-le-mul_right}
use Rattle.std.proofs.Math.Seq.{take-add, take-nil}
use Rattle.std.proofs.lemmas.Bool.{cases_lt}
use Rattle.std.proofs.lemmas.List.{append-nil, drop_at, drop_all, drop-drop, length-drop, length-take, length-take-le, take_all, take_at}
use Rattle.luks_lanes.proofs.RowFacts.{part-part}
use Rattle.luks_kdf.specs.Splitter.{block_at, diffused, diffused_blocks, diffuse}

pub length-block_at : (size : ℕ) (bytes : List ℕ) (j : ℕ)
    → length (block_at size bytes j) ≡ min size (length bytes - j * size)
unfolding block_at
length-block_at size bytes j =
    length-take size (drop (j * size) bytes) ∙ ap (min size) (length-drop (j * size) bytes)

-- past the end
block_at-none : (size : ℕ) (bytes : List ℕ) (j : ℕ) → length bytes ≤ j * size → block_at size bytes j ≡ []
unfolding block_at
block_at-none size bytes j past = rw drop_all (take-nil size)

length-diffused : (hash : List ℕ → List ℕ) (size : ℕ) → ((m : List ℕ) → length (hash m) ≡ size)
    → (j : ℕ) (block : List ℕ) → length block ≤ size → length (diffused hash j block) ≡ length block
unfolding diffused
length-diffused hash size digests j block short =
    length-take-le (length block) _ (omega (arith, digests (to_be_bytes w32 j ++ block), short))

length-diffused_blocks : (hash : List ℕ → List ℕ) (size : ℕ) → ((m : List ℕ) → length (hash m) ≡ size)
    → (bytes : List ℕ) (n : ℕ) → length (diffused_blocks hash size bytes n) ≡ min (n * size) (length bytes)
unfolding diffused_blocks
length-diffused_blocks hash size digests bytes zero = omega arith
length-diffused_blocks hash size digests bytes (suc n) =
    let before = length-diffused_blocks hash size digests bytes n in
    let block = length-block_at size bytes n in
    let last = length-diffused hash size digests n (block_at size bytes n) (omega (arith, block)) in
    omega (
      arith,
      before,
      block,
      last,
      length-append (diffused_blocks hash size bytes n) (diffused hash n (block_at size bytes n)),
    )

-- diffusion keeps the length
pub length-diffuse : (hash : List ℕ → List ℕ) (size : ℕ) → ((m : List ℕ) → length (hash m) ≡ size)
    → 1 ≤ size → (bytes : List ℕ) → length (diffuse hash size bytes) ≡ length bytes
unfolding diffuse
length-diffuse hash size digests some bytes =
    let all = mul-le-mul_left (length bytes) some in
    let whole = length-diffused_blocks hash size digests bytes (length bytes) in
    omega (arith, all, whole)

-- blocks past the end add nothing
diffused_blocks-more : (hash : List ℕ → List ℕ) (size : ℕ) (bytes : List ℕ) (count more : ℕ)
    → length bytes ≤ count * size
    → diffused_blocks hash size bytes (count + more) ≡ diffused_blocks hash size bytes count
unfolding diffused_blocks diffused
diffused_blocks-more hash size bytes count zero past = rw add-zero refl
diffused_blocks-more hash size bytes count (suc more) past =
    let before = diffused_blocks-more hash size bytes count more past in
    let none = block_at-none size bytes (count + more) (omega (arith, past)) in
    rw (add-suc, none, append-nil) before

-- as many blocks as reach the end are enough
pub diffuse-enough : (hash : List ℕ → List ℕ) (size : ℕ) → 1 ≤ size → (bytes : List ℕ) (count : ℕ)
    → length bytes ≤ count * size
    → diffused_blocks hash size bytes count ++ drop (count * size) bytes ≡ diffuse hash size bytes
unfolding diffuse
diffuse-enough hash size some bytes count past =
    let all : length bytes ≤ length bytes * size = omega (arith, mul-le-mul_left (length bytes) some) in
    let left = diffused_blocks-more hash size bytes count (length bytes) past in
    let right = diffused_blocks-more hash size bytes (length bytes) count all in
    let rest : drop (count * size) bytes ≡ [] = drop_all (count * size) bytes past in
    rw (rest, append-nil) (sym left
    ∙ ap (diffused_blocks hash size bytes) (add_comm count (length bytes)) ∙ right)

-- the front of what is left, up to a block or to the end
part-block : (size : ℕ) (old : List ℕ) (j start end : ℕ) → start ≡ j * size
    → end ≡ min (start + size) (length old) → start < length old
    → take (end - start) (drop (j * size) old) ≡ block_at size old j
unfolding block_at
part-block size old j start end is_start is_end inside =
    let rest = drop (j * size) old in
    let left : length rest ≡ length old - start = length-drop (j * size) old ∙ ap (λ n. length old - n) (sym is_start) in
    elim (cases_lt (start + size) (length old)) [
      | inl before ↦
          let whole : end - start ≡ size = omega arith in ap (λ n. take n rest) whole
      | inr past ↦
          take_all (end - start) rest (omega (arith, left)) ∙ sym (take_all size rest (omega (arith, left)))
    ]

-- what is left after it
part-rest : (size : ℕ) (old : List ℕ) (j start end : ℕ) → start ≡ j * size
    → end ≡ min (start + size) (length old) → start < length old
    → drop (end - start) (drop (j * size) old) ≡ drop ((j + 1) * size) old
part-rest size old j start end is_start is_end inside =
    elim (cases_lt (start + size) (length old)) [
      | inl before ↦
          let next : j * size + (end - start) ≡ (j + 1) * size = omega arith in
          drop-drop (end - start) (j * size) old ∙ ap (λ n. drop n old) next
      | inr past ↦
          drop-drop (end - start) (j * size) old
          ∙ drop_all (j * size + (end - start)) old (omega arith)
          ∙ sym (drop_all ((j + 1) * size) old (omega arith))
    ]

-- the loop that diffuses a list in place, one block further
pub diffuse_step : (hash : List ℕ → List ℕ) (size : ℕ) → ((m : List ℕ) → length (hash m) ≡ size)
    → (old now block part : List ℕ) (j start end : ℕ) → start ≡ j * size
    → end ≡ min (start + size) (length old) → start < length old
    → now ≡ diffused_blocks hash size old j ++ drop (j * size) old
    → part ≡ take (end - start) (drop start now) → block ≡ diffused hash j part
    → put_mid start (end - start) now block
    ≡ diffused_blocks hash size old (j + 1) ++ drop ((j + 1) * size) old
unfolding diffused_blocks
diffuse_step hash size digests old now block part j start end is_start is_end inside is_now is_part is_block =
    let front = diffused_blocks hash size old j in
    let rest = drop (j * size) old in
    let front_length = length-diffused_blocks hash size digests old j in
    let reaches : length front ≡ start = omega (arith, front_length, is_start, inside) in
    let head : take start now ≡ front = ap (take start) is_now ∙ take_at front rest start reaches in
    let tail : drop start now ≡ rest = ap (drop start) is_now ∙ drop_at front rest start reaches in
    let cut : part ≡ block_at size old j =
    is_part ∙ ap (take (end - start)) tail ∙ part-block size old j start end is_start is_end inside in
    let made : block ≡ diffused hash j (block_at size old j) = is_block ∙ ap (diffused hash j) cut in
    let left : drop (end - start) (drop start now) ≡ drop ((j + 1) * size) old =
    ap (drop (end - start)) tail ∙ part-rest size old j start end is_start is_end inside in
    rw (head, left, made, add-one) (sym (append_assoc front _ _))

-- a whole block of a pair that lies in a list
pair-block : (size : ℕ) (old : List ℕ) (j d k : ℕ) → k ≡ 2 * size → d < 2
    → take size (drop (d * size) (take k (drop (j * size) old))) ≡ block_at size old (j + d)
unfolding block_at
pair-block size old j d k is_k lt =
    let rest = drop (j * size) old in
    let place : j * size + d * size ≡ (j + d) * size = omega arith in
    part-part k rest size (d * size) (omega (arith, is_k, mul-le-mul_right size lt))
    ∙ ap (take size) (drop-drop (d * size) (j * size) old) ∙ ap (λ n. take size (drop n old)) place

-- a whole block's digest isn't cut
diffused-whole : (hash : List ℕ → List ℕ) (size : ℕ) → ((m : List ℕ) → length (hash m) ≡ size)
    → (j : ℕ) (block : List ℕ) → length block ≡ size → diffused hash j block ≡ hash (to_be_bytes w32 j ++ block)
unfolding diffused
diffused-whole hash size digests j block whole =
    let message = to_be_bytes w32 j ++ block in
    take_all (length block) (hash message) (omega (arith, digests message, whole))

-- the loop that diffuses a list in place, two blocks further, which are diffused side by side
pub diffuse_pair : (hash : List ℕ → List ℕ) (size : ℕ) → ((m : List ℕ) → length (hash m) ≡ size)
    → (old now pair : List ℕ) (j start k : ℕ) → start ≡ j * size → k ≡ 2 * size → start + k ≤ length old
    → now ≡ diffused_blocks hash size old j ++ drop (j * size) old
    → length pair ≡ k
    → ((d : ℕ) → d < 2 → take size (drop (d * size) pair)
    ≡ hash (to_be_bytes w32 (j + d) ++ take size (drop (d * size) (take k (drop start now)))))
    → put_mid start k now pair ≡ diffused_blocks hash size old (j + 2) ++ drop ((j + 2) * size) old
unfolding diffused_blocks
diffuse_pair hash size digests old now pair j start k is_start is_k inside is_now whole made =
    let front = diffused_blocks hash size old j in
    let rest = drop (j * size) old in
    let front_length = length-diffused_blocks hash size digests old j in
    let reaches : length front ≡ start = omega (arith, front_length, is_start, inside) in
    let head : take start now ≡ front = ap (take start) is_now ∙ take_at front rest start reaches in
    let tail : drop start now ≡ rest = ap (drop start) is_now ∙ drop_at front rest start reaches in
    let each : (d : ℕ) → d < 2 → take size (drop (d * size) pair) ≡ diffused hash (j + d) (block_at size old (j + d)) =
    λ d lt.
    let long : length (block_at size old (j + d)) ≡ size =
    length-block_at size old (j + d) ∙ omega (arith, inside, is_start, is_k, mul-le-mul_right size lt) in
    made d lt
    ∙ ap (λ l. hash (to_be_bytes w32 (j + d) ++ take size (drop (d * size) (take k l)))) tail
    ∙ ap (λ b. hash (to_be_bytes w32 (j + d) ++ b)) (pair-block size old j d k is_k lt)
    ∙ sym (diffused-whole hash size digests (j + d) (block_at size old (j + d)) long) in
    let at : (d n : ℕ) → d ≡ n → take size (drop d pair) ≡ take size (drop n pair) = λ d n e. ap (λ m. take size (drop m pair)) e in
    let first : take size pair ≡ diffused hash j (block_at size old j) =
    at 0 (0 * size) (omega arith) ∙ each 0 (omega arith) ∙ ap (λ n. diffused hash n (block_at size old n)) (omega arith) in
    let second : take size (drop size pair) ≡ diffused hash (suc j) (block_at size old (suc j)) =
    at size (1 * size) (omega arith) ∙ each 1 (omega arith) ∙ ap (λ n. diffused hash n (block_at size old n)) (omega arith) in
    let both : pair ≡ diffused hash j (block_at size old j) ++ diffused hash (suc j) (block_at size old (suc j)) =
    sym (take_all (size + size) pair (omega arith)) ∙ take-add size size pair ∙ ap₂ (λ (s t : List ℕ). s ++ t) first second in
    let left : drop k (drop start now) ≡ drop ((j + 2) * size) old =
    ap (drop k) tail ∙ drop-drop k (j * size) old ∙ ap (λ n. drop n old) (omega arith) in
    let two : j + 2 ≡ suc (suc j) = omega arith in
    let joined : front ++ pair ≡ diffused_blocks hash size old (j + 2) =
    rw two (ap (λ l. front ++ l) both ∙ sym (append_assoc front _ _)) in
    rw (head, left, ← joined) (sym (append_assoc front pair _))
