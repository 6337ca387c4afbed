-- An area whose stripes were written is sealed, and a sealed one opens.
use Rattle.std.proofs.Common.{◌≡◌, ℕ, ◌+◌, ◌-◌, ◌*◌, ◌<◌, ◌≤◌, List, ◌++◌, length, get_or, min, replicate, take, drop, refl, ap, sym, ◌∙◌, subst, arith, length-append, Some, None}
use Rattle.std.specs.Prelude.{if◌then◌else◌}
use Rattle.std.proofs.lemmas.List.{ext_get_or, get_or-append_right, get_or_append_left, get_or-replicate, get_or-take, length-replicate, length-take}
use Rattle.std.proofs.Math.Seq.{take-append_seam, drop-append_seam}
use Rattle.luks_area.specs.Ranges.{part, IsAt, SameBut}
use Rattle.luks_area.specs.Sectors.{rounded_to_sectors, sector_count}
use Rattle.luks_kdf.specs.declared.keyslot_hash.KeyslotHash.{KeyslotHash}
use Rattle.luks_kdf.specs.KeyslotNames.{keyslot_digest, keyslot_digest_size}
use Rattle.luks_kdf.specs.Splitter.{merge, split}
use Rattle.luks_slot.specs.declared.cipher.AreaKey.{AreaKey}
use Rattle.luks_slot.specs.declared.plan.SlotPlan.{SlotPlan}
use Rattle.luks_slot.specs.Opening.{area_bytes, area_key, hash_by_name, meets_digest, opened_sectors, slot_key, stripe_bytes, stripes_from, stripes_in}
use Rattle.luks_slot.specs.Sealing.{stripes_of, IsSealed}
use Rattle.luks_slot.specs.Writing.{ArePlaced, HoldsWanted, filled}
use Rattle.luks_slot.proofs.AreaFacts.{length-opened_sectors, opened_sectors-shorter, plain_at}
use Rattle.luks_slot.proofs.OpeningFacts.{opens_to}

-- all bytes are zeros
pub record AreZeros (bytes : List ℕ) : Type 0 where
  pub each : (k : ℕ) → k < length bytes → get_or bytes k 0 ≡ 0

-- a list of zeros
pub zeros_are : (n : ℕ) (b : List ℕ) → b ≡ replicate n 0 → AreZeros b
zeros_are n b is = record {
  each = λ k lt.
      let size : length b ≡ n = ap length is ∙ length-replicate n 0 in
      ap (λ l. get_or l k 0) is ∙ get_or-replicate n k 0 0 (omega (arith, lt, size));
}

-- the front of zeros
pub front_zeros : (n : ℕ) (b : List ℕ) → AreZeros b → AreZeros (take n b)
front_zeros n b zeros = record {
  each = λ k lt.
      let size : length (take n b) ≡ min n (length b) = length-take n b in
      get_or-take n b k 0 (omega (arith, lt, size)) ∙ zeros.each k (omega (arith, lt, size));
}

-- where each piece of the wanted bytes stands: the first
pub placed_first : (a b z : List ℕ) → ArePlaced ((a ++ b) ++ z) 0 a
placed_first a b z = record {
  each = λ k lt.
      let both = length-append a b in
      let there : k ≡ 0 + k = omega arith in
      sym (get_or_append_left (a ++ b) z 0 k (omega (arith, lt, both)) ∙ get_or_append_left a b 0 k lt)
      ∙ ap (λ p. get_or ((a ++ b) ++ z) p 0) there;
}

-- the second
pub placed_second : (a b z : List ℕ) → ArePlaced ((a ++ b) ++ z) (length a) b
placed_second a b z = record {
  each = λ k lt.
      let both = length-append a b in
      let inner : (length a + k) - length a ≡ k = omega arith in
      sym (get_or_append_left (a ++ b) z 0 (length a + k) (omega (arith, lt, both))
      ∙ get_or-append_right a b (length a) (length a + k) 0 refl (omega arith) ∙ ap (λ i. get_or b i 0) inner);
}

-- the zeros
pub placed_zeros : (a b zeros : List ℕ) (m : ℕ) → AreZeros zeros → length zeros ≤ m → ArePlaced ((a ++ b) ++ replicate m 0) (length a + length b) zeros
placed_zeros a b zeros m are fits = record {
  each = λ k lt.
      let both = length-append a b in
      let inner : ((length a + length b) + k) - (length a + length b) ≡ k = omega arith in
      let below : k < m = omega (arith, lt, fits) in
      let zero : get_or (replicate m 0) (((length a + length b) + k) - (length a + length b)) 0 ≡ 0 =
      ap (λ i. get_or (replicate m 0) i 0) inner ∙ get_or-replicate m k 0 0 below in
      let wanted : get_or ((a ++ b) ++ replicate m 0) ((length a + length b) + k) 0 ≡ 0 =
      get_or-append_right (a ++ b) (replicate m 0) (length a + length b) ((length a + length b) + k) 0 both (omega arith) ∙ zero in
      are.each k lt ∙ sym wanted;
}

-- all that is wanted was put
pub all_put : (key : AreaKey) (area wanted run : List ℕ) (n len place : ℕ) → place ≡ 512 * n → place ≡ len → length wanted ≡ 512 * n → length area ≡ 512 * n
    → HoldsWanted key area len wanted place run → opened_sectors key area n ≡ wanted
all_put key area wanted run n len place is end wanted_length area_length begun =
    let fits : 512 * n ≤ length area = omega (arith, area_length) in
    let size = length-opened_sectors key area n fits in
    ext_get_or 0 (opened_sectors key area n) wanted (size ∙ sym wanted_length)
    (λ p lt.
    let below : p < 512 * n = omega (arith, lt, size) in
    plain_at key area n p fits below ∙ begun.whole p (omega (arith, below, is, begun.end end)))

-- the random stripes and the last one are as long as all of them
pub length-stripes : (plan : SlotPlan) (random last : List ℕ) → 1 ≤ plan.stripes → length random ≡ (plan.stripes - 1) * plan.key_bytes
    → length last ≡ plan.key_bytes → length random + length last ≡ stripe_bytes plan
length-stripes plan random last some is size =
    let more : plan.stripes ≡ (plan.stripes - 1) + 1 = omega (arith, some) in
    let product : plan.key_bytes * plan.stripes ≡ (plan.stripes - 1) * plan.key_bytes + plan.key_bytes = ap (λ n. plan.key_bytes * n) more ∙ (omega arith) in
    omega (arith, is, size, product)

-- sectors that hold the stripes, and zeros behind them, are sealed
sealed_area : (plan : SlotPlan) (area passphrase key random stripes : List ℕ)
    → length stripes ≡ stripe_bytes plan → stripes ≡ stripes_of plan key random
    → opened_sectors (area_key plan passphrase) area (sector_count (stripe_bytes plan)) ≡ filled (rounded_to_sectors (stripe_bytes plan)) stripes
    → IsSealed plan area passphrase key random
unfolding stripes_in stripes_from
sealed_area plan area passphrase key random stripes size is opened =
    let zeros = replicate (rounded_to_sectors (stripe_bytes plan) - length stripes) 0 in
    record {
      stripes = ap (take (stripe_bytes plan)) opened ∙ ap (λ n. take n (stripes ++ zeros)) (sym size)
          ∙ take-append_seam stripes zeros ∙ is;
      zeros = ap (drop (stripe_bytes plan)) opened ∙ ap (λ n. drop n (stripes ++ zeros)) (sym size)
          ∙ drop-append_seam stripes zeros
          ∙ ap (λ n. replicate (rounded_to_sectors (stripe_bytes plan) - n) 0) size;
    }

-- the same of what was written over the first sectors of a plan's area
pub sealed_by : (plan : SlotPlan) (w passphrase key random last : List ℕ) (cipher_key : AreaKey) (hash : KeyslotHash)
    → 1 ≤ plan.stripes → length random + length last ≡ stripe_bytes plan
    → rounded_to_sectors (stripe_bytes plan) ≤ plan.area.len
    → random ++ last ≡ split (keyslot_digest hash) (keyslot_digest_size hash) key ((plan.stripes - 1) + 1) random
    → hash_by_name plan.splitter_hash.now ≡ hash → cipher_key ≡ area_key plan passphrase
    → (let used = length random + length last in
    opened_sectors cipher_key (part w plan.area.start (rounded_to_sectors used)) (sector_count used)
    ≡ filled (rounded_to_sectors used) (random ++ last))
    → IsSealed plan (area_bytes w plan.area) passphrase key random
sealed_by plan w passphrase key random last cipher_key hash some size fits is_split is_hash is_key written =
    let start = plan.area.start in
    let n = sector_count (stripe_bytes plan) in
    let more : (plan.stripes - 1) + 1 ≡ plan.stripes = omega (arith, some) in
    let there : opened_sectors cipher_key (part w start (n * 512)) n ≡ filled (n * 512) (random ++ last) =
    subst (λ (b : ℕ). opened_sectors cipher_key (part w start (rounded_to_sectors b)) (sector_count b) ≡ filled (rounded_to_sectors b) (random ++ last)) size written in
    let stripes : random ++ last ≡ stripes_of plan key random =
    is_split ∙ ap (λ m. split (keyslot_digest hash) (keyslot_digest_size hash) key m random) more
    ∙ ap (λ (h : KeyslotHash). split (keyslot_digest h) (keyslot_digest_size h) key plan.stripes random) (sym is_hash) in
    sealed_area plan (area_bytes w plan.area) passphrase key random (random ++ last) (length-append random last ∙ size) stripes
    (ap (λ k. opened_sectors k (area_bytes w plan.area) n) (sym is_key)
    ∙ sym (opened_sectors-shorter cipher_key w start (n * 512) plan.area.len n fits (omega arith)) ∙ there)

-- what changed, by the number of bytes
pub same_sectors : (v w : List ℕ) (start m n : ℕ) → m ≡ n → SameBut (IsAt start (rounded_to_sectors m)) v w → SameBut (IsAt start (rounded_to_sectors n)) v w
same_sectors v w start m n is same = subst (λ (k : ℕ). SameBut (IsAt start (rounded_to_sectors k)) v w) is same

-- a sealed area opens to the key that its stripes hold, where that meets the digest
stripes_open : (plan : SlotPlan) (area passphrase key random : List ℕ) → IsSealed plan area passphrase key random
    → merge (keyslot_digest (hash_by_name plan.splitter_hash.now)) (keyslot_digest_size (hash_by_name plan.splitter_hash.now))
    plan.key_bytes plan.stripes (stripes_of plan key random) ≡ key
    → slot_key plan area passphrase ≡ (if meets_digest plan.digest key then Some key else None)
stripes_open plan area passphrase key random x merges =
    let hash = hash_by_name plan.splitter_hash.now in
    let merged : merge (keyslot_digest hash) (keyslot_digest_size hash) plan.key_bytes plan.stripes (stripes_in plan (area_key plan passphrase) area) ≡ key =
    ap (merge (keyslot_digest hash) (keyslot_digest_size hash) plan.key_bytes plan.stripes) x.stripes ∙ merges in
    sym (opens_to plan area passphrase (area_key plan passphrase) key hash (sym merged) refl refl)

-- merging undoes splitting by this hash
abbrev pub UndoesSplitting : KeyslotHash → Type 0
UndoesSplitting hash =
    (key random : List ℕ) (n : ℕ) → length random ≡ n * length key
    → merge (keyslot_digest hash) (keyslot_digest_size hash) (length key) (n + 1) (split (keyslot_digest hash) (keyslot_digest_size hash) key (n + 1) random) ≡ key

-- what merging the stripes gives, by the plan's numbers
merge-split : (hash : KeyslotHash) (k n : ℕ) (key random : List ℕ) → 1 ≤ n → length key ≡ k
    → merge (keyslot_digest hash) (keyslot_digest_size hash) (length key) ((n - 1) + 1) (split (keyslot_digest hash) (keyslot_digest_size hash) key ((n - 1) + 1) random) ≡ key
    → merge (keyslot_digest hash) (keyslot_digest_size hash) k n (split (keyslot_digest hash) (keyslot_digest_size hash) key n random) ≡ key
merge-split hash k n key random some is merges =
    let more : (n - 1) + 1 ≡ n = omega (arith, some) in
    let Merges : ℕ → ℕ → Type 0 =
    λ l m. merge (keyslot_digest hash) (keyslot_digest_size hash) l m (split (keyslot_digest hash) (keyslot_digest_size hash) key m random) ≡ key in
    subst (λ l. Merges l n) is (subst (Merges (length key)) more merges)

-- a sealed area opens to its key, where merging undoes splitting
pub sealed_opens : (plan : SlotPlan) (area passphrase key random : List ℕ) → 1 ≤ plan.stripes → length key ≡ plan.key_bytes
    → length random ≡ (plan.stripes - 1) * plan.key_bytes → UndoesSplitting (hash_by_name plan.splitter_hash.now)
    → IsSealed plan area passphrase key random
    → slot_key plan area passphrase ≡ (if meets_digest plan.digest key then Some key else None)
sealed_opens plan area passphrase key random some is whole undoes sealed =
    stripes_open plan area passphrase key random sealed
    (merge-split (hash_by_name plan.splitter_hash.now) plan.key_bytes plan.stripes key random some is
    (undoes key random (plan.stripes - 1) (whole ∙ ap (λ k. (plan.stripes - 1) * k) (sym is))))

-- the same of the stripes that were written
pub written_opens : (plan : SlotPlan) (area passphrase key bytes random row : List ℕ) (hash : KeyslotHash) → 1 ≤ plan.stripes
    → bytes ≡ key → length key ≡ plan.key_bytes → hash_by_name plan.splitter_hash.now ≡ hash
    → row ≡ split (keyslot_digest hash) (keyslot_digest_size hash) bytes ((plan.stripes - 1) + 1) random
    → merge (keyslot_digest hash) (keyslot_digest_size hash) (length bytes) ((plan.stripes - 1) + 1) row ≡ bytes
    → IsSealed plan area passphrase key random
    → slot_key plan area passphrase ≡ (if meets_digest plan.digest key then Some key else None)
written_opens plan area passphrase key bytes random row hash some same is is_hash is_split merges sealed =
    let Merges : KeyslotHash → List ℕ → Type 0 =
    λ h k. merge (keyslot_digest h) (keyslot_digest_size h) (length k) ((plan.stripes - 1) + 1) (split (keyslot_digest h) (keyslot_digest_size h) k ((plan.stripes - 1) + 1) random) ≡ k in
    let there : Merges hash bytes = ap (merge (keyslot_digest hash) (keyslot_digest_size hash) (length bytes) ((plan.stripes - 1) + 1)) (sym is_split) ∙ merges in
    stripes_open plan area passphrase key random sealed
    (merge-split (hash_by_name plan.splitter_hash.now) plan.key_bytes plan.stripes key random some is
    (subst (Merges (hash_by_name plan.splitter_hash.now)) same (subst (λ h. Merges h bytes) (sym is_hash) there)))
