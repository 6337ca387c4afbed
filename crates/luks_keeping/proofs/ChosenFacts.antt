-- Where a volume's header stands byte by byte, it counts as it does in the volume.
use Rattle.std.proofs.Common.{◌≡◌, ℕ, ◌+◌, ◌-◌, ◌*◌, ◌≤◌, List, length, sym, ap, subst, ◌∙◌, arith, inl, inr}
use Rattle.std.proofs.lemmas.Bool.{cases_lt}
use Rattle.byteorder.specs.Endian.{big_number}
use Rattle.sha2.specs.Sha256.{sha256}
use Rattle.luks_area.specs.Ranges.{part}
use Rattle.luks_area.proofs.RangeFacts.{part-part}
use Rattle.luks1_header.specs.Header1.{version_of}
use Rattle.luks_writing.proofs.ClearedFacts.{no_copy, no_luks1}
use Rattle.luks_writing.specs.Cleared.{IsCleared}
use Rattle.luks2_header.proofs.CopyFacts.{listed_at_least}
use Rattle.luks2_header.specs.Header2.{copy_at, hdr_size, header_at, seqid, with_zero_checksum, IsFormed, IsSound}
use Rattle.luks2_header.specs.Selection.{AreBothSound, IsFirstAlone, IsNotVersion1, IsSecondAlone, IsVersion1, first_seqid, second_place, second_seqid}

-- what lies in a range that is equal is equal
pub inside_same : (x y : List ℕ) (l k at n : ℕ) → l ≤ at → at + n ≤ k → part y l (k - l) ≡ part x l (k - l) → part y at n ≡ part x at n
inside_same x y l k at n low high same = sym (range_of y) ∙ ap (λ b. part b (at - l) n) same ∙ range_of x
  where
    range_of : (v : List ℕ) → part (part v l (k - l)) (at - l) n ≡ part v at n
    range_of v = let start : l + (at - l) ≡ at = omega (arith, low) in part-part v l (k - l) (at - l) n (omega (arith, low, high)) ∙ ap (λ m. part v m n) start

pub large_of : (v : List ℕ) (o : ℕ) → IsSound v o → 16384 ≤ hdr_size (header_at v o)
large_of v o sound = listed_at_least (hdr_size (header_at v o)) sound.form.listed

-- a sound copy in that range is sound
pub sound_there : (x y : List ℕ) (l k : ℕ) → part y l (k - l) ≡ part x l (k - l) → k ≤ length y → (o : ℕ) → l ≤ o → IsSound x o
    → o + hdr_size (header_at x o) ≤ k → IsSound y o
sound_there x y l k same long o low sound inside =
    let large = large_of x o sound in
    let head : header_at y o ≡ header_at x o = inside_same x y l k o 4096 low (omega (arith, large, inside)) same in
    let size : hdr_size (header_at y o) ≡ hdr_size (header_at x o) = ap hdr_size head in
    let copy : copy_at y o ≡ copy_at x o = ap (part y o) size ∙ inside_same x y l k o (hdr_size (header_at x o)) low inside same in
    let f : IsFormed (header_at y o) o (length x) = subst (λ (b : List ℕ). IsFormed b o (length x)) (sym head) sound.form in
    record {
      form = record {
        magic = f.magic;
        version = f.version;
        listed = f.listed;
        second = f.second;
        offset = f.offset;
        inside = omega (arith, size, inside, long);
        algorithm = f.algorithm;
      };
      checksum = ap (λ b. part b 448 32) head ∙ sound.checksum ∙ ap (λ c. sha256 (with_zero_checksum c)) (sym copy);
    }

-- a second copy stands where its size says
pub second_size : (v : List ℕ) (o : ℕ) → 16384 ≤ o → IsSound v o → hdr_size (header_at v o) ≡ o
second_size v o large sound = sound.form.second (λ (zero : o ≡ 0). omega (arith, large, zero))

-- ---- the first copy is sound

module _ (v w : List ℕ) (first : IsSound v 0) (same : part w 0 (2 * second_place v - 0) ≡ part v 0 (2 * second_place v - 0))
    (long_v : 2 * second_place v ≤ length v) (long_w : 2 * second_place v ≤ length w) where
  large : 16384 ≤ second_place v
  large = large_of v 0 first

  head : header_at w 0 ≡ header_at v 0
  head = inside_same v w 0 (2 * second_place v) 0 4096 (omega arith) (omega (arith, large)) same

  pub place : second_place w ≡ second_place v
  place = ap hdr_size head

  first_there : IsSound w 0
  first_there = sound_there v w 0 (2 * second_place v) same long_w 0 (omega arith) first (omega arith)

  second_there : IsSound v (second_place v) → IsSound w (second_place w)
  second_there sound =
      let size = second_size v (second_place v) large sound in
      subst (IsSound w) (sym place) (sound_there v w 0 (2 * second_place v) same long_w (second_place v) (omega arith) sound (omega (arith, size)))

  second_back : IsSound w (second_place w) → IsSound v (second_place v)
  second_back sound =
      let there : IsSound w (second_place v) = subst (IsSound w) place sound in
      let size = second_size w (second_place v) large there in
      sound_there w v 0 (2 * second_place v) (sym same) long_v (second_place v) (omega arith) there (omega (arith, size))

  pub first_number : first_seqid w ≡ first_seqid v
  first_number = ap seqid head

  pub second_number : second_seqid w ≡ second_seqid v
  second_number =
      ap (λ o. seqid (header_at w o)) place
      ∙ ap seqid (inside_same v w 0 (2 * second_place v) (second_place v) 4096 (omega arith) (omega (arith, large)) same)

  pub both_there : AreBothSound v → AreBothSound w
  both_there both = record { first = first_there; second = second_there both.second }

  pub alone_there : IsFirstAlone v → IsFirstAlone w
  alone_there alone = record { first = first_there; no_second = λ sound. alone.no_second (second_back sound) }

  pub other_there : IsNotVersion1 v → IsNotVersion1 w
  other_there other =
      let six : part w 0 6 ≡ part v 0 6 = inside_same v w 0 (2 * second_place v) 0 6 (omega arith) (omega (arith, large)) same in
      let two : version_of w ≡ version_of v = ap (big_number 2) (inside_same v w 0 (2 * second_place v) 6 2 (omega arith) (omega (arith, large)) same) in
      record { long = omega (arith, long_w, large); other = λ magic version. other.other (sym six ∙ magic) (sym two ∙ version) }

-- ---- the second copy alone is sound

pub least_large : (v : List ℕ) (o : ℕ) → IsSecondAlone v o → 16384 ≤ o
least_large v o alone = listed_at_least o alone.listed

module _ (v w : List ℕ) (o : ℕ) (alone : IsSecondAlone v o) (cleared : IsCleared w 0) (same : part w 512 (2 * o - 512) ≡ part v 512 (2 * o - 512))
    (long_v : 2 * o ≤ length v) (long_w : 2 * o ≤ length w) where
  pub second_alone_there : IsSecondAlone w o
  second_alone_there = record {
    no_first = λ sound. no_copy w 0 cleared sound;
    listed = alone.listed;
    sound = (let large = least_large v o alone in let size = second_size v o (least_large v o alone) alone.sound in sound_there v w 512 (2 * o) same long_w o (omega (arith, large)) alone.sound (omega (arith, size)));
    least = λ p listed sound. elim (cases_lt p o) [
      | inl below ↦ (
          let large = listed_at_least p listed in
          let size = second_size w p large sound in
          alone.least p listed (sound_there w v 512 (2 * o) (sym same) long_v p (omega (arith, large)) sound (omega (arith, size, below))))
      | inr past ↦ past
    ];
  }

  pub not_version1_there : IsNotVersion1 w
  not_version1_there = (let large = least_large v o alone in record { long = omega (arith, long_w, large); other = λ magic version. no_luks1 w cleared magic })

-- ---- whatever counts

pub version1_there : (v w : List ℕ) → IsVersion1 v → part w 0 (592 - 0) ≡ part v 0 (592 - 0) → 592 ≤ length w → IsVersion1 w
version1_there v w one same long = record {
  long = long;
  magic = inside_same v w 0 592 0 6 (omega arith) (omega arith) same ∙ one.magic;
  version = ap (big_number 2) (inside_same v w 0 592 6 2 (omega arith) (omega arith) same) ∙ one.version;
}
