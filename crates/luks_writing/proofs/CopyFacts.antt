-- A copy of the LUKS2 header, as it is written.
use Rattle.std.proofs.Common.{◌≡◌, ℕ, ◌+◌, ◌≤◌, ◌++◌, List, length, take, drop, replicate, inl, arith, refl, sym, ap, ◌∙◌, subst, Result, Ok, Err, OnOk}
use Rattle.std.proofs.Math.Seq.{drop-append_seam, take-append_seam}
use Rattle.sha2.specs.Sha256.{sha256}
use Rattle.sha2.proofs.Facts256.{length-sha256}
use Rattle.luks_area.specs.Device.{Touches}
use Rattle.luks_area.proofs.DeviceFacts.{touches-inside, touches-then, touches-wider}
use Rattle.luks_area.specs.Ranges.{part, written, IsAt, SameOutside}
use Rattle.luks_area.proofs.RangeFacts.{length-written, part-same_but_at, part-written, same_but-same_outside, same_outside-written}
use Rattle.luks2_header.specs.Header2.{with_zero_checksum}
use Rattle.luks2_header.specs.Written.{IsWrittenCopy, WritesBin2}
use Rattle.luks2_header.specs.declared.bin2.Bin2.{Bin2}
use Rattle.luks_writing.specs.Copy.{HasCopy, IsCopyHeader, IsSummed}

-- a checksum's field begins with the digest
digest_front : (m : List ℕ) → take 32 (sha256 m ++ replicate 32 0) ≡ sha256 m
digest_front m = ap (λ n. take n (sha256 m ++ replicate 32 0)) (sym (length-sha256 m)) ∙ take-append_seam (sha256 m) (replicate 32 0)

-- and zeros follow it
digest_rest : (m : List ℕ) → drop 32 (sha256 m ++ replicate 32 0) ≡ replicate 32 0
digest_rest m = ap (λ n. drop n (sha256 m ++ replicate 32 0)) (sym (length-sha256 m)) ∙ drop-append_seam (sha256 m) (replicate 32 0)

-- the write of the header is within the copy
pub copy_begun : {D : Type 0} {bytes_of : D → List ℕ} {unsettled_of : D → ℕ → Type 0} {old new : D} (at n m : ℕ) → n ≡ 4096
    → Touches bytes_of unsettled_of (IsAt at n) old new → Touches bytes_of unsettled_of (IsAt at (4096 + m)) old new
copy_begun at n m size first = touches-wider (λ p here. (here.0, let high = here.1 in omega (arith, high, size))) first

-- and so is that of the area behind it
pub copy_rest : {D : Type 0} {bytes_of : D → List ℕ} {unsettled_of : D → ℕ → Type 0} {first mid last : D} (at n m : ℕ) → n ≡ 4096
    → Touches bytes_of unsettled_of (IsAt at n) first mid → Touches bytes_of unsettled_of (IsAt (at + 4096) m) mid last
    → Touches bytes_of unsettled_of (IsAt at (4096 + m)) first last
copy_rest at n m size header area = touches-then (copy_begun at n m size header) (touches-inside at (4096 + m) 4096 m (omega arith) area)

-- header and area stand where both were written
module _ (v w x head json : List ℕ) (at : ℕ) (inside : at + (4096 + length json) ≤ length v) (size : length head ≡ 4096)
    (first : w ≡ written v at head) (second : x ≡ written w (at + 4096) json) where
  long : length w ≡ length v
  long = ap length first ∙ length-written v at head (omega (arith, inside, size))

  behind : SameOutside w x (at + 4096) (length json)
  behind = subst (λ (l : List ℕ). SameOutside w l (at + 4096) (length json)) (sym second) (same_outside-written w (at + 4096) json (omega (arith, inside, long)))

  pub area_there : part x (at + 4096) (length json) ≡ json
  area_there = ap (λ l. part l (at + 4096) (length json)) second ∙ part-written w (at + 4096) json (omega (arith, inside, long))

  pub head_there : part x at 4096 ≡ head
  head_there =
      part-same_but_at (at + 4096) (length json) at 4096 (same_but-same_outside behind) (inl (omega arith))
      ∙ ap (λ l. part l at 4096) first ∙ ap (λ n. part (written v at head) at n) (sym size) ∙ part-written v at head (omega (arith, inside, size))

-- the copy of the binary header `h` was written with its checksum, as `s`
module _ (h s : Bin2) (w head json : List ℕ) (is : IsCopyHeader h) (put : WritesBin2 head s) (summed : IsSummed h json s)
    (inside : s.hdr_offset + s.hdr_size ≤ length w) (rest : 4096 + length json ≡ s.hdr_size)
    (head_is : part w s.hdr_offset 4096 ≡ head) (area_is : part w (s.hdr_offset + 4096) (length json) ≡ json) where
  place : s.hdr_offset ≡ h.hdr_offset
  place = ap (λ x. x.hdr_offset) summed.same

  size : s.hdr_size ≡ h.hdr_size
  size = ap (λ x. x.hdr_size) summed.same

  header_is : part w h.hdr_offset 4096 ≡ head
  header_is = ap (λ o. part w o 4096) (sym place) ∙ head_is

  sum : s.csum ≡ sha256 (with_zero_checksum (head ++ json)) ++ replicate 32 0
  sum = summed.sum head put

  pub copy_made : HasCopy w json h
  copy_made = record {
    csum = s.csum;
    csum_rest = ap (drop 32) sum ∙ digest_rest (with_zero_checksum (head ++ json));
    written = record {
      header = subst (λ (b : List ℕ). WritesBin2 b (record h { csum = s.csum })) (sym header_is) (subst (λ (x : Bin2). WritesBin2 head x) summed.same put);
      area = ap (λ o. part w (o + 4096) (length json)) (sym place) ∙ area_is;
      size = rest ∙ size;
      inside = omega (arith, inside, place, size);
      listed = is.listed;
      second = is.second;
      magic = is.magic;
      version = is.version;
      hdr_offset = refl;
      csum_alg = is.csum_alg;
      csum = ap (take 32) sum ∙ digest_front (with_zero_checksum (head ++ json)) ∙ ap (λ b. sha256 (with_zero_checksum (b ++ json))) (sym header_is);
    };
  }

-- and where it was written, if it was
pub copy_made_on : {A F : Type 0} (r : Result A F) (h s : Bin2) (w head json : List ℕ) → IsCopyHeader h → WritesBin2 head s → IsSummed h json s
    → s.hdr_offset + s.hdr_size ≤ length w → 4096 + length json ≡ s.hdr_size → OnOk r (part w s.hdr_offset 4096 ≡ head)
    → OnOk r (part w (s.hdr_offset + 4096) (length json) ≡ json) → OnOk r (HasCopy w json h)
copy_made_on (Ok x) h s w head json is put summed inside rest head_is area_is = copy_made h s w head json is put summed inside rest head_is area_is
copy_made_on (Err f) h s w head json is put summed inside rest head_is area_is = tt

-- a written copy stays where its bytes do
pub copy_stays : (v w json : List ℕ) (at : ℕ) (h : Bin2) → length w ≡ length v → part w at 4096 ≡ part v at 4096
    → part w (at + 4096) (length json) ≡ part v (at + 4096) (length json) → IsWrittenCopy v at h json → IsWrittenCopy w at h json
copy_stays v w json at h long head area x = record {
  header = subst (λ (b : List ℕ). WritesBin2 b h) (sym head) x.header;
  area = area ∙ x.area;
  size = x.size;
  inside = (let within = x.inside in omega (arith, within, long));
  listed = x.listed;
  second = x.second;
  magic = x.magic;
  version = x.version;
  hdr_offset = x.hdr_offset;
  csum_alg = x.csum_alg;
  csum = x.csum ∙ ap (λ b. sha256 (with_zero_checksum (b ++ json))) (sym head);
}
