-- Whether a copy is sound is a fact of its own bytes.
use Rattle.std.proofs.Common.{◌≡◌, ℕ, ◌+◌, ◌-◌, ◌≤◌, List, length, take, drop, min, sym, ap, ◌∙◌, arith, subst}
use Rattle.std.proofs.lemmas.List.{take-take}
use Rattle.sha2.specs.Sha256.{sha256}
use Rattle.luks_area.specs.Ranges.{part}
use Rattle.luks_area.proofs.RangeFacts.{length-part, length-part_inside}
use Rattle.luks2_header.specs.Header2.{copy_at, csum_at, hdr_size, header_at, sha256_size, with_zero_checksum, IsFormed, IsSound}
use Rattle.luks2_header.proofs.CopyFacts.{listed_at_least}

sound_moves : (v w : List ℕ) (o : ℕ) → length v ≡ length w → header_at v o ≡ header_at w o → copy_at v o ≡ copy_at w o → IsSound v o → IsSound w o
sound_moves v w o long head copy sound =
    let F : List ℕ → Type 0 = λ b. IsFormed b o (length v) in
    let N : ℕ → Type 0 = λ n. IsFormed (header_at w o) o n in
    record {
      form = subst N long (subst F head sound.form);
      checksum = ap (λ b. part b csum_at sha256_size) (sym head) ∙ sound.checksum ∙ ap (λ c. sha256 (with_zero_checksum c)) copy;
    }

-- the header of a copy is its first 4096 bytes
header_of_part : (v : List ℕ) (o n : ℕ) → 4096 ≤ n → take 4096 (part v o n) ≡ header_at v o
header_of_part v o n long = take-take 4096 n (drop o v) long

-- one copy, one soundness
pub sound_by_copy : (v w : List ℕ) (o : ℕ) → length v ≡ length w → copy_at v o ≡ copy_at w o → IsSound v o → IsSound w o
sound_by_copy v w o long copy sound =
    let least : 16384 ≤ hdr_size (header_at v o) = listed_at_least (hdr_size (header_at v o)) sound.form.listed in
    let inside : o + hdr_size (header_at v o) ≤ length v = sound.form.inside in
    let size : length (copy_at v o) ≡ hdr_size (header_at v o) = length-part_inside v o (hdr_size (header_at v o)) inside in
    let other : length (copy_at w o) ≡ min (hdr_size (header_at w o)) (length w - o) = length-part w o (hdr_size (header_at w o)) in
    let same : length (copy_at v o) ≡ length (copy_at w o) = ap length copy in
    let room : 4096 ≤ hdr_size (header_at w o) = omega (arith, least, size, other, same) in
    let head : header_at v o ≡ header_at w o =
    sym (header_of_part v o (hdr_size (header_at v o)) (omega (arith, least))) ∙ ap (take 4096) copy ∙ header_of_part w o (hdr_size (header_at w o)) room in
    sound_moves v w o long head copy sound

pub sound_by_range : (v w : List ℕ) (o n : ℕ) → length v ≡ length w → 4096 ≤ n → hdr_size (header_at v o) ≤ n → part v o n ≡ part w o n → IsSound v o → IsSound w o
sound_by_range v w o n long room within same sound =
    let head : header_at v o ≡ header_at w o = sym (header_of_part v o n room) ∙ ap (take 4096) same ∙ header_of_part w o n room in
    let size : hdr_size (header_at v o) ≡ hdr_size (header_at w o) = ap hdr_size head in
    let copy : copy_at v o ≡ copy_at w o =
    sym (take-take (hdr_size (header_at v o)) n (drop o v) within) ∙ ap (take (hdr_size (header_at v o))) same
    ∙ take-take (hdr_size (header_at v o)) n (drop o w) within ∙ ap (part w o) size in
    sound_moves v w o long head copy sound

pub same_size : (v w : List ℕ) (o n : ℕ) → 4096 ≤ n → part v o n ≡ part w o n → hdr_size (header_at v o) ≡ hdr_size (header_at w o)
same_size v w o n room same = ap hdr_size (sym (header_of_part v o n room) ∙ ap (take 4096) same ∙ header_of_part w o n room)
