-- Second copies on a disk, of volumes that begin before them.
use Rattle.std.proofs.Common.{◌≡◌, ℕ, ◌+◌, ◌-◌, ◌<◌, ◌≤◌, ◌==◌, nat_le, List, [], ◌∷◌, length, take, get_or, true, inl, inr, sym, ap, ◌∙◌, subst, arith, length-drop}
use Rattle.std.proofs.lemmas.Bool.{or_cases, and_parts, eqb-true, leb-true, false≢true}
use Rattle.std.proofs.lemmas.List.{drop-drop}
use Rattle.sha2.specs.Sha256.{sha256}
use Rattle.luks_area.specs.Ranges.{part}
use Rattle.luks2_header.specs.Header2.{copy_at, hdr_size, header_at, with_zero_checksum, IsFormed, IsSound}
use Rattle.luks2_header.specs.Sizes.{is_among, IsListed}
use Rattle.luks2_header.proofs.CopyFacts.{among_pass, listed_at_least}
use Rattle.luks2_header.proofs.SecondCopyFacts.{is_rising}
use Rattle.luks_finding.specs.Starts.{volume_at, IsSoundOf}
use Rattle.luks_finding.specs.Telling.{HasNearerCopy}

-- a part of a volume is one of the disk
pub part-volume : (v : List ℕ) (s at len : ℕ) → part (volume_at v s) at len ≡ part v (s + at) len
part-volume v s at len = ap (take len) (drop-drop at s v)

-- a listed size isn't 0
pub listed-some : (size : ℕ) → IsListed size → size ≡ 0 → ⊥
listed-some size listed none = let least : 16384 ≤ size = listed_at_least size listed in absurd (omega (arith, least, none))

-- the header that was read is formed, where the copy is sound
pub formed-sound : (v head : List ℕ) (s size total : ℕ) → total ≡ length v - s → head ≡ part v (s + size) 4096
    → IsSound (volume_at v s) size → IsFormed head size total
formed-sound v head s size total long is sound =
    let N : ℕ → Type 0 = λ n. IsFormed head size n in
    let F : List ℕ → Type 0 = λ b. IsFormed b size (length (volume_at v s)) in
    subst N (length-drop s v ∙ sym long) (subst F (part-volume v s size 4096 ∙ sym is) sound.form)

-- what the digest is made of is the copy
copy-whole : (v : List ℕ) (s size : ℕ) → hdr_size (header_at (volume_at v s) size) ≡ size → part v (s + size) size ≡ copy_at (volume_at v s) size
copy-whole v s size is = sym (part-volume v s size size) ∙ ap (part (volume_at v s) size) (sym is)

-- the copy is sound, where its header is formed and has the digest
pub sound-copy : (v head digest : List ℕ) (s size total : ℕ) → IsListed size → total ≡ length v - s → head ≡ part v (s + size) 4096
    → IsFormed head size total → digest ≡ sha256 (with_zero_checksum (part v (s + size) size)) → part head 448 32 ≡ digest
    → IsSound (volume_at v s) size
sound-copy v head digest s size total listed long is form taken sum =
    let N : ℕ → Type 0 = λ n. IsFormed head size n in
    let F : List ℕ → Type 0 = λ b. IsFormed b size (length (volume_at v s)) in
    let same : head ≡ header_at (volume_at v s) size = is ∙ sym (part-volume v s size 4096) in
    let formed : IsFormed (header_at (volume_at v s) size) size (length (volume_at v s)) = subst F same (subst N (long ∙ sym (length-drop s v)) form) in
    record {
      form = formed;
      checksum = ap (λ b. part b 448 32) (sym same) ∙ sum ∙ taken
          ∙ ap (λ b. sha256 (with_zero_checksum b)) (copy-whole v s size (formed.second (listed-some size listed)));
    }

-- and where it is sound its header has it
pub sum-sound : (v head digest : List ℕ) (s size : ℕ) → IsListed size → head ≡ part v (s + size) 4096
    → digest ≡ sha256 (with_zero_checksum (part v (s + size) size)) → IsSound (volume_at v s) size → part head 448 32 ≡ digest
sum-sound v head digest s size listed is taken sound =
    let same : head ≡ header_at (volume_at v s) size = is ∙ sym (part-volume v s size 4096) in
    ap (λ b. part b 448 32) same ∙ sound.checksum
    ∙ sym (taken ∙ ap (λ b. sha256 (with_zero_checksum b)) (copy-whole v s size (sound.form.second (listed-some size listed))))

-- a sound copy lies inside
pub sound-inside : (v : List ℕ) (s size : ℕ) → IsListed size → IsSound (volume_at v s) size → s + size + size ≤ length v
sound-inside v s size listed sound =
    let inside : size + hdr_size (header_at (volume_at v s) size) ≤ length (volume_at v s) = sound.form.inside in
    let named : hdr_size (header_at (volume_at v s) size) ≡ size = sound.form.second (listed-some size listed) in
    let long : length (volume_at v s) ≡ length v - s = length-drop s v in
    let least : 16384 ≤ size = listed_at_least size listed in
    omega (arith, inside, named, long, least)

-- ---- first copies

-- a part of a volume from its start on
part-start : (v : List ℕ) (s len : ℕ) → part (volume_at v s) 0 len ≡ part v s len
part-start v s len = let same : s + 0 ≡ s = omega arith in part-volume v s 0 len ∙ ap (λ p. part v p len) same

-- the header that was read is formed and has the size, where the first copy is sound and has it
pub formed-first : (v head : List ℕ) (s size total : ℕ) → total ≡ length v - s → head ≡ part v s 4096
    → IsSoundOf (volume_at v s) size 0 → IsFormed head 0 total × (hdr_size head ≡ size)
formed-first v head s size total long is sound =
    let N : ℕ → Type 0 = λ n. IsFormed head 0 n in
    let F : List ℕ → Type 0 = λ b. IsFormed b 0 (length (volume_at v s)) in
    let same : header_at (volume_at v s) 0 ≡ head = part-start v s 4096 ∙ sym is in
    (subst N (length-drop s v ∙ sym long) (subst F same sound.sound.form), ap hdr_size (sym same) ∙ sound.sized)

-- what the digest is made of is the first copy
copy-first : (v : List ℕ) (s size : ℕ) → hdr_size (header_at (volume_at v s) 0) ≡ size → part v s size ≡ copy_at (volume_at v s) 0
copy-first v s size is = sym (part-start v s size) ∙ ap (part (volume_at v s) 0) (sym is)

-- the first copy is sound, where its header is formed and has the digest
pub sound-first : (v head digest : List ℕ) (s size total : ℕ) → total ≡ length v - s → head ≡ part v s 4096
    → IsFormed head 0 total → hdr_size head ≡ size → digest ≡ sha256 (with_zero_checksum (part v s size)) → part head 448 32 ≡ digest
    → IsSoundOf (volume_at v s) size 0
sound-first v head digest s size total long is form sized taken sum =
    let N : ℕ → Type 0 = λ n. IsFormed head 0 n in
    let F : List ℕ → Type 0 = λ b. IsFormed b 0 (length (volume_at v s)) in
    let same : head ≡ header_at (volume_at v s) 0 = is ∙ sym (part-start v s 4096) in
    let formed : IsFormed (header_at (volume_at v s) 0) 0 (length (volume_at v s)) = subst F same (subst N (long ∙ sym (length-drop s v)) form) in
    let named : hdr_size (header_at (volume_at v s) 0) ≡ size = ap hdr_size (sym same) ∙ sized in
    record {
      sound = record {
        form = formed;
        checksum = ap (λ b. part b 448 32) (sym same) ∙ sum ∙ taken ∙ ap (λ b. sha256 (with_zero_checksum b)) (copy-first v s size named);
      };
      sized = named;
    }

-- and where it is sound its header has it
pub sum-first : (v head digest : List ℕ) (s size : ℕ) → head ≡ part v s 4096
    → digest ≡ sha256 (with_zero_checksum (part v s size)) → IsSoundOf (volume_at v s) size 0 → part head 448 32 ≡ digest
sum-first v head digest s size is taken sound =
    let same : head ≡ header_at (volume_at v s) 0 = is ∙ sym (part-start v s 4096) in
    ap (λ b. part b 448 32) same ∙ sound.sound.checksum
    ∙ sym (taken ∙ ap (λ b. sha256 (with_zero_checksum b)) (copy-first v s size sound.sized))

-- ---- through ascending sizes

first-least : (xs : List ℕ) (p : ℕ) → is_rising xs ≡ true → is_among p xs ≡ true → get_or xs 0 0 ≤ p
first-least [] p rising among = absurd (false≢true among)
first-least (x ∷ xs) p rising among =
    elim (or_cases (x == p) (is_among p xs) among) [
      | inl here ↦ (let same : x ≡ p = eqb-true x p here in omega arith)
      | inr after ↦ leb-true x p (among_pass (λ y. nat_le x y) xs p ((and_parts _ _ rising).0) after)
    ]

-- no sound copy is nearer, where the first place to come isn't
pub none-nearer : (w xs : List ℕ) (size : ℕ) → is_rising xs ≡ true → ((p : ℕ) → IsListed p → IsSound w p → is_among p xs ≡ true)
    → size ≤ get_or xs 0 0 → HasNearerCopy w size → ⊥
none-nearer w xs size rising left far has =
    let least : get_or xs 0 0 ≤ has.nearer = first-least xs has.nearer rising (left has.nearer has.listed has.sound) in
    let below : has.nearer < size = has.below in
    absurd (omega (arith, least, below, far))
