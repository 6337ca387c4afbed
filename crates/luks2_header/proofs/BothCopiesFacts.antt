-- What the bytes of a copy that was begun, and its digest, say of it.
use Rattle.std.proofs.Common.{◌≡◌, ℕ, ◌%◌, ◌+◌, ◌≤◌, ◌==◌, List, ◌++◌, Option, None, Some, MatchOption, IfSome, length, take, arith, refl, sym, ap, ◌∙◌, subst}
use Rattle.std.proofs.lemmas.Bool.{eqb-true}
use Rattle.sha2.specs.Sha256.{sha256}
use Rattle.luks_area.specs.Ranges.{part}
use Rattle.luks_lanes.specs.PairHasher.{HoldsPair}
use Rattle.luks_lanes.specs.declared.pair_hasher.PairHasher.{PairHasher}
use Rattle.luks2_header.specs.ChosenCopy.{IsSizeOfFirst}
use Rattle.luks2_header.specs.Header2.{header_at, hdr_size, with_zero_checksum, HoldsBin2, IsFormed}
use Rattle.luks2_header.specs.Sizes.{listed_sizes, IsListed}
use Rattle.luks2_header.specs.SoundCopies.{kept_at, FindsSoundCopy, IsBegun, IsFoundWithin, KeepsJson}
use Rattle.luks2_header.specs.declared.bin2.Bin2.{Bin2}
use Rattle.luks2_header.proofs.ChosenCopyFacts.{place_is}
use Rattle.luks2_header.proofs.CopyFacts.{among_pass, kept_fed, listed_at_least}

-- a listed size is of whole blocks
pub listed_in_blocks : (n : ℕ) → IsListed n → n % 64 ≡ 0
listed_in_blocks n listed = eqb-true (n % 64) 0 (among_pass (λ m. m % 64 == 0) listed_sizes n refl listed)

-- the second copy is as large as the first
pub same_size : (first second : List ℕ) (n m : ℕ) → IsFormed first 0 n → IsFormed second (hdr_size first) m → hdr_size second ≡ hdr_size first
same_size first second n m one two =
    let least : 16384 ≤ hdr_size first = listed_at_least (hdr_size first) one.listed in
    two.second (λ e. absurd (omega (arith, least, e)))

-- the header with these bytes, where the digest is its checksum
abbrev pub HasSum : List ℕ → List ℕ → Option Bin2 → Type 0
HasSum head digest found = MatchOption found (part head 448 32 ≡ digest → ⊥) (λ h. HoldsBin2 head h × (part head 448 32 ≡ digest))

-- a copy of the right form is sound where the digest of its bytes is its checksum
pub found_by : (v : List ℕ) (at : ℕ) (head digest : List ℕ) (found : Option Bin2) → head ≡ header_at v at → IsFormed head at (length v)
    → digest ≡ sha256 (with_zero_checksum (part v at (hdr_size head))) → HasSum head digest found → FindsSoundCopy v at found
found_by v at head digest None head_is form taken unlike = λ sound.
    unlike (ap (λ b. part b 448 32) head_is ∙ sound.checksum
    ∙ ap (λ b. sha256 (with_zero_checksum (part v at (hdr_size b)))) (sym head_is) ∙ sym taken)
found_by v at head digest (Some h) head_is form taken like =
    let F : List ℕ → Type 0 = λ b. IsFormed b at (length v) in
    let H : List ℕ → Type 0 = λ b. HoldsBin2 b h in
    record {
      sound = record {
        form = subst F head_is form;
        checksum = ap (λ b. part b 448 32) (sym head_is) ∙ like.1 ∙ taken
            ∙ ap (λ b. sha256 (with_zero_checksum (part v at (hdr_size b)))) head_is;
      };
      fields = subst H head_is like.0;
    }

-- and lies inside the volume
pub found_within : (total at : ℕ) (head digest : List ℕ) (found : Option Bin2) → IsFormed head at total → HasSum head digest found → IsFoundWithin total found
found_within total at head digest None form unlike = tt
found_within total at head digest (Some h) form like =
    let place : h.hdr_offset ≡ at = sym like.0.hdr_offset ∙ form.offset in
    record {
      listed = subst IsListed like.0.hdr_size form.listed;
      inside = omega (arith, form.inside, place, like.0.hdr_size);
    }

-- what is kept of a copy that was begun
pub kept_by : (v json : List ℕ) (o : ℕ) (found : Option Bin2) → FindsSoundCopy v o found → json ≡ kept_at v o → IfSome found (KeepsJson v json)
kept_by v json o None sound kept = tt
kept_by v json o (Some h) sound kept = kept ∙ ap (kept_at v) (sym (place_is v o h sound))

-- the first copy's size
pub size_of_first : (v head : List ℕ) (found : Option Bin2) → head ≡ header_at v 0 → FindsSoundCopy v 0 found → IsSizeOfFirst found (hdr_size head)
size_of_first v head None head_is sound = tt
size_of_first v head (Some h) head_is sound = sym (ap hdr_size head_is ∙ sound.fields.hdr_size)

-- the beginning of a copy, without its sum
pub begun_fed : (v : List ℕ) (at size : ℕ) (head json : List ℕ) → IsListed size → at + size ≤ length v → IsBegun v at head json
    → with_zero_checksum head ++ json ≡ take 16384 (with_zero_checksum (part v at size))
begun_fed v at size head json listed inside begun =
    ap (λ xs. with_zero_checksum xs ++ json) begun.head
    ∙ ap (λ xs. with_zero_checksum (header_at v at) ++ xs) begun.json
    ∙ kept_fed v at size (listed_at_least size listed) inside

-- a fact, where something is there
pub when_there : {A : Type 0} (found : Option A) (P : Type 0) → P → IfSome found (λ _. P)
when_there None P p = tt
when_there (Some x) P p = p

-- two messages by other names
pub held_as : (s : PairHasher) (a b c d : List ℕ) → a ≡ c → b ≡ d → HoldsPair s a b → HoldsPair s c d
held_as s a b c d first second held =
    let P : List ℕ → Type 0 = λ m. HoldsPair s m b in
    let Q : List ℕ → Type 0 = λ m. HoldsPair s c m in
    subst Q second (subst P first held)
