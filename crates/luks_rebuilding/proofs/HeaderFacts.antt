-- The fields of a binary header whose magic was mended.
use Rattle.std.proofs.Common.{◌≡◌, ℕ, ◌+◌, ◌-◌, ◌≤◌, ◌==◌, List, ◌++◌, length, take, drop, Bool, if◌then◌else◌, inl, inr, sym, ap, ◌∙◌, arith}
use Rattle.std.proofs.lemmas.Bool.{cases_Bool}
use Rattle.std.proofs.lemmas.List.{drop-drop}
use Rattle.std.proofs.Math.Seq.{drop-append-add}
use Rattle.byteorder.specs.Endian.{big_number}
use Rattle.luks_area.specs.Ranges.{part}
use Rattle.luks1_header.specs.Header1.{luks_magic}
use Rattle.luks2_header.specs.Header2.{header_at, magic_of, second_magic, seqid, HoldsBin2}
use Rattle.luks2_header.specs.declared.bin2.Bin2.{Bin2}
use Rattle.luks_vouching.specs.Vouched.{mended_header}

magic_long : (o : ℕ) → length (magic_of o) ≡ 6
magic_long o = elim (cases_Bool (o == 0)) [
  | inl is ↦ ap (λ (b : Bool). length (if b then luks_magic else second_magic)) is
  | inr other ↦ ap (λ (b : Bool). length (if b then luks_magic else second_magic)) other
]

-- the fields behind the magic are those that are there
pub mended_part : (v : List ℕ) (o i n : ℕ) → 6 ≤ i → part (mended_header v o) i n ≡ part (header_at v o) i n
mended_part v o i n past =
    let h : List ℕ = header_at v o in
    let long : length (magic_of o) ≡ 6 = magic_long o in
    let at : i ≡ length (magic_of o) + (i - 6) = omega (arith, long, past) in
    let back : 6 + (i - 6) ≡ i = omega (arith, past) in
    ap (λ k. take n (drop k (magic_of o ++ drop 6 h))) at
    ∙ ap (take n) (drop-append-add (magic_of o) (drop 6 h) (i - 6))
    ∙ ap (take n) (drop-drop (i - 6) 6 h) ∙ ap (λ k. take n (drop k h)) back

-- the sequence number follows it
pub mended_seqid : (v : List ℕ) (o : ℕ) (h : Bin2) → HoldsBin2 (mended_header v o) h → h.seqid ≡ seqid (header_at v o)
mended_seqid v o h holds = sym holds.seqid ∙ ap (big_number 8) (mended_part v o 16 8 (omega arith))
