-- A binary header with the checksum of its copy.
use Rattle.std.proofs.Common.{◌≡◌, ℕ, ◌-◌, ◌++◌, List, length, take, drop, replicate, arith, sym, ap, ◌∙◌, append_assoc, subst}
use Rattle.std.proofs.lemmas.List.{length-drop, take_all}
use Rattle.sha2.specs.Sha256.{sha256}
use Rattle.luks_area.specs.Ranges.{part}
use Rattle.luks_area.proofs.RangeFacts.{part-add, part-whole}
use Rattle.luks2_header.specs.Header2.{with_zero_checksum}
use Rattle.luks2_header.specs.Written.{WritesBin2}
use Rattle.luks2_header.specs.declared.bin2.Bin2.{Bin2}
use Rattle.luks2_header.proofs.BinaryHeaderFacts.{zeroed_same, zeroed_then}
use Rattle.luks_writing.specs.Copy.{IsSummed}

-- where the checksum is zeros, it is taken of the bytes as they are
zeros_stand : (b : List ℕ) (h : Bin2) → WritesBin2 b (record h { csum = replicate 64 0 }) → with_zero_checksum b ≡ b
zeros_stand b h put =
    let long : length b ≡ 4096 = put.long in
    let rest : part b 512 3584 ≡ drop 512 b = take_all 3584 (drop 512 b) (let left : length (drop 512 b) ≡ length b - 512 = length-drop 512 b in omega (arith, left, long)) in
    ap (λ z. (take 448 b ++ z) ++ drop 512 b) (sym put.fields.csum) ∙ ap (λ t. (take 448 b ++ part b 448 64) ++ t) (sym rest)
    ∙ append_assoc (take 448 b) (part b 448 64) (part b 512 3584) ∙ ap (λ t. take 448 b ++ t) (sym (part-add b 448 64 3584))
    ∙ sym (part-add b 0 448 3648) ∙ ap (part b 0) (sym long) ∙ part-whole b

-- the digest of a header whose checksum is zeros, and of the area, is the copy's checksum
pub summed_by : (h s : Bin2) (zeroed json digest : List ℕ) → WritesBin2 zeroed (record h { csum = replicate 64 0 })
    → digest ≡ sha256 (zeroed ++ json) → s ≡ record h { csum = digest ++ replicate 32 0 } → IsSummed h json s
summed_by h s zeroed json digest put taken is = record {
  same = is ∙ ap (λ (c : List ℕ). record h { csum = c }) (sym (ap (λ x. x.csum) is));
  sum = λ b written.
      let fed : with_zero_checksum zeroed ≡ with_zero_checksum b =
      zeroed_same zeroed b (record h { csum = replicate 64 0 }) (digest ++ replicate 32 0) put (subst (λ (x : Bin2). WritesBin2 b x) is written) in
      let all : zeroed ++ json ≡ with_zero_checksum (b ++ json) =
      ap (λ m. m ++ json) (sym (zeros_stand zeroed h put) ∙ fed) ∙ sym (zeroed_then b json written.long) in
      ap (λ x. x.csum) is ∙ ap (λ (d : List ℕ). d ++ replicate 32 0) (taken ∙ ap sha256 all);
}
