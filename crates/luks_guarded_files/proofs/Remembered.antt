-- What is remembered after more was read.
use Rattle.std.proofs.Common.{◌≡◌, ℕ, ◌+◌, ◌≤◌, List, ◌++◌, length, length-append, length-take-le, take, drop, sym, ap, ◌∙◌, subst, arith}
use Rattle.std.proofs.lemmas.List.{take-take}
use Rattle.std.proofs.Math.Seq.{take-append_seam}
use Rattle.luks_area.specs.Ranges.{part, written}
use Rattle.luks_area.proofs.RangeFacts.{part-add}

-- bytes that follow those that are remembered are remembered with them
remembered_with : (v held piece : List ℕ) (count : ℕ) → count ≤ length held → take count held ≡ part v 0 count → piece ≡ part v count (length piece)
    → take (count + length piece) (written held count piece) ≡ part v 0 (count + length piece)
remembered_with v held piece count room before follows =
    let front : List ℕ = take count held ++ piece in
    let long : length front ≡ count + length piece =
    length-append (take count held) piece ∙ ap (λ n. n + length piece) (length-take-le count held room) in
    ap (λ n. take n (written held count piece)) (sym long)
    ∙ take-append_seam front (drop (count + length piece) held)
    ∙ ap (λ l. l ++ piece) before
    ∙ ap (λ l. part v 0 count ++ l) follows
    ∙ ap (λ k. part v 0 count ++ part v k (length piece)) (omega arith)
    ∙ sym (part-add v 0 count (length piece))

-- of bytes that follow those that are remembered, the front is remembered with them
pub front_remembered : (v held read : List ℕ) (count len : ℕ) → count ≤ length held → len ≤ length read → take count held ≡ part v 0 count
    → read ≡ part v count (length read) → take (count + len) (written held count (take len read)) ≡ part v 0 (count + len)
front_remembered v held read count len room short before follows =
    let own : length (take len read) ≡ len = length-take-le len read short in
    let front : take len read ≡ part v count (length (take len read)) =
    ap (take len) follows ∙ take-take len (length read) (drop count v) short ∙ ap (part v count) (sym own) in
    subst (λ n. take (count + n) (written held count (take len read)) ≡ part v 0 (count + n)) own
    (remembered_with v held (take len read) count room before front)
