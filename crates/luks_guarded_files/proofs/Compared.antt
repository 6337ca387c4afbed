-- What was compared of a device's beginning, piece by piece.
use Rattle.std.proofs.Common.{◌≡◌, ℕ, ◌+◌, ◌-◌, ◌≤◌, List, ◌++◌, length, take, sym, ap, ◌∙◌, arith}
use Rattle.luks_area.specs.Ranges.{part}
use Rattle.luks_area.proofs.RangeFacts.{part-add, length-part_inside}

-- a beginning that is the volume's, and a piece behind it that is, are a longer one
pub compared_on : (v now b : List ℕ) (done len : ℕ) → now ≡ v → done + len ≤ length b → take done b ≡ part v 0 done
    → part b done (done + len - done) ≡ part now done (length (part b done (done + len - done))) → take (done + len) b ≡ part v 0 (done + len)
compared_on v now b done len held inside before follows =
    let short : done + len - done ≡ len = omega arith in
    let long : length (part b done len) ≡ len = length-part_inside b done len inside in
    let here : part b done len ≡ part v done len =
    ap (part b done) (sym short) ∙ follows
    ∙ ap (λ n. part now done (length (part b done n))) short
    ∙ ap (part now done) long
    ∙ ap (λ u. part u done len) held in
    part-add b 0 done len
    ∙ ap (λ k. part b 0 done ++ part b k len) (omega arith)
    ∙ ap (λ l. l ++ part b done len) before
    ∙ ap (λ l. part v 0 done ++ l) here
    ∙ ap (λ k. part v 0 done ++ part v k len) (omega arith)
    ∙ sym (part-add v 0 done len)
