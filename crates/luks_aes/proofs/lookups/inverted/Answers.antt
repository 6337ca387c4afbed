use Rattle.std.proofs.Common.{◌≡◌, ◌/◌, ◌%◌, ◌∙◌, ap, ap₂, slice_index}
use Rattle.std.specs.Int.Bits.{bit_xor}
use Rattle.luks_aes.specs.declared.lookups.TheConstants.{RECIPROCALS, QUOTIENTS}
use Rattle.luks_aes.proofs.NibbleFacts.{both, sum_by, place_by, both_place, upper_sum_place, lower_sum_place, upper_place, lower_place, upper_is, lower_is, joined_is}
use Rattle.luks_aes.proofs.lookups.inverted.Goals as goal

pub at-of_j-requires : goal.at-of_j-requires
at-of_j-requires c = λ k h.
    let x = slice_index c.args.x k in
    let ej : slice_index c.sum-j.result k ≡ both x = c.sum-j.ensures.bytes k h ∙ ap₂ bit_xor (c.high-i.ensures.bytes k h) (c.low-k.ensures.bytes k h) in
    rw ej (both_place x (c.low-k.ensures.given.bytes k h))

pub at-of_a-requires : goal.at-of_a-requires
at-of_a-requires c = λ k h.
    let x = slice_index c.args.x k in
    let ea : slice_index c.sum-a.result k ≡ sum_by (x / 16) (x % 16) = c.sum-a.ensures.bytes k h ∙ ap₂ bit_xor (c.at-of_i.ensures k h ∙ ap (slice_index RECIPROCALS) (c.high-i.ensures.bytes k h)) (c.at-quotient.ensures k h ∙ ap (slice_index QUOTIENTS) (c.low-k.ensures.bytes k h)) in
    rw ea (upper_sum_place x (c.low-k.ensures.given.bytes k h))

pub at-of_b-requires : goal.at-of_b-requires
at-of_b-requires c = λ k h.
    let x = slice_index c.args.x k in
    let ej : slice_index c.sum-j.result k ≡ both x = c.sum-j.ensures.bytes k h ∙ ap₂ bit_xor (c.high-i.ensures.bytes k h) (c.low-k.ensures.bytes k h) in
    let eb : slice_index c.sum-b.result k ≡ sum_by (both x) (x % 16) = c.sum-b.ensures.bytes k h ∙ ap₂ bit_xor (c.at-of_j.ensures k h ∙ ap (slice_index RECIPROCALS) ej) (c.at-quotient.ensures k h ∙ ap (slice_index QUOTIENTS) (c.low-k.ensures.bytes k h)) in
    rw eb (lower_sum_place x (c.low-k.ensures.given.bytes k h))

pub at-from_first-requires : goal.at-from_first-requires
at-from_first-requires c = λ k h.
    let x = slice_index c.args.x k in
    let ej : slice_index c.sum-j.result k ≡ both x = c.sum-j.ensures.bytes k h ∙ ap₂ bit_xor (c.high-i.ensures.bytes k h) (c.low-k.ensures.bytes k h) in
    let ea : slice_index c.sum-a.result k ≡ sum_by (x / 16) (x % 16) = c.sum-a.ensures.bytes k h ∙ ap₂ bit_xor (c.at-of_i.ensures k h ∙ ap (slice_index RECIPROCALS) (c.high-i.ensures.bytes k h)) (c.at-quotient.ensures k h ∙ ap (slice_index QUOTIENTS) (c.low-k.ensures.bytes k h)) in
    let eu : slice_index c.sum-upper.result k ≡ place_by (x / 16) (both x) (x % 16) = c.sum-upper.ensures.bytes k h ∙ ap₂ bit_xor (c.at-of_a.ensures k h ∙ ap (slice_index RECIPROCALS) ea) ej in
    rw eu (upper_place x (c.low-k.ensures.given.bytes k h))

pub at-from_second-requires : goal.at-from_second-requires
at-from_second-requires c = λ k h.
    let x = slice_index c.args.x k in
    let ej : slice_index c.sum-j.result k ≡ both x = c.sum-j.ensures.bytes k h ∙ ap₂ bit_xor (c.high-i.ensures.bytes k h) (c.low-k.ensures.bytes k h) in
    let eb : slice_index c.sum-b.result k ≡ sum_by (both x) (x % 16) = c.sum-b.ensures.bytes k h ∙ ap₂ bit_xor (c.at-of_j.ensures k h ∙ ap (slice_index RECIPROCALS) ej) (c.at-quotient.ensures k h ∙ ap (slice_index QUOTIENTS) (c.low-k.ensures.bytes k h)) in
    let el : slice_index c.sum-lower.result k ≡ place_by (both x) (x / 16) (x % 16) = c.sum-lower.ensures.bytes k h ∙ ap₂ bit_xor (c.at-of_b.ensures k h ∙ ap (slice_index RECIPROCALS) eb) (c.high-i.ensures.bytes k h) in
    rw el (lower_place x (c.low-k.ensures.given.bytes k h))

pub returns-clause-bytes : goal.returns-clause-bytes
returns-clause-bytes c = λ k h.
    let x = slice_index c.args.x k in
    let ej : slice_index c.sum-j.result k ≡ both x = c.sum-j.ensures.bytes k h ∙ ap₂ bit_xor (c.high-i.ensures.bytes k h) (c.low-k.ensures.bytes k h) in
    let ea : slice_index c.sum-a.result k ≡ sum_by (x / 16) (x % 16) = c.sum-a.ensures.bytes k h ∙ ap₂ bit_xor (c.at-of_i.ensures k h ∙ ap (slice_index RECIPROCALS) (c.high-i.ensures.bytes k h)) (c.at-quotient.ensures k h ∙ ap (slice_index QUOTIENTS) (c.low-k.ensures.bytes k h)) in
    let eb : slice_index c.sum-b.result k ≡ sum_by (both x) (x % 16) = c.sum-b.ensures.bytes k h ∙ ap₂ bit_xor (c.at-of_j.ensures k h ∙ ap (slice_index RECIPROCALS) ej) (c.at-quotient.ensures k h ∙ ap (slice_index QUOTIENTS) (c.low-k.ensures.bytes k h)) in
    let eu : slice_index c.sum-upper.result k ≡ place_by (x / 16) (both x) (x % 16) = c.sum-upper.ensures.bytes k h ∙ ap₂ bit_xor (c.at-of_a.ensures k h ∙ ap (slice_index RECIPROCALS) ea) ej in
    let el : slice_index c.sum-lower.result k ≡ place_by (both x) (x / 16) (x % 16) = c.sum-lower.ensures.bytes k h ∙ ap₂ bit_xor (c.at-of_b.ensures k h ∙ ap (slice_index RECIPROCALS) eb) (c.high-i.ensures.bytes k h) in
    let small = c.low-k.ensures.given.bytes k h in
    c.sum.ensures.bytes k h
    ∙ ap₂ bit_xor (c.at-from_first.ensures k h) (c.at-from_second.ensures k h)
    ∙ joined_is c.args.first c.args.second x _ _ (eu ∙ upper_is x small) (el ∙ lower_is x small)
