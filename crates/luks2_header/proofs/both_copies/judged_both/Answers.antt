use Rattle.std.proofs.Common.{ℕ, ◌+◌, ◌≤◌, List, length, arith, sym, ap, ◌∙◌, subst}
use Rattle.sha2.specs.Sha256.{sha256}
use Rattle.luks_area.specs.Ranges.{part}
use Rattle.luks2_header.specs.Header2.{IsFormed, hdr_size, with_zero_checksum}
use Rattle.luks2_header.specs.Sizes.{IsListed}
use Rattle.luks2_header.specs.SoundCopies.{IsBegun}
use Rattle.luks2_header.proofs.BothCopiesFacts.{begun_fed, found_by, found_within, held_as, same_size}
use Rattle.luks2_header.proofs.both_copies.judged_both.Goals as goal

pub digests_from-requires-clause-listed : goal.digests_from-requires-clause-listed
digests_from-requires-clause-listed g c = subst IsListed (sym c.u64_at-size.ensures) c.requires.first_formed.listed

pub digests_from-requires-clause-within : goal.digests_from-requires-clause-within
digests_from-requires-clause-within g c =
    omega (arith, c.u64_at-size.ensures, c.requires.second_formed.inside, same_size _ _ _ _ c.requires.first_formed c.requires.second_formed)

pub digests_from-requires-clause-fits : goal.digests_from-requires-clause-fits
digests_from-requires-clause-fits g c =
    omega (arith, c.u64_at-size.ensures, c.requires.second_formed.inside, same_size _ _ _ _ c.requires.first_formed c.requires.second_formed, g.met.D.Device.bounded c.args.device.now)

pub digests_from-requires-clause-fed : goal.digests_from-requires-clause-fed
digests_from-requires-clause-fed g c = λ t.
    let v : List ℕ = g.D.Device.bytes c.args.device.now in
    let size = c.u64_at-size.result in
    let listed : IsListed size = subst IsListed (sym c.u64_at-size.ensures) c.requires.first_formed.listed in
    let inside : size + size ≤ length v =
    omega (arith, c.u64_at-size.ensures, c.requires.second_formed.inside, same_size _ _ _ _ c.requires.first_formed c.requires.second_formed, g.met.D.Device.sized c.args.device.now t) in
    let B : ℕ → Type 0 = λ n. IsBegun v n c.args.second.now c.args.second_json.now in
    let begun = subst B (sym c.u64_at-size.ensures) (c.requires.second_begun t) in
    held_as _ _ _ _ _ (begun_fed v 0 size c.args.first.now c.args.first_json.now listed (omega (arith, inside)) (c.requires.first_begun t))
    (begun_fed v size size c.args.second.now c.args.second_json.now listed inside begun) c.hasher_of_both-hasher.ensures

pub returns-clause-within : goal.returns-clause-within
returns-clause-within g c = (
  found_within _ 0 c.args.first.now _ _ c.requires.first_formed c.with_sum.ensures,
  found_within _ (hdr_size c.args.first.now) c.args.second.now _ _ c.requires.second_formed c.with_sum-2.ensures,
)

pub returns-clause-first : goal.returns-clause-first
returns-clause-first g c = λ t.
    let v : List ℕ = g.D.Device.bytes c.args.device.now in
    let N : ℕ → Type 0 = λ n. IsFormed c.args.first.now 0 n in
    found_by v 0 c.args.first.now _ _ (c.requires.first_begun t).head
    (subst N (sym (g.met.D.Device.sized c.args.device.now t)) c.requires.first_formed)
    (c.in_ok-digests.ensures.first t ∙ ap (λ n. sha256 (with_zero_checksum (part v 0 n))) c.u64_at-size.ensures) c.with_sum.ensures

pub returns-clause-second : goal.returns-clause-second
returns-clause-second g c = λ t.
    let v : List ℕ = g.D.Device.bytes c.args.device.now in
    let at = hdr_size c.args.first.now in
    let N : ℕ → Type 0 = λ n. IsFormed c.args.second.now at n in
    found_by v at c.args.second.now _ _ (c.requires.second_begun t).head
    (subst N (sym (g.met.D.Device.sized c.args.device.now t)) c.requires.second_formed)
    (c.in_ok-digests.ensures.second t ∙ ap (λ n. sha256 (with_zero_checksum (part v n n))) c.u64_at-size.ensures
    ∙ ap (λ n. sha256 (with_zero_checksum (part v at n))) (sym (same_size _ _ _ _ c.requires.first_formed c.requires.second_formed))) c.with_sum-2.ensures
