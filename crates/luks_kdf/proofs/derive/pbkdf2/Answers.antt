use Rattle.std.proofs.Common.{◌≡◌, ℕ, ◌≤◌, ◌<◌, ◌+◌, ◌*◌, ◌-◌, length, take, arith, ap, sym, ◌∙◌, inl, inr}
use Rattle.std.proofs.lemmas.Bool.{cases_lt}
use Rattle.std.proofs.lemmas.Grind.{div_ceil_times}
use Rattle.std.proofs.lemmas.List.{take-take}
use Rattle.luks_kdf.specs.Derivation.{derived_block, hmac, pbkdf2, turns_xored}
use Rattle.luks_kdf.specs.Splitter.{block_at}
use Rattle.luks_kdf.proofs.DerivationFacts.{derived_blocks-enough, length-hmac}
use Rattle.luks_kdf.proofs.LaneFacts.{hmac-block_key, length-block_key}
use Rattle.luks_kdf.proofs.RowFacts.{derived_row}
use Rattle.luks_kdf.proofs.derive.pbkdf2.Goals as goal

pub returns : goal.returns
unfolding pbkdf2 derived_block
returns g c =
    let hash = g.H.HashFn.digest in
    let len = g.H.HashFn.LEN in
    let size = g.H.HashFn.BLOCK in
    let digests = g.met.H.HashFn.digest_length in
    let password = c.args.password.now in
    let prf = hmac hash size password in
    let turns = c.args.iterations - 1 in
    let held = c.of_block-keyed.ensures password c.fill_block_key.ensures in
    let whole = length-block_key hash size (λ m. omega (arith, digests m, g.met.H.HashFn.in_block)) password in
    let same : hmac hash size c.fill_block_key.new.block ≡ prf = rw c.fill_block_key.ensures (hmac-block_key hash size password whole) in
    let some = c.run_side_by_side-done.ensures in
    let count = c.div_ceil-count.result in
    let row = c.other_turns.new.blocks in
    let each : (i : ℕ) → i < count → block_at len row i ≡ derived_block prf c.args.salt.now c.args.iterations (i + 1) =
    λ i lt. elim (cases_lt i c.run_side_by_side-done.result) [
      | inl done ↦
          c.other_turns.ensures.before i done ∙ some.turned i done
          ∙ ap (λ p. turns_xored p (block_at len c.first_turns.new.blocks i) turns) same
          ∙ ap (λ b. turns_xored prf b turns) (c.first_turns.ensures password i lt held)
      | inr left ↦
          c.other_turns.ensures.turned password i left lt held
          ∙ ap (λ b. turns_xored prf b turns) (some.kept i left ∙ c.first_turns.ensures password i lt held)
    ] in
    let n = length c.args.out.now in
    let tags = length-hmac hash len size digests password in
    let not_empty = g.met.H.HashFn.not_empty in
    let rounded = (div_ceil_times n len (omega (arith, not_empty))).0 in
    let enough : n ≤ count * len = rw (c.div_ceil-count.ensures, c.LEN.ensures) rounded in
    c.copy_from_slice.ensures.after ∙ sym (take-take n (count * len) row enough)
    ∙ ap (take n) (derived_row prf len c.args.salt.now row c.args.iterations count each)
    ∙ derived_blocks-enough prf len tags not_empty c.args.salt.now c.args.iterations n count enough
