use Rattle.std.proofs.Common.{◌≡◌, ℕ, ◌+◌, ◌*◌, [], arith, refl, sym, ap, ◌∙◌, ⊎_elim}
use Rattle.std.specs.Prelude.{slice_index_or, slice_set}
use Rattle.std.proofs.lemmas.Bool.{cases_eq}
use Rattle.std.proofs.lemmas.List.{get_or-set_same, get_or-set_other, length-set}
use Rattle.luks_aes.specs.Aes.{round_key}
use Rattle.luks_aes.proofs.RoundFacts.{round_key_is}
use Rattle.luks_aes.specs.Planes.{block_of}
use Rattle.luks_aes.proofs.round_keys.key_planes.Goals as goal

pub loop-i-preserved : goal.loop-i-preserved
loop-i-preserved c =
    let planes = c.loop-i.planes in
    let at = c.loop-i.i in
    let next = c.repeated-next.result in (
      length-set planes at next ∙ c.loop-i.invariant.0,
      λ i b li low.
          ⊎_elim
          (λ (same : i ≡ at).
          ap (λ (j : ℕ). block_of b (slice_index_or (slice_set planes at next) j [])) same
          ∙ ap (block_of b) (get_or-set_same planes at next [] (omega (arith, c.loop-i.invariant.0)))
          ∙ c.repeated-next.ensures b low
          ∙ round_key_is c.args.words.now at (16 * at) (16 * at + 16) refl refl
          ∙ ap (round_key c.args.words.now) (sym same))
          (λ (other : i ≡ at → ⊥).
          ap (block_of b) (get_or-set_other planes at i next [] other)
          ∙ c.loop-i.invariant.1 i b (omega (arith, other)) low)
          (cases_eq i at),
    )
