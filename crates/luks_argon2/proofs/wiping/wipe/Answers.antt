use Rattle.std.proofs.Common.{◌≡◌, ◌∙◌, ◌++◌, ◌∷◌, [], List, ℕ, ap, sym, arith, length, replicate}
use Rattle.std.proofs.lemmas.List.{length-set, replicate-append-replicate, take_all, take_more_set}
use Rattle.luks_argon2.proofs.wiping.wipe.Goals as goal

pub all-preserved : goal.all-preserved
all-preserved c =
    let zeros : List ℕ = replicate 128 0 in
    let i : ℕ = c.all.i in (
      length-set c.all.memory i zeros ∙ c.all.invariant.0,
      take_more_set c.all.memory i zeros (omega arith)
          ∙ ap (λ (xs : List (List ℕ)). xs ++ zeros ∷ []) c.all.invariant.1
          ∙ replicate-append-replicate i 1 zeros,
    )

pub returns : goal.returns
returns c =
    let all : length c.args.memory.now ≡ c.all.i = omega arith in
    sym (take_all (length c.args.memory.now) c.all.memory (omega (arith, all, c.all.invariant.0))) ∙ rw (← all) at c.all.invariant.1
