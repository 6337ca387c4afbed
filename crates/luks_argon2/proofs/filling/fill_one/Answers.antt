use Rattle.std.proofs.Common.{◌≡◌, ℕ, ◌+◌, ◌-◌, ◌*◌, List, [], get_or, slice_index, arith, sym, ap, ◌∙◌}
use Rattle.luks_argon2.specs.Argon2.{pair}
use Rattle.luks_argon2.specs.Memory.{work_of}
use Rattle.luks_argon2.proofs.SegmentFacts.{pair_made, pair_read}
use Rattle.luks_argon2.proofs.filling.fill_one.Goals as goal
use Rattle.luks_argon2.proofs.filling.fill_one.Goals.{then-is_independent, else-is_independent}

pub returns-clause-made : goal.returns-clause-made
returns-clause-made c = λ lanes own held others pairs.
    let g : ℕ = c.args.shape.segment in
    let n : ℕ = c.args.slice * g + c.args.i in
    let previous : List ℕ = get_or own (n - 1) [] in
    let variant = c.is_independent.ensures in
    let word : c.if-is_independent.word ≡ pair (work_of c.args.shape) c.args.slice c.args.lane c.args.i previous =
    elim c.if-is_independent.branch [
      | then-is_independent w ↦ pair_made (work_of c.args.shape) c.args.slice c.args.lane c.args.i previous c.args.pairs.now _ (sym variant ∙ w.if-is_independent.true) pairs w.word-is
      | else-is_independent w ↦
          let at = ap (λ (k : ℕ). get_or c.args.memory.now k []) c.place_of-previous.ensures.exact ∙ held (n - 1) (omega arith) (omega arith) in
          pair_read (work_of c.args.shape) c.args.slice c.args.lane c.args.i previous _ (sym variant ∙ w.if-is_independent.false) (w.word-is ∙ ap (λ (b : List ℕ). slice_index b 0) at)
    ] in
    c.next_block.ensures.made lanes own held others word
