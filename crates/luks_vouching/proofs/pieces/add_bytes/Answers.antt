use Rattle.std.proofs.Common.{◌++◌, sym, ap, ◌∙◌, length, arith}
use Rattle.std.proofs.lemmas.Bool.{eqb-true}
use Rattle.std.proofs.lemmas.List.{append-nil}
use Rattle.luks_vouching.proofs.PieceFacts.{bytes_no, bytes_none, no_room, one_added}
use Rattle.luks_vouching.proofs.pieces.add_bytes.Goals as goal
use Rattle.luks_vouching.proofs.pieces.add_bytes.Goals.{then-differ_at+else-is_full, else-differ_at}

pub returns-then-is_full-clause-full : goal.returns-then-is_full-clause-full
returns-then-is_full-clause-full c = λ is.
    no_room c.args.first.now c.args.second.now c.args.found.now.items c.loop-i.found.items c.args.at c.loop-i.i (omega arith)
    (sym c.differ_at.ensures ∙ c.if-differ_at.true) c.loop-i.invariant
    (eqb-true (length c.loop-i.found.items) 32 (sym c.is_full.ensures.value ∙ c.if-is_full.true))

pub loop-i-init : goal.loop-i-init
loop-i-init c = sym (ap (λ l. c.args.found.now.items ++ l) (bytes_none c.args.first.now c.args.second.now c.args.at) ∙ append-nil c.args.found.now.items)

pub loop-i-preserved : goal.loop-i-preserved
loop-i-preserved c = elim c.if-differ_at.branch [
  | then-differ_at+else-is_full w ↦
      ap (λ v. v.items) w.found-is
      ∙ one_added c.args.first.now c.args.second.now c.args.found.now.items c.loop-i.found.items w.push.new.self.items c.args.at c.loop-i.i
      (sym c.differ_at.ensures ∙ w.if-differ_at.true) c.loop-i.invariant w.push.ensures.items
  | else-differ_at w ↦
      ap (λ v. v.items) w.found-is ∙ c.loop-i.invariant
      ∙ ap (λ l. c.args.found.now.items ++ l) (sym (bytes_no c.args.first.now c.args.second.now c.args.at c.loop-i.i (sym c.differ_at.ensures ∙ w.if-differ_at.false)))
]
