use Rattle.std.proofs.Common.{◌≡◌, ◌+◌, [], ◌∷◌, length, sym, ap, ◌∙◌, arith, length-append}
use Rattle.luks_vouching.specs.Pieces.{byte_piece, bytes_from}
use Rattle.luks_vouching.proofs.PieceFacts.{bytes_few, bytes_no, bytes_none, bytes_yes}
use Rattle.luks_vouching.proofs.pieces.differing_bytes.Goals as goal
use Rattle.luks_vouching.proofs.pieces.differing_bytes.Goals.{then-differ_at, else-differ_at}

pub overflow_add-count : goal.overflow_add-count
overflow_add-count c =
    let few = bytes_few c.args.first.now c.args.second.now c.args.at c.loop-i.i in
    let is = c.loop-i.invariant in
    omega (arith, few, is)

pub loop-i-init : goal.loop-i-init
loop-i-init c = sym (ap length (bytes_none c.args.first.now c.args.second.now c.args.at))

pub loop-i-preserved : goal.loop-i-preserved
loop-i-preserved c =
    let so_far : c.loop-i.count ≡ length (bytes_from c.args.first.now c.args.second.now c.args.at c.loop-i.i) = c.loop-i.invariant in
    elim c.if-differ_at.branch [
      | then-differ_at w ↦
          let more : length (bytes_from c.args.first.now c.args.second.now c.args.at (c.loop-i.i + 1)) ≡ length (bytes_from c.args.first.now c.args.second.now c.args.at c.loop-i.i) + 1 =
          ap length (bytes_yes c.args.first.now c.args.second.now c.args.at c.loop-i.i (sym c.differ_at.ensures ∙ w.if-differ_at.true))
          ∙ length-append (bytes_from c.args.first.now c.args.second.now c.args.at c.loop-i.i) (byte_piece (c.args.at + c.loop-i.i) ∷ []) in
          let is = w.count-is in
          omega (arith, so_far, more, is)
      | else-differ_at w ↦
          w.count-is ∙ so_far ∙ sym (ap length (bytes_no c.args.first.now c.args.second.now c.args.at c.loop-i.i (sym c.differ_at.ensures ∙ w.if-differ_at.false)))
    ]
