use Rattle.std.proofs.Common.{◌≡◌, ℕ, ◌+◌, ◌≤◌, List, [], ◌∷◌, length, take, arith, subst, sym, lit≤}
use Rattle.std.proofs.lemmas.List.{length-take}
use Rattle.std.proofs.lemmas.Bool.{false≢true}
use Rattle.luks_signatures.specs.Signatures.{HasEmptyTable}
use Rattle.luks_signatures.proofs.FrontFacts.{empty-front, stands-inside}
use Rattle.luks_signatures.proofs.standing.has_empty_table.Goals as goal

-- there is no whole sector
pub returns-then-end-clause-has : goal.returns-then-end-clause-has
returns-then-end-clause-has g c = λ t.
    let v : List ℕ = g.D.Device.bytes c.args.device.now in (
      λ e. absurd (false≢true e),
      λ has. let inside : 510 + 2 ≤ length (take c.args.end v) = stands-inside (take c.args.end v) 510 (0x55 ∷ 0xAA ∷ []) (lit≤ tt) has.0 in
          absurd (omega (arith, inside, length-take c.args.end v)),
    )

pub returns-clause-has : goal.returns-clause-has
returns-clause-has g c = λ t.
    let v : List ℕ = g.D.Device.bytes c.args.device.now in
    let front = empty-front v c.args.end c.if-end.false in
    let read = c.in_ok-read_at.ensures.read t in (
      λ e. front.1 (subst HasEmptyTable read (c.is_empty_table.ensures.0 e)),
      λ has. c.is_empty_table.ensures.1 (subst HasEmptyTable (sym read) (front.0 has)),
    )
