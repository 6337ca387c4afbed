use Rattle.std.proofs.Common.{rules, ◌≡◌, ℕ, ◌+◌, List, IsTrue, length, arith, sym, subst, ◌∙◌}
use Rattle.std.proofs.lemmas.Bool.{false≢true}
use Rattle.luks_area.specs.Device.{unchanged-then}
use Rattle.luks_area.specs.Ranges.{part}
use Rattle.luks_keeping.proofs.CompareFacts.{front_alike, other_length, piece_alike}
use Rattle.luks_keeping.proofs.comparing_areas.are_alike.Goals as goal

pub returns-then-here-there-clause-told : goal.returns-then-here-there-clause-told
returns-then-here-there-clause-told g c = λ source tells.
    let v : List ℕ = g.B.Device.bytes c.args.backup.now in
    let w : List ℕ = g.T.Device.bytes c.args.target.now in
    let backup : length v ≡ g.B.Device.size c.args.backup.now = g.met.B.Device.sized c.args.backup.now source in
    let size : length w ≡ g.T.Device.size c.args.target.now = g.met.T.Device.sized c.args.target.now tells in
    let here = c.requires.here in
    let there = c.requires.there in (
      λ e. absurd (false≢true e),
      λ alike. absurd (other_length c.args.here c.args.there v w (omega (arith, backup, here)) (omega (arith, size, there)) (λ e. omega (arith, e)) alike),
    )

pub returns-then-not-branch-clause-told : goal.returns-then-not-branch-clause-told
returns-then-not-branch-clause-told g c = λ source tells.
    let v : List ℕ = g.B.Device.bytes c.args.backup.now in
    let w : List ℕ = g.T.Device.bytes c.args.target.now in
    let i : ℕ = c.args.here.start in
    let k : ℕ = c.args.there.start in
    let m : ℕ = c.loop-done.done in
    let n : ℕ = c.min-len.result in
    let same_len : c.args.there.len ≡ c.args.here.len = omega arith in
    let no : IsTrue c.in_ok-is_piece_alike.field-0 → ⊥ = search rules in (
      λ e. absurd (false≢true e),
      λ alike. absurd (no ((c.in_ok-is_piece_alike.ensures.told source tells).1
          (subst (λ (l : List ℕ). part l (i + m) n ≡ part (g.T.Device.bytes c.loop-done.target) (k + m) n) (sym (c.loop-done.invariant.kept.same source))
          (subst (λ (l : List ℕ). part v (i + m) n ≡ part l (k + m) n) (sym (c.loop-done.invariant.unchanged.same tells))
          (piece_alike v w i k c.args.here.len m n (omega arith) (subst (λ (x : ℕ). part v i c.args.here.len ≡ part w k x) same_len alike)))))),
    )

pub loop-done-preserved : goal.loop-done-preserved
loop-done-preserved g c =
    let v : List ℕ = g.B.Device.bytes c.args.backup.now in
    let w : List ℕ = g.T.Device.bytes c.args.target.now in
    let i : ℕ = c.args.here.start in
    let k : ℕ = c.args.there.start in
    let m : ℕ = c.loop-done.done in
    let n : ℕ = c.min-len.result in
    let yes : IsTrue c.in_ok-is_piece_alike.field-0 = search rules in
    record {
      below = omega arith;
      kept = unchanged-then c.loop-done.invariant.kept c.in_ok-is_piece_alike.ensures.kept;
      unchanged = unchanged-then c.loop-done.invariant.unchanged c.in_ok-is_piece_alike.ensures.unchanged;
      backup_count = c.in_ok-is_piece_alike.ensures.count.0 ∙ c.loop-done.invariant.backup_count;
      count = c.in_ok-is_piece_alike.ensures.count.1 ∙ c.loop-done.invariant.count;
      alike = λ source tells.
          front_alike v w i k m n (c.loop-done.invariant.alike source tells)
          (subst (λ (l : List ℕ). part v (i + m) n ≡ part l (k + m) n) (c.loop-done.invariant.unchanged.same tells)
          (subst (λ (l : List ℕ). part l (i + m) n ≡ part (g.T.Device.bytes c.loop-done.target) (k + m) n) (c.loop-done.invariant.kept.same source)
          ((c.in_ok-is_piece_alike.ensures.told source tells).0 yes)));
    }
