use Rattle.std.proofs.Common.{rules, ◌≡◌, ℕ, ◌+◌, ◌-◌, ◌*◌, take, drop, arith, sym, ap, ◌∙◌}
use Rattle.std.proofs.lemmas.List.{take_all}
use Rattle.std.proofs.lemmas.Slice.{overwrites}
use Rattle.luks_older_hashes.specs.Whirlpool.{mix_rows, row_mixed, rows_mixed}
use Rattle.luks_older_hashes.proofs.WhirlpoolStateFacts.{rows_more}
use Rattle.luks_older_hashes.proofs.whirlpool.compression.mix_rows.Goals as goal

pub loop-i-init : goal.loop-i-init
unfolding rows_mixed
loop-i-init c = search rules

pub loop-i-preserved : goal.loop-i-preserved
loop-i-preserved c =
    let width : 8 * c.loop-i.i + 8 - 8 * c.loop-i.i ≡ 8 = omega arith in (
      search (rules, overwrites),
      rows_more c.loop-i.out c.args.state.now _ c.loop-i.i _ c.loop-i.invariant.1 (omega arith)
          (c.copy_from_slice.ensures.after ∙ c.row_mixed.ensures ∙ ap (λ (n : ℕ). row_mixed (take n (drop (8 * c.loop-i.i) c.args.state.now))) width),
    )

pub returns : goal.returns
unfolding mix_rows
returns c =
    let done : c.loop-i.i ≡ 8 = omega (arith, c.loop-i.auto.i-end) in
    sym (take_all 64 c.loop-i.out (omega arith)) ∙ rw done at c.loop-i.invariant.1
