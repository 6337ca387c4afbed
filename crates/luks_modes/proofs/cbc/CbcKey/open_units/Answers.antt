use Rattle.std.proofs.Common.{◌∙◌, ◌-◌, ◌+◌, ◌*◌, sym, arith, take, drop}
use Rattle.luks_modes.specs.Cbc.{CbcOpen, CbcSeal}
use Rattle.luks_modes.proofs.SectorFacts.{opened_wrapped, run_begins, run_goes_on, run_undone, sealed_wrapped}
use Rattle.luks_modes.proofs.RunFacts.{run_end}
use Rattle.luks_modes.proofs.cbc.CbcKey.open_units.Goals as goal

pub loop-u-init : goal.loop-u-init
loop-u-init c = run_begins (CbcOpen c.args.self.now) (CbcSeal c.args.self.now) c.args.first c.args.bytes.now

pub loop-u-preserved : goal.loop-u-preserved
loop-u-preserved c =
    let key = c.args.self.now in
    let u = c.loop-u.u in
    let before = take (512 * u + 512 - 512 * u) (drop (512 * u) c.loop-u.bytes) in
    let after = c.open_sector.new.bytes in
    run_goes_on (CbcOpen key) (CbcSeal key) c.args.first c.args.bytes.now c.loop-u.bytes after u (omega arith) (omega arith) c.loop-u.invariant
    (c.open_sector.ensures.value ∙ opened_wrapped key (c.args.first + u) before)
    (sym (sealed_wrapped key (c.args.first + u) after) ∙ c.open_sector.ensures.undone)

pub returns-clause-value : goal.returns-clause-value
returns-clause-value c = run_end (CbcOpen c.args.self.now) c.args.first c.args.bytes.now c.loop-u.bytes c.loop-u.u (omega arith) c.loop-u.invariant.way

pub returns-clause-undone : goal.returns-clause-undone
returns-clause-undone c =
    run_undone (CbcOpen c.args.self.now) (CbcSeal c.args.self.now) c.args.first c.args.bytes.now c.loop-u.bytes c.loop-u.u (omega arith) c.loop-u.auto.bytes c.loop-u.invariant
