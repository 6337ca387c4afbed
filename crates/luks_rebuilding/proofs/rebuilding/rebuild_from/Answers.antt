use Rattle.std.proofs.Common.{◌≡◌, ℕ, List, option_map, false, subst}
use Rattle.std.proofs.lemmas.Result.{err_from_is_err_and}
use Rattle.luks_area.specs.First.{IsLeast}
use Rattle.luks_rebuilding.specs.Found.{IsNoMeta}
use Rattle.luks_rebuilding.specs.Making.{source_with, IsAnsweredMaking, IsMakingFault}
use Rattle.luks_rebuilding.specs.RebuildFaults.{is_rebuild_failure, rebuild_key}
use Rattle.luks_rebuilding.proofs.FaultFacts.{err_so, making_answered, no_meta_answered}
use Rattle.luks_rebuilding.proofs.rebuilding.rebuild_from.Goals as goal

pub returns-in_err-meta-clause-fault : goal.returns-in_err-meta-clause-fault
returns-in_err-meta-clause-fault g c = λ source.
    let p = err_from_is_err_and c.from_residual.result c.from_residual.ensures.1 in
    rw (p.1, p.2) (no_meta_answered (g.S.Device.bytes c.args.source.now) (source_with c.args.json.items c.args.place) (option_map (λ t. t.now) c.args.uuid) (g.T.Device.size c.args.target.now) c.args.random.now c.in_err-meta.field-0.0
    (subst (λ (j : List ℕ). IsNoMeta j c.in_err-meta.field-0.0) c.deref.ensures.value c.in_err-meta.ensures.refused))

pub returns-clause-fault : goal.returns-clause-fault
returns-clause-fault g c = λ source.
    let v : List ℕ = g.S.Device.bytes c.args.source.now in
    let x = source_with c.args.json.items c.args.place in
    let total = g.T.Device.size c.args.target.now in
    err_so c.make_of.result (λ f. is_rebuild_failure f ≡ false → IsLeast rebuild_key (IsMakingFault v x (option_map (λ t. t.now) c.args.uuid) total c.args.random.now) f)
    (IsAnsweredMaking v x (option_map (λ t. t.now) c.args.uuid) total c.args.random.now) (making_answered v x (option_map (λ t. t.now) c.args.uuid) total c.args.random.now) (c.make_of.ensures.fault source)
