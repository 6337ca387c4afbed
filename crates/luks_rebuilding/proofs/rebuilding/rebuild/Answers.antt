use Rattle.std.proofs.Common.{◌≡◌, ◌↔◌, ℕ, List, length, option_map, false, IfErr, OnOk, sym, subst}
use Rattle.std.proofs.lemmas.Result.{err_from_is_err_and}
use Rattle.luks_area.specs.First.{IsLeast}
use Rattle.luks_slot.specs.declared.allowed.Allowed.{Allowed}
use Rattle.luks_reading.specs.Answer.{AnswerWithin, Opened}
use Rattle.luks_rebuilding.specs.Found.{source_of, IsWhole}
use Rattle.luks_rebuilding.specs.Gives.{Gives}
use Rattle.luks_rebuilding.specs.Making.{IsMakeable, IsMakingFault, MakesFirstLast}
use Rattle.luks_rebuilding.specs.Outcome.{IsAnsweredFault, IsRebuildable}
use Rattle.luks_rebuilding.specs.RebuildFaults.{is_rebuild_failure, rebuild_key}
use Rattle.luks_rebuilding.specs.Rebuilt.{IsMade, IsRebuilt}
use Rattle.luks_rebuilding.specs.Candidates.{OfTaken, Source}
use Rattle.luks_rebuilding.proofs.FaultFacts.{err_so, not_found_first, ok_so, own_answered, own_fault, own_rebuildable}
use Rattle.luks_rebuilding.proofs.RebuildFacts.{first_written_last, of_rebuilt, taken_so}
use Rattle.luks_rebuilding.proofs.rebuilding.rebuild.Goals as goal

pub returns-in_err-found-clause-fault : goal.returns-in_err-found-clause-fault
returns-in_err-found-clause-fault g c = λ source.
    let p = err_from_is_err_and c.from_residual.result c.from_residual.ensures.1 in
    rw (p.1, p.2) (not_found_first (g.S.Device.bytes c.args.source.now) c.args.which (option_map (λ t. t.now) c.args.uuid) (g.T.Device.size c.args.target.now) c.args.random.now c.in_err-found.field-0.0 (c.in_err-found.ensures.refused source))

pub returns-clause-fault : goal.returns-clause-fault
returns-clause-fault g c = λ source.
    let v : List ℕ = g.S.Device.bytes c.args.source.now in
    let x = c.in_ok-found.found in
    let found = c.in_ok-found.ensures.found source in
    let same : g.S.Device.bytes c.find_candidate.new.source ≡ v = c.in_ok-found.ensures.unchanged.same source in
    let sized : length v ≡ g.S.Device.size c.args.source.now = g.met.S.Device.sized c.args.source.now source in
    let whole : IsWhole (length v) x = subst (λ (n : ℕ). IsWhole n x) (sym sized) c.in_ok-found.ensures.whole in
    let total = g.T.Device.size c.args.target.now in
    err_so c.make_of.result (λ f. is_rebuild_failure f ≡ false → IsLeast rebuild_key (IsMakingFault v (source_of x) (option_map (λ t. t.now) c.args.uuid) total c.args.random.now) f)
    (IsAnsweredFault v c.args.which (option_map (λ t. t.now) c.args.uuid) total c.args.random.now) (own_answered v c.args.which (option_map (λ t. t.now) c.args.uuid) total c.args.random.now x found whole)
    (subst (λ (l : List ℕ). IfErr c.make_of.result (λ f. is_rebuild_failure f ≡ false → IsLeast rebuild_key (IsMakingFault l (source_of x) (option_map (λ t. t.now) c.args.uuid) total c.args.random.now) f)) same (c.make_of.ensures.fault source))

pub returns-clause-faultless : goal.returns-clause-faultless
returns-clause-faultless g c = λ source.
    let v : List ℕ = g.S.Device.bytes c.args.source.now in
    let x = c.in_ok-found.found in
    let found = c.in_ok-found.ensures.found source in
    let same : g.S.Device.bytes c.find_candidate.new.source ≡ v = c.in_ok-found.ensures.unchanged.same source in
    let sized : length v ≡ g.S.Device.size c.args.source.now = g.met.S.Device.sized c.args.source.now source in
    let whole : IsWhole (length v) x = subst (λ (n : ℕ). IsWhole n x) (sym sized) c.in_ok-found.ensures.whole in
    let total = g.T.Device.size c.args.target.now in
    ok_so c.make_of.result (IsMakeable v (source_of x) (option_map (λ t. t.now) c.args.uuid) total c.args.random.now) (IsRebuildable v c.args.which (option_map (λ t. t.now) c.args.uuid) total c.args.random.now)
    (own_rebuildable v c.args.which (option_map (λ t. t.now) c.args.uuid) total c.args.random.now x found whole)
    (subst (λ (l : List ℕ). OnOk c.make_of.result (IsMakeable l (source_of x) (option_map (λ t. t.now) c.args.uuid) total c.args.random.now)) same (c.make_of.ensures.faultless source))

pub returns-clause-same : goal.returns-clause-same
returns-clause-same g c = λ source tells f bad.
    let v : List ℕ = g.S.Device.bytes c.args.source.now in
    let x = c.in_ok-found.found in
    let found = c.in_ok-found.ensures.found source in
    let same : g.S.Device.bytes c.find_candidate.new.source ≡ v = c.in_ok-found.ensures.unchanged.same source in
    let sized : length v ≡ g.S.Device.size c.args.source.now = g.met.S.Device.sized c.args.source.now source in
    let whole : IsWhole (length v) x = subst (λ (n : ℕ). IsWhole n x) (sym sized) c.in_ok-found.ensures.whole in
    let total = g.T.Device.size c.args.target.now in
    c.make_of.ensures.same source tells f
    (subst (λ (l : List ℕ). IsMakingFault l (source_of x) (option_map (λ t. t.now) c.args.uuid) total c.args.random.now f) (sym same) (own_fault v c.args.which (option_map (λ t. t.now) c.args.uuid) total c.args.random.now x found whole f bad))

pub returns-clause-rest : goal.returns-clause-rest
returns-clause-rest g c = λ source tells.
    let v : List ℕ = g.S.Device.bytes c.args.source.now in
    let x = c.in_ok-found.found in
    let found = c.in_ok-found.ensures.found source in
    let same : g.S.Device.bytes c.find_candidate.new.source ≡ v = c.in_ok-found.ensures.unchanged.same source in
    of_rebuilt v c.args.which x found (c.make_of.ensures.rest source tells)

pub returns-clause-order : goal.returns-clause-order
returns-clause-order g c = λ source tells.
    let v : List ℕ = g.S.Device.bytes c.args.source.now in
    let x = c.in_ok-found.found in
    let found = c.in_ok-found.ensures.found source in
    let same : g.S.Device.bytes c.find_candidate.new.source ≡ v = c.in_ok-found.ensures.unchanged.same source in
    let old : List ℕ = g.T.Device.bytes c.args.target.now in
    let w : List ℕ = g.T.Device.bytes c.make_of.new.target in
    first_written_last v c.args.which x found (option_map (λ t. t.now) c.args.uuid) c.args.random.now old w
    (subst (λ (l : List ℕ). MakesFirstLast l (option_map (λ t. t.now) c.args.uuid) c.args.random.now old w (source_of x)) same (c.make_of.ensures.order source tells))

pub returns-clause-rebuilt : goal.returns-clause-rebuilt
returns-clause-rebuilt g c = λ source tells.
    let v : List ℕ = g.S.Device.bytes c.args.source.now in
    let x = c.in_ok-found.found in
    let found = c.in_ok-found.ensures.found source in
    let same : g.S.Device.bytes c.find_candidate.new.source ≡ v = c.in_ok-found.ensures.unchanged.same source in
    let old : List ℕ = g.T.Device.bytes c.args.target.now in
    let w : List ℕ = g.T.Device.bytes c.make_of.new.target in
    ok_so c.make_of.result (IsMade v (option_map (λ t. t.now) c.args.uuid) c.args.random.now old w (source_of x)) (IsRebuilt v c.args.which (option_map (λ t. t.now) c.args.uuid) c.args.random.now old w)
    (taken_so v c.args.which x found (IsMade v (option_map (λ t. t.now) c.args.uuid) c.args.random.now old w))
    (subst (λ (l : List ℕ). OnOk c.make_of.result (IsMade l (option_map (λ t. t.now) c.args.uuid) c.args.random.now old w (source_of x))) same (c.make_of.ensures.rebuilt source tells))

pub returns-clause-opens : goal.returns-clause-opens
returns-clause-opens g c = λ source tells.
    let v : List ℕ = g.S.Device.bytes c.args.source.now in
    let x = c.in_ok-found.found in
    let found = c.in_ok-found.ensures.found source in
    let same : g.S.Device.bytes c.find_candidate.new.source ≡ v = c.in_ok-found.ensures.unchanged.same source in
    let old : List ℕ = g.T.Device.bytes c.args.target.now in
    let w : List ℕ = g.T.Device.bytes c.make_of.new.target in
    let says : Source → Type 0 = λ taken. (allowed : Allowed) (n : ℕ) (p : List ℕ) (a : Opened) → Gives allowed taken.json v n p a ↔ AnswerWithin allowed w n p a in
    ok_so c.make_of.result (says (source_of x)) (OfTaken v c.args.which says) (taken_so v c.args.which x found says)
    (subst (λ (l : List ℕ). OnOk c.make_of.result ((allowed : Allowed) (n : ℕ) (p : List ℕ) (a : Opened) → Gives allowed x.json.items l n p a ↔ AnswerWithin allowed w n p a)) same (c.make_of.ensures.opens source tells))
