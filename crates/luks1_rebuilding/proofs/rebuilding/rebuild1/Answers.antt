use Rattle.std.proofs.Common.{◌≡◌, ◌↔◌, ℕ, List, length, ap, sym, subst, ◌∙◌, OnOk, IfErr}
use Rattle.std.proofs.lemmas.Result.{err_from_is_err_and}
use Rattle.luks_area.specs.Ranges.{SameBut}
use Rattle.luks_slot.specs.declared.allowed.Allowed.{Allowed}
use Rattle.luks_reading.specs.Answer.{AnswerWithin, Opened}
use Rattle.luks1_rebuilding.specs.Gives.{Gives}
use Rattle.luks1_rebuilding.specs.Headed.{headed}
use Rattle.luks1_rebuilding.specs.KeyAreas.{header_of, IsKeptInUse}
use Rattle.luks1_rebuilding.specs.Outcome.{IsAnsweredFault, IsAnsweredMaking, IsMakeable, IsMakingFaultIn, IsRebuildable, IsWhole}
use Rattle.luks1_rebuilding.specs.Rebuilt.{ClearsFirst1, IsOfRebuilt, IsRebuilt}
use Rattle.luks1_rebuilding.proofs.FaultFacts.{answered_own, counts_first, err_so, ok_so, other_here, short_answered, unwhole_faultless}
use Rattle.luks1_rebuilding.proofs.HeadedFacts.{headed_own}
use Rattle.luks1_rebuilding.proofs.RebuiltFacts.{moved}
use Rattle.luks1_rebuilding.proofs.rebuilding.rebuild1.Goals as goal

pub returns-in_err-bytes-clause-fault : goal.returns-in_err-bytes-clause-fault
returns-in_err-bytes-clause-fault g c = λ source.
    let v : List ℕ = g.S.Device.bytes c.args.source.now in
    let p = err_from_is_err_and c.from_residual.result c.from_residual.ensures.1 in
    rw (p.1, p.2)
    (short_answered v c.args.given.now (g.T.Device.size c.args.target.now) (g.S.Device.size c.args.source.now) c.in_err-bytes.field-0.0
    (g.met.S.Device.sized c.args.source.now source) c.in_err-bytes.ensures.short)

pub returns-then-is_whole-clause-fault : goal.returns-then-is_whole-clause-fault
returns-then-is_whole-clause-fault g c = λ source.
    let v : List ℕ = g.S.Device.bytes c.args.source.now in
    let given = c.args.given.now in
    let sized : length v ≡ g.S.Device.size c.args.source.now = g.met.S.Device.sized c.args.source.now source in
    let long : c.len.result ≡ length v = c.len.ensures ∙ c.in_ok-bytes.ensures.unchanged.size ∙ sym sized in
    let head : c.as_slice.result.now ≡ header_of v = c.as_slice.ensures ∙ c.in_ok-bytes.ensures.bytes source in
    counts_first (header_of v) (length v) given (g.T.Device.size c.args.target.now)
    (moved (λ i n. IsWhole i n given) c.as_slice.result.now (header_of v) c.len.result (length v) head long (c.is_whole.ensures.0 c.if-is_whole.true))

pub returns-clause-fault : goal.returns-clause-fault
returns-clause-fault g c = λ source.
    let v : List ℕ = g.S.Device.bytes c.args.source.now in
    let given = c.args.given.now in
    let own : headed (g.S.Device.bytes c.first_bytes.new.source) c.in_ok-bytes.bytes ≡ v =
    ap (λ l. headed l c.in_ok-bytes.bytes) (c.in_ok-bytes.ensures.unchanged.same source) ∙ headed_own v c.in_ok-bytes.bytes (c.in_ok-bytes.ensures.bytes source) in
    let sized : length v ≡ g.S.Device.size c.args.source.now = g.met.S.Device.sized c.args.source.now source in
    let long : c.len.result ≡ length v = c.len.ensures ∙ c.in_ok-bytes.ensures.unchanged.size ∙ sym sized in
    let head : c.as_slice.result.now ≡ header_of v = c.as_slice.ensures ∙ c.in_ok-bytes.ensures.bytes source in
    let broken : IsWhole (header_of v) (length v) given → ⊥ =
    (λ whole. (let yes = c.is_whole.ensures.1 (moved (λ i n. IsWhole i n given) (header_of v) c.as_slice.result.now (length v) c.len.result (sym head) (sym long) whole) in let no = c.if-is_whole.false in absurd (cc))) in
    let total = g.T.Device.size c.args.target.now in
    err_so c.rebuild1_from.result (IsAnsweredMaking v given total) (IsAnsweredFault v given total) (answered_own v given total broken)
    (subst (λ (l : List ℕ). IfErr c.rebuild1_from.result (IsAnsweredMaking l given total)) own (c.rebuild1_from.ensures.fault source))

pub returns-clause-faultless : goal.returns-clause-faultless
returns-clause-faultless g c = λ source.
    let v : List ℕ = g.S.Device.bytes c.args.source.now in
    let given = c.args.given.now in
    let own : headed (g.S.Device.bytes c.first_bytes.new.source) c.in_ok-bytes.bytes ≡ v =
    ap (λ l. headed l c.in_ok-bytes.bytes) (c.in_ok-bytes.ensures.unchanged.same source) ∙ headed_own v c.in_ok-bytes.bytes (c.in_ok-bytes.ensures.bytes source) in
    let sized : length v ≡ g.S.Device.size c.args.source.now = g.met.S.Device.sized c.args.source.now source in
    let long : c.len.result ≡ length v = c.len.ensures ∙ c.in_ok-bytes.ensures.unchanged.size ∙ sym sized in
    let head : c.as_slice.result.now ≡ header_of v = c.as_slice.ensures ∙ c.in_ok-bytes.ensures.bytes source in
    let broken : IsWhole (header_of v) (length v) given → ⊥ =
    (λ whole. (let yes = c.is_whole.ensures.1 (moved (λ i n. IsWhole i n given) (header_of v) c.as_slice.result.now (length v) c.len.result (sym head) (sym long) whole) in let no = c.if-is_whole.false in absurd (cc))) in
    let total = g.T.Device.size c.args.target.now in
    ok_so c.rebuild1_from.result (IsMakeable v given total) (IsRebuildable v given total) (unwhole_faultless (header_of v) (length v) given total broken)
    (subst (λ (l : List ℕ). OnOk c.rebuild1_from.result (IsMakeable l given total)) own (c.rebuild1_from.ensures.faultless source))

pub returns-clause-same : goal.returns-clause-same
returns-clause-same g c = λ source tells f bad.
    let v : List ℕ = g.S.Device.bytes c.args.source.now in
    let given = c.args.given.now in
    let own : headed (g.S.Device.bytes c.first_bytes.new.source) c.in_ok-bytes.bytes ≡ v =
    ap (λ l. headed l c.in_ok-bytes.bytes) (c.in_ok-bytes.ensures.unchanged.same source) ∙ headed_own v c.in_ok-bytes.bytes (c.in_ok-bytes.ensures.bytes source) in
    let sized : length v ≡ g.S.Device.size c.args.source.now = g.met.S.Device.sized c.args.source.now source in
    let long : c.len.result ≡ length v = c.len.ensures ∙ c.in_ok-bytes.ensures.unchanged.size ∙ sym sized in
    let head : c.as_slice.result.now ≡ header_of v = c.as_slice.ensures ∙ c.in_ok-bytes.ensures.bytes source in
    let broken : IsWhole (header_of v) (length v) given → ⊥ =
    (λ whole. (let yes = c.is_whole.ensures.1 (moved (λ i n. IsWhole i n given) (header_of v) c.as_slice.result.now (length v) c.len.result (sym head) (sym long) whole) in let no = c.if-is_whole.false in absurd (cc))) in
    let total = g.T.Device.size c.args.target.now in
    c.rebuild1_from.ensures.same source tells f
    (subst (λ (l : List ℕ). IsMakingFaultIn l given total f) (sym own) (other_here (header_of v) (length v) given total broken f bad))

pub returns-clause-rest : goal.returns-clause-rest
returns-clause-rest g c = λ source tells.
    let v : List ℕ = g.S.Device.bytes c.args.source.now in
    let given = c.args.given.now in
    let own : headed (g.S.Device.bytes c.first_bytes.new.source) c.in_ok-bytes.bytes ≡ v =
    ap (λ l. headed l c.in_ok-bytes.bytes) (c.in_ok-bytes.ensures.unchanged.same source) ∙ headed_own v c.in_ok-bytes.bytes (c.in_ok-bytes.ensures.bytes source) in
    let old : List ℕ = g.T.Device.bytes c.args.target.now in
    let w : List ℕ = g.T.Device.bytes c.rebuild1_from.new.target in
    subst (λ (l : List ℕ). SameBut (IsOfRebuilt l given) old w) own (c.rebuild1_from.ensures.rest source tells)

pub returns-clause-order : goal.returns-clause-order
returns-clause-order g c = λ source tells.
    let v : List ℕ = g.S.Device.bytes c.args.source.now in
    let given = c.args.given.now in
    let own : headed (g.S.Device.bytes c.first_bytes.new.source) c.in_ok-bytes.bytes ≡ v =
    ap (λ l. headed l c.in_ok-bytes.bytes) (c.in_ok-bytes.ensures.unchanged.same source) ∙ headed_own v c.in_ok-bytes.bytes (c.in_ok-bytes.ensures.bytes source) in
    let old : List ℕ = g.T.Device.bytes c.args.target.now in
    let w : List ℕ = g.T.Device.bytes c.rebuild1_from.new.target in
    subst (λ (l : List ℕ). ClearsFirst1 l given old w) own (c.rebuild1_from.ensures.order source tells)

pub returns-clause-rebuilt : goal.returns-clause-rebuilt
returns-clause-rebuilt g c = λ source tells.
    let v : List ℕ = g.S.Device.bytes c.args.source.now in
    let given = c.args.given.now in
    let own : headed (g.S.Device.bytes c.first_bytes.new.source) c.in_ok-bytes.bytes ≡ v =
    ap (λ l. headed l c.in_ok-bytes.bytes) (c.in_ok-bytes.ensures.unchanged.same source) ∙ headed_own v c.in_ok-bytes.bytes (c.in_ok-bytes.ensures.bytes source) in
    let old : List ℕ = g.T.Device.bytes c.args.target.now in
    let w : List ℕ = g.T.Device.bytes c.rebuild1_from.new.target in
    subst (λ (l : List ℕ). OnOk c.rebuild1_from.result (IsRebuilt l given old w)) own (c.rebuild1_from.ensures.rebuilt source tells)

pub returns-clause-opens : goal.returns-clause-opens
returns-clause-opens g c = λ source tells.
    let v : List ℕ = g.S.Device.bytes c.args.source.now in
    let given = c.args.given.now in
    let own : headed (g.S.Device.bytes c.first_bytes.new.source) c.in_ok-bytes.bytes ≡ v =
    ap (λ l. headed l c.in_ok-bytes.bytes) (c.in_ok-bytes.ensures.unchanged.same source) ∙ headed_own v c.in_ok-bytes.bytes (c.in_ok-bytes.ensures.bytes source) in
    let w : List ℕ = g.T.Device.bytes c.rebuild1_from.new.target in
    subst (λ (l : List ℕ). OnOk c.rebuild1_from.result ((allowed : Allowed) (n : ℕ) (p : List ℕ) (a : Opened) → IsKeptInUse l given n
    → Gives allowed.older l given n p a ↔ AnswerWithin allowed w n p a)) own (c.rebuild1_from.ensures.opens source tells)
