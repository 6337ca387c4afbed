use Rattle.std.proofs.Common.{◌≡◌, ℕ, ◌+◌, ◌≤◌, List, length, option_map, sym, subst, ◌∙◌}
use Rattle.std.proofs.lemmas.Result.{err_from_is_err_and}
use Rattle.luks_area.specs.Area.{Fit}
use Rattle.luks_area.specs.First.{IsLeast}
use Rattle.luks_meta.specs.Content.{content}
use Rattle.luks_reading.specs.Layout2.{Luks2Area}
use Rattle.luks_reading.specs.declared.report.Data.TheVariants.{Elsewhere}
use Rattle.luks_rebuilding.specs.Found.{source_of, HasRegionInside, HasSlotsInside, IsOwnField, IsWhole, IsWholeWritten, WritesWholeLast}
use Rattle.luks_rebuilding.specs.Making.{IsMakeable, IsMakingFault}
use Rattle.luks_rebuilding.specs.RebuildFaults.{rebuild_key}
use Rattle.luks_rebuilding.proofs.GivesFacts.{gives_here, gives_there, well_formed}
use Rattle.luks_rebuilding.proofs.RebuildFacts.{both_inside, is_made, of_header, order_kept, slots_apart, slots_there}
use Rattle.luks_rebuilding.proofs.rebuilding.make_of.Goals as goal

pub returns-in_err-judge-clause-fault : goal.returns-in_err-judge-clause-fault
returns-in_err-judge-clause-fault g c = λ source.
    let v : List ℕ = g.S.Device.bytes c.args.source.now in
    let x = c.args.found.now in
    let sized : length v ≡ g.S.Device.size c.args.source.now = g.met.S.Device.sized c.args.source.now source in
    let long : length v ≡ c.len.result = sized ∙ sym c.len.ensures in
    let p = err_from_is_err_and c.from_residual.result c.from_residual.ensures.1 in
    rw (p.1, p.2) (λ own. subst (λ (t : ℕ). IsLeast rebuild_key (IsMakingFault v (source_of x) (option_map (λ t. t.now) c.args.uuid) t c.args.random.now) c.in_err-judge.field-0.0) c.len-2.ensures (c.in_err-judge.ensures.fault v long))

pub own_field-requires-clause-other : goal.own_field-requires-clause-other
own_field-requires-clause-other g c =
    subst (λ (n : ℕ). c.args.found.now.place.size + c.args.found.now.place.size ≤ n) c.len.ensures (both_inside c.args.found.now c.len.result c.len-2.result (option_map (λ t. t.now) c.args.uuid) c.args.random.now c.in_ok-judge.ensures.ready)

pub write_rebuilt-requires-clause-apart : goal.write_rebuilt-requires-clause-apart
write_rebuilt-requires-clause-apart g c = slots_apart c.args.found.now c.len.result c.len-2.result (option_map (λ t. t.now) c.args.uuid) c.args.random.now c.in_ok-judge.ensures.ready

pub write_rebuilt-requires-clause-there : goal.write_rebuilt-requires-clause-there
write_rebuilt-requires-clause-there g c =
    subst (HasSlotsInside (content c.args.found.now.meta)) (c.len.ensures ∙ sym c.in_ok-field.ensures.unchanged.size) (slots_there c.args.found.now c.len.result c.len-2.result (option_map (λ t. t.now) c.args.uuid) c.args.random.now c.in_ok-judge.ensures.ready)

pub returns-in_err-write_rebuilt-clause-same : goal.returns-in_err-write_rebuilt-clause-same
returns-in_err-write_rebuilt-clause-same g c = λ source tells f bad.
    let v : List ℕ = g.S.Device.bytes c.args.source.now in
    let x = c.args.found.now in
    let sized : length v ≡ g.S.Device.size c.args.source.now = g.met.S.Device.sized c.args.source.now source in
    let long : length v ≡ c.len.result = sized ∙ sym c.len.ensures in
    let able : IsMakeable v (source_of x) (option_map (λ t. t.now) c.args.uuid) (g.T.Device.size c.args.target.now) c.args.random.now =
    subst (λ (t : ℕ). IsMakeable v (source_of x) (option_map (λ t. t.now) c.args.uuid) t c.args.random.now) c.len-2.ensures (c.in_ok-judge.ensures.faultless v long) in
    absurd (able.none f bad)

pub returns-clause-same : goal.returns-clause-same
returns-clause-same g c = λ source tells f bad.
    let v : List ℕ = g.S.Device.bytes c.args.source.now in
    let x = c.args.found.now in
    let sized : length v ≡ g.S.Device.size c.args.source.now = g.met.S.Device.sized c.args.source.now source in
    let long : length v ≡ c.len.result = sized ∙ sym c.len.ensures in
    let able : IsMakeable v (source_of x) (option_map (λ t. t.now) c.args.uuid) (g.T.Device.size c.args.target.now) c.args.random.now =
    subst (λ (t : ℕ). IsMakeable v (source_of x) (option_map (λ t. t.now) c.args.uuid) t c.args.random.now) c.len-2.ensures (c.in_ok-judge.ensures.faultless v long) in
    absurd (able.none f bad)

pub returns-clause-faultless : goal.returns-clause-faultless
returns-clause-faultless g c = λ source.
    let v : List ℕ = g.S.Device.bytes c.args.source.now in
    let x = c.args.found.now in
    let sized : length v ≡ g.S.Device.size c.args.source.now = g.met.S.Device.sized c.args.source.now source in
    let long : length v ≡ c.len.result = sized ∙ sym c.len.ensures in
    let able : IsMakeable v (source_of x) (option_map (λ t. t.now) c.args.uuid) (g.T.Device.size c.args.target.now) c.args.random.now =
    subst (λ (t : ℕ). IsMakeable v (source_of x) (option_map (λ t. t.now) c.args.uuid) t c.args.random.now) c.len-2.ensures (c.in_ok-judge.ensures.faultless v long) in
    able

pub returns-in_err-write_rebuilt-clause-rest : goal.returns-in_err-write_rebuilt-clause-rest
returns-in_err-write_rebuilt-clause-rest g c = λ source tells.
    let v : List ℕ = g.S.Device.bytes c.args.source.now in
    let x = c.args.found.now in
    let sized : length v ≡ g.S.Device.size c.args.source.now = g.met.S.Device.sized c.args.source.now source in
    let whole : IsWhole (length v) x = subst (λ (n : ℕ). IsWhole n x) (sym sized) c.requires.whole in
    of_header v x whole (c.write_rebuilt.ensures.rest tells)

pub returns-clause-rest : goal.returns-clause-rest
returns-clause-rest g c = λ source tells.
    let v : List ℕ = g.S.Device.bytes c.args.source.now in
    let x = c.args.found.now in
    let sized : length v ≡ g.S.Device.size c.args.source.now = g.met.S.Device.sized c.args.source.now source in
    let whole : IsWhole (length v) x = subst (λ (n : ℕ). IsWhole n x) (sym sized) c.requires.whole in
    of_header v x whole (c.write_rebuilt.ensures.rest tells)

pub returns-in_err-write_rebuilt-clause-order : goal.returns-in_err-write_rebuilt-clause-order
returns-in_err-write_rebuilt-clause-order g c = λ source tells.
    let v : List ℕ = g.S.Device.bytes c.args.source.now in
    let x = c.args.found.now in
    let sized : length v ≡ g.S.Device.size c.args.source.now = g.met.S.Device.sized c.args.source.now source in
    let whole : IsWhole (length v) x = subst (λ (n : ℕ). IsWhole n x) (sym sized) c.requires.whole in
    let old : List ℕ = g.T.Device.bytes c.args.target.now in
    let w : List ℕ = g.T.Device.bytes c.write_rebuilt.new.target in
    let own : IsOwnField v x.place.size x.place.at (option_map (λ t. t.now) c.args.uuid) c.args.random.now c.in_ok-field.field = c.in_ok-field.ensures.own source in
    let same : g.S.Device.bytes c.own_field.new.source ≡ v = c.in_ok-field.ensures.unchanged.same source in
    order_kept v x whole (option_map (λ t. t.now) c.args.uuid) c.args.random.now own.uuid old w own.own
    (subst (λ (l : List ℕ). WritesWholeLast x l own.uuid c.args.random.now old w) same (c.write_rebuilt.ensures.order source tells own.uuid own.fills))

pub returns-clause-order : goal.returns-clause-order
returns-clause-order g c = λ source tells.
    let v : List ℕ = g.S.Device.bytes c.args.source.now in
    let x = c.args.found.now in
    let sized : length v ≡ g.S.Device.size c.args.source.now = g.met.S.Device.sized c.args.source.now source in
    let whole : IsWhole (length v) x = subst (λ (n : ℕ). IsWhole n x) (sym sized) c.requires.whole in
    let old : List ℕ = g.T.Device.bytes c.args.target.now in
    let w : List ℕ = g.T.Device.bytes c.write_rebuilt.new.target in
    let own : IsOwnField v x.place.size x.place.at (option_map (λ t. t.now) c.args.uuid) c.args.random.now c.in_ok-field.field = c.in_ok-field.ensures.own source in
    let same : g.S.Device.bytes c.own_field.new.source ≡ v = c.in_ok-field.ensures.unchanged.same source in
    order_kept v x whole (option_map (λ t. t.now) c.args.uuid) c.args.random.now own.uuid old w own.own
    (subst (λ (l : List ℕ). WritesWholeLast x l own.uuid c.args.random.now old w) same (c.write_rebuilt.ensures.order source tells own.uuid own.fills))

pub returns-clause-rebuilt : goal.returns-clause-rebuilt
returns-clause-rebuilt g c = λ source tells.
    let v : List ℕ = g.S.Device.bytes c.args.source.now in
    let x = c.args.found.now in
    let sized : length v ≡ g.S.Device.size c.args.source.now = g.met.S.Device.sized c.args.source.now source in
    let whole : IsWhole (length v) x = subst (λ (n : ℕ). IsWhole n x) (sym sized) c.requires.whole in
    let old : List ℕ = g.T.Device.bytes c.args.target.now in
    let w : List ℕ = g.T.Device.bytes c.write_rebuilt.new.target in
    let own : IsOwnField v x.place.size x.place.at (option_map (λ t. t.now) c.args.uuid) c.args.random.now c.in_ok-field.field = c.in_ok-field.ensures.own source in
    let same : g.S.Device.bytes c.own_field.new.source ≡ v = c.in_ok-field.ensures.unchanged.same source in
    let written : IsWholeWritten x v own.uuid c.args.random.now w =
    subst (λ (l : List ℕ). IsWholeWritten x l own.uuid c.args.random.now w) same (c.in_ok-write_rebuilt.ensures.written source tells own.uuid own.fills) in
    let made = is_made v x whole (option_map (λ t. t.now) c.args.uuid) c.args.random.now own.uuid old w own.own written (c.write_rebuilt.ensures.rest tells) in
    made

pub returns-clause-well_formed : goal.returns-clause-well_formed
returns-clause-well_formed g c = λ source tells.
    let v : List ℕ = g.S.Device.bytes c.args.source.now in
    let x = c.args.found.now in
    let sized : length v ≡ g.S.Device.size c.args.source.now = g.met.S.Device.sized c.args.source.now source in
    let whole : IsWhole (length v) x = subst (λ (n : ℕ). IsWhole n x) (sym sized) c.requires.whole in
    let long : length v ≡ c.len.result = sized ∙ sym c.len.ensures in
    let old : List ℕ = g.T.Device.bytes c.args.target.now in
    let w : List ℕ = g.T.Device.bytes c.write_rebuilt.new.target in
    let own : IsOwnField v x.place.size x.place.at (option_map (λ t. t.now) c.args.uuid) c.args.random.now c.in_ok-field.field = c.in_ok-field.ensures.own source in
    let same : g.S.Device.bytes c.own_field.new.source ≡ v = c.in_ok-field.ensures.unchanged.same source in
    let written : IsWholeWritten x v own.uuid c.args.random.now w =
    subst (λ (l : List ℕ). IsWholeWritten x l own.uuid c.args.random.now w) same (c.in_ok-write_rebuilt.ensures.written source tells own.uuid own.fills) in
    let made = is_made v x whole (option_map (λ t. t.now) c.args.uuid) c.args.random.now own.uuid old w own.own written (c.write_rebuilt.ensures.rest tells) in
    let ready = c.in_ok-judge.ensures.ready in
    let fit = subst (λ (n : ℕ). Fit (Luks2Area (content x.meta) x.place.size Elsewhere n) n) (sym long) ready.fit in
    let end_ : c.len-2.result ≡ length w = c.len-2.ensures ∙ sym c.write_rebuilt.ensures.size ∙ sym (g.met.T.Device.sized c.write_rebuilt.new.target tells) in
    let region = subst (HasRegionInside (content x.meta) x.place.size) end_ ready.region in
    well_formed v c.args.random.now old w (option_map (λ t. t.now) c.args.uuid) (source_of x) (content x.meta) whole.meta made ready.uuid fit region

pub returns-clause-opens : goal.returns-clause-opens
returns-clause-opens g c = λ source tells.
    let v : List ℕ = g.S.Device.bytes c.args.source.now in
    let x = c.args.found.now in
    let sized : length v ≡ g.S.Device.size c.args.source.now = g.met.S.Device.sized c.args.source.now source in
    let whole : IsWhole (length v) x = subst (λ (n : ℕ). IsWhole n x) (sym sized) c.requires.whole in
    let long : length v ≡ c.len.result = sized ∙ sym c.len.ensures in
    let old : List ℕ = g.T.Device.bytes c.args.target.now in
    let w : List ℕ = g.T.Device.bytes c.write_rebuilt.new.target in
    let own : IsOwnField v x.place.size x.place.at (option_map (λ t. t.now) c.args.uuid) c.args.random.now c.in_ok-field.field = c.in_ok-field.ensures.own source in
    let same : g.S.Device.bytes c.own_field.new.source ≡ v = c.in_ok-field.ensures.unchanged.same source in
    let written : IsWholeWritten x v own.uuid c.args.random.now w =
    subst (λ (l : List ℕ). IsWholeWritten x l own.uuid c.args.random.now w) same (c.in_ok-write_rebuilt.ensures.written source tells own.uuid own.fills) in
    let made = is_made v x whole (option_map (λ t. t.now) c.args.uuid) c.args.random.now own.uuid old w own.own written (c.write_rebuilt.ensures.rest tells) in
    let ready = c.in_ok-judge.ensures.ready in
    let fit = subst (λ (n : ℕ). Fit (Luks2Area (content x.meta) x.place.size Elsewhere n) n) (sym long) ready.fit in
    let end_ : c.len-2.result ≡ length w = c.len-2.ensures ∙ sym c.write_rebuilt.ensures.size ∙ sym (g.met.T.Device.sized c.write_rebuilt.new.target tells) in
    let region = subst (HasRegionInside (content x.meta) x.place.size) end_ ready.region in
    λ allowed n p a. (
      gives_there v c.args.random.now old w (option_map (λ t. t.now) c.args.uuid) (source_of x) (content x.meta) whole.meta made ready.uuid fit region allowed n p a,
      gives_here v c.args.random.now old w (option_map (λ t. t.now) c.args.uuid) (source_of x) (content x.meta) whole.meta made ready.uuid fit region allowed n p a,
    )
