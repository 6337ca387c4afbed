use Rattle.std.proofs.Common.{◌≡◌, ℕ, List, length, ap, sym, subst, ◌∙◌}
use Rattle.luks_converting.specs.Converted.{uuid_of, HasConvertedCopy}
use Rattle.luks_converting.proofs.WrittenFacts.{all_but_first, all_rest, areas_rest, both_wait, first_waits, is_converted, second_rest}
use Rattle.luks_converting.proofs.converting.write_over_cleared.Goals as goal

pub write_converted_copy-requires-clause-uuid : goal.write_converted_copy-requires-clause-uuid
write_converted_copy-requires-clause-uuid g c =
    ap length (c.as_str-uuid.ensures.value ∙ sym c.requires.read.fields.common.fields.uuid) ∙ c.requires.read.fields.common.uuid.long

pub returns-in_err-copy_areas-clause-rest : goal.returns-in_err-copy_areas-clause-rest
returns-in_err-copy_areas-clause-rest g c = λ tells. areas_rest c.args.header.now.bytes (c.copy_areas.ensures.rest tells)

pub returns-in_err-copy_areas-clause-order : goal.returns-in_err-copy_areas-clause-order
returns-in_err-copy_areas-clause-order g c = λ source tells begins.
    both_wait c.args.header.now.bytes (c.copy_areas.ensures.rest tells) (g.S.Device.bytes c.args.source.now) c.args.random.now

pub returns-in_err-write_converted_copy-clause-rest : goal.returns-in_err-write_converted_copy-clause-rest
returns-in_err-write_converted_copy-clause-rest g c = λ tells.
    second_rest c.args.header.now.bytes (c.copy_areas.ensures.rest tells) (c.write_converted_copy.ensures.rest tells)

pub returns-in_err-write_converted_copy-clause-order : goal.returns-in_err-write_converted_copy-clause-order
returns-in_err-write_converted_copy-clause-order g c = λ source tells begins.
    first_waits c.args.header.now.bytes (c.copy_areas.ensures.rest tells) (c.write_converted_copy.ensures.rest tells) (g.S.Device.bytes c.args.source.now) c.args.random.now
    (c.in_ok-copy_areas.ensures.copied source tells) begins

pub returns-in_err-write_converted_copy-2-clause-rest : goal.returns-in_err-write_converted_copy-2-clause-rest
returns-in_err-write_converted_copy-2-clause-rest g c = λ tells.
    all_rest c.args.header.now.bytes (c.copy_areas.ensures.rest tells) (c.write_converted_copy.ensures.rest tells) (c.write_converted_copy-2.ensures.rest tells)

pub returns-clause-rest : goal.returns-clause-rest
returns-clause-rest g c = λ tells.
    all_rest c.args.header.now.bytes (c.copy_areas.ensures.rest tells) (c.write_converted_copy.ensures.rest tells) (c.write_converted_copy-2.ensures.rest tells)

pub returns-in_err-write_converted_copy-2-clause-order : goal.returns-in_err-write_converted_copy-2-clause-order
returns-in_err-write_converted_copy-2-clause-order g c = λ source tells begins.
    let uuid : c.as_str-uuid.result.now ≡ uuid_of c.args.header.now.bytes = c.as_str-uuid.ensures.value ∙ sym c.requires.read.fields.common.fields.uuid in
    let second = subst (λ (s : List ℕ). HasConvertedCopy (g.T.Device.bytes c.write_converted_copy.new.device) (uuid_of c.args.header.now.bytes) s c.args.json.now 16384) c.taken_salt-second.ensures
    (subst (λ (t : List ℕ). HasConvertedCopy (g.T.Device.bytes c.write_converted_copy.new.device) t c.taken_salt-second.result c.args.json.now 16384) uuid (c.in_ok-write_converted_copy.ensures.copy tells)) in
    all_but_first c.args.header.now.bytes (g.S.Device.bytes c.args.source.now) c.args.random.now (g.T.Device.bytes c.args.target.now) (g.T.Device.bytes c.copy_areas.new.target)
    (g.T.Device.bytes c.write_converted_copy.new.device) (g.T.Device.bytes c.write_converted_copy-2.new.device) c.args.json.now c.requires.json (c.in_ok-copy_areas.ensures.copied source tells)
    (c.copy_areas.ensures.rest tells) (c.write_converted_copy.ensures.rest tells) (c.write_converted_copy-2.ensures.rest tells) second begins

pub returns-clause-order : goal.returns-clause-order
returns-clause-order g c = λ source tells begins.
    let uuid : c.as_str-uuid.result.now ≡ uuid_of c.args.header.now.bytes = c.as_str-uuid.ensures.value ∙ sym c.requires.read.fields.common.fields.uuid in
    let second = subst (λ (s : List ℕ). HasConvertedCopy (g.T.Device.bytes c.write_converted_copy.new.device) (uuid_of c.args.header.now.bytes) s c.args.json.now 16384) c.taken_salt-second.ensures
    (subst (λ (t : List ℕ). HasConvertedCopy (g.T.Device.bytes c.write_converted_copy.new.device) t c.taken_salt-second.result c.args.json.now 16384) uuid (c.in_ok-write_converted_copy.ensures.copy tells)) in
    all_but_first c.args.header.now.bytes (g.S.Device.bytes c.args.source.now) c.args.random.now (g.T.Device.bytes c.args.target.now) (g.T.Device.bytes c.copy_areas.new.target)
    (g.T.Device.bytes c.write_converted_copy.new.device) (g.T.Device.bytes c.write_converted_copy-2.new.device) c.args.json.now c.requires.json (c.in_ok-copy_areas.ensures.copied source tells)
    (c.copy_areas.ensures.rest tells) (c.write_converted_copy.ensures.rest tells) (c.write_converted_copy-2.ensures.rest tells) second begins

pub returns-clause-converted : goal.returns-clause-converted
returns-clause-converted g c = λ source tells begins.
    let uuid : c.as_str-uuid.result.now ≡ uuid_of c.args.header.now.bytes = c.as_str-uuid.ensures.value ∙ sym c.requires.read.fields.common.fields.uuid in
    let second = subst (λ (s : List ℕ). HasConvertedCopy (g.T.Device.bytes c.write_converted_copy.new.device) (uuid_of c.args.header.now.bytes) s c.args.json.now 16384) c.taken_salt-second.ensures
    (subst (λ (t : List ℕ). HasConvertedCopy (g.T.Device.bytes c.write_converted_copy.new.device) t c.taken_salt-second.result c.args.json.now 16384) uuid (c.in_ok-write_converted_copy.ensures.copy tells)) in
    let first = subst (λ (s : List ℕ). HasConvertedCopy (g.T.Device.bytes c.write_converted_copy-2.new.device) (uuid_of c.args.header.now.bytes) s c.args.json.now 0) c.taken_salt-first.ensures
    (subst (λ (t : List ℕ). HasConvertedCopy (g.T.Device.bytes c.write_converted_copy-2.new.device) t c.taken_salt-first.result c.args.json.now 0) uuid (c.in_ok-write_converted_copy-2.ensures.copy tells)) in
    is_converted c.args.header.now.bytes (g.S.Device.bytes c.args.source.now) c.args.random.now (g.T.Device.bytes c.args.target.now) (g.T.Device.bytes c.copy_areas.new.target)
    (g.T.Device.bytes c.write_converted_copy.new.device) (g.T.Device.bytes c.write_converted_copy-2.new.device) c.args.json.now c.requires.json (c.in_ok-copy_areas.ensures.copied source tells)
    (c.copy_areas.ensures.rest tells) (c.write_converted_copy.ensures.rest tells) (c.write_converted_copy-2.ensures.rest tells) second first begins
