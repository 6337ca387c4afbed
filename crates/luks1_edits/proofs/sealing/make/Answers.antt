use Rattle.std.proofs.Common.{subst, arith}
use Rattle.std.proofs.lemmas.Bool.{both_ways}
use Rattle.std.proofs.lemmas.Result.{err_from_is_err_and}
use Rattle.luks_area.proofs.DeviceFacts.{settled_unchanged}
use Rattle.luks_edit.specs.Asked.{opener_at}
use Rattle.luks1_edits.specs.Accepted.{IsNewFault, IsNewFree}
use Rattle.luks1_edits.specs.Edited.{number_asked}
use Rattle.luks1_edits.proofs.EditedFacts.{enough}
use Rattle.luks1_edits.proofs.KeyslotPlaces.{key_bytes_in}
use Rattle.luks1_edits.proofs.NewKeyslotFacts.{header_of_same, made_same, making, making_unrefused, new_refused, none_made, own_opened, own_unopened, own_usable, torn_same, unmade_ends}
use Rattle.luks1_edits.proofs.OpenerFacts.{slots_in}
use Rattle.luks1_edits.proofs.RowFacts.{unopened_ends}
use Rattle.luks1_edits.proofs.SealingFacts.{half_made}
use Rattle.luks1_edits.proofs.sealing.make.Goals as goal

pub returns-in_err-key-clause-refused : goal.returns-in_err-key-clause-refused
returns-in_err-key-clause-refused g c = λ tells e is x.
    let v = g.D.Device.bytes c.args.device.now in
    let a = c.args.header.now in
    let s = c.args.sealed.now in
    let p = err_from_is_err_and c.from_residual.result c.from_residual.ensures.1 in
    rw (p.1, p.2)
    (unopened_ends v a.payload e c.args.random.now x.faultless x.chosen (opener_at s.place) (making v e s is).opening (c.requires.usable v (slots_in a.bytes.now a.payload v a.fields.slots x c.requires.accepted.fields.slots)) (g.D.Device.bytes c.unlock.new.device) c.in_err-key.field-0.0 (c.unlock.ensures.unchanged.same tells) (own_unopened (g.D.Device.bytes c.args.device.now) c.in_err-key.field-0.0 c.opener.ensures (c.in_err-key.ensures.refused tells x)))

pub returns-in_err-n-clause-refused : goal.returns-in_err-n-clause-refused
returns-in_err-n-clause-refused g c = λ tells e is x.
    let v = g.D.Device.bytes c.args.device.now in
    let a = c.args.header.now in
    let s = c.args.sealed.now in
    let p = err_from_is_err_and c.from_residual-in_err-n.result c.from_residual-in_err-n.ensures.1 in
    rw (p.1, p.2)
    (none_made v a.payload e c.args.random.now (opener_at s.place) c.in_ok-key.key (number_asked s.place) s.derivation (making v e s is) a.bytes.now x (c.requires.usable v (slots_in a.bytes.now a.payload v a.fields.slots x c.requires.accepted.fields.slots)) (own_opened c.opener.ensures (c.in_ok-key.ensures.opened tells x))
    (g.D.Device.bytes c.unlock.new.device) c.in_err-n.field-0.0 (c.unlock.ensures.unchanged.same tells)
    (subst (λ t. IsNewFault v t c.in_err-n.field-0.0) c.number_asked.ensures (c.in_err-n.ensures.new v (slots_in a.bytes.now a.payload v a.fields.slots x c.requires.accepted.fields.slots))))

pub returns-in_err-judge_new-clause-refused : goal.returns-in_err-judge_new-clause-refused
returns-in_err-judge_new-clause-refused g c = λ tells e is x.
    let v = g.D.Device.bytes c.args.device.now in
    let a = c.args.header.now in
    let s = c.args.sealed.now in
    let slots = slots_in a.bytes.now a.payload v a.fields.slots x c.requires.accepted.fields.slots in
    let p = err_from_is_err_and c.from_residual-in_err-judge_new.result c.from_residual-in_err-judge_new.ensures.1 in
    rw (p.1, p.2)
    (new_refused v a.payload e c.args.random.now (opener_at s.place) c.in_ok-key.key (number_asked s.place) s.derivation (making v e s is) a.bytes.now x (c.requires.usable v (slots_in a.bytes.now a.payload v a.fields.slots x c.requires.accepted.fields.slots)) (own_opened c.opener.ensures (c.in_ok-key.ensures.opened tells x))
    c.in_ok-n.n (subst (λ t. IsNewFree v t c.in_ok-n.n) c.number_asked.ensures (c.in_ok-n.ensures.new v slots)) (g.D.Device.bytes c.unlock.new.device) c.in_err-judge_new.field-0.0 (c.unlock.ensures.unchanged.same tells)
    (c.in_err-judge_new.ensures.refused v slots (key_bytes_in a.bytes.now a.fields a.payload v x c.requires.accepted.fields)))

pub make_keyslot-requires-clause-random_length : goal.make_keyslot-requires-clause-random_length
make_keyslot-requires-clause-random_length g c =
    c.in_ok-judge_new.ensures.counted c.args.header.now.bytes.now c.requires.accepted.fields.slots c.requires.accepted.fields.common.fields.key_bytes

pub make_keyslot-requires-clause-iterated : goal.make_keyslot-requires-clause-iterated
make_keyslot-requires-clause-iterated g c =
    let d = c.args.sealed.now.derivation in
    let x = c.in_ok-judge_new.ensures.iterated in
    let many = enough d.iterations d.chosen (both_ways _ x.turns) (both_ways _ x.own) in
    omega (arith, many)

pub returns-in_err-make_keyslot-clause-refused : goal.returns-in_err-make_keyslot-clause-refused
returns-in_err-make_keyslot-clause-refused g c = λ tells e is x.
    let v = g.D.Device.bytes c.args.device.now in
    let a = c.args.header.now in
    let s = c.args.sealed.now in
    let slots = slots_in a.bytes.now a.payload v a.fields.slots x c.requires.accepted.fields.slots in
    let opened = own_opened c.opener.ensures (c.in_ok-key.ensures.opened tells x) in
    let new = subst (λ t. IsNewFree v t c.in_ok-n.n) c.number_asked.ensures (c.in_ok-n.ensures.new v slots) in
    let w = g.D.Device.bytes c.make_keyslot.new.device in
    let same = c.unlock.ensures.unchanged.same tells in
    let torn = torn_same same (c.in_err-make_keyslot.ensures.torn tells (header_of_same same x)) in
    let p = err_from_is_err_and c.from_residual-in_err-make_keyslot.result c.from_residual-in_err-make_keyslot.ensures.1 in
    rw (p.1, p.2)
    (unmade_ends v a.payload e c.args.random.now (opener_at s.place) c.in_ok-key.key (number_asked s.place) s.derivation (making v e s is) a.bytes.now x (c.requires.usable v (slots_in a.bytes.now a.payload v a.fields.slots x c.requires.accepted.fields.slots)) (own_opened c.opener.ensures (c.in_ok-key.ensures.opened tells x))
    c.in_ok-n.n new c.in_ok-judge_new.ensures.iterated (c.in_ok-judge_new.ensures.counted v slots (key_bytes_in a.bytes.now a.fields a.payload v x c.requires.accepted.fields)) w c.in_err-make_keyslot.field-0.0
    (half_made v e s c.args.random.now w is (record { slot = c.in_ok-n.n; is_new = new.is_new; key = c.in_ok-key.key; opened = opened.opened; order = torn })) c.in_err-make_keyslot.ensures.fault)

pub returns-clause-made : goal.returns-clause-made
returns-clause-made g c = λ tells x.
    let v = g.D.Device.bytes c.args.device.now in
    let a = c.args.header.now in
    let s = c.args.sealed.now in
    let slots = slots_in a.bytes.now a.payload v a.fields.slots x c.requires.accepted.fields.slots in
    let opened = own_opened c.opener.ensures (c.in_ok-key.ensures.opened tells x) in
    let new = subst (λ t. IsNewFree v t c.in_ok-n.n) c.number_asked.ensures (c.in_ok-n.ensures.new v slots) in
    let same = c.unlock.ensures.unchanged.same tells in
    record {
      used = c.requires.usable v slots;
      key = c.in_ok-key.key;
      opened = opened.opened;
      is_new = new.is_new;
      made = made_same same (c.in_ok-make_keyslot.ensures.made tells (header_of_same same x));
      unrefused = λ e is.
          making_unrefused v a.payload e c.args.random.now (opener_at s.place) c.in_ok-key.key (number_asked s.place) s.derivation (making v e s is) a.bytes.now x (c.requires.usable v slots) opened
          c.in_ok-n.n new c.in_ok-judge_new.ensures.iterated (c.in_ok-judge_new.ensures.counted v slots (key_bytes_in a.bytes.now a.fields a.payload v x c.requires.accepted.fields));
    }

pub returns-in_err-key-clause-settled : goal.returns-in_err-key-clause-settled
returns-in_err-key-clause-settled g c = λ tells same. settled_unchanged tells c.unlock.ensures.unchanged (c.requires.settled tells)

pub returns-in_err-n-clause-settled : goal.returns-in_err-n-clause-settled
returns-in_err-n-clause-settled g c = λ tells same. settled_unchanged tells c.unlock.ensures.unchanged (c.requires.settled tells)

pub returns-in_err-judge_new-clause-settled : goal.returns-in_err-judge_new-clause-settled
returns-in_err-judge_new-clause-settled g c = λ tells same. settled_unchanged tells c.unlock.ensures.unchanged (c.requires.settled tells)

pub make_keyslot-requires-clause-settled : goal.make_keyslot-requires-clause-settled
make_keyslot-requires-clause-settled g c = λ tells. settled_unchanged tells c.unlock.ensures.unchanged (c.requires.settled tells)

pub unlock-requires-clause-usable : goal.unlock-requires-clause-usable
unlock-requires-clause-usable g c = λ v holds. own_usable v c.opener.ensures (c.requires.usable v holds)
