use Rattle.std.proofs.Common.{ℕ, List, inr, subst}
use Rattle.luks_rebuilding.specs.Found.{source_of}
use Rattle.luks_rebuilding.specs.Rebuilt.{HasRebuiltCopy}
use Rattle.luks_rebuilding.proofs.WrittenFacts.{all_but_first, all_rest, areas_rest, both_wait, first_waits, second_rest, slots_inside}
use Rattle.luks_rebuilding.proofs.rebuilding.write_over_cleared.Goals as goal

pub copy_areas-requires-clause-within : goal.copy_areas-requires-clause-within
copy_areas-requires-clause-within g c = slots_inside c.args.found.now (g.S.Device.size c.args.source.now) (g.T.Device.size c.args.target.now) c.requires.whole c.requires.region

pub returns-in_err-copy_areas-clause-rest : goal.returns-in_err-copy_areas-clause-rest
returns-in_err-copy_areas-clause-rest g c = λ tells. areas_rest c.args.found.now (c.copy_areas.ensures.rest tells)

pub returns-in_err-copy_areas-clause-order : goal.returns-in_err-copy_areas-clause-order
returns-in_err-copy_areas-clause-order g c = λ source tells uuid is.
    both_wait c.args.found.now (g.S.Device.size c.args.source.now) (g.T.Device.size c.args.target.now) c.requires.whole c.requires.region
    (c.copy_areas.ensures.rest tells) (g.S.Device.bytes c.args.source.now) uuid c.args.random.now

pub returns-in_err-write_rebuilt_copy-clause-rest : goal.returns-in_err-write_rebuilt_copy-clause-rest
returns-in_err-write_rebuilt_copy-clause-rest g c = λ tells.
    second_rest c.args.found.now (c.copy_areas.ensures.rest tells) (c.write_rebuilt_copy.ensures.rest tells)

pub returns-in_err-write_rebuilt_copy-clause-order : goal.returns-in_err-write_rebuilt_copy-clause-order
returns-in_err-write_rebuilt_copy-clause-order g c = λ source tells uuid is.
    first_waits c.args.found.now (g.S.Device.size c.args.source.now) (g.T.Device.size c.args.target.now) c.requires.whole c.requires.region
    (c.copy_areas.ensures.rest tells) (c.write_rebuilt_copy.ensures.rest tells) (g.S.Device.bytes c.args.source.now) uuid c.args.random.now (c.in_ok-copy_areas.ensures.copied source tells)

pub returns-in_err-write_rebuilt_copy-2-clause-rest : goal.returns-in_err-write_rebuilt_copy-2-clause-rest
returns-in_err-write_rebuilt_copy-2-clause-rest g c = λ tells.
    all_rest c.args.found.now (c.copy_areas.ensures.rest tells) (c.write_rebuilt_copy.ensures.rest tells) (c.write_rebuilt_copy-2.ensures.rest tells)

pub returns-clause-rest : goal.returns-clause-rest
returns-clause-rest g c = λ tells.
    all_rest c.args.found.now (c.copy_areas.ensures.rest tells) (c.write_rebuilt_copy.ensures.rest tells) (c.write_rebuilt_copy-2.ensures.rest tells)

pub returns-in_err-write_rebuilt_copy-2-clause-order : goal.returns-in_err-write_rebuilt_copy-2-clause-order
returns-in_err-write_rebuilt_copy-2-clause-order g c = λ source tells uuid is.
    let w : List ℕ = g.T.Device.bytes c.write_rebuilt_copy.new.device in
    let size : ℕ = c.args.found.now.place.size in
    let second = subst (λ (s : List ℕ). HasRebuiltCopy w uuid s (source_of c.args.found.now) size) c.taken_salt-second.ensures (c.in_ok-write_rebuilt_copy.ensures.copy tells uuid is) in
    inr (inr (all_but_first c.args.found.now (g.S.Device.size c.args.source.now) (g.T.Device.size c.args.target.now) c.requires.whole c.requires.region
    (g.S.Device.bytes c.args.source.now) uuid c.args.random.now (g.T.Device.bytes c.args.target.now) (g.T.Device.bytes c.copy_areas.new.target) w (g.T.Device.bytes c.write_rebuilt_copy-2.new.device)
    (c.in_ok-copy_areas.ensures.copied source tells) (c.write_rebuilt_copy.ensures.rest tells) (c.write_rebuilt_copy-2.ensures.rest tells) second))

pub returns-clause-order : goal.returns-clause-order
returns-clause-order g c = λ source tells uuid is.
    let w : List ℕ = g.T.Device.bytes c.write_rebuilt_copy.new.device in
    let size : ℕ = c.args.found.now.place.size in
    let second = subst (λ (s : List ℕ). HasRebuiltCopy w uuid s (source_of c.args.found.now) size) c.taken_salt-second.ensures (c.in_ok-write_rebuilt_copy.ensures.copy tells uuid is) in
    inr (inr (all_but_first c.args.found.now (g.S.Device.size c.args.source.now) (g.T.Device.size c.args.target.now) c.requires.whole c.requires.region
    (g.S.Device.bytes c.args.source.now) uuid c.args.random.now (g.T.Device.bytes c.args.target.now) (g.T.Device.bytes c.copy_areas.new.target) w (g.T.Device.bytes c.write_rebuilt_copy-2.new.device)
    (c.in_ok-copy_areas.ensures.copied source tells) (c.write_rebuilt_copy.ensures.rest tells) (c.write_rebuilt_copy-2.ensures.rest tells) second))

pub returns-clause-written : goal.returns-clause-written
returns-clause-written g c = λ source tells uuid is.
    let w : List ℕ = g.T.Device.bytes c.write_rebuilt_copy.new.device in
    let x : List ℕ = g.T.Device.bytes c.write_rebuilt_copy-2.new.device in
    let size : ℕ = c.args.found.now.place.size in
    let second = subst (λ (s : List ℕ). HasRebuiltCopy w uuid s (source_of c.args.found.now) size) c.taken_salt-second.ensures (c.in_ok-write_rebuilt_copy.ensures.copy tells uuid is) in
    record {
      first = subst (λ (s : List ℕ). HasRebuiltCopy x uuid s (source_of c.args.found.now) 0) c.taken_salt-first.ensures (c.in_ok-write_rebuilt_copy-2.ensures.copy tells uuid is);
      others = all_but_first c.args.found.now (g.S.Device.size c.args.source.now) (g.T.Device.size c.args.target.now) c.requires.whole c.requires.region
          (g.S.Device.bytes c.args.source.now) uuid c.args.random.now (g.T.Device.bytes c.args.target.now) (g.T.Device.bytes c.copy_areas.new.target) w x
          (c.in_ok-copy_areas.ensures.copied source tells) (c.write_rebuilt_copy.ensures.rest tells) (c.write_rebuilt_copy-2.ensures.rest tells) second;
    }
