use Rattle.std.proofs.Common.{◌<◌, List, Option, subst}
use Rattle.luks_find_command.specs.Searches.{starts_in, told_of, HasToldBy, TellsPart}
use Rattle.luks_find_command.specs.declared.same_uuid.SameUuid.{SameUuid}
use Rattle.luks_find_command.proofs.TellingFacts.{part-all}
use Rattle.luks_find_command.proofs.searching.take_step.Goals as goal

pub returns-in-Err-clause-told : goal.returns-in-Err-clause-told
returns-in-Err-clause-told g c = λ t.
    let F : Type 0 = g.D.Device.failed c.args.device < g.D.Device.failed c.tell_step-device.result.0 in
    let holds = told_of (g.P.Printer.printed c.tell_step-device.new.out) c.tell_step-device.new.met.items (g.G.Progress.paired c.tell_step-device.new.progress) in
    let S : Option (List SameUuid) → Type 0 = λ said. TellsPart F c.args.file.now.offset (g.D.Device.bytes c.args.device) (starts_in c.args.step)
    (told_of (g.P.Printer.printed c.args.out.now) c.args.searching.now.met.items said) holds c.in-Err.stop in
    subst S c.make_room.ensures.paired (rw c.in-Err.is at c.tell_step-device.ensures.told t)

pub returns-then-is_err-clause-told : goal.returns-then-is_err-clause-told
returns-then-is_err-clause-told g c = λ t.
    let F : Type 0 = g.D.Device.failed c.args.device < g.D.Device.failed c.tell_step-device.result.0 in
    let held = told_of (g.P.Printer.printed c.args.out.now) c.args.searching.now.met.items (g.G.Progress.paired c.args.progress.now) in
    let holds = told_of (g.P.Printer.printed c.tell_step-device.new.out) c.tell_step-device.new.met.items (g.G.Progress.paired c.tell_step-device.new.progress) in
    let S : Option (List SameUuid) → Type 0 = λ said. HasToldBy F c.args.file.now.offset (g.D.Device.bytes c.args.device) (starts_in c.args.step)
    (told_of (g.P.Printer.printed c.args.out.now) c.args.searching.now.met.items said) holds in
    part-all F c.args.file.now.offset (g.D.Device.bytes c.args.device) (starts_in c.args.step) held holds
    (subst S c.make_room.ensures.paired (rw c.in-Ok.is at c.tell_step-device.ensures.told t))
