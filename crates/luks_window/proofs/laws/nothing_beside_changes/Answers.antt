use Rattle.luks_area.proofs.RangeFacts.{same_outside-same_but}
use Rattle.luks_window.proofs.WindowFacts.{places-behind, stays_inside-same, window-alone}
use Rattle.luks_window.proofs.laws.nothing_beside_changes.Goals as goal

pub returns-clause-taken : goal.returns-clause-taken
returns-clause-taken g c = stays_inside-same g.K.Disk.bytes g.K.Disk.unsettled g.K.Disk.start g.K.Disk.len

pub returns-clause-beside : goal.returns-clause-beside
returns-clause-beside g c = λ now none same. same_outside-same_but g.K.Disk.start g.K.Disk.len (window-alone g.K.Disk.start g.K.Disk.len none same)

pub returns-clause-named : goal.returns-clause-named
returns-clause-named g c = λ now none same named. places-behind g.K.Disk.start g.K.Disk.len (window-alone g.K.Disk.start g.K.Disk.len none same) named
