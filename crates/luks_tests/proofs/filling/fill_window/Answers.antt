use Rattle.std.proofs.Common.{ℕ, List, sym, subst}
use Rattle.luks_area.specs.Memory.{memory_bytes}
use Rattle.luks_area.proofs.RangeFacts.{same_outside-same_but}
use Rattle.luks_area.specs.Ranges.{SameOutside}
use Rattle.luks_window.proofs.WindowFacts.{window-alone}
use Rattle.luks_tests.proofs.filling.fill_window.Goals as goal

pub returns : goal.returns
returns g c =
    let V : List ℕ → Type 0 = λ v. SameOutside v (memory_bytes c.into_inner.result) g.K.Disk.start g.K.Disk.len in
    let same = (c.into_inner.ensures.beside tt).bytes in
    subst V (sym c.requires.bytes)
    (same_outside-same_but g.K.Disk.start g.K.Disk.len (window-alone g.K.Disk.start g.K.Disk.len c.requires.settled same))
