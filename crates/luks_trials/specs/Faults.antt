-- Which faults of a search are a device's, and when it is cut short.
use Rattle.std.specs.Prelude.{◌≡◌, ⊤, Bool, true, false}
use Rattle.luks_trials.specs.Tallies.{done_of, most_of}
use Rattle.luks_trials.specs.declared.fault.SearchFault.{SearchFault}
use Rattle.luks_trials.specs.declared.fault.SearchFault.TheVariants.{Device, Memory, Spent}
use Rattle.luks_trials.specs.declared.tally.Tally.{Tally}

-- the fault is a device's
abbrev pub is_search_failure : SearchFault → Bool
is_search_failure Memory = false
is_search_failure Device = true
is_search_failure Spent = false

-- a search is cut short only where as many derivations were made as may be
abbrev pub IsCutShort : Tally → SearchFault → Type 0
IsCutShort tally Memory = ⊤
IsCutShort tally Device = ⊤
IsCutShort tally Spent = done_of tally ≡ most_of tally

-- the same of a search that takes no memory
abbrev pub IsCutWithoutMemory : Tally → SearchFault → Type 0
IsCutWithoutMemory tally Memory = ⊥
IsCutWithoutMemory tally Device = ⊤
IsCutWithoutMemory tally Spent = done_of tally ≡ most_of tally
