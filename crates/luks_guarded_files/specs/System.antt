-- What was asked of the system for a lock.
use Rattle.std.specs.Prelude.{Option, None, Some}
use Rattle.luks_guarded_files.specs.declared.system.Answer.{Answer}
use Rattle.luks_guarded_files.specs.declared.system.Answers.{Answers}
use Rattle.luks_guarded_files.specs.declared.system.Asked.{Asked}
use Rattle.luks_guarded_files.specs.declared.system.Share.{Share}

-- it was asked for so, and answered so
abbrev pub asked : Share → Answer → Asked
asked share answer = record { share = share; answer = answer }

-- the last two answers, where `before` was the last one until this one came
abbrev pub asked_after : Option Asked → Asked → Answers
asked_after before last = record { last = Some last; before = before }

-- those of a system that was asked for no lock
abbrev pub no_answers : Answers
no_answers = record { last = None; before = None }
