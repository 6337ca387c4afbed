-- A file that is opened when it is first read.
use Rattle.std.specs.Prelude.{ℕ, List, Option}
use Rattle.luks_guarded_files.specs.declared.lazy.LazyFile.{LazyFile}

-- what is open of it
abbrev pub opened_file : {R F A : Type 0} → LazyFile R F A → Option F
opened_file lazy = lazy.file

-- the name by which it is opened
abbrev pub file_name : {R F A : Type 0} → LazyFile R F A → List ℕ
file_name lazy = lazy.path.now
