-- The caller's buffers.
use Rattle.std.specs.Prelude.{List, ◌++◌, length, take, drop}

-- a buffer to whose front as much of the list was written as fits; the rest of it is as it was
abbrev pub filled : {A : Type 0} → List A → List A → List A
filled buffer xs = take (length buffer) xs ++ drop (length xs) buffer
