-- The lines that `find` prints of the fragments of LUKS2 metadata: objects of JSON, or words with a space between.
use Rattle.std.specs.Prelude.{ℕ, List, ◌++◌, codes, Option, Some, None, Bool, true, false}
use Rattle.std.specs.Fmt.{decimal}
use Rattle.luks_commands.specs.Answer.{line}
use Rattle.luks_commands.specs.declared.inputs.InputFault.{InputFault}
use Rattle.luks_commands.specs.declared.inputs.InputFault.TheVariants.{Absent, Unreadable, NoMemory as NoMemoryToRead}
use Rattle.luks_fragments.specs.declared.kinds.Kind.{Kind}
use Rattle.luks_fragments.specs.declared.kinds.Kind.TheVariants as kind
use Rattle.luks_find_command.specs.declared.lines.Last.{Last}
use Rattle.luks_find_command.specs.declared.lines.Last.TheVariants.{NoneFound, DeviceFault, NoMemory}

-- ---- a fragment

abbrev pub kind_text : Kind → List ℕ
kind_text kind.Keyslot = codes "keyslot"
kind_text kind.Digest = codes "digest"
kind_text kind.Segment = codes "segment"

-- the number that comes before it, if one does
abbrev pub number_json : Option ℕ → List ℕ
number_json (Some n) = decimal n
number_json None = codes "null"

abbrev pub number_word : Option ℕ → List ℕ
number_word (Some n) = decimal n
number_word None = codes "-"

-- one that begins at the byte `place` of its file
abbrev pub fragment_line : Bool → ℕ → Kind → Option ℕ → List ℕ
fragment_line true place kind number =
    line (codes "{\"offset\":" ++ decimal place ++ codes ",\"kind\":\"" ++ kind_text kind ++ codes "\",\"number\":" ++ number_json number ++ codes "}")
fragment_line false place kind number = line (decimal place ++ codes " " ++ kind_text kind ++ codes " " ++ number_word number)

-- ---- the last line of a search that found none, or stopped

abbrev pub last_text : Last → List ℕ
last_text NoneFound = codes "none found"
last_text DeviceFault = codes "device fault"
last_text NoMemory = codes "no memory"

abbrev pub last_line : Bool → Last → List ℕ
last_line true last = line (codes "{\"answer\":\"" ++ last_text last ++ codes "\"}")
last_line false last = line (last_text last)

-- and the exit status
abbrev pub last_status : Last → ℕ
last_status NoneFound = 1
last_status DeviceFault = 4
last_status NoMemory = 4

-- where the file can't be read
abbrev pub unread_last : InputFault → Last
unread_last Absent = DeviceFault
unread_last (Unreadable reason) = DeviceFault
unread_last NoMemoryToRead = NoMemory
