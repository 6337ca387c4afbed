-- How much a command hashes itself, beside its notes, to find what checksums vouch for.
use Rattle.std.specs.Prelude.{ℕ}
use Rattle.luks_request.specs.declared.request.Command.{Command}
use Rattle.luks_request.specs.declared.request.Command.TheVariants as command
use Rattle.luks_header_commands.specs.Rebuilding.{copies_asked}
use Rattle.luks_notes.specs.Hashed.{own}

-- `rebuild` alone seeks it, once
abbrev pub own_search : Command → ℕ
own_search (command.Rebuild rebuilding) = own (copies_asked rebuilding).effort
own_search command_ = 0
