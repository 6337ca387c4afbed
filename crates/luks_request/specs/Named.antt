-- What a command does to its volume, and the files that it reads beside it, as the bytes of their names.
use Rattle.std.specs.Prelude.{ℕ, List, Option, None, Some, option_map, Bool, true, false}
use Rattle.luks_request.specs.declared.request.Command.{Command}
use Rattle.luks_request.specs.declared.request.Command.TheVariants.{Check, Show, Open, Match, Edit, Format, Convert, Rebuild, Backup, Restore, Compare, KeepKey, KeepToken}
use Rattle.luks_request.specs.declared.request.EditRequest.{EditRequest}
use Rattle.luks_request.specs.declared.request.EditRequest.TheVariants.{Add, AddByKey, Change, Remove, Erase, Repair, Label, Uuid, Priority, AddToken, RemoveToken}
use Rattle.luks_request.specs.declared.request.OpenerFile.{OpenerFile}
use Rattle.luks_request.specs.declared.request.OpenerFile.TheVariants.{Passphrase, Key}

-- the file of what opens a keyslot
abbrev pub file_of : OpenerFile → List ℕ
file_of (Passphrase name) = name.now
file_of (Key name) = name.now

-- the edits that open a keyslot need its passphrase or its key; a token's text is read as one
abbrev pub edit_passphrase_of : EditRequest → Option (List ℕ)
edit_passphrase_of (Add by_ opener memory older new to iterations kdf) = Some (file_of opener)
edit_passphrase_of (AddByKey key memory older new to iterations kdf) = Some key.now
edit_passphrase_of (Change slot opener memory older new iterations kdf) = Some (file_of opener)
edit_passphrase_of (Remove slot by_ opener memory older) = Some (file_of opener)
edit_passphrase_of Erase = None
edit_passphrase_of Repair = None
edit_passphrase_of (Label text subsystem) = None
edit_passphrase_of (Uuid text) = None
edit_passphrase_of (Priority slot priority) = None
edit_passphrase_of (AddToken token to) = Some token.now
edit_passphrase_of (RemoveToken number) = None

-- and those that seal one the new passphrase
abbrev pub edit_new_of : EditRequest → Option (List ℕ)
edit_new_of (Add by_ opener memory older new to iterations kdf) = Some new.now
edit_new_of (AddByKey key memory older new to iterations kdf) = Some new.now
edit_new_of (Change slot opener memory older new iterations kdf) = Some new.now
edit_new_of (Remove slot by_ opener memory older) = None
edit_new_of Erase = None
edit_new_of Repair = None
edit_new_of (Label text subsystem) = None
edit_new_of (Uuid text) = None
edit_new_of (Priority slot priority) = None
edit_new_of (AddToken token to) = None
edit_new_of (RemoveToken number) = None

-- opening, editing, formatting and keeping the key need a passphrase; rebuilding takes one that is named; a key is read as a passphrase
abbrev pub passphrase_of : Command → Option (List ℕ)
passphrase_of (Check payload) = None
passphrase_of (Show form) = None
passphrase_of (Open passphrase slot memory older) = Some passphrase.now
passphrase_of (Match matching) = Some matching.key.now
passphrase_of (Edit editing) = edit_passphrase_of editing.request
passphrase_of (Format making) = Some making.passphrase.now
passphrase_of (Convert converting) = None
passphrase_of (Rebuild rebuilding) = option_map (λ name. name.now) rebuilding.passphrase
passphrase_of (Backup backing_up) = None
passphrase_of (Restore restoring) = None
passphrase_of (Compare comparing) = None
passphrase_of (KeepKey keeping) = Some keeping.passphrase.now
passphrase_of (KeepToken keeping) = None

-- some edits need a new one beside it; a new volume's key is read as one, where it is given
abbrev pub new_of : Command → Option (List ℕ)
new_of (Edit editing) = edit_new_of editing.request
new_of (Format making) = option_map (λ name. name.now) making.given.key
new_of command = None

-- edits, where they name its file, formatting, converting and rebuilding take random bytes
abbrev pub random_of : Command → Option (List ℕ)
random_of (Edit editing) = option_map (λ name. name.now) editing.random
random_of (Format making) = Some making.random.now
random_of (Convert converting) = Some converting.random.now
random_of (Rebuild rebuilding) = Some rebuilding.random.now
random_of command = None

-- converting, rebuilding, backing up and keeping the key or a token write to a file beside the volume
abbrev pub target_of : Command → Option (List ℕ)
target_of (Convert converting) = Some converting.target.now
target_of (Rebuild rebuilding) = Some rebuilding.target.now
target_of (Backup backing_up) = Some backing_up.target.now
target_of (KeepKey keeping) = Some keeping.target.now
target_of (KeepToken keeping) = Some keeping.target.now
target_of command = None

-- restoring and comparing read a header backup
abbrev pub backup_of : Command → Option (List ℕ)
backup_of (Restore restoring) = Some restoring.backup.now
backup_of (Compare comparing) = Some comparing.backup.now
backup_of command = None

-- edits, formatting and restoring write to the volume
abbrev pub is_writer : Command → Bool
is_writer (Edit editing) = true
is_writer (Format making) = true
is_writer (Restore restoring) = true
is_writer command = false
