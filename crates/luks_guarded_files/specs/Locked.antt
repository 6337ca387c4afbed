-- A device whose lock was asked for.
use Rattle.std.specs.Prelude.{◌≡◌, ◌⊎◌, Bool, true, false, Option, None, Some, List, [], ◌∷◌}
use Rattle.luks_guarded_files.specs.System.{asked, asked_after}
use Rattle.luks_guarded_files.specs.declared.system.Answer.{Answer}
use Rattle.luks_guarded_files.specs.declared.system.Answer.TheVariants as answer
use Rattle.luks_guarded_files.specs.declared.system.Answers.{Answers}
use Rattle.luks_guarded_files.specs.declared.system.Asked.{Asked}
use Rattle.luks_guarded_files.specs.declared.system.Share.{Share}
use Rattle.luks_guarded_files.specs.declared.system.Share.TheVariants.{Shared, Exclusive}
use Rattle.luks_guarded_files.specs.declared.names.Named.{Named}
use Rattle.luks_guarded_files.specs.declared.names.Named.TheVariants as named
use Rattle.luks_guarded_files.specs.declared.notice.Notice.{Notice}
use Rattle.luks_guarded_files.specs.declared.notice.Notice.TheVariants.{Edited, NoLock, NoName}
use Rattle.luks_guarded_files.specs.declared.locked.Lock.{Lock}
use Rattle.luks_guarded_files.specs.declared.locked.LockedDevice.{LockedDevice}

-- the device inside
abbrev pub device_inside : {D : Type 0} → LockedDevice D → D
device_inside locked = locked.device

-- its lock
abbrev pub lock_of : {D : Type 0} → LockedDevice D → Lock
lock_of locked = locked.lock

-- what was asked for of a volume that is to be written, or not
abbrev pub share_for : Bool → Share
share_for true = Exclusive
share_for false = Shared

-- another program holds the lock of the file or node, or that of the name
abbrev pub IsHeldByAnother : Lock → Type 0
IsHeldByAnother lock = (lock.node ≡ answer.Taken) ⊎ (lock.name ≡ named.Taken)

-- What the last two answers tell of a name's lock, `before` having been the last one until it was asked for. Held is only what
-- the system answered as held. If the name is another file's by then, what was held counts as taken.
abbrev pub IsOfName : Share → Option Asked → Answers → Named → Type 0
IsOfName way before now named.Unneeded = now.last ≡ before
IsOfName way before now (named.Held file) = now ≡ asked_after before (asked way answer.Held)
IsOfName way before now named.Taken = (now.last ≡ before) ⊎ (now ≡ asked_after before (asked way answer.Taken)) ⊎ (now ≡ asked_after before (asked way answer.Held))
IsOfName way before now named.Unheld = (now.last ≡ before) ⊎ (now ≡ asked_after before (asked way answer.Unknown))

-- The lock has the answers of the system, each: that of the file or node, and then of the name. So the first one is tied where the
-- name's lock is held, too.
abbrev pub IsAnswered : Lock → Answers → Type 0
IsAnswered lock now = IsOfName lock.share (Some (asked lock.share lock.node)) now lock.name

-- what is said of the lock of a file or node that no other program holds
abbrev pub node_notice : Answer → Option Notice
node_notice answer.Held = None
node_notice answer.Taken = None
node_notice answer.Unknown = Some NoLock

-- what is said of the lock of a name that no other program holds
abbrev pub name_notice : Named → Option Notice
name_notice named.Unneeded = None
name_notice (named.Held file) = None
name_notice named.Taken = None
name_notice named.Unheld = Some NoName

-- what is said where another program holds one of the two
abbrev pub edited_notices : List (Option Notice)
edited_notices = Some Edited ∷ None ∷ []

-- what is said where no other program does
abbrev pub other_notices : Lock → List (Option Notice)
other_notices lock = node_notice lock.node ∷ name_notice lock.name ∷ []
