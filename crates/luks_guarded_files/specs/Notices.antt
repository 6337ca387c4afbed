-- What is said of a lock that isn't held.
use Rattle.std.specs.Prelude.{ℕ, List, codes}
use Rattle.luks_guarded_files.specs.declared.notice.Notice.{Notice}
use Rattle.luks_guarded_files.specs.declared.notice.Notice.TheVariants.{Edited, NoLock, NoName}

abbrev pub notice_text : Notice → List ℕ
notice_text Edited = codes "another program is editing it, so the answer may be of an unfinished edit"
notice_text NoLock = codes "no lock is held, since its file system knows none"
notice_text NoName = codes "no lock is held in /run/cryptsetup, so cryptsetup isn't kept out"
