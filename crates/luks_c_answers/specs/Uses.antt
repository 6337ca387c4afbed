-- What else a disk is used for, by numbers.
use Rattle.std.specs.Prelude.{ℕ, Option, None, Some}
use Rattle.luks_signatures.specs.declared.other_use.OtherUse.{OtherUse}
use Rattle.luks_signatures.specs.declared.other_use.OtherUse.TheVariants.{Gpt, Md, Bcache, Lvm2, BitLocker, Fat, Swap, Xfs, Ext, Zfs, Ntfs, Btrfs, ExFat, Mbr, Iso9660, Udf, ReiserFs, Reiser4, Jfs, HfsPlus, Hfs, Ufs, Hpfs, SysV, Xenix, ReFs, Cramfs, Romfs, Minix, Gfs2, Ocfs, Ocfs2, OracleAsm, VxFs, SquashFs, Nss, Ubi, Ubifs, Bfs, BeFs, Nilfs2, F2fs, Mpool, Apfs, Zonefs, Erofs, ExFs, Vmfs, Lvm1, Snapshot, Verity, Integrity, Vdo, Stratis, BlueStore, Drbd, HighPoint, Aix, Sgi, Sun, Mac, Ultrix, Bsd}

-- a use of a disk by its number, which stays its own in each later version
abbrev pub use_number : OtherUse → ℕ
use_number Gpt = 1
use_number Md = 2
use_number Bcache = 3
use_number Lvm2 = 4
use_number BitLocker = 5
use_number Fat = 6
use_number Swap = 7
use_number Xfs = 8
use_number Ext = 9
use_number Zfs = 10
use_number Ntfs = 11
use_number Btrfs = 12
use_number ExFat = 13
use_number Mbr = 14
use_number Iso9660 = 15
use_number Udf = 16
use_number ReiserFs = 17
use_number Reiser4 = 18
use_number Jfs = 19
use_number HfsPlus = 20
use_number Hfs = 21
use_number Ufs = 22
use_number Hpfs = 23
use_number SysV = 24
use_number Xenix = 25
use_number ReFs = 26
use_number Cramfs = 27
use_number Romfs = 28
use_number Minix = 29
use_number Gfs2 = 30
use_number Ocfs = 31
use_number Ocfs2 = 32
use_number OracleAsm = 33
use_number VxFs = 34
use_number SquashFs = 35
use_number Nss = 36
use_number Ubi = 37
use_number Ubifs = 38
use_number Bfs = 39
use_number BeFs = 40
use_number Nilfs2 = 41
use_number F2fs = 42
use_number Mpool = 43
use_number Apfs = 44
use_number Zonefs = 45
use_number Erofs = 46
use_number ExFs = 47
use_number Vmfs = 48
use_number Lvm1 = 49
use_number Snapshot = 50
use_number Verity = 51
use_number Integrity = 52
use_number Vdo = 53
use_number Stratis = 54
use_number BlueStore = 55
use_number Drbd = 56
use_number HighPoint = 57
use_number Aix = 58
use_number Sgi = 59
use_number Sun = 60
use_number Mac = 61
use_number Ultrix = 62
use_number Bsd = 63

-- none has 0
abbrev pub shown_number : Option OtherUse → ℕ
shown_number None = 0
shown_number (Some shown) = use_number shown
