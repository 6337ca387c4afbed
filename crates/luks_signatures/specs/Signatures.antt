-- What shows that a disk is used for something else than LUKS: the signatures by which libblkid of util-linux knows
-- other uses, from its superblocks and its partition tables, of those that are at a fixed place at the start of a disk.
-- Those that end a disk, as DRBD's metadata and those of most RAID controllers, aren't here; nor what has no bytes of its
-- own: a log of XFS, a table of Atari, the tables inside a partition (Solaris, UnixWare, Minix), and UFS as HP-UX has it.
use Rattle.std.specs.Prelude.{◌≡◌, ◌≢◌, ℕ, ◌+◌, ◌*◌, ◌<◌, List, [], ◌∷◌, ◌++◌, Option, Some, None, ◌⊎◌, codes, length, slice_index}
use Rattle.luks_area.specs.Ranges.{part}
use Rattle.luks_signatures.specs.declared.other_use.OtherUse.{OtherUse}
use Rattle.luks_signatures.specs.declared.other_use.OtherUse.TheVariants.{Gpt, Md, Bcache, Lvm2, BitLocker, Fat, Swap, Xfs, Ext, Zfs, Ntfs, Btrfs, ExFat, Mbr, Iso9660, Udf, ReiserFs, Reiser4, Jfs, HfsPlus, Hfs, Ufs, Hpfs, SysV, Xenix, ReFs, Cramfs, Romfs, Minix, Gfs2, Ocfs, Ocfs2, OracleAsm, VxFs, SquashFs, Nss, Ubi, Ubifs, Bfs, BeFs, Nilfs2, F2fs, Mpool, Apfs, Zonefs, Erofs, ExFs, Vmfs, Lvm1, Snapshot, Verity, Integrity, Vdo, Stratis, BlueStore, Drbd, HighPoint, Aix, Sgi, Sun, Mac, Ultrix, Bsd}

-- what shows a use
pub data Mark : Type 0 where
  -- these bytes, from this place on
  Bytes : ℕ → List ℕ → Mark
  -- an uberblock of ZFS
  Uberblock : Mark
  -- a partition of a master boot record
  Partition : Mark
  -- a master boot record that names its disk
  EmptyTable : Mark

-- a row of the table: a mark, and the use that it shows
pub record Row : Type 0 where
  pub mark : Mark
  pub shows : OtherUse

abbrev pub row : OtherUse → ℕ → List ℕ → Row
row use_of place bytes = record { mark = Bytes place bytes; shows = use_of }

-- The table, in the order in which its rows are asked: that of libblkid's superblocks, with the partition tables
-- around them. GPT comes before all, since it has an MBR too; the other tables after all, MBR last, since the boot
-- sector of a file system ends as it does. BitLocker comes before FAT, whose text its boot sector has too, and UDF
-- before ISO 9660, which may be beside it.
abbrev pub table : List Row
table =
    row Gpt 512 (codes "EFI PART") ∷
    row Gpt 4096 (codes "EFI PART") ∷
    row Md 0 (0xFC ∷ 0x4E ∷ 0x2B ∷ 0xA9 ∷ []) ∷
    row Md 4096 (0xFC ∷ 0x4E ∷ 0x2B ∷ 0xA9 ∷ []) ∷
    row HighPoint 4640 (0xF0 ∷ 0x16 ∷ 0x78 ∷ 0x5A ∷ []) ∷
    row HighPoint 4640 (0xFD ∷ 0x16 ∷ 0x78 ∷ 0x5A ∷ []) ∷
    row Bcache 4120 (0xC6 ∷ 0x85 ∷ 0x73 ∷ 0xF6 ∷ 0x4E ∷ 0x1A ∷ 0x45 ∷ 0xCA ∷ 0x82 ∷ 0x65 ∷ 0xF5 ∷ 0x7F ∷ 0x48 ∷ 0xBA ∷ 0x6D ∷ 0x81 ∷ []) ∷
    row BlueStore 0 (codes "bluestore block device") ∷
    row Drbd 0 (codes "$DRBDmgr=q") ∷
    row Drbd 0 (codes "DRBDdlh*") ∷
    row Lvm2 0 (codes "LABELONE") ∷
    row Lvm2 512 (codes "LABELONE") ∷
    row Lvm2 1024 (codes "LABELONE") ∷
    row Lvm2 1536 (codes "LABELONE") ∷
    row Lvm1 0 (0x48 ∷ 0x4D ∷ 0x01 ∷ 0 ∷ []) ∷
    row Lvm1 0 (0x48 ∷ 0x4D ∷ 0x02 ∷ 0 ∷ []) ∷
    row Snapshot 0 (codes "SnAp") ∷
    row Verity 0 (0x76 ∷ 0x65 ∷ 0x72 ∷ 0x69 ∷ 0x74 ∷ 0x79 ∷ 0 ∷ 0 ∷ []) ∷
    row Integrity 0 (0x69 ∷ 0x6E ∷ 0x74 ∷ 0x65 ∷ 0x67 ∷ 0x72 ∷ 0x74 ∷ 0 ∷ []) ∷
    row Vmfs 1048576 (0x0D ∷ 0xD0 ∷ 0x01 ∷ 0xC0 ∷ []) ∷
    row Ubi 0 (codes "UBI#") ∷
    row Vdo 0 (codes "dmvdo001") ∷
    row Stratis 516 (0x21 ∷ 0x53 ∷ 0x74 ∷ 0x72 ∷ 0x61 ∷ 0x30 ∷ 0x74 ∷ 0x69 ∷ 0x73 ∷ 0x86 ∷ 0xFF ∷ 0x02 ∷ 0x5E ∷ 0x41 ∷ 0x72 ∷ 0x68 ∷ []) ∷
    row Stratis 4612 (0x21 ∷ 0x53 ∷ 0x74 ∷ 0x72 ∷ 0x61 ∷ 0x30 ∷ 0x74 ∷ 0x69 ∷ 0x73 ∷ 0x86 ∷ 0xFF ∷ 0x02 ∷ 0x5E ∷ 0x41 ∷ 0x72 ∷ 0x68 ∷ []) ∷
    row BitLocker 3 (codes "-FVE-FS-") ∷
    row Fat 82 (codes "MSWIN") ∷
    row Fat 82 (codes "FAT32   ") ∷
    row Fat 54 (codes "MSDOS") ∷
    row Fat 54 (codes "FAT16   ") ∷
    row Fat 54 (codes "FAT12   ") ∷
    row Fat 54 (codes "FAT     ") ∷
    row Swap 0 (0xED ∷ 0xC3 ∷ 0x02 ∷ 0xE9 ∷ 0x98 ∷ 0x56 ∷ 0xE5 ∷ 0x0C ∷ []) ∷
    row Swap 4086 (codes "S1SUSPEND") ∷
    row Swap 4086 (codes "S2SUSPEND") ∷
    row Swap 4086 (codes "ULSUSPEND") ∷
    row Swap 4086 (codes "LINHIB0001") ∷
    row Swap 8182 (codes "S1SUSPEND") ∷
    row Swap 8182 (codes "S2SUSPEND") ∷
    row Swap 8182 (codes "ULSUSPEND") ∷
    row Swap 8182 (codes "LINHIB0001") ∷
    row Swap 16374 (codes "S1SUSPEND") ∷
    row Swap 16374 (codes "S2SUSPEND") ∷
    row Swap 16374 (codes "ULSUSPEND") ∷
    row Swap 16374 (codes "LINHIB0001") ∷
    row Swap 32758 (codes "S1SUSPEND") ∷
    row Swap 32758 (codes "S2SUSPEND") ∷
    row Swap 32758 (codes "ULSUSPEND") ∷
    row Swap 32758 (codes "LINHIB0001") ∷
    row Swap 65526 (codes "S1SUSPEND") ∷
    row Swap 65526 (codes "S2SUSPEND") ∷
    row Swap 65526 (codes "ULSUSPEND") ∷
    row Swap 65526 (codes "LINHIB0001") ∷
    row Swap 4086 (codes "SWAP-SPACE") ∷
    row Swap 4086 (codes "SWAPSPACE2") ∷
    row Swap 8182 (codes "SWAP-SPACE") ∷
    row Swap 8182 (codes "SWAPSPACE2") ∷
    row Swap 16374 (codes "SWAP-SPACE") ∷
    row Swap 16374 (codes "SWAPSPACE2") ∷
    row Swap 32758 (codes "SWAP-SPACE") ∷
    row Swap 32758 (codes "SWAPSPACE2") ∷
    row Swap 65526 (codes "SWAP-SPACE") ∷
    row Swap 65526 (codes "SWAPSPACE2") ∷
    row Xfs 0 (codes "XFSB") ∷
    row ExFs 0 (codes "EXFS") ∷
    row Ext 1080 (0x53 ∷ 0xEF ∷ []) ∷
    row ReiserFs 8244 (codes "ReIsErFs") ∷
    row ReiserFs 65588 (codes "ReIsEr2Fs") ∷
    row ReiserFs 65588 (codes "ReIsEr3Fs") ∷
    row ReiserFs 65588 (codes "ReIsErFs") ∷
    row ReiserFs 8212 (codes "ReIsErFs") ∷
    row Reiser4 65536 (codes "ReIsEr4") ∷
    row Jfs 32768 (codes "JFS1") ∷
    row Udf 32769 (codes "BEA01") ∷
    row Udf 32769 (codes "BOOT2") ∷
    row Udf 32769 (codes "CDW02") ∷
    row Udf 32769 (codes "NSR02") ∷
    row Udf 32769 (codes "NSR03") ∷
    row Udf 32769 (codes "TEA01") ∷
    row Iso9660 32769 (codes "CD001") ∷
    row Iso9660 32777 (codes "CDROM") ∷
    record { mark = Uberblock; shows = Zfs } ∷
    row HfsPlus 1024 (codes "H+") ∷
    row HfsPlus 1024 (codes "HX") ∷
    row Hfs 1024 (codes "BD") ∷
    row Ufs 1372 (0x19 ∷ 0x01 ∷ 0x54 ∷ 0x19 ∷ []) ∷
    row Ufs 1372 (0x19 ∷ 0x54 ∷ 0x01 ∷ 0x19 ∷ []) ∷
    row Ufs 1372 (0x54 ∷ 0x19 ∷ 0x01 ∷ 0 ∷ []) ∷
    row Ufs 1372 (0 ∷ 0x01 ∷ 0x19 ∷ 0x54 ∷ []) ∷
    row Ufs 9564 (0x19 ∷ 0x01 ∷ 0x54 ∷ 0x19 ∷ []) ∷
    row Ufs 9564 (0x19 ∷ 0x54 ∷ 0x01 ∷ 0x19 ∷ []) ∷
    row Ufs 9564 (0x54 ∷ 0x19 ∷ 0x01 ∷ 0 ∷ []) ∷
    row Ufs 9564 (0 ∷ 0x01 ∷ 0x19 ∷ 0x54 ∷ []) ∷
    row Ufs 66908 (0x19 ∷ 0x01 ∷ 0x54 ∷ 0x19 ∷ []) ∷
    row Ufs 66908 (0x19 ∷ 0x54 ∷ 0x01 ∷ 0x19 ∷ []) ∷
    row Ufs 66908 (0x54 ∷ 0x19 ∷ 0x01 ∷ 0 ∷ []) ∷
    row Ufs 66908 (0 ∷ 0x01 ∷ 0x19 ∷ 0x54 ∷ []) ∷
    row Ufs 263516 (0x19 ∷ 0x01 ∷ 0x54 ∷ 0x19 ∷ []) ∷
    row Ufs 263516 (0x19 ∷ 0x54 ∷ 0x01 ∷ 0x19 ∷ []) ∷
    row Ufs 263516 (0x54 ∷ 0x19 ∷ 0x01 ∷ 0 ∷ []) ∷
    row Ufs 263516 (0 ∷ 0x01 ∷ 0x19 ∷ 0x54 ∷ []) ∷
    row Hpfs 8192 (0x49 ∷ 0xE8 ∷ 0x95 ∷ 0xF9 ∷ []) ∷
    row SysV 1016 (0x20 ∷ 0x7E ∷ 0x18 ∷ 0xFD ∷ []) ∷
    row SysV 1016 (0xFD ∷ 0x18 ∷ 0x7E ∷ 0x20 ∷ []) ∷
    row SysV 10232 (0x20 ∷ 0x7E ∷ 0x18 ∷ 0xFD ∷ []) ∷
    row SysV 10232 (0xFD ∷ 0x18 ∷ 0x7E ∷ 0x20 ∷ []) ∷
    row SysV 16376 (0x20 ∷ 0x7E ∷ 0x18 ∷ 0xFD ∷ []) ∷
    row SysV 16376 (0xFD ∷ 0x18 ∷ 0x7E ∷ 0x20 ∷ []) ∷
    row SysV 19448 (0x20 ∷ 0x7E ∷ 0x18 ∷ 0xFD ∷ []) ∷
    row SysV 19448 (0xFD ∷ 0x18 ∷ 0x7E ∷ 0x20 ∷ []) ∷
    row Xenix 2048 (codes "+UD") ∷
    row Xenix 2048 (codes "DU+") ∷
    row Ntfs 3 (codes "NTFS    ") ∷
    row ReFs 0 (0 ∷ 0 ∷ 0 ∷ 0x52 ∷ 0x65 ∷ 0x46 ∷ 0x53 ∷ 0 ∷ []) ∷
    row Cramfs 0 (0x45 ∷ 0x3D ∷ 0xCD ∷ 0x28 ∷ []) ∷
    row Cramfs 0 (0x28 ∷ 0xCD ∷ 0x3D ∷ 0x45 ∷ []) ∷
    row Romfs 0 (codes "-rom1fs-") ∷
    row Minix 1040 (0x7F ∷ 0x13 ∷ []) ∷
    row Minix 1040 (0x8F ∷ 0x13 ∷ []) ∷
    row Minix 1040 (0x13 ∷ 0x7F ∷ []) ∷
    row Minix 1040 (0x13 ∷ 0x8F ∷ []) ∷
    row Minix 1040 (codes "h$") ∷
    row Minix 1040 (codes "x$") ∷
    row Minix 1040 (codes "$h") ∷
    row Minix 1040 (codes "$x") ∷
    row Minix 1048 (codes "ZM") ∷
    row Minix 1048 (codes "MZ") ∷
    row Gfs2 65536 (0x01 ∷ 0x16 ∷ 0x19 ∷ 0x70 ∷ []) ∷
    row Ocfs 8192 (codes "OracleCFS") ∷
    row Ocfs2 1024 (codes "OCFSV2") ∷
    row Ocfs2 2048 (codes "OCFSV2") ∷
    row Ocfs2 4096 (codes "OCFSV2") ∷
    row Ocfs2 8192 (codes "OCFSV2") ∷
    row OracleAsm 32 (codes "ORCLDISK") ∷
    row VxFs 1024 (0xF5 ∷ 0xFC ∷ 0x01 ∷ 0xA5 ∷ []) ∷
    row VxFs 8192 (0xA5 ∷ 0x01 ∷ 0xFC ∷ 0xF5 ∷ []) ∷
    row SquashFs 0 (codes "hsqs") ∷
    row SquashFs 0 (codes "sqsh") ∷
    row Nss 4096 (codes "SPB5") ∷
    row Btrfs 65600 (codes "_BHRfS_M") ∷
    row Ubifs 0 (0x31 ∷ 0x18 ∷ 0x10 ∷ 0x06 ∷ []) ∷
    row Bfs 0 (0xCE ∷ 0xFA ∷ 0xAD ∷ 0x1B ∷ []) ∷
    row Vmfs 2097152 (0x5E ∷ 0xF1 ∷ 0xAB ∷ 0x2F ∷ []) ∷
    row BeFs 32 (codes "BFS1") ∷
    row BeFs 32 (codes "1SFB") ∷
    row BeFs 544 (codes "BFS1") ∷
    row BeFs 544 (codes "1SFB") ∷
    row Nilfs2 1030 (codes "44") ∷
    row ExFat 3 (codes "EXFAT   ") ∷
    row F2fs 1024 (0x10 ∷ 0x20 ∷ 0xF5 ∷ 0xF2 ∷ []) ∷
    row Mpool 0 (codes "mpoolDev") ∷
    row Apfs 32 (codes "NXSB") ∷
    row Zonefs 0 (codes "SFOZ") ∷
    row Erofs 1024 (0xE2 ∷ 0xE1 ∷ 0xF5 ∷ 0xE0 ∷ []) ∷
    row Aix 0 (0xC9 ∷ 0xC2 ∷ 0xD4 ∷ 0xC1 ∷ []) ∷
    row Sgi 0 (0x0B ∷ 0xE5 ∷ 0xA9 ∷ 0x41 ∷ []) ∷
    row Sun 508 (0xDA ∷ 0xBE ∷ []) ∷
    row Mac 0 (codes "ER") ∷
    row Ultrix 16312 (0x57 ∷ 0x29 ∷ 0x03 ∷ 0 ∷ 0x01 ∷ 0 ∷ 0 ∷ 0 ∷ []) ∷
    row Bsd 512 (0x57 ∷ 0x45 ∷ 0x56 ∷ 0x82 ∷ []) ∷
    row Bsd 64 (0x57 ∷ 0x45 ∷ 0x56 ∷ 0x82 ∷ []) ∷
    row Bsd 128 (0x57 ∷ 0x45 ∷ 0x56 ∷ 0x82 ∷ []) ∷
    record { mark = Partition; shows = Mbr } ∷
    record { mark = EmptyTable; shows = Mbr } ∷ []

-- the bytes `b` stand from the place `p` on in the bytes `v`, and wholly inside them
abbrev pub Stands : List ℕ → ℕ → List ℕ → Type 0
Stands v p b = part v p (length b) ≡ b

-- The place `p` has an uberblock: the number 0x00BAB10C in 64 bits, of either byte order.
abbrev pub IsUberblock : List ℕ → ℕ → Type 0
IsUberblock v p = Stands v p (0x0C ∷ 0xB1 ∷ 0xBA ∷ 0 ∷ 0 ∷ 0 ∷ 0 ∷ 0 ∷ []) ⊎ Stands v p (0 ∷ 0 ∷ 0 ∷ 0 ∷ 0 ∷ 0xBA ∷ 0xB1 ∷ 0x0C ∷ [])

-- One of the 128 places for an uberblock has one, of the label at the place `start`: these are 1024 bytes apart and
-- fill the label's second half, from its byte 131072 on.
abbrev pub LabelHasUberblock : List ℕ → ℕ → Type 0
LabelHasUberblock v start = (k : ℕ) × (k < 128) × IsUberblock v (start + 131072 + 1024 * k)

-- one of the two labels at the start has an uberblock; each is of 262144 bytes
abbrev pub HasUberblock : List ℕ → Type 0
HasUberblock v = LabelHasUberblock v 0 ⊎ LabelHasUberblock v 262144

-- an entry of a partition table, of 16 bytes, has a type above 0 and a count of sectors above 0
abbrev pub IsPartition : List ℕ → Type 0
IsPartition entry = (slice_index entry 4 ≢ 0) × (part entry 12 4 ≢ 0 ∷ 0 ∷ 0 ∷ 0 ∷ [])

-- the first sector ends as a boot record does, and one of its four entries is a partition
abbrev pub HasPartition : List ℕ → Type 0
HasPartition v = Stands v 510 (0x55 ∷ 0xAA ∷ []) × ((k : ℕ) × (k < 4) × IsPartition (part v (446 + 16 * k) 16))

-- a master boot record names its disk: its signature, of 4 bytes from 440 on, isn't 0
abbrev pub NamesDisk : List ℕ → Type 0
NamesDisk v = part v 440 4 ≢ 0 ∷ 0 ∷ 0 ∷ 0 ∷ []

-- an entry of a partition table begins with 0, or with 0x80 where it is started from
abbrev pub BeginsEntry : List ℕ → Type 0
BeginsEntry entry = (slice_index entry 0 ≡ 0) ⊎ (slice_index entry 0 ≡ 0x80)

-- The first sector ends as a boot record does, and each of its four entries begins as one. libblkid asks no more; here it
-- has to name its disk too, as all tools that make a table see to, since a boot loader's sector may end so without a table.
abbrev pub HasEmptyTable : List ℕ → Type 0
HasEmptyTable v = Stands v 510 (0x55 ∷ 0xAA ∷ []) × NamesDisk v × ((k : ℕ) → k < 4 → BeginsEntry (part v (446 + 16 * k) 16))

-- the mark is in the bytes `v`
abbrev pub IsIn : List ℕ → Mark → Type 0
IsIn v (Bytes place bytes) = Stands v place bytes
IsIn v Uberblock = HasUberblock v
IsIn v Partition = HasPartition v
IsIn v EmptyTable = HasEmptyTable v

-- none of the rows has its mark in the bytes `v`
abbrev pub HasNone : List ℕ → List Row → Type 0
HasNone v [] = Unit {0}
HasNone v (r ∷ rows) = (IsIn v r.mark → ⊥) × HasNone v rows

-- the use that is shown by the first of the rows whose mark is in the bytes `v`
pub record IsFirst (rows : List Row) (v : List ℕ) (first : OtherUse) : Type 0 where
  pub before : List Row
  pub row : Row
  pub after : List Row
  pub in_order : rows ≡ before ++ (row ∷ after)
  pub none_before : HasNone v before
  pub is_in : IsIn v row.mark
  pub shows_first : row.shows ≡ first

-- what the rows show of the bytes `v`: the first use, or that none of them has its mark there
abbrev pub Finds : List Row → List ℕ → Option OtherUse → Type 0
Finds rows v (Some first) = IsFirst rows v first
Finds rows v None = HasNone v rows
