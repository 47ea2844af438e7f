-- The names of faults, as they are printed.
use Rattle.std.specs.Prelude.{ℕ, List, codes}
use Rattle.fs_pcapng.specs.declared.fault.NgReason.{NgReason, TheVariants.{Magic, Version, Length, Interface, RecordTooLong, TooMany, Cut}}

abbrev pub reason_name : NgReason → List ℕ
reason_name Magic = codes "Magic"
reason_name Version = codes "Version"
reason_name Length = codes "Length"
reason_name Interface = codes "Interface"
reason_name RecordTooLong = codes "RecordTooLong"
reason_name TooMany = codes "TooMany"
reason_name Cut = codes "Cut"
