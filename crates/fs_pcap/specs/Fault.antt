-- The names of faults, as they are printed.
use Rattle.std.specs.Prelude.{ℕ, List, codes}
use Rattle.fs_pcap.specs.declared.fault.CaptureReason.{CaptureReason, TheVariants.{Magic, Version, Link, RecordTooLong, Cut}}

abbrev pub reason_name : CaptureReason → List ℕ
reason_name Magic = codes "Magic"
reason_name Version = codes "Version"
reason_name Link = codes "Link"
reason_name RecordTooLong = codes "RecordTooLong"
reason_name Cut = codes "Cut"
