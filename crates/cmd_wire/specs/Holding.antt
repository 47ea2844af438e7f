-- What a reading found.
use Rattle.fs_base.specs.Gate.{Content, absent, too_long, unread, whole}
use Rattle.cmd_wire.specs.declared.shelf.Holding.{Holding, TheVariants.{Absent, TooLong, Unread, Whole}}

abbrev pub content_of : Holding → Content
content_of (Whole octets) = whole octets.items
content_of Absent = absent
content_of Unread = unread
content_of TooLong = too_long
