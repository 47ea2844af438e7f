-- NOTIFICATION (RFC 4271, section 4.5).
use Rattle.std.specs.Prelude.{ℕ, List, get_or}
use Rattle.fs_message.specs.declared.notice.Notice.{Notice}

-- The two codes of a NOTIFICATION.
abbrev pub notice_of : List ℕ → Notice
notice_of body = record { code = get_or body 0 0; subcode = get_or body 1 0 }
