-- What a file counts as holding that is read again and again.
use Rattle.std.specs.{Prelude.{ℕ, ◌-◌, ◌&&◌, Bool, true, false, not, nat_lt, if◌then◌else◌, Option, Some, None}, Str.{bytes_eq}}
use Rattle.fs_base.specs.Gate.{Content, absent, too_long, unread, whole}

-- What counts; another content that was read, and when it was first read; and when the file was last read.
pub record Shelf : Type 0 where
  pub settled : Option Content
  pub changed : Option Content
  pub since : ℕ
  pub read_at : ℕ

abbrev pub empty_shelf : Shelf
empty_shelf = record { settled = None; changed = None; since = 0; read_at = 0 }

-- two readings found the same
abbrev pub is_same : Content → Content → Bool
is_same (whole octets) (whole others) = bytes_eq octets others
is_same absent absent = true
is_same unread unread = true
is_same too_long too_long = true
is_same _ _ = false

abbrev pub is_same_as : Option Content → Content → Bool
is_same_as None content = false
is_same_as (Some other) content = is_same other content

-- so many milliseconds lie between two readings, and between two of the same before a change counts
abbrev pub second : ℕ
second = 1000

abbrev pub is_due : Shelf → (time : ℕ) → Bool
is_due shelf time = not (nat_lt (time - shelf.read_at) second)

-- a change that was read before, a second ago or more
abbrev pub is_lasting : Shelf → Content → (time : ℕ) → Bool
is_lasting shelf content time = is_same_as shelf.changed content && not (nat_lt (time - shelf.since) second)

-- whether a reading changes what counts
abbrev pub settles_over : Option Content → Shelf → Content → (time : ℕ) → Bool
settles_over None shelf content time = true
settles_over (Some settled) shelf content time = not (is_same settled content) && is_lasting shelf content time

abbrev pub settles : Shelf → Content → (time : ℕ) → Bool
settles shelf content time = settles_over shelf.settled shelf content time

-- a content that counts from now on; one that is what counts; one that is first read now, or again
abbrev pub settled_by : Content → (time : ℕ) → Shelf → Shelf
settled_by content time shelf = record { settled = Some content; changed = None; since = shelf.since; read_at = time }

abbrev pub kept_by : (time : ℕ) → Shelf → Shelf
kept_by time shelf = record { settled = shelf.settled; changed = None; since = shelf.since; read_at = time }

abbrev pub changed_by : Content → (time : ℕ) → Shelf → Shelf
changed_by content time shelf =
    if is_same_as shelf.changed content then record shelf { read_at = time }
    else record { settled = shelf.settled; changed = Some content; since = time; read_at = time }

abbrev pub shelved : Content → (time : ℕ) → Shelf → Shelf
shelved content time shelf =
    if settles shelf content time then settled_by content time shelf
    else if is_same_as shelf.settled content then kept_by time shelf
    else changed_by content time shelf
