-- The head of a record has 16 octets: seconds, a fraction of them, the captured length and the original length, 4 each.
use Rattle.std.specs.Prelude.{ℕ, List, length, drop, max, nat_lt, if◌then◌else◌}
use Rattle.fs_input.specs.declared.head.Head.{Head, TheVariants.{Whole, Wrong, Partial}}
use Rattle.fs_pcap.specs.Order.{number, time_of}
use Rattle.fs_pcap.specs.declared.{fault.CaptureReason.{CaptureReason, TheVariants.{RecordTooLong}}, capture.Caught.{Caught}, head.Context.{Context}}

-- What a head says. Its moment is the greatest time of the records up to and with this one.
abbrev pub said_in : Context → List ℕ → Caught
said_in now head =
    let seconds = number now.order 4 head in
    let fraction = number now.order 4 (drop 4 head) in
    let time = time_of now.unit seconds fraction in
    record {
      seconds = seconds;
      fraction = fraction;
      taken = number now.order 4 (drop 8 head);
      original = number now.order 4 (drop 12 head);
      time = time;
      moment = max now.moment time;
    }

-- the octets of the longest record
abbrev pub longest_record : ℕ
longest_record = 262144

abbrev pub head_of : Context → List ℕ → Head Caught CaptureReason
head_of now head =
    if nat_lt (length head) 12 then Partial
    else if nat_lt longest_record (number now.order 4 (drop 8 head)) then Wrong RecordTooLong 8
    else if nat_lt (length head) 16 then Partial
    else Whole (said_in now head) (number now.order 4 (drop 8 head))
