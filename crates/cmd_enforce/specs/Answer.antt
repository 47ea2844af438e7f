-- The answers of both formats, as those of one capture.
use Rattle.std.specs.Prelude.{Option, Some, None, Result, Ok, Err}
use Rattle.fs_pcap.specs.declared.{capture.Caught.{Caught as Record}, fault.CaptureReason.{CaptureReason as PcapReason}}
use Rattle.fs_base.specs.declared.link.Link.{Link}
use Rattle.fs_pcapng.specs.declared.{caught.NgCaught.{NgCaught}, fault.NgReason.{NgReason}}
use Rattle.fs_input.specs.Records.{End, done, limited, bad}
use Rattle.fs_input.specs.declared.fault.{Ended.{Ended, TheVariants.{Done, Stopped}}, Fault.{Fault, TheVariants.{Read, Limit, Bad}}}
use Rattle.cmd_enforce.specs.declared.{caught.Caught.{Caught}, fault.CaptureReason.{CaptureReason, TheVariants.{Pcap, Pcapng}}}

-- the same, with the reason as this capture has it
module _ {R S : Type 0} (reason : R → S) where
  abbrev pub end_as : End R → End S
  end_as done = done
  end_as limited = limited
  end_as (bad why place) = bad (reason why) place

  abbrev pub fault_as : Fault R → Fault S
  fault_as Read = Read
  fault_as Limit = Limit
  fault_as (Bad why place) = Bad (reason why) place

  abbrev pub ended_as : Ended R → Ended S
  ended_as Done = Done
  ended_as (Stopped fault) = Stopped (fault_as fault)

-- an answer, with the packet and the reason as this capture has them
abbrev pub answer_as : {T U R S : Type 0} → (T → U) → (R → S) → Result (Option T) (Fault R) → Result (Option U) (Fault S)
answer_as packet reason (Ok (Some found)) = Ok (Some (packet found))
answer_as packet reason (Ok None) = Ok None
answer_as packet reason (Err fault) = Err (fault_as reason fault)

abbrev pub record_caught : Link → Record → Caught
record_caught link found = record { link = Some link; time = found.time; moment = found.moment; taken = found.taken }

abbrev pub block_caught : Option Link → NgCaught → Caught
block_caught link found = record { link = link; time = found.time; moment = found.moment; taken = found.taken }

abbrev pub record_answer : Link → Result (Option Record) (Fault PcapReason) → Result (Option Caught) (Fault CaptureReason)
record_answer link found = answer_as (record_caught link) Pcap found

abbrev pub block_answer : Option Link → Result (Option NgCaught) (Fault NgReason) → Result (Option Caught) (Fault CaptureReason)
block_answer link found = answer_as (block_caught link) Pcapng found
