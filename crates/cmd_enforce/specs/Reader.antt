-- What a capture shows, by its format.
use Rattle.std.specs.Option.{option_map}
use Rattle.cmd_enforce.specs.{Answer.{ended_as}, Capture.{CaptureState, blocks, records}}
use Rattle.cmd_enforce.specs.declared.{fault.CaptureReason.TheVariants.{Pcap, Pcapng}, reader.Reader.{Reader, TheVariants.{Records, Blocks}}}

abbrev pub state_of : Reader → CaptureState
state_of (Records capture) = record {
  slot = capture.slot;
  limit = capture.limit;
  place = capture.place;
  end = option_map (ended_as Pcap) capture.end;
  moment = capture.moment;
  context = records capture.heading;
}
state_of (Blocks capture) = record {
  slot = capture.slot;
  limit = capture.limit;
  place = capture.place;
  end = option_map (ended_as Pcapng) capture.end;
  moment = capture.context.moment;
  context = blocks capture.context;
}
