-- What a view tells of its packet: all of it.
use Rattle.fs_packet.specs.{Fields.{Viewed}, declared.told.Told.{Told}}

abbrev pub told_of : Viewed → Told
told_of v = record {
  family = v.family;
  source = v.source;
  destination = v.destination;
  protocol = v.protocol;
  icmp_type = v.icmp_type;
  icmp_code = v.icmp_code;
  source_port = v.source_port;
  destination_port = v.destination_port;
  tcp_octets = v.tcp_octets;
  length = v.length;
  dscp = v.dscp;
  fragment = v.fragment;
  flow_label = v.flow_label;
}
