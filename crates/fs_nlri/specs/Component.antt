-- The components of the code as parts of a rule: their types, and what stands behind these.
use Rattle.std.specs.Prelude.{List, map}
use Rattle.fs_nlri.specs.declared.component.PrefixForm.{PrefixForm, TheVariants.{V4, V6}}
use Rattle.fs_nlri.specs.declared.component.Component.{Component}
use Rattle.fs_nlri.specs.declared.component.Component.TheVariants.{Destination, Source, Protocol, Port, DestinationPort, SourcePort, IcmpType}
use Rattle.fs_nlri.specs.declared.component.Component.TheVariants.{IcmpCode, TcpFlags, PacketLength, Dscp, Fragment, FlowLabel}
use Rattle.fs_nlri.specs.declared.component.Content.{Content, TheVariants.{Prefix, Numbers, Masks}}
use Rattle.fs_nlri.specs.Parts.{Body, V4Body, V6Body, ListBody, Part, part}

abbrev pub body_of : PrefixForm → Body
body_of (V4 prefix) = V4Body prefix.family prefix.length prefix.bits
body_of (V6 len offset pattern) = V6Body len offset pattern

-- what stands behind a type, as the code lends it
abbrev pub content_body : Content → Body
content_body (Prefix form) = body_of form
content_body (Numbers pairs) = ListBody pairs.now
content_body (Masks pairs) = ListBody pairs.now

-- the type numbers of RFC 8955 section 4.2.2 and RFC 8956 section 3
abbrev pub part_of : Component → Part
part_of (Destination form) = part 1 (body_of form)
part_of (Source form) = part 2 (body_of form)
part_of (Protocol pairs) = part 3 (ListBody pairs)
part_of (Port pairs) = part 4 (ListBody pairs)
part_of (DestinationPort pairs) = part 5 (ListBody pairs)
part_of (SourcePort pairs) = part 6 (ListBody pairs)
part_of (IcmpType pairs) = part 7 (ListBody pairs)
part_of (IcmpCode pairs) = part 8 (ListBody pairs)
part_of (TcpFlags pairs) = part 9 (ListBody pairs)
part_of (PacketLength pairs) = part 10 (ListBody pairs)
part_of (Dscp pairs) = part 11 (ListBody pairs)
part_of (Fragment pairs) = part 12 (ListBody pairs)
part_of (FlowLabel pairs) = part 13 (ListBody pairs)

abbrev pub parts_of : List Component → List Part
parts_of components = map part_of components
