-- OPEN (RFC 4271, sections 4.2 and 6.2).
use Rattle.std.specs.Prelude.{◌≡◌, ℕ, ◌-◌, not, ◌||◌, ◌==◌, if◌then◌else◌, List, length, drop, get_or, Option, Some, None, Result, Ok, Err, unwrap_or}
use Rattle.std.specs.{List.{list_any}, Option.{is_some}}
use Rattle.byteorder.specs.Endian.{big_number}
use Rattle.fs_message.specs.declared.{fault.MessageFault.{MessageFault}, open_.Open.{Open}, capabilities.Found.{Found}}
use Rattle.fs_message.specs.Header.{fault}
use Rattle.fs_message.specs.Capabilities.{Field, are_parameters, capabilities_of, four_octet_as, names_family, found_in}

-- The first fault of the fields before the parameters (RFC 4271, section 6.2): version, AS, hold time,
-- identifier; and a parameters' length that isn't that of the rest.
abbrev pub fields_fault : List ℕ → Option MessageFault
fields_fault body =
    if not (get_or body 0 0 == 4) then Some (fault 2 1)
    else if big_number 2 (drop 1 body) == 0 then Some (fault 2 2)
    else if big_number 2 (drop 3 body) == 1 || big_number 2 (drop 3 body) == 2 then Some (fault 2 6)
    else if big_number 4 (drop 5 body) == 0 then Some (fault 2 3)
    else if not (get_or body 9 0 == length body - 10) then Some (fault 2 4)
    else None

-- What an OPEN with these capabilities says, where its AS is the one that the sender is to have. The AS is
-- the first four-octet AS, else the AS field.
abbrev pub opened : ℕ → List ℕ → List Field → Result Open MessageFault
opened expected body capabilities =
    if not (unwrap_or (four_octet_as capabilities) (big_number 2 (drop 1 body)) == expected) then Err (fault 2 2)
    else Ok (record {
      asn = expected;
      hold_time = big_number 2 (drop 3 body);
      id = big_number 4 (drop 5 body);
      four = is_some (four_octet_as capabilities);
      v4_unicast = list_any (names_family 1 1) capabilities;
      v4_flow = list_any (names_family 1 133) capabilities;
      v6_unicast = list_any (names_family 2 1) capabilities;
      v6_flow = list_any (names_family 2 133) capabilities;
    })

-- An OPEN body, or its first fault: of a field, of the parameters, and an AS that isn't the expected one.
abbrev pub open_of : ℕ → List ℕ → Result Open MessageFault
open_of expected body = elim (fields_fault body) [
  | Some wrong ↦ Err wrong
  | None ↦ if are_parameters (drop 10 body) then opened expected body (capabilities_of (drop 10 body)) else Err (fault 2 4)
]

-- what is answered where the capabilities say what was found
abbrev pub OpensAs : Found → ℕ → List ℕ → Result Open MessageFault → Type 0
OpensAs found expected body result = (capabilities : List Field) → found ≡ found_in capabilities → result ≡ opened expected body capabilities
