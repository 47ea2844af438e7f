-- What is read of a field of frames is its one outcome.
use Rattle.fs_attrs.proofs.Words.{◌≡◌, ℕ, List, Option, Some, Result, Ok, Err, ap, Family, Reason, Ruled, Frames, AreBadFrames, IsOctets, Routes}
use Rattle.fs_attrs.proofs.Words.{Flow, Bad, ReadsAs, field_fault, IsFieldFault, Wrong, flow_routes, rules_of}
use Rattle.fs_nlri.{proofs.{OneOutcome.{one_field_outcome}, Reading.{field_is}}, specs.declared.fault.NlriFault.{NlriFault, TheVariants.{Memory as NoMemory}}}

abbrev routes_at : Family → Result (List Ruled) (Reason × ℕ) → Result (Option Routes) Wrong
routes_at family found = elim found [ Ok rules ↦ Ok (Some (Flow family rules)) | Err bad ↦ Err (Some bad) ]

rules_are : (family : Family) (octets : List ℕ) (rules : List Ruled) → IsOctets octets → Frames family octets rules → rules_of family octets ≡ Ok rules
rules_are family octets rules small frames = one_field_outcome family octets (rules_of family octets) (Ok rules) small (field_is family octets) frames

fault_is : (family : Family) (octets : List ℕ) (reason : Reason) (place : ℕ) → IsOctets octets → AreBadFrames family octets reason place
    → rules_of family octets ≡ Err (reason, place)
fault_is family octets reason place small bad =
    one_field_outcome family octets (rules_of family octets) (Err (reason, place)) small (field_is family octets) bad

pub flow_found : (family : Family) (octets : List ℕ) (rules : List Ruled) → IsOctets octets → Frames family octets rules
    → flow_routes family octets ≡ Ok (Some (Flow family rules))
flow_found family octets rules small frames = ap (routes_at family) (rules_are family octets rules small frames)

pub flow_bad : (family : Family) (octets : List ℕ) (fault : NlriFault) → IsOctets octets → IsFieldFault family octets fault
    → ReadsAs (Err (field_fault fault)) (flow_routes family octets)
flow_bad family octets (Bad reason place) small bad = ap (routes_at family) (fault_is family octets reason place small bad)
flow_bad family octets NoMemory small bad = tt
