-- What an UPDATE says (RFC 4271, section 4.3; RFC 4760, sections 3 and 4), or its first fault. The order of the
-- faults, and which of them closes a session with which code, are the project's own choice.
use Rattle.std.specs.Prelude.{◌≡◌, ℕ, ◌==◌, Bool, not, ◌&&◌, ◌||◌, if◌then◌else◌, List, [], ◌++◌, length, Option, Some, None, Result, Ok, Err, unwrap_or, ⊤}
use Rattle.fs_base.specs.declared.{path.Path.{Path}, prefix.Family.TheVariants.{V4}}
use Rattle.fs_nlri.specs.Parts.{Ruled}
use Rattle.fs_actions.specs.Actions.{actions_of}
use Rattle.fs_attrs.specs.declared.update.{Terms.{Terms}, Routes.{Routes, TheVariants.{Unicast, Flow}}, Update.{Update}}
use Rattle.fs_attrs.specs.declared.update.UpdateFault.{UpdateFault, TheVariants.{List as ListFault, Network, Optional, Memory}}
use Rattle.fs_attrs.specs.{Attributes.{Valued, Body, body_of}, Prefixes.{Shown, are_prefixes, prefixes_of}, Paths.{withdraws, path_of}}
use Rattle.fs_attrs.specs.Routes.{has_routes, optional_of}

-- the extended communities, none where they are missing
abbrev pub communities_in : Valued → List ℕ
communities_in values = unwrap_or values.communities []

-- the path of what is given, and the actions; none under treat-as-withdraw
abbrev pub given_path : Terms → Valued → (gives withdrawn : Bool) → Option Path
given_path terms values gives withdrawn = if gives && not withdrawn then Some (path_of terms values) else None

abbrev pub given_actions : Valued → (gives withdrawn : Bool) → List (List ℕ)
given_actions values gives withdrawn = if gives && not withdrawn then actions_of (communities_in values) else []

abbrev pub unicast_in : Option Routes → List Shown
unicast_in (Some (Unicast family prefixes)) = prefixes
unicast_in _ = []

abbrev pub flows_in : Option Routes → List Ruled
flows_in (Some (Flow family rules)) = rules
flows_in _ = []

abbrev pub updated_with : Terms → Body → Option Routes × Option Routes → Bool → Bool → Update
updated_with terms fields routes gives withdrawn = record {
  classic_out = prefixes_of V4 fields.withdrawn;
  unreach = routes.1;
  reach = routes.0;
  classic_in = prefixes_of V4 fields.announced;
  path = given_path terms fields.values gives withdrawn;
  actions = given_actions fields.values gives withdrawn;
  as_withdraw = withdrawn;
}

abbrev pub gives_routes : Body → Option Routes → Bool
gives_routes fields reach = has_routes reach || not (length (prefixes_of V4 fields.announced) == 0)

abbrev pub updated : Terms → Body → Option Routes × Option Routes → Update
updated terms fields routes =
    updated_with terms fields routes (gives_routes fields routes.0) (withdraws terms fields.values (gives_routes fields routes.0))

abbrev pub network_wrong : Body → Bool
network_wrong fields = not (are_prefixes V4 fields.withdrawn) || not (are_prefixes V4 fields.announced)

abbrev pub read_body : Terms → Body → Result Update UpdateFault
read_body terms fields =
    if network_wrong fields then Err Network
    else elim (optional_of fields.values) [ Err wrong ↦ Err (Optional wrong) | Ok routes ↦ Ok (updated terms fields routes) ]

-- The update of a body, or its first fault.
abbrev pub update_of : Terms → List ℕ → Result Update UpdateFault
update_of terms octets = elim (body_of octets) [ None ↦ Err ListFault | Some fields ↦ read_body terms fields ]

-- What is answered where memory is there.
abbrev pub Reads : Result Update UpdateFault → Result Update UpdateFault → Type 0
Reads (Err Memory) wanted = ⊤
Reads result wanted = result ≡ wanted

-- What an UPDATE takes, and then what it gives: unicast prefixes, and rules. Treat-as-withdraw takes what
-- would be given.
abbrev pub given_prefixes : Update → List Shown
given_prefixes update = update.classic_in ++ unicast_in update.reach

abbrev pub takes_prefixes : Update → List Shown
takes_prefixes update = update.classic_out ++ (unicast_in update.unreach ++ (if update.as_withdraw then given_prefixes update else []))

abbrev pub gives_prefixes : Update → List Shown
gives_prefixes update = if update.as_withdraw then [] else given_prefixes update

abbrev pub takes_rules : Update → List Ruled
takes_rules update = flows_in update.unreach ++ (if update.as_withdraw then flows_in update.reach else [])

abbrev pub gives_rules : Update → List Ruled
gives_rules update = if update.as_withdraw then [] else flows_in update.reach
