-- What a dump makes fits a tape of the second version.
use Rattle.cmd_convert.proofs.Words.{◌≡◌, ℕ, Bool, true, false, List, [], ◌∷◌, ◌++◌, Option, Some, None, ◌<◌, ◌≤◌, ◌+◌, ◌==◌, ◌^◌, length, refl}
use Rattle.cmd_convert.proofs.Words.{arith, le_trans, IsSome, find, flat_map, if◌then◌else◌, replicate, big_bytes, Config, dump_of, Said, Spoken}
use Rattle.cmd_convert.proofs.Words.{change, message, Fits, IsNumbered, IsWritable, after, item_text, item_text_at, record_text, tape_text, magic_of}
use Rattle.cmd_convert.proofs.Words.{Item, Timed, came_up, received, stands, was_lost, Two, greeting, made_open, parameters, Life, Lives, has_width}
use Rattle.cmd_convert.proofs.Words.{no_lives, with_life, asn_of, ended, is_established, is_taken, items_from, made, made_by, opening, remade}
use Rattle.cmd_convert.proofs.Words.{timed_at}
use Rattle.cmd_convert.specs.Laws.{GivesBack, ReadsBackConverted}
use Rattle.std.{specs.List.{AllByRecursion}, proofs.lemmas.{Bool.Decides.{nat_tests}, List.Elements.{All-replicate}}}
use Rattle.fs_base.specs.{Language.{IsOctets}, declared.config.Peer.{Peer}}
use Rattle.fs_base.proofs.{Digits.{big_octets}, Lists.{each_append, each_weaker}, Octets.{octets_append, octets_cons, octets_nil}}
use Rattle.fs_conf.{specs.Laws.{HasPeerNumbers}, proofs.Accepted.{accepts_numbers}}
use Rattle.fs_message.specs.Write.{as_field, message_text}
use Rattle.fs_mrt.{specs.Laws.{AreHeard, IsHeard, IsSaid}, proofs.AllHeard.{heard_fits}}
use Rattle.fs_input.specs.Parts.{AllFrom}
use Rattle.fs_tape.proofs.ReadsBack.{reads_back}

-- octets

message_octets : (kind : ℕ) (body : List ℕ) → kind < 256 → IsOctets body → IsOctets (message_text kind body)
message_octets kind body small are =
    octets_append (replicate 16 255) (big_bytes 2 (19 + length body) ++ (kind ∷ body)) (All-replicate (λ octet. octet < 256) 16 255 (omega arith))
    (octets_append (big_bytes 2 (19 + length body)) (kind ∷ body) (big_octets 2 (19 + length body)) (octets_cons kind body small are))

parameters_octets : (asn : ℕ) (wide : Bool) → IsOctets (length (parameters asn wide) ∷ parameters asn wide)
parameters_octets asn true =
    octets_cons 8 (parameters asn true) (omega arith)
    (octets_cons 2 (6 ∷ 65 ∷ 4 ∷ big_bytes 4 asn) (omega arith) (octets_cons 6 (65 ∷ 4 ∷ big_bytes 4 asn) (omega arith)
    (octets_cons 65 (4 ∷ big_bytes 4 asn) (omega arith) (octets_cons 4 (big_bytes 4 asn) (omega arith) (big_octets 4 asn)))))
parameters_octets asn false = octets_cons 0 [] (omega arith) octets_nil

greeting_octets : (asn : ℕ) (wide : Bool) → IsOctets (greeting asn wide)
greeting_octets asn wide =
    octets_append (made_open asn wide) (message_text 4 [])
    (message_octets 1 ((4 ∷ big_bytes 2 (as_field asn)) ++ (big_bytes 2 0 ++ (big_bytes 4 1 ++ (length (parameters asn wide) ∷ parameters asn wide))))
    (omega arith)
    (octets_append (4 ∷ big_bytes 2 (as_field asn)) (big_bytes 2 0 ++ (big_bytes 4 1 ++ (length (parameters asn wide) ∷ parameters asn wide)))
    (octets_cons 4 (big_bytes 2 (as_field asn)) (omega arith) (big_octets 2 (as_field asn)))
    (octets_append (big_bytes 2 0) (big_bytes 4 1 ++ (length (parameters asn wide) ∷ parameters asn wide)) (big_octets 2 0)
    (octets_append (big_bytes 4 1) (length (parameters asn wide) ∷ parameters asn wide) (big_octets 4 1) (parameters_octets asn wide)))))
    (message_octets 4 [] (omega arith) octets_nil)

greeting_size : (asn : ℕ) (wide : Bool) → length (greeting asn wide) ≤ 65536
greeting_size asn true = let long : length (greeting asn true) ≡ 56 = refl in omega (arith, long)
greeting_size asn false = let long : length (greeting asn false) ≡ 48 = refl in omega (arith, long)

record_octets : (kind peer moment : ℕ) (payload : List ℕ) → kind < 256 → IsOctets payload → IsOctets (record_text Two kind peer moment payload)
record_octets kind peer moment payload small are =
    octets_cons kind (big_bytes 2 peer ++ (big_bytes 8 moment ++ (big_bytes 4 (length payload) ++ payload))) small
    (octets_append (big_bytes 2 peer) (big_bytes 8 moment ++ (big_bytes 4 (length payload) ++ payload)) (big_octets 2 peer)
    (octets_append (big_bytes 8 moment) (big_bytes 4 (length payload) ++ payload) (big_octets 8 moment)
    (octets_append (big_bytes 4 (length payload)) payload (big_octets 4 (length payload)) are)))

-- an item can be written, in octets
record Good (config : Config) (item : Item) : Type 0 where
  pub writable : IsWritable config item
  pub octets : (moment : ℕ) → IsOctets (item_text_at Two moment item)

abbrev AreGood : Config → List Item → Type 0
AreGood config items = AllByRecursion (Good config) items

good_up : (config : Config) (peer : ℕ) → IsNumbered config peer → Good config (came_up peer)
good_up config peer numbered = record { writable = numbered; octets = λ moment. record_octets 1 peer moment [] (omega arith) octets_nil }

good_lost : (config : Config) (peer : ℕ) → IsNumbered config peer → Good config (was_lost peer)
good_lost config peer numbered = record { writable = numbered; octets = λ moment. record_octets 3 peer moment [] (omega arith) octets_nil }

good_received : (config : Config) (peer : ℕ) (payload : List ℕ) → IsNumbered config peer → IsOctets payload → length payload ≤ 65536
    → Good config (received peer payload)
good_received config peer payload numbered are small =
    record { writable = (numbered, small); octets = λ moment. record_octets 2 peer moment payload (omega arith) are }

ended_good : (config : Config) (peer : ℕ) (life : Life) → IsNumbered config peer → AreGood config (ended peer life)
ended_good config peer None numbered = tt
ended_good config peer (Some wide) numbered = (good_lost config peer numbered, tt)

opening_good : (config : Config) (peer asn : ℕ) (wide : Bool) (life : Life) → IsNumbered config peer → AreGood config (opening peer asn wide life)
opening_good config peer asn wide life numbered =
    each_append (Good config) (ended peer life) (came_up peer ∷ received peer (greeting asn wide) ∷ []) (ended_good config peer life numbered)
    (good_up config peer numbered, (good_received config peer (greeting asn wide) numbered (greeting_octets asn wide) (greeting_size asn wide), tt))

abbrev made_if : (taken same : Bool) → (fresh : List Item) → Item → Bool → Life → List Item × Life
made_if taken same fresh item wide life = if taken then ((if same then [] else fresh) ++ (item ∷ []), Some wide) else ([], life)

abbrev lost_if : Bool → List Item → Life → List Item × Life
lost_if established lost life = if established then (lost, None) else ([], life)

made_if_good : (config : Config) (taken same : Bool) (fresh : List Item) (item : Item) (wide : Bool) (life : Life) → AreGood config fresh → Good config item
    → AreGood config (made_if taken same fresh item wide life).0
made_if_good config true true fresh item wide life good last = (last, tt)
made_if_good config true false fresh item wide life good last = each_append (Good config) fresh (item ∷ []) good (last, tt)
made_if_good config false same fresh item wide life good last = tt

lost_if_good : (config : Config) (established : Bool) (lost : List Item) (life : Life) → AreGood config lost → AreGood config (lost_if established lost life).0
lost_if_good config true lost life good = good
lost_if_good config false lost life good = tt

made_good : (config : Config) (peer : ℕ) (wide : Bool) (said : Said) (life : Life) → IsNumbered config peer → IsSaid said
    → AreGood config (made_by config peer wide said life).0
made_good config peer wide (message octets) life numbered said =
    made_if_good config (is_taken octets) (has_width life wide) (opening peer (asn_of config peer) wide life) (received peer octets) wide life
    (opening_good config peer (asn_of config peer) wide life numbered) (good_received config peer octets numbered said.0 said.1)
made_good config peer wide (change old new) life numbered said =
    lost_if_good config (is_established old new) (ended peer life) life (ended_good config peer life numbered)

-- a configured peer's number is small

abbrev AreNumbered : Config → Type 0
AreNumbered config = AllByRecursion (λ (peer : Peer). peer.number < 65536) config.peers

number_by : (peer : Peer) (n : ℕ) (same : Bool) (rest : Option Peer) → (peer.number == n) ≡ same → peer.number < 65536 → (IsSome rest → n < 65536)
    → IsSome (if same then Some peer else rest) → n < 65536
number_by peer n true rest e small later known = let is : peer.number ≡ n = grind (arith, nat_tests) in let s = small in omega arith
number_by peer n false rest e small later known = later known

number_small : (peers : List Peer) (n : ℕ) → AllByRecursion (λ (peer : Peer). peer.number < 65536) peers
    → IsSome (find (λ peer. peer.number == n) peers) → n < 65536
number_small [] n small known = absurd cc
number_small (peer ∷ peers) n small known =
    number_by peer n (peer.number == n) (find (λ peer. peer.number == n) peers) refl small.0 (number_small peers n small.1) known

-- all that is made

abbrev FitFrom : Config → ℕ → List Timed → Type 0
FitFrom config last items = AllFrom Fits after (stands config Two last) items

fit_earlier : (config : Config) (last moment : ℕ) (items : List Timed) → last ≤ moment → FitFrom config moment items → FitFrom config last items
fit_earlier config last moment [] before fit = tt
fit_earlier config last moment (item ∷ items) before fit =
    (record { writable = fit.0.writable; room = fit.0.room; is_timed = le_trans before fit.0.is_timed }, fit.1)

timed_fit : (config : Config) (last moment : ℕ) (items : List Item) (rest : List Timed) → last ≤ moment → moment < 2 ^ 64 → AreGood config items
    → FitFrom config moment rest → FitFrom config last (timed_at moment items ++ rest)
timed_fit config last moment [] rest before room good fit = fit_earlier config last moment rest before fit
timed_fit config last moment (item ∷ items) rest before room good fit =
    (record { writable = good.0.writable; room = room; is_timed = before }, timed_fit config moment moment items rest (omega arith) room good.1 fit)

heard_good : (config : Config) (last : ℕ) (heard : Spoken) (life : Life) → AreNumbered config → IsHeard config.peers last heard
    → AreGood config (made config heard life).0
heard_good config last heard life small h =
    made_good config heard.peer heard.wide heard.said life (number_small config.peers heard.peer small h.known, h.known) h.said

made_fit : (config : Config) (last : ℕ) (lives : Lives) (heard : List Spoken) → AreNumbered config → AreHeard config.peers last heard
    → FitFrom config last (items_from config lives heard)
made_fit config last lives [] small are = tt
made_fit config last lives (heard ∷ rest) small are =
    timed_fit config last heard.moment (made config heard (lives heard.peer)).0
    (items_from config (with_life heard.peer (made config heard (lives heard.peer)).1 lives) rest)
    are.0.rises are.0.room (heard_good config last heard (lives heard.peer) small are.0)
    (made_fit config heard.moment (with_life heard.peer (made config heard (lives heard.peer)).1 lives) rest small are.1)

-- and its text

timed_octets : (config : Config) (moment : ℕ) (items : List Item) (rest : List Timed) → AreGood config items
    → IsOctets (flat_map (item_text Two) rest) → IsOctets (flat_map (item_text Two) (timed_at moment items ++ rest))
timed_octets config moment [] rest good are = are
timed_octets config moment (item ∷ items) rest good are =
    octets_append (item_text_at Two moment item) (flat_map (item_text Two) (timed_at moment items ++ rest)) (good.0.octets moment)
    (timed_octets config moment items rest good.1 are)

made_octets : (config : Config) (last : ℕ) (lives : Lives) (heard : List Spoken) → AreNumbered config → AreHeard config.peers last heard
    → IsOctets (flat_map (item_text Two) (items_from config lives heard))
made_octets config last lives [] small are = octets_nil
made_octets config last lives (heard ∷ rest) small are =
    timed_octets config heard.moment (made config heard (lives heard.peer)).0
    (items_from config (with_life heard.peer (made config heard (lives heard.peer)).1 lives) rest)
    (heard_good config last heard (lives heard.peer) small are.0)
    (made_octets config heard.moment (with_life heard.peer (made config heard (lives heard.peer)).1 lives) rest small are.1)

magic_octets : IsOctets (magic_of Two)
magic_octets =
    octets_cons 70 (83 ∷ 84 ∷ 65 ∷ 80 ∷ 69 ∷ 50 ∷ 10 ∷ []) (omega arith) (octets_cons 83 (84 ∷ 65 ∷ 80 ∷ 69 ∷ 50 ∷ 10 ∷ []) (omega arith)
    (octets_cons 84 (65 ∷ 80 ∷ 69 ∷ 50 ∷ 10 ∷ []) (omega arith) (octets_cons 65 (80 ∷ 69 ∷ 50 ∷ 10 ∷ []) (omega arith)
    (octets_cons 80 (69 ∷ 50 ∷ 10 ∷ []) (omega arith) (octets_cons 69 (50 ∷ 10 ∷ []) (omega arith)
    (octets_cons 50 (10 ∷ []) (omega arith) (octets_cons 10 [] (omega arith) octets_nil)))))))

gives_back : (config : Config) (limit tape_limit : ℕ) (content : List ℕ) → IsOctets content → AreNumbered config
    → GivesBack config tape_limit (remade config limit content).0
gives_back config limit tape_limit content are small =
    let heard = heard_fits config limit content are in
    let items = (remade config limit content).0 in
    let law = reads_back config tape_limit (tape_text Two items) items
    (octets_append (magic_of Two) (flat_map (item_text Two) items) magic_octets
    (made_octets config 0 no_lives (dump_of config limit content).0 small heard)) in (
      λ given. (law.0 given).1.below,
      λ below. law.1 (Two, record { spelled = refl; fit = made_fit config 0 no_lives (dump_of config limit content).0 small heard; below = below }),
    )

pub reads_back_converted : ReadsBackConverted
reads_back_converted text config limit tape_limit content accepted are =
    gives_back config limit tape_limit content are
    (each_weaker HasPeerNumbers (λ (peer : Peer). peer.number < 65536) (λ peer numbers. numbers.number) config.peers
    (accepts_numbers text config accepted).peers)
