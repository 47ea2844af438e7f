-- What a keeper does, from its fields.
use Rattle.fs_peering.proofs.KeeperWords.{ℕ, ◌-◌, nat_lt, not, List, [], ◌∷◌, ◌++◌, ◌≡◌, ◌==◌, ◌&&◌, Bool, true, false, Option, Some, None, IfSome}
use Rattle.fs_peering.proofs.KeeperWords.{Result, Ok, Err, IfOk, OnErr, refl, ap, sym, subst, ◌∙◌, if◌then◌else◌, is_some, arith, Turn, What, dialled}
use Rattle.fs_peering.proofs.KeeperWords.{shut, Grew, Config, Peer, CanSend, announcing, fresh, has_started, is_established, machine_in}
use Rattle.fs_peering.proofs.KeeperWords.{open_sent, sender_of, state_in, Sending, Connection, Kept, Outcome, accepts, at_line, begins, checks, dials}
use Rattle.fs_peering.proofs.KeeperWords.{ends, hears, news_up, received, receives, speaks, woken, Fits, Keeping, LinkSays, LinkTells}
use Rattle.fs_peering.proofs.KeeperWords.{Linked, TellsSo, TookQuietly, TookSo, is_told, let_go, News, Ended, Unreached}
use Rattle.fs_peering.proofs.Standing.{going}
use Rattle.fs_peering.proofs.Following.{at_none, at_other, at_this, begun_so, check_none, check_open, check_shut, check_waits, ended_so, hear_shut}
use Rattle.fs_peering.proofs.Following.{received_open, received_shut}
use Rattle.fs_peering.proofs.KeeperTells.{accept_rests, accept_tells, dial_early, dial_idle, dial_new, dial_there, tells_by, tells_idle, tells_none}
use Rattle.fs_peering.proofs.KeeperTells.{tells_on, tells_shut}
use Rattle.std.{proofs.{Common.{eqb-true, ◌<◌, ◌≤◌}, lemmas.Bool.Decides.{nat_tests}}}
use Rattle.fs_base.proofs.{Bools.{and_parts, false_of_not}, NumberTests.{eq_itself}}

-- whether it is this line's connection
line_other : (a b : ℕ) (fit : Bool) → (a ≡ b → ⊥) → ((a == b) && fit) ≡ false
line_other a b fit differs = by (a == b) refl
  where
    by : (is : Bool) → (a == b) ≡ is → ((a == b) && fit) ≡ false
    by true e = absurd (differs (eqb-true a b e))
    by false e = ap (λ x. x && fit) e

-- the line of a connection that is this one's
pub line_of : (at line : ℕ) (fit : Bool) → ((at == line) && fit) ≡ true → line ≡ at
line_of at line fit at_it = sym (eqb-true at line (and_parts (at == line) fit at_it).0)

line_this : (a b : ℕ) (fit : Bool) → a ≡ b → fit ≡ true → ((a == b) && fit) ≡ true
line_this a b fit same on = subst (λ n. ((a == n) && fit) ≡ true) same (ap (λ x. (a == a) && x) on ∙ ap (λ x. x && true) (eq_itself a))

pub asked_as : (turns turns1 : Option (List Turn)) (line line' : ℕ) (octets octets' : List ℕ) → line ≡ line' → octets ≡ octets'
    → Grew turns turns1 (speaks line octets)
    → Grew turns turns1 (speaks line' octets')
asked_as turns turns1 line line' octets octets' lines same grew =
    subst (λ o. Grew turns turns1 (speaks line' o)) same (subst (λ l. Grew turns turns1 (speaks l octets)) lines grew)

pub shut_as : (turns turns1 : Option (List Turn)) (line line' : ℕ) → line ≡ line' → Grew turns turns1 (shut line ∷ []) → Grew turns turns1 (shut line' ∷ [])
shut_as turns turns1 line line' lines grew = subst (λ l. Grew turns turns1 (shut l ∷ [])) lines grew

-- nothing happens
module _ (k old : Keeping) (same : k ≡ old) (linked seen : Linked) (link_is : k.link ≡ Some linked) (seen_is : seen ≡ linked) where
  abbrev unchanged : Keeping
  unchanged = record k { link = Some linked }

  pub stays_same : unchanged ≡ old
  stays_same = ap (λ (l : Option Linked). record k { link = l }) (sym link_is) ∙ same

  old_link : old.link ≡ Some linked
  old_link = subst (λ (o : Keeping). o.link ≡ Some linked) same link_is

  pub check_off : (time : ℕ) (turns : Option (List Turn)) → seen.made ≡ false → TookSo (checks time) None old unchanged turns turns
  check_off time turns off =
      subst (λ (n : Keeping). TookSo (checks time) None old n turns turns) (sym stays_same)
      (check_waits _ _ _ old_link _ (sym (ap (λ (l : Linked). l.made) seen_is) ∙ off))

  pub line_rests : (line : ℕ) (fits : Connection → Bool) (act : Connection → Kept → Outcome) (fit : Bool) (turns : Option (List Turn))
      → ((connection : Connection) → linked.made ≡ connection.made → fits connection ≡ fit) → ((linked.line == line) && fit) ≡ false
      → TookSo (at_line line fits act) None old unchanged turns turns
  line_rests line fits act fit turns fits_is other =
      subst (λ (n : Keeping). TookSo (at_line line fits act) None old n turns turns) (sym stays_same) (at_other _ _ _ _ _ _ old_link fits_is other turns)

  pub end_other : (line time : ℕ) → (seen.line ≡ line → ⊥) → TookQuietly (at_line line (λ connection. true) (ends time)) None old old
  end_other line time differs =
      at_other _ _ _ _ _ _ old_link (λ connection e. refl)
      (line_other _ _ _ (λ e. differs (ap (λ (l : Linked). l.line) seen_is ∙ e)))

  pub end_this : (line time : ℕ) (news : News) (new : Keeping) → seen.line ≡ line → news ≡ (if seen.made then Ended else Unreached) → new ≡ let_go time old
      → TookQuietly (at_line line (λ connection. true) (ends time)) (Some news) old new
  end_this line time news new this news_is goes = λ turns. at_this _ _ _ _ _ _ _ _ _ _ old_link (λ connection e. refl)
      (line_this _ _ _ (sym (ap (λ (l : Linked). l.line) seen_is) ∙ this) refl)
      (ended_so _ _ _ _ _ turns (news_is ∙ ap (λ (l : Linked). if l.made then Ended else Unreached) seen_is) goes)

  -- what a connection said was sent
  module _ (linked' : Linked) (before out octets : List ℕ) (cleared : before ≡ []) (octets_are : octets ≡ out) (turns turns1 : Option (List Turn))
      (asked : Grew turns turns1 (speaks seen.line octets)) where
    asked_so : Grew turns turns1 (speaks linked.line out)
    asked_so = asked_as _ _ _ _ _ _ (ap (λ (l : Linked). l.line) seen_is) octets_are asked

    on_old : (up : Bool) → going up linked' k ≡ going up linked' old
    on_old up = ap (going up linked') same

    pub check_stays : (time : ℕ) (news : Option News) → seen.made ≡ true → LinkSays (woken time linked.since) news linked linked' before out
        → is_some news ≡ false
        → TookSo (checks time) news old (going false linked' k) turns turns1
    check_stays time None on says off =
        check_open _ _ _ old_link _ _ _ _ _ _ (sym (ap (λ (l : Linked). l.made) seen_is) ∙ on)
        (subst (λ b. LinkSays (woken time linked.since) None linked linked' b out) cleared says) asked_so refl (on_old false)
    check_stays time (Some done) on says off = absurd (let never : true ≡ false = off in cc)

    pub check_closes : (time : ℕ) (news : Option News) (new : Keeping) (turns2 : Option (List Turn)) → seen.made ≡ true
        → LinkSays (woken time linked.since) news linked linked' before out
        → is_some news ≡ true → Grew turns1 turns2 (shut seen.line ∷ []) → new ≡ let_go time k → TookSo (checks time) news old new turns turns2
    check_closes time None new turns2 on says loud closed goes = absurd (let never : false ≡ true = loud in cc)
    check_closes time (Some done) new turns2 on says loud closed goes =
        check_shut _ _ _ old_link _ _ _ _ _ _ _ _ (sym (ap (λ (l : Linked). l.made) seen_is) ∙ on)
        (subst (λ b. LinkSays (woken time linked.since) (Some done) linked linked' b out) cleared says) asked_so refl
        (shut_as _ _ _ _ (ap (λ (l : Linked). l.line) seen_is) closed) (goes ∙ ap (let_go time) same)

    pub begin_this : (line time : ℕ) → ((linked.line == line) && not linked.made) ≡ true
        → (linked.end.started ≡ false
        → (linked' ≡ record linked { made = true; since = time; end = has_started linked.end })
        × (out ≡ before ++ open_sent linked.end.config linked.end.peer linked.end.sending))
        → TookSo (at_line line (λ connection. not connection.made) (begins old.config time)) None old (going false linked' k) turns turns1
    begin_this line time at_it begun =
        at_this _ _ _ _ _ _ _ _ _ _ old_link (λ connection e. ap not (sym e)) at_it
        (begun_so _ _ _ _ _ _ _ _ (false_of_not linked.made (and_parts (linked.line == line) (not linked.made) at_it).1)
        (λ fresh. subst (λ b. (linked' ≡ record linked { made = true; since = time; end = has_started linked.end })
        × (out ≡ b ++ open_sent linked.end.config linked.end.peer linked.end.sending)) cleared (begun fresh))
        asked_so (on_old false))

    module _ (line time : ℕ) (piece : List ℕ) (at_it : ((linked.line == line) && linked.made) ≡ true) where
      pub receive_closes : (news : Option News) (new : Keeping) (turns2 : Option (List Turn))
          → LinkSays (received (machine_in linked.end) time piece) news linked linked' before out
          → is_some news ≡ true → Grew turns1 turns2 (shut seen.line ∷ []) → new ≡ let_go time k
          → TookSo (at_line line (λ connection. connection.made) (receives old.config time piece)) news old new turns turns2
      receive_closes None new turns2 says loud closed goes = absurd (let never : false ≡ true = loud in cc)
      receive_closes (Some done) new turns2 says loud closed goes =
          at_this _ _ _ _ _ _ _ _ _ _ old_link (λ connection e. sym e) at_it (received_shut _ _ _ _ _ _ _ _ _
          (subst (λ b. LinkSays (received (machine_in linked.end) time piece) (Some done) linked linked' b out) cleared says) asked_so _ _ _ refl
          (shut_as _ _ _ _ (ap (λ (l : Linked). l.line) seen_is) closed) (goes ∙ ap (let_go time) same))

      pub receive_stays : (news : Option News) (up : Bool) → LinkSays (received (machine_in linked.end) time piece) news linked linked' before out
          → is_some news ≡ false
          → up ≡ (is_established (state_in linked'.end.line) && not (is_established (state_in linked.end.line)))
          → TookSo (at_line line (λ connection. connection.made) (receives old.config time piece)) (news_up up) old (going up linked' k) turns turns1
      receive_stays None up says off up_is =
          subst (λ u. TookSo (at_line line (λ connection. connection.made) (receives old.config time piece)) (news_up u) old
          (going u linked' k) turns turns1) (sym up_is) (at_this _ _ _ _ _ _ _ _ _ _ old_link (λ connection e. sym e) at_it
          (received_open _ _ _ _ _ _ _ _ _
          (subst (λ b. LinkSays (received (machine_in linked.end) time piece) None linked linked' b out) cleared says) asked_so _
          _ _ refl refl refl (on_old _)))
      receive_stays (Some done) up says off up_is = absurd (let never : true ≡ false = off in cc)

-- whether it has come up
pub came_as : (up now was was' : Bool) → up ≡ (now && not was) → was ≡ was' → up ≡ (now && not was')
came_as up now was was' e f = subst (λ w. up ≡ (now && not w)) f e

-- no connection is there
pub check_no : (k old : Keeping) (time : ℕ) (turns : Option (List Turn)) → k ≡ old → k.link ≡ None → TookSo (checks time) None old k turns turns
check_no k old time turns same none =
    subst (λ (o : Keeping). TookSo (checks time) None o k turns turns) same (check_none _ _ _ none)

pub line_no : (k old : Keeping) (line : ℕ) (fits : Connection → Bool) (act : Connection → Kept → Outcome) (turns : Option (List Turn)) → k ≡ old → k.link ≡ None
    → TookSo (at_line line fits act) None old k turns turns
line_no k old line fits act turns same none =
    subst (λ (o : Keeping). TookSo (at_line line fits act) None o k turns turns) same (at_none _ _ _ _ none turns)

-- handing on a result
pub ok_on : {T E : Type 0} {P Q : T → Type 0} (result : Result T E) → IfOk result P → ((value : T) → P value → Q value) → IfOk result Q
ok_on (Ok value) p f = f value p
ok_on (Err error) p f = tt

-- a connection is dialled
pub dial_took : (k old : Keeping) (line time passed : ℕ) (address : List ℕ) (sending : Sending) (linked seen : Linked)
    (turns turns1 : Option (List Turn)) → k ≡ old
    → CanSend k.config (sender_of k.config.peers) sending → is_some k.link ≡ false → k.rules ≡ Some sending → passed ≡ time - k.since → k.wait ≤ passed
    → Grew turns turns1 (dialled line address ∷ [])
    → IfSome (sender_of k.config.peers)
    (λ peer. linked ≡ record { line = 0; made = false; since = time; told = false; end = announcing k.config peer sending fresh false 0 })
    → seen ≡ linked
    → TookSo (dials old.config line time address) None old (going false (record seen { line = line }) k) turns turns1
dial_took k old line time passed address sending linked seen turns turns1 same can none rules_are passed_is late asked made seen_is =
    subst (λ (o : Keeping). TookSo (dials o.config line time address) None o (going false (record seen { line = line }) k) turns turns1) same
    (by _ refl can made)
  where
    gone : (link : Option Linked) → is_some link ≡ false → link ≡ None
    gone None off = refl
    gone (Some l) off = absurd (let never : true ≡ false = off in cc)

    not_early : nat_lt (time - k.since) k.wait ≡ false
    not_early = subst (λ n. nat_lt n k.wait ≡ false) passed_is (grind (arith, nat_tests))

    by : (sender : Option Peer) → sender_of k.config.peers ≡ sender → CanSend k.config sender sending
        → IfSome sender (λ peer. linked ≡ record { line = 0; made = false; since = time; told = false; end = announcing k.config peer sending fresh false 0 })
        → TookSo (dials k.config line time address) None k (going false (record seen { line = line }) k) turns turns1
    by None e can made = absurd can
    by (Some peer) e can made =
        dial_new _ _ _ _ _ _ _ _ _ (gone _ none) rules_are e not_early asked
        (ap (λ (l : Linked). going false (record l { line = line }) k) (seen_is ∙ made))

pub dial_still : (k old : Keeping) (time : ℕ) (address : List ℕ) (turns : Option (List Turn)) → k ≡ old → is_some k.link ≡ true
    → TookSo (dials old.config 0 time address) None old old turns turns
dial_still k old time address turns same on = dial_there _ _ _ _ _ (subst (λ (o : Keeping). is_some o.link ≡ true) same on)

pub dial_soon : (k old : Keeping) (time passed : ℕ) (address : List ℕ) (turns : Option (List Turn)) → k ≡ old → passed ≡ time - k.since → passed < k.wait
    → TookSo (dials old.config 0 time address) None old old turns turns
dial_soon k old time passed address turns same passed_is early =
    dial_early _ _ _ _ _
    (subst (λ (o : Keeping). nat_lt (time - o.since) o.wait ≡ true) same (subst (λ n. nat_lt n k.wait ≡ true) passed_is (grind (arith, nat_tests))))

pub dial_none : (k old : Keeping) (time : ℕ) (address : List ℕ) (turns : Option (List Turn)) → k ≡ old → k.rules ≡ None
    → TookSo (dials old.config 0 time address) None old old turns turns
dial_none k old time address turns same none = dial_idle _ _ _ _ _ (subst (λ (o : Keeping). o.rules ≡ None) same none)

-- other rules are accepted
pub accept_off : (k old : Keeping) (time : ℕ) (rules : Sending) (dest : Option Sending) (turns : Option (List Turn)) → k ≡ old
    → CanSend old.config (sender_of old.config.peers) rules
    → dest ≡ Some rules → is_told k.link ≡ false → TookSo (accepts old.config time rules) None old (record k { rules = dest }) turns turns
accept_off k old time rules dest turns same can dest_is off =
    accept_rests _ _ _ can _ _ (subst (λ (o : Keeping). is_told o.link ≡ false) same off)
    (ap (λ (d : Option Sending). record k { rules = d }) dest_is ∙ ap (λ (o : Keeping). record o { rules = Some rules }) same)

pub accept_on : (k old new : Keeping) (time : ℕ) (rules : Sending) (dest told : Option Sending) (news : Option News)
    (turns turns' : Option (List Turn)) → k ≡ old
    → CanSend old.config (sender_of old.config.peers) rules → dest ≡ Some rules → is_told k.link ≡ true → told ≡ k.rules
    → TellsSo time told news (record k { rules = dest }) new turns turns' → TookSo (accepts old.config time rules) news old new turns turns'
accept_on k old new time rules dest told news turns turns' same can dest_is on told_is tells =
    accept_tells _ _ _ can _ _ _ _ _ (subst (λ (o : Keeping). is_told o.link ≡ true) same on)
    (ap (λ (d : Option Sending). record k { rules = d }) dest_is ∙ ap (λ (o : Keeping). record o { rules = Some rules }) same)
    (subst (λ (t : Option Sending). TellsSo time t news (record k { rules = dest }) new turns turns') (told_is ∙ ap (λ (o : Keeping). o.rules) same) tells)

-- the rules are told
module _ (k old : Keeping) (same : k ≡ old) (time : ℕ) (told : Option Sending) (linked seen : Linked) (rules : Sending)
    (link_is : k.link ≡ Some linked) (rules_are : k.rules ≡ Some rules)
    (seen_is : seen ≡ linked) (done : News) (closes : Bool) (linked' : Linked) (before out octets : List ℕ) (cleared : before ≡ []) (octets_are : octets ≡ out)
    (tells : LinkTells told rules (done, closes) linked linked' before out) (turns turns1 : Option (List Turn))
    (asked : Grew turns turns1 (speaks seen.line octets)) where
  tells_so : LinkTells told rules (done, closes) linked linked' [] out
  tells_so = subst (λ b. LinkTells told rules (done, closes) linked linked' b out) cleared tells

  asked_here : Grew turns turns1 (speaks linked.line out)
  asked_here = asked_as _ _ _ _ _ _ (ap (λ (l : Linked). l.line) seen_is) octets_are asked

  pub tell_stays : closes ≡ false → TellsSo time told (Some done) old (going false linked' k) turns turns1
  tell_stays off =
      subst (λ (o : Keeping). TellsSo time told (Some done) o (going false linked' k) turns turns1) same
      (tells_by _ _ _ _ _ _ _ _ _ link_is rules_are (tells_on _ _ _ _ _ _ _ _ _ _ _ _
      (subst (λ b. LinkTells told rules (done, b) linked linked' [] out) off tells_so) asked_here refl))

  pub tell_closes : (new : Keeping) (turns2 : Option (List Turn)) → closes ≡ true → Grew turns1 turns2 (shut seen.line ∷ []) → new ≡ let_go time k
      → TellsSo time told (Some done) old new turns turns2
  tell_closes new turns2 on closed goes =
      subst (λ (o : Keeping). TellsSo time told (Some done) o new turns turns2) same (tells_by _ _ _ _ _ _ _ _ _ link_is rules_are
      (tells_shut _ _ _ _ _ _ _ _ _ _ _ _ _
      (subst (λ b. LinkTells told rules (done, b) linked linked' [] out) on tells_so) asked_here
      (shut_as _ _ _ _ (ap (λ (l : Linked). l.line) seen_is) closed) goes))

pub tell_no : (k old : Keeping) (time : ℕ) (told : Option Sending) (turns : Option (List Turn)) → k ≡ old → k.link ≡ None
    → TellsSo time told None old k turns turns
tell_no k old time told turns same none = subst (λ (o : Keeping). TellsSo time told None o k turns turns) same (tells_none _ _ _ _ none)

pub tell_idle : (k old : Keeping) (linked : Linked) (time : ℕ) (told : Option Sending) (turns : Option (List Turn)) → k ≡ old → k.link ≡ Some linked
    → k.rules ≡ None
    → TellsSo time told None old (record k { link = Some linked }) turns turns
tell_idle k old linked time told turns same link_is none =
    subst (λ (n : Keeping). TellsSo time told None old n turns turns) (sym same ∙ ap (λ (l : Option Linked). record k { link = l }) link_is)
    (subst (λ (o : Keeping). TellsSo time told None o o turns turns) same (tells_idle _ _ _ _ none))

pub err_on : {T E : Type 0} {X Y : Type 0} (result : Result T E) → OnErr result X → (X → Y) → OnErr result Y
err_on (Ok value) x f = tt
err_on (Err error) x f = f x

-- the connection that was begun is the sender's
pub dial_fits : (config : Config) (rules : Option Sending) (link : Option Linked) (line time : ℕ) (sending : Sending) (linked seen : Linked)
    → Fits config rules link
    → CanSend config (sender_of config.peers) sending
    → IfSome (sender_of config.peers)
    (λ peer. linked ≡ record { line = 0; made = false; since = time; told = false; end = announcing config peer sending fresh false 0 })
    → seen ≡ linked → Fits config rules (Some (record seen { line = line }))
dial_fits config rules link line time sending linked seen fits can made seen_is = by _ refl can made
  where
    by : (sender : Option Peer) → sender_of config.peers ≡ sender → CanSend config sender sending
        → IfSome sender (λ peer. linked ≡ record { line = 0; made = false; since = time; told = false; end = announcing config peer sending fresh false 0 })
        → Fits config rules (Some (record seen { line = line }))
    by None e can made = absurd can
    by (Some peer) e can made = record {
      sendable = fits.sendable;
      own = record {
        config_is = ap (λ (l : Linked). l.end.config) (seen_is ∙ made);
        sender = e ∙ ap (λ (l : Linked). Some l.end.peer) (sym (seen_is ∙ made));
      };
    }

-- the clock has closed the session, or hasn't
pub hear_closes : (config : Config) (time : ℕ) (what : What) (old mid : Keeping) (turns turns1 : Option (List Turn)) (news : Option News) → is_some news ≡ true
    → TookSo (checks time) news old mid turns turns1 → TookSo (hears config time what) news old mid turns turns1
hear_closes config time what old mid turns turns1 None loud first = absurd (let never : false ≡ true = loud in cc)
hear_closes config time what old mid turns turns1 (Some done) loud first = hear_shut config _ _ _ _ _ _ _ first

pub quiet_first : (time : ℕ) (old mid : Keeping) (turns turns1 : Option (List Turn)) (news : Option News) → is_some news ≡ false
    → TookSo (checks time) news old mid turns turns1 → TookSo (checks time) None old mid turns turns1
quiet_first time old mid turns turns1 None off first = first
quiet_first time old mid turns turns1 (Some done) off first = absurd (let never : true ≡ false = off in cc)
