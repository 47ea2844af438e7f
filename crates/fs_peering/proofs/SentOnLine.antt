-- What counts as said through a kept connection was sent on its line, where no line was dialled twice.
use Rattle.fs_base.specs.Gate.{Turn, What, came, dialled as begun, ended, gave, made, nothing, read, said, shut, taken}
use Rattle.fs_base.proofs.Bools.{and_parts, false_of_not, or_false}
use Rattle.fs_peering.specs.Keeper.{Connection, Kept, Outcome, accepts, at_first, at_line, begins, begins_one, change_text, checks, comes_up}
use Rattle.fs_peering.specs.Keeper.{dialling, dials, ends, exceeds, follows, hears, is_up, lets_go, news_told, outcome, parts, receives, speaks}
use Rattle.fs_peering.specs.Keeper.{tells, tells_all, terms_at, wakes, with_connection, with_rules, machine_of, news_up, rises, spoke}
use Rattle.fs_peering.specs.KeeperLaws.{Act, SendsAll, accepted, acted, are_new, asked, asked_from, dialled, heard, is_among, kept_from, sent_on}
use Rattle.fs_peering.specs.KeeperLaws.{told_all}
use Rattle.fs_peering.specs.declared.keeper.News.{News}
use Rattle.fs_peering.proofs.Words.{Bool, Closed, Config, Fault, List, None, Option, Peer, Sending, Some, [], ap, append-nil, append_assoc, arith}
use Rattle.fs_peering.proofs.Words.{false, if◌then◌else◌, is_some, nat_tests, needs_of, not, notice_text, open_sent, refl, same_Some, subst, sym}
use Rattle.fs_peering.proofs.Words.{true, true≢false, ℕ, ◌++◌, ◌==◌, ◌||◌, ◌∙◌, ◌∷◌, ◌≡◌, Handed, hand, ticked}
use Rattle.fs_peering.proofs.Outcomes.{accepts_each, checks_each, dials_each, line_each, receives_each, tells_all_each, wakes_each}

-- LINES

itself : (line : ℕ) → (line == line) ≡ true
itself line = grind (arith, nat_tests)

one_line : (a b : ℕ) → (a == b) ≡ true → a ≡ b
one_line a b e = grind (arith, nat_tests, e)

-- one that was seen isn't one that wasn't
apart : (seen : List ℕ) (line other : ℕ) → is_among line seen ≡ true → is_among other seen ≡ false → (line == other) ≡ false
apart seen line other i o = by (line == other) refl
  where
    by : (b : Bool) → (line == other) ≡ b → (line == other) ≡ false
    by false e = e
    by true e = absurd (true≢false (sym i ∙ ap (λ (n : ℕ). is_among n seen) (one_line line other e) ∙ o))

abbrev seen_after : List ℕ → List Turn → List ℕ
seen_after seen [] = seen
seen_after seen (begun line address ∷ turns) = seen_after (line ∷ seen) turns
seen_after seen (_ ∷ turns) = seen_after seen turns

seen_joined : (seen : List ℕ) (turns more : List Turn) → seen_after seen (turns ++ more) ≡ seen_after (seen_after seen turns) more
seen_joined seen [] more = refl
seen_joined seen (begun line address ∷ turns) more = seen_joined (line ∷ seen) turns more
seen_joined seen (said line octets ∷ turns) more = seen_joined seen turns more
seen_joined seen (shut line ∷ turns) more = seen_joined seen turns more
seen_joined seen (came moment time what ∷ turns) more = seen_joined seen turns more
seen_joined seen (read moment time name content ∷ turns) more = seen_joined seen turns more

new_joined : (seen : List ℕ) (turns more : List Turn) → are_new seen (turns ++ more) ≡ true
    → (are_new seen turns ≡ true) × (are_new (seen_after seen turns) more ≡ true)
new_joined seen [] more e = (refl, e)
new_joined seen (begun line address ∷ turns) more e =
    let parts = and_parts (not (is_among line seen)) (are_new (line ∷ seen) (turns ++ more)) e in
    let rest = new_joined (line ∷ seen) turns more parts.1 in
    (rw (parts.0, rest.0) refl, rest.1)
new_joined seen (said line octets ∷ turns) more e = new_joined seen turns more e
new_joined seen (shut line ∷ turns) more e = new_joined seen turns more e
new_joined seen (came moment time what ∷ turns) more e = new_joined seen turns more e
new_joined seen (read moment time name content ∷ turns) more e = new_joined seen turns more e

sent_joined : (line : ℕ) (turns more : List Turn) → sent_on line (turns ++ more) ≡ sent_on line turns ++ sent_on line more
sent_joined line [] more = refl
sent_joined line (said other octets ∷ turns) more =
    ap (λ (z : List ℕ). (if other == line then octets else []) ++ z) (sent_joined line turns more)
    ∙ sym (append_assoc (if other == line then octets else []) (sent_on line turns) (sent_on line more))
sent_joined line (begun other address ∷ turns) more = sent_joined line turns more
sent_joined line (shut other ∷ turns) more = sent_joined line turns more
sent_joined line (came moment time what ∷ turns) more = sent_joined line turns more
sent_joined line (read moment time name content ∷ turns) more = sent_joined line turns more

-- octets that are sent on a line are sent there, and on no other
speaks_seen : (seen : List ℕ) (line : ℕ) (text : List ℕ) (more : List Turn) → seen_after seen (speaks line text ++ more) ≡ seen_after seen more
speaks_seen seen line [] more = refl
speaks_seen seen line (octet ∷ octets) more = refl

speaks_there : (line : ℕ) (text : List ℕ) → sent_on line (speaks line text) ≡ text
speaks_there line [] = refl
speaks_there line (octet ∷ octets) =
    ap (λ (b : Bool). (if b then octet ∷ octets else []) ++ []) (itself line) ∙ append-nil (octet ∷ octets)

speaks_other : (line other : ℕ) (text : List ℕ) → (line == other) ≡ false → sent_on other (speaks line text) ≡ []
speaks_other line other [] e = refl
speaks_other line other (octet ∷ octets) e = ap (λ (b : Bool). (if b then octet ∷ octets else []) ++ []) e

-- HOW IT STANDS

-- before it is made nothing was said, and it was told nothing
abbrev IsIdle : Connection → Type 0
IsIdle c = (c.spoken ≡ []) × ((c.told ≡ None) × (is_up c.point ≡ false))

pub record IsSent (seen : List ℕ) (turns : List Turn) (c : Connection) : Type 0 where
  pub among : is_among c.line seen ≡ true
  pub all_is : sent_on c.line turns ≡ c.spoken
  pub idle : c.made ≡ false → IsIdle c

-- On lines that weren't seen nothing was sent; on the connection's what counts as said.
pub record Sends (seen : List ℕ) (turns : List Turn) (kept : Kept) : Type 0 where
  pub others : (line : ℕ) → is_among line seen ≡ false → sent_on line turns ≡ []
  pub own : (c : Connection) → kept.connection ≡ Some c → IsSent seen turns c

abbrev Does : List ℕ → List Turn → Outcome → Type 0
Does seen turns made_so = are_new seen made_so.turns ≡ true → Sends (seen_after seen made_so.turns) (turns ++ made_so.turns) made_so.kept

none_there : (c : Connection) → None ≡ Some c → ⊥
none_there c e = cc

module _ (seen : List ℕ) (turns : List Turn) where
  -- nothing is asked
  asks_none : (news : Option News) (kept : Kept) → Sends seen turns kept → Does seen turns (outcome [] news kept)
  asks_none news kept s n = subst (λ (t : List Turn). Sends seen t kept) (sym (append-nil turns)) s

  goes : (time : ℕ) (kept : Kept) → Sends seen turns kept → Sends seen turns (lets_go time kept)
  goes time kept s = record { others = s.others; own = λ c e. absurd (none_there c e) }

  -- octets are sent
  still_other : (c : Connection) (text : List ℕ) → ((line : ℕ) → is_among line seen ≡ false → sent_on line turns ≡ []) → is_among c.line seen ≡ true
      → (line : ℕ) → is_among line seen ≡ false → sent_on line (turns ++ speaks c.line text) ≡ []
  still_other c text others among line h =
      sent_joined line turns (speaks c.line text) ∙ ap (λ (z : List ℕ). z ++ sent_on line (speaks c.line text)) (others line h)
      ∙ speaks_other c.line line text (apart seen c.line line among h)

  module _ (c x : Connection) (text : List ℕ) (line_is : x.line ≡ c.line) (spoken_is : x.spoken ≡ c.spoken ++ text) (idle : x.made ≡ false → IsIdle x) where
    says : (news : Option News) (kept : Kept) → ((line : ℕ) → is_among line seen ≡ false → sent_on line turns ≡ []) → IsSent seen turns c
        → Does seen turns (outcome (speaks c.line text) news (with_connection (Some x) kept))
    says news kept others i n =
        subst (λ (s : List ℕ). Sends s (turns ++ speaks c.line text) (with_connection (Some x) kept)) (sym same) (record {
          others = still_other c text others i.among;
          own = λ d e. subst (IsSent seen (turns ++ speaks c.line text)) (same_Some x d e) is;
        })
      where
        same : seen_after seen (speaks c.line text) ≡ seen
        same = ap (seen_after seen) (sym (append-nil (speaks c.line text))) ∙ speaks_seen seen c.line text []

        is : IsSent seen (turns ++ speaks c.line text) x
        is = record {
          among = ap (λ (m : ℕ). is_among m seen) line_is ∙ i.among;
          all_is =
              ap (λ (m : ℕ). sent_on m (turns ++ speaks c.line text)) line_is
              ∙ sent_joined c.line turns (speaks c.line text)
              ∙ ap (λ (z : List ℕ). z ++ sent_on c.line (speaks c.line text)) i.all_is
              ∙ ap (λ (z : List ℕ). c.spoken ++ z) (speaks_there c.line text)
              ∙ sym spoken_is;
          idle = idle;
        }

  -- and the connection is closed
  closes : (c : Connection) (text : List ℕ) (why : Closed) (time : ℕ) (kept : Kept) → ((line : ℕ) → is_among line seen ≡ false → sent_on line turns ≡ [])
      → is_among c.line seen ≡ true → Does seen turns (parts text why time c kept)
  closes c text why time kept others among n =
      subst (λ (s : List ℕ). Sends s (turns ++ (speaks c.line text ++ shut c.line ∷ [])) (lets_go time kept))
      (sym (speaks_seen seen c.line text (shut c.line ∷ []))) (record {
        others = λ line h.
            ap (sent_on line) (sym (append_assoc turns (speaks c.line text) (shut c.line ∷ [])))
            ∙ sent_joined line (turns ++ speaks c.line text) (shut c.line ∷ [])
            ∙ ap (λ (z : List ℕ). z ++ []) (still_other c text others among line h);
        own = λ d e. absurd (none_there d e);
      })

  -- a connection is dialled
  begins_new : (line time : ℕ) (address : List ℕ) (peer : Peer) (sending : Sending) (kept : Kept) → Sends seen turns kept
      → Does seen turns (begins_one line time address peer sending kept)
  begins_new line time address peer sending kept s n = record {
    others = λ other h.
        sent_joined other turns (begun line address ∷ []) ∙ append-nil (sent_on other turns)
        ∙ s.others other (or_false (line == other) (is_among other seen) (turned other h)).1;
    own = λ d e. subst (IsSent (line ∷ seen) (turns ++ begun line address ∷ [])) (same_Some (dialling line time peer sending) d e) is;
  }
    where
      turned : (other : ℕ) → is_among other (line ∷ seen) ≡ false → ((line == other) || is_among other seen) ≡ false
      turned other h = h

      fresh_one : is_among line seen ≡ false
      fresh_one = false_of_not (is_among line seen) (and_parts (not (is_among line seen)) true n).0

      is : IsSent (line ∷ seen) (turns ++ begun line address ∷ []) (dialling line time peer sending)
      is = record {
        among = ap (λ (b : Bool). b || is_among line seen) (itself line);
        all_is = sent_joined line turns (begun line address ∷ []) ∙ append-nil (sent_on line turns) ∙ s.others line fresh_one;
        idle = λ m. (refl, (refl, refl));
      }

-- THE STEPS

never_false : (b : Bool) → b ≡ true → b ≡ false → ⊥
never_false b e f = true≢false (sym e ∙ f)

module _ (config : Config) where
  wakes_sent : (seen : List ℕ) (turns : List Turn) (time : ℕ) (c : Connection) (kept : Kept) → Sends seen turns kept → IsSent seen turns c → c.made ≡ true
      → Does seen turns (wakes time c kept)
  wakes_sent seen turns time c kept s i m = wakes_each (Does seen turns) time c kept (λ text why. closes seen turns c text why time kept s.others i.among)
      (λ e. says seen turns c (spoke (ticked time c.point).text (ticked time c.point).point c) (ticked time c.point).text refl refl
      (λ f. absurd (never_false c.made m f)) None kept s.others i)

  checks_sent : (seen : List ℕ) (turns : List Turn) (time : ℕ) (kept : Kept) → Sends seen turns kept → Does seen turns (checks time kept)
  checks_sent seen turns time kept s =
      checks_each (Does seen turns) time kept (asks_none seen turns None kept s) (λ c e m. wakes_sent seen turns time c kept s (s.own c e) m)

  receives_sent : (seen : List ℕ) (turns : List Turn) (time : ℕ) (piece : List ℕ) (c : Connection) (kept : Kept) → Sends seen turns kept
      → IsSent seen turns c → c.made ≡ true
      → Does seen turns (receives config time piece c kept)
  receives_sent seen turns time piece c kept s i m =
      receives_each (Does seen turns) config time piece c kept (λ text why. closes seen turns c text why time kept s.others i.among)
      (λ e. let made_so : Handed = hand (machine_of config c) time c.point piece in
      says seen turns c (spoke made_so.text made_so.point c) made_so.text refl refl (λ f. absurd (never_false c.made m f))
      (news_up (rises c.point made_so.point)) (comes_up (rises c.point made_so.point) kept) s.others i)

  line_sent : (seen : List ℕ) (turns : List Turn) (line : ℕ) (test : Connection → Bool) (act : Connection → Kept → Outcome) (kept : Kept)
      → Sends seen turns kept
      → ((c : Connection) → kept.connection ≡ Some c → test c ≡ true → Does seen turns (act c kept)) → Does seen turns (at_line line test act kept)
  line_sent seen turns line test act kept s acts = line_each (Does seen turns) line test act kept (asks_none seen turns None kept s) acts

  begins_sent : (seen : List ℕ) (turns : List Turn) (time : ℕ) (c : Connection) (kept : Kept) → Sends seen turns kept → IsSent seen turns c → c.made ≡ false
      → Does seen turns (begins config time c kept)
  begins_sent seen turns time c kept s i m =
      let text : List ℕ = open_sent config c.peer c.asked in
      says seen turns c (record c { made = true; since = time; spoken = text }) text refl (sym (ap (λ (z : List ℕ). z ++ text) (i.idle m).0))
      (λ f. absurd (true≢false f)) None kept s.others i

  follows_sent : (seen : List ℕ) (turns : List Turn) (time : ℕ) (what : What) (kept : Kept) → Sends seen turns kept
      → Does seen turns (follows config time what kept)
  follows_sent seen turns time (made line) kept s =
      line_sent seen turns line (λ c. not c.made) (begins config time) kept s
      (λ c e m. begins_sent seen turns time c kept s (s.own c e) (false_of_not c.made m))
  follows_sent seen turns time (gave line piece) kept s =
      line_sent seen turns line (λ c. c.made) (receives config time piece) kept s (λ c e m. receives_sent seen turns time piece c kept s (s.own c e) m)
  follows_sent seen turns time (ended line) kept s =
      line_sent seen turns line (λ c. true) (ends time) kept s
      (λ c e m. asks_none seen turns (ends time c kept).news (lets_go time kept) (goes seen turns time kept s))
  follows_sent seen turns time (taken line from) kept s = asks_none seen turns None kept s
  follows_sent seen turns time nothing kept s = asks_none seen turns None kept s

  hears_sent : (seen : List ℕ) (turns : List Turn) (time : ℕ) (what : What) (kept : Kept) → Sends seen turns kept
      → Does seen turns (hears config time what kept)
  hears_sent seen turns time what kept s n =
      subst (λ (t : List Turn). Sends (seen_after seen (first.turns ++ later.turns)) t later.kept) (append_assoc turns first.turns later.turns)
      (subst (λ (l : List ℕ). Sends l ((turns ++ first.turns) ++ later.turns) later.kept) (sym (seen_joined seen first.turns later.turns))
      (follows_sent (seen_after seen first.turns) (turns ++ first.turns) time what first.kept (checks_sent seen turns time kept s parts.0) parts.1))
    where
      first : Outcome
      first = checks time kept

      later : Outcome
      later = follows config time what first.kept

      parts : (are_new seen first.turns ≡ true) × (are_new (seen_after seen first.turns) later.turns ≡ true)
      parts = new_joined seen first.turns later.turns n

  dials_sent : (seen : List ℕ) (turns : List Turn) (line time : ℕ) (address : List ℕ) (kept : Kept) → Sends seen turns kept
      → Does seen turns (dials config line time address kept)
  dials_sent seen turns line time address kept s =
      dials_each (Does seen turns) config line time address kept (asks_none seen turns None kept s)
      (λ sending r peer e. begins_new seen turns line time address peer sending kept s)

  -- RULES ARE TOLD
  tells_sent : (seen : List ℕ) (turns : List Turn) (time : ℕ) (new : Sending) (c : Connection) (kept : Kept)
      → ((line : ℕ) → is_among line seen ≡ false → sent_on line turns ≡ [])
      → IsSent seen turns c → c.made ≡ true → Does seen turns (tells config time new c kept)
  tells_sent seen turns time new c kept others i m = by (exceeds (needs_of c.asked.rules) (needs_of new.rules))
    where
      text : List ℕ
      text = change_text (terms_at config c) c.told new

      told_so : Connection
      told_so = record c { spoken = c.spoken ++ text; told = Some new }

      by : (b : Bool) → Does seen turns (if b then parts (notice_text 6 6) (Fault 6 6) time c kept
          else outcome (speaks c.line text) (Some (news_told (terms_at config c) c.told new)) (with_connection (Some told_so) kept))
      by true = closes seen turns c (notice_text 6 6) (Fault 6 6) time kept others i.among
      by false = says seen turns c told_so text refl refl (λ f. absurd (never_false c.made m f)) (Some (news_told (terms_at config c) c.told new)) kept others i

  made_told : (seen : List ℕ) (turns : List Turn) (c : Connection) → IsSent seen turns c → is_some c.told ≡ true → c.made ≡ true
  made_told seen turns c i t = by c.made refl
    where
      by : (b : Bool) → c.made ≡ b → c.made ≡ true
      by true m = m
      by false m = absurd (true≢false (sym t ∙ ap is_some (i.idle m).1.0))

  made_up : (seen : List ℕ) (turns : List Turn) (c : Connection) → IsSent seen turns c → is_up c.point ≡ true → c.made ≡ true
  made_up seen turns c i t = by c.made refl
    where
      by : (b : Bool) → c.made ≡ b → c.made ≡ true
      by true m = m
      by false m = absurd (true≢false (sym t ∙ (i.idle m).1.1))

  accepts_sent : (seen : List ℕ) (turns : List Turn) (time : ℕ) (new : Sending) (kept : Kept) → Sends seen turns kept
      → Does seen turns (accepts config time new kept)
  accepts_sent seen turns time new kept s =
      accepts_each (Does seen turns) config time new kept
      (λ idle. asks_none seen turns None (with_rules new kept) (record { others = s.others; own = s.own }))
      (λ c e f. tells_sent seen turns time new c (with_rules new kept) s.others (s.own c e) (made_told seen turns c (s.own c e) f))

  tells_all_sent : (seen : List ℕ) (turns : List Turn) (time : ℕ) (kept : Kept) → Sends seen turns kept → Does seen turns (tells_all config time kept)
  tells_all_sent seen turns time kept s = tells_all_each (Does seen turns) config time kept (asks_none seen turns None kept s)
      (λ c e new r f. tells_sent seen turns time new c kept s.others (s.own c e) (made_up seen turns c (s.own c e) f))

  -- ALL ACTS
  acted_sent : (seen : List ℕ) (turns : List Turn) (act : Act) (kept : Kept) → Sends seen turns kept → are_new seen (asked config kept act) ≡ true
      → Sends (seen_after seen (asked config kept act)) (turns ++ asked config kept act) (acted config kept act)
  acted_sent seen turns (heard time what) kept s = hears_sent seen turns time what kept s
  acted_sent seen turns (dialled line time address) kept s = dials_sent seen turns line time address kept s
  acted_sent seen turns (accepted time new) kept s = accepts_sent seen turns time new kept s
  acted_sent seen turns (told_all time) kept s = tells_all_sent seen turns time kept s

  all_sent : (seen : List ℕ) (turns : List Turn) (acts : List Act) (kept : Kept) → Sends seen turns kept → are_new seen (asked_from config kept acts) ≡ true
      → Sends (seen_after seen (asked_from config kept acts)) (turns ++ asked_from config kept acts) (kept_from config kept acts)
  all_sent seen turns [] kept s n = subst (λ (t : List Turn). Sends seen t kept) (sym (append-nil turns)) s
  all_sent seen turns (act ∷ acts) kept s n =
      let first : List Turn = asked config kept act in
      let next : Kept = acted config kept act in
      let later : List Turn = asked_from config next acts in
      let parts = new_joined seen first later n in
      subst (λ (t : List Turn). Sends (seen_after seen (first ++ later)) t (kept_from config next acts)) (append_assoc turns first later)
      (subst (λ (l : List ℕ). Sends l ((turns ++ first) ++ later) (kept_from config next acts)) (sym (seen_joined seen first later))
      (all_sent (seen_after seen first) (turns ++ first) acts next (acted_sent seen turns act kept s parts.0) parts.1))

pub sends_all : SendsAll
sends_all config acts c n e = ((all_sent config [] [] acts at_first (record { others = λ line h. refl; own = λ d f. absurd (none_there d f) }) n).own
    c e).all_is
