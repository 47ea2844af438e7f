-- A connection's end of the session: what it says, and how it closes.
use Rattle.std.specs.Prelude.{◌≢◌}
use Rattle.fs_peering.proofs.Words.{Announcing, Closed, Expires, Fault, Keeps, Memory, Phase, Point, Quiet, Result, Err, Ok, StandsAt, Starts}
use Rattle.fs_peering.proofs.Words.{StartsOpen, StartsWith, StaysEnded, Tick, TicksOver, at_moment, hand, has_started, IfOk, OnOk, is_established}
use Rattle.fs_peering.proofs.Words.{machine_in, open_sent, state_in, tick_at, ticked, ticks, with_line, ◌≡◌, ◌&&◌, ℕ, ◌-◌, List, ◌++◌, Bool, true}
use Rattle.fs_peering.proofs.Words.{false, not, nat_lt, if◌then◌else◌, Option, Some, None, refl, ap, sym, ◌∙◌, subst, append_assoc, none-some}
use Rattle.fs_peering.proofs.Words.{notice_text, SaysTo}
use Rattle.fs_peering.proofs.{Ahead.{stayed}, Settled.{state_open}}
use Rattle.fs_peering.specs.Keeper.{Said, is_late, news_of, open_time, parting, received, spoken_so, woken}
use Rattle.fs_peering.specs.{Keeping.{LinkSaid, LinkSays, Linked}, declared.keeper.News.{News, TheVariants.{Closed as HasClosed}}}
use Rattle.fs_speaker.proofs.Waking.{tick_each}

-- the connection with another end
abbrev pub with_end : Linked → Announcing → Linked
with_end old end = record old { end = end }

some_not : (why : Closed) → Some why ≡ None → ⊥
some_not why e = none-some why (sym e)

same_why : (why : Closed) → Some why ≡ Some Memory → why ≡ Memory
same_why why e = ap (λ (o : Option Closed). elim o [ None ↦ why | Some other ↦ other ]) e

late_not : Some (Fault 4 0) ≡ Some Memory → ⊥
late_not e = cc

none_not : None ≡ Some Memory → ⊥
none_not e = none-some Memory e

-- the clock closes an open end by its hold time alone
never : (time : ℕ) (now : Point) → now.closed ≡ None → (ticked time now).point.closed ≡ Some Memory → ⊥
never time now alive =
    tick_each time now (λ made. made.point.closed ≡ Some Memory → ⊥) (λ e. by (tick_at now.phase.hold (at_moment time now.times)))
    (λ why shut h. absurd (none-some why (sym alive ∙ shut)))
  where
    by : (tick : Tick) → (ticks tick now.waiting now.phase (at_moment time now.times)).point.closed ≡ Some Memory → ⊥
    by Quiet h = none_not h
    by Keeps h = none_not h
    by Expires h = late_not h

-- and leaves its phase
phase_stays : (time : ℕ) (now : Point) → (ticked time now).point.phase ≡ now.phase
phase_stays time now =
    tick_each time now (λ made. made.point.phase ≡ now.phase) (λ e. by (tick_at now.phase.hold (at_moment time now.times))) (λ why shut. refl)
  where
    by : (tick : Tick) → (ticks tick now.waiting now.phase (at_moment time now.times)).point.phase ≡ now.phase
    by Quiet = refl
    by Keeps = refl
    by Expires = refl

-- what the clock makes of it, by how it has closed and whether it is late
abbrev woken_by : (time since : ℕ) → Point → Option Closed → Bool → Said
woken_by time since now how late = elim how [
  | Some why ↦ spoken_so (ticked time now).text (ticked time now).point (Some why)
  | None ↦
      if late
      then spoken_so ((ticked time now).text ++ notice_text 4 0) (ticked time now).point (Some (Fault 4 0))
      else spoken_so (ticked time now).text (ticked time now).point None
]

abbrev received_by : Linked → (time : ℕ) → (piece : List ℕ) → Point → Option Closed → Said
received_by old time piece now how = elim how [
  | Some why ↦ spoken_so ((hand (machine_in old.end) time now piece).text ++ parting why) (hand (machine_in old.end) time now piece).point (Some why)
  | None ↦ spoken_so (hand (machine_in old.end) time now piece).text (hand (machine_in old.end) time now piece).point None
]

-- a connection of these parts
abbrev pub linked : (line : ℕ) (made : Bool) (since : ℕ) (end : Announcing) (told : Bool) → Linked
linked line made since end told = record { line = line; made = made; since = since; end = end; told = told }

-- what is shown of its parts holds of the connection
pub in_view : (inside old : Linked) → inside ≡ old → (says : Linked → Point → Said) (news : Option News) (end : Announcing) (out out' : List ℕ)
    → LinkSays (says inside) news inside (with_end inside end) out out' → LinkSays (says old) news old (with_end inside end) out out'
in_view inside old view says news end out out' s = subst (λ (l : Linked). LinkSays (says l) news l (with_end inside end) out out') view s

-- two facts of what a call gave
pub if_both : {A E : Type 0} (r : Result A E) (P R : A → Type 0) (Q : Type 0) → IfOk r P → OnOk r Q → ((x : A) → P x → Q → R x) → IfOk r R
if_both (Ok x) P R Q p q f = f x p q
if_both (Err e) P R Q p q f = tt

module _ (old : Linked) (end : Announcing) (time : ℕ) (out out1 : List ℕ) (same : end ≡ with_line old.end end.line) where
  same_link : with_end old end ≡ record old { end = with_line old.end end.line }
  same_link = ap (with_end old) same

  abbrev late : Bool
  late = not (is_established (state_in end.line)) && not (nat_lt (time - old.since) open_time)

  module _ (ticks_so : TicksOver (machine_in old.end) time old.end.line end.line out out1) where
    by_clock : (now : Point) (news : Option News) (out' : List ℕ) (how : Option Closed) (b : Bool) → (ticked time now).point.closed ≡ how
        → is_late time old.since now ≡ b → LinkSaid (woken_by time old.since now how b) news old (with_end old end) out out'
        → LinkSaid (woken time old.since now) news old (with_end old end) out out'
    by_clock now news out' how b e l s =
        subst (λ (z : Bool). LinkSaid (woken_by time old.since now (ticked time now).point.closed z) news old (with_end old end) out out') (sym l)
        (subst (λ (h : Option Closed). LinkSaid (woken_by time old.since now h b) news old (with_end old end) out out') (sym e) s)

    pub woken_shut : (why : Closed) (news : Option News) → end.line.closed ≡ Some why → news ≡ news_of why
        → LinkSays (woken time old.since) news old (with_end old end) out out1
    woken_shut why news e n now stands alive =
        let t = ticks_so now stands in
        let shut : (ticked time now).point.closed ≡ Some why = sym t.0.closed_is ∙ e in
        by_clock now _ _ _ _ shut refl (record {
          text = t.1;
          news_is = n;
          stays = λ h. absurd (some_not _ h);
          other = λ h. never time now alive (shut ∙ h);
          same = same_link;
        })

    late_is : (now : Point) → StandsAt (machine_in old.end) end.line (ticked time now).point → end.line.closed ≡ None
        → is_late time old.since now ≡ late
    late_is now at e =
        let opened : (ticked time now).point.closed ≡ None = sym at.closed_is ∙ e in
        let up : is_established (state_in end.line) ≡ is_established now.phase.state =
        state_open end.line e ∙ ap (λ (p : Phase). is_established p.state) ((at.open_is opened).phase_is ∙ phase_stays time now) in
        ap (λ (b : Bool). not b && not (nat_lt (time - old.since) open_time)) (sym up)

    pub woken_late : (news : Option News) (out2 : List ℕ) → end.line.closed ≡ None → late ≡ true
        → (news ≡ Some (HasClosed 4 0)) × (out2 ≡ out1 ++ notice_text 4 0)
        → LinkSays (woken time old.since) news old (with_end old end) out out2
    woken_late news out2 e l parts now stands alive =
        let t = ticks_so now stands in
        by_clock now _ _ _ _ (sym t.0.closed_is ∙ e) (late_is now t.0 e ∙ l) (record {
          text = parts.1 ∙ ap (λ (z : List ℕ). z ++ notice_text 4 0) t.1 ∙ append_assoc out (ticked time now).text (notice_text 4 0);
          news_is = parts.0;
          stays = λ h. absurd (some_not _ h);
          other = λ h. late_not h;
          same = same_link;
        })

    pub woken_on : end.line.closed ≡ None → late ≡ false → LinkSays (woken time old.since) None old (with_end old end) out out1
    woken_on e l now stands alive =
        let t = ticks_so now stands in
        let opened : (ticked time now).point.closed ≡ None = sym t.0.closed_is ∙ e in
        by_clock now _ _ _ _ opened (late_is now t.0 e ∙ l) (record {
          text = t.1;
          news_is = refl;
          stays = λ h. (t.0, opened);
          other = λ h. none_not h;
          same = same_link;
        })

  module _ (piece : List ℕ) (says : SaysTo true (machine_in old.end) time old.end.line end.line piece out out1) where
    by_octets : (now : Point) (news : Option News) (out' : List ℕ) (how : Option Closed) → (hand (machine_in old.end) time now piece).point.closed ≡ how
        → LinkSaid (received_by old time piece now how) news old (with_end old end) out out'
        → LinkSaid (received (machine_in old.end) time piece now) news old (with_end old end) out out'
    by_octets now news out' how e s =
        subst (λ (h : Option Closed). LinkSaid (received_by old time piece now h) news old (with_end old end) out out') (sym e) s

    pub received_shut : (why : Closed) (news : Option News) (out2 : List ℕ) → end.line.closed ≡ Some why → why ≢ Memory
        → (news ≡ news_of why) × (out2 ≡ out1 ++ parting why)
        → LinkSays (received (machine_in old.end) time piece) news old (with_end old end) out out2
    received_shut why news out2 e other parts now stands alive =
        let t = says now stands in
        by_octets _ _ _ _ (sym (t.1 refl).closed_is ∙ e) (record {
          text = parts.1 ∙ ap (λ (z : List ℕ). z ++ parting why) t.0 ∙ append_assoc out (hand (machine_in old.end) time now piece).text (parting why);
          news_is = parts.0;
          stays = λ h. absurd (some_not _ h);
          other = λ h. other (same_why _ h);
          same = same_link;
        })

    pub received_on : end.line.closed ≡ None → LinkSays (received (machine_in old.end) time piece) None old (with_end old end) out out1
    received_on e now stands alive =
        let t = says now stands in
        let opened : (hand (machine_in old.end) time now piece).point.closed ≡ None = sym (t.1 refl).closed_is ∙ e in
        by_octets _ _ _ _ opened (record {
          text = t.0;
          news_is = refl;
          stays = λ h. (t.1 refl, opened);
          other = λ h. none_not h;
          same = same_link;
        })

-- so from the end as it was
abbrev Owned : (old new : Announcing) → Type 0
Owned old new = (new.config ≡ old.config) × (new.peer ≡ old.peer)

-- whose end it is stays where it says its OPEN
pub starts_own : (old new : Announcing) (out out' : List ℕ) (result : Result (Unit {0}) Closed) → StaysEnded old new result out out'
    → StartsOpen old new out out' result
    → (new.config ≡ old.config) × (new.peer ≡ old.peer)
starts_own old new out out' result stays starts = by _ refl
  where
    at : (b : Bool) → StartsWith b old new out out' → Owned old new
    at true s = subst (Owned old) (sym s.0) (refl, refl)
    at false s = subst (Owned old) (sym s.0) (refl, refl)

    on : (r : Result (Unit {0}) Closed) → Starts old new out out' r → Owned old new
    on (Ok u) s = at _ s
    on (Err why) s = subst (Owned old) (sym s.1.1) (refl, refl)

    by : (c : Option Closed) → old.line.closed ≡ c → Owned old new
    by None e = on _ (starts e)
    by (Some why) e = subst (Owned old) (sym (stayed _ _ _ _ _ stays _ e).1) (refl, refl)

-- it is made, and its OPEN is said
pub begun_link : (inside old : Linked) → inside ≡ old → (end : Announcing) (time : ℕ) (out out' : List ℕ)
    → StartsWith inside.end.started inside.end end out out'
    → old.end.started ≡ false
    → (record inside { made = true; since = time; end = end } ≡ record old { made = true; since = time; end = has_started old.end })
    × (out' ≡ out ++ open_sent old.end.config old.end.peer old.end.sending)
begun_link inside old view end time out out' starts =
    subst (λ (l : Linked). l.end.started ≡ false
    → (record inside { made = true; since = time; end = end } ≡ record l { made = true; since = time; end = has_started l.end })
    × (out' ≡ out ++ open_sent l.end.config l.end.peer l.end.sending)) view (λ off.
    let s : StartsWith false inside.end end out out' = subst (λ (b : Bool). StartsWith b inside.end end out out') off starts in
    (ap (λ (n : Announcing). record inside { made = true; since = time; end = n }) s.0, s.1))
