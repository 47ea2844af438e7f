-- What holds of each way in which an act of a kept session may come out holds of what it makes.
use Rattle.fs_base.proofs.Bools.{and_parts}
use Rattle.fs_peering.specs.Keeper.{Connection, Kept, Outcome, Said, accepts, at_line, begins_one, checks, comes_up, dials, is_due, is_late, is_up}
use Rattle.fs_peering.specs.Keeper.{machine_of, news_up, parting, parts, receives, rests, rises, speaks_on, spoken_so, tells, tells_all, wakes}
use Rattle.fs_peering.specs.Keeper.{with_rules}
use Rattle.fs_peering.proofs.Words.{Bool, Closed, Config, Fault, Handed, List, None, Option, Peer, Sending, Some, false, hand, if◌then◌else◌, is_some, not}
use Rattle.fs_peering.proofs.Words.{notice_text, refl, sender_of, sym, ticked, true, ℕ, ◌&&◌, ◌++◌, ◌==◌, ◌∙◌, ◌≡◌}

module _ (P : Outcome → Type 0) where
  pub wakes_each : (time : ℕ) (c : Connection) (kept : Kept) → ((text : List ℕ) (why : Closed) → P (parts text why time c kept))
      → ((ticked time c.point).point.closed ≡ None → P (speaks_on (ticked time c.point).text (ticked time c.point).point None c kept))
      → P (wakes time c kept)
  wakes_each time c kept shut on = by made_so.point.closed refl
    where
      made_so : Handed
      made_so = ticked time c.point

      told : Option Closed → Said
      told how = elim how [
        | Some why ↦ spoken_so made_so.text made_so.point (Some why)
        | None ↦
            if is_late time c.since c.point then spoken_so (made_so.text ++ notice_text 4 0) made_so.point (Some (Fault 4 0))
            else spoken_so made_so.text made_so.point None
      ]

      comes : Said → Outcome
      comes s = elim s.closing [ Some why ↦ parts s.text why time c kept | None ↦ speaks_on s.text s.point None c kept ]

      late : made_so.point.closed ≡ None → (b : Bool)
          → P (comes (if b then spoken_so (made_so.text ++ notice_text 4 0) made_so.point (Some (Fault 4 0))
          else spoken_so made_so.text made_so.point None))
      late e true = shut (made_so.text ++ notice_text 4 0) (Fault 4 0)
      late e false = on e

      by : (how : Option Closed) → made_so.point.closed ≡ how → P (comes (told how))
      by (Some why) e = shut made_so.text why
      by None e = late e (is_late time c.since c.point)

  pub checks_each : (time : ℕ) (kept : Kept) → P (rests kept)
      → ((c : Connection) → kept.connection ≡ Some c → c.made ≡ true → P (wakes time c kept)) → P (checks time kept)
  checks_each time kept idle on = by kept.connection refl
    where
      inner : (c : Connection) → kept.connection ≡ Some c → (b : Bool) → c.made ≡ b → P (if b then wakes time c kept else rests kept)
      inner c e true m = on c e m
      inner c e false m = idle

      comes : Option Connection → Outcome
      comes o = elim o [ None ↦ rests kept | Some c ↦ if c.made then wakes time c kept else rests kept ]

      by : (o : Option Connection) → kept.connection ≡ o → P (comes o)
      by None e = idle
      by (Some c) e = inner c e c.made refl

  module _ (config : Config) where
    pub receives_each : (time : ℕ) (piece : List ℕ) (c : Connection) (kept : Kept) → ((text : List ℕ) (why : Closed) → P (parts text why time c kept))
        → (let made_so : Handed = hand (machine_of config c) time c.point piece in made_so.point.closed ≡ None
        → P (speaks_on made_so.text made_so.point (news_up (rises c.point made_so.point)) c (comes_up (rises c.point made_so.point) kept)))
        → P (receives config time piece c kept)
    receives_each time piece c kept shut on = by made_so.point.closed refl
      where
        made_so : Handed
        made_so = hand (machine_of config c) time c.point piece

        told : Option Closed → Said
        told how = elim how [
          | Some why ↦ spoken_so (made_so.text ++ parting why) made_so.point (Some why)
          | None ↦ spoken_so made_so.text made_so.point None
        ]

        comes : Said → Outcome
        comes s = elim s.closing [
          | Some why ↦ parts s.text why time c kept
          | None ↦ speaks_on s.text s.point (news_up (rises c.point s.point)) c (comes_up (rises c.point s.point) kept)
        ]

        by : (how : Option Closed) → made_so.point.closed ≡ how → P (comes (told how))
        by (Some why) e = shut (made_so.text ++ parting why) why
        by None e = on e

    pub dials_each : (line time : ℕ) (address : List ℕ) (kept : Kept) → P (rests kept)
        → ((sending : Sending) → kept.rules ≡ Some sending → (peer : Peer) → sender_of config.peers ≡ Some peer
        → P (begins_one line time address peer sending kept))
        → P (dials config line time address kept)
    dials_each line time address kept idle on = by kept.connection
      where
        due : (sending : Sending) → kept.rules ≡ Some sending → (peer : Peer) → sender_of config.peers ≡ Some peer → (b : Bool)
            → P (if b then begins_one line time address peer sending kept else rests kept)
        due sending r peer s true = on sending r peer s
        due sending r peer s false = idle

        for_peer : Sending → Option Peer → Outcome
        for_peer sending found = elim found [
          | None ↦ rests kept
          | Some peer ↦ if is_due time kept then begins_one line time address peer sending kept else rests kept
        ]

        of_peer : (sending : Sending) → kept.rules ≡ Some sending → (found : Option Peer) → sender_of config.peers ≡ found
            → P (for_peer sending found)
        of_peer sending r None s = idle
        of_peer sending r (Some peer) s = due sending r peer s (is_due time kept)

        for_rules : Option Sending → Outcome
        for_rules rules = elim rules [ None ↦ rests kept | Some sending ↦ for_peer sending (sender_of config.peers) ]

        of_rules : (o : Option Sending) → kept.rules ≡ o → P (for_rules o)
        of_rules None r = idle
        of_rules (Some sending) r = of_peer sending r (sender_of config.peers) refl

        comes : Option Connection → Outcome
        comes o = elim o [ Some c ↦ rests kept | None ↦ for_rules kept.rules ]

        by : (o : Option Connection) → P (comes o)
        by (Some c) = idle
        by None = of_rules kept.rules refl

    pub accepts_each : (time : ℕ) (new : Sending) (kept : Kept)
        → (((c : Connection) → kept.connection ≡ Some c → is_some c.told ≡ false) → P (rests (with_rules new kept)))
        → ((c : Connection) → kept.connection ≡ Some c → is_some c.told ≡ true → P (tells config time new c (with_rules new kept)))
        → P (accepts config time new kept)
    accepts_each time new kept idle on = by kept.connection refl
      where
        other : Kept
        other = with_rules new kept

        same : (c d : Connection) → Some c ≡ Some d → is_some c.told ≡ false → is_some d.told ≡ false
        same c d e f = cc

        never : (c : Connection) → None ≡ Some c → is_some c.told ≡ false
        never c e = absurd cc

        inner : (c : Connection) → kept.connection ≡ Some c → (b : Bool) → is_some c.told ≡ b → P (if b then tells config time new c other else rests other)
        inner c e true f = on c e f
        inner c e false f = idle (λ d g. same c d (sym e ∙ g) f)

        comes : Option Connection → Outcome
        comes o = elim o [ None ↦ rests other | Some c ↦ if is_some c.told then tells config time new c other else rests other ]

        by : (o : Option Connection) → kept.connection ≡ o → P (comes o)
        by None e = idle (λ c f. never c (sym e ∙ f))
        by (Some c) e = inner c e (is_some c.told) refl

    pub tells_all_each : (time : ℕ) (kept : Kept) → P (rests kept)
        → ((c : Connection) → kept.connection ≡ Some c → (new : Sending) → kept.rules ≡ Some new → is_up c.point ≡ true
        → P (tells config time new c kept))
        → P (tells_all config time kept)
    tells_all_each time kept idle on = by kept.connection refl
      where
        tells_by : Connection → Option Sending → Outcome
        tells_by c rules = elim rules [
          | None ↦ rests kept
          | Some new ↦ if is_up c.point && not (is_some c.told) then tells config time new c kept else rests kept
        ]

        inner : (c : Connection) → kept.connection ≡ Some c → (new : Sending) → kept.rules ≡ Some new → (b : Bool)
            → (is_up c.point && not (is_some c.told)) ≡ b → P (if b then tells config time new c kept else rests kept)
        inner c e new r true f = on c e new r (and_parts (is_up c.point) (not (is_some c.told)) f).0
        inner c e new r false f = idle

        of_rules : (c : Connection) → kept.connection ≡ Some c → (o : Option Sending) → kept.rules ≡ o → P (tells_by c o)
        of_rules c e None r = idle
        of_rules c e (Some new) r = inner c e new r (is_up c.point && not (is_some c.told)) refl

        comes : Option Connection → Outcome
        comes o = elim o [ None ↦ rests kept | Some c ↦ tells_by c kept.rules ]

        by : (o : Option Connection) → kept.connection ≡ o → P (comes o)
        by None e = idle
        by (Some c) e = of_rules c e kept.rules refl

  pub line_each : (line : ℕ) (test : Connection → Bool) (act : Connection → Kept → Outcome) (kept : Kept) → P (rests kept)
      → ((c : Connection) → kept.connection ≡ Some c → test c ≡ true → P (act c kept)) → P (at_line line test act kept)
  line_each line test act kept idle acts = by kept.connection refl
    where
      inner : (c : Connection) → kept.connection ≡ Some c → (b : Bool) → ((c.line == line) && test c) ≡ b → P (if b then act c kept else rests kept)
      inner c e true f = acts c e (and_parts (c.line == line) (test c) f).1
      inner c e false f = idle

      comes : Option Connection → Outcome
      comes o = elim o [ None ↦ rests kept | Some c ↦ if (c.line == line) && test c then act c kept else rests kept ]

      by : (o : Option Connection) → kept.connection ≡ o → P (comes o)
      by None e = idle
      by (Some c) e = inner c e ((c.line == line) && test c) refl
