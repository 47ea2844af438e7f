-- What is said when rules change leaves the receiving end exactly the new ones.
use Rattle.std.{specs.{List.{AllByRecursion, list_any}, Str.{bytes_eq}}, proofs.lemmas.Slice.Eq.{bytes_eq-Decides}}
use Rattle.fs_base.specs.declared.{path.Path.{Path}, prefix.Family.{Family, TheVariants.{V4, V6}}}
use Rattle.fs_base.proofs.{Bools.{true_of_not}, Lists.{each_both, each_filtered, each_weaker}}
use Rattle.fs_nlri.specs.{Parts.{Ruled}, Rule.{IsRule, canonical_frame}}
use Rattle.fs_message.{specs.Stream.{Message, first_message}, proofs.TextFirst.{text_first}}
use Rattle.fs_attrs.specs.{Update.{flows_in, update_of}, Write.{update_text}, declared.update.{Terms.{Terms}, UpdateFault.{UpdateFault}}}
use Rattle.fs_speaker.specs.Sending.{path_by, text_by, update_by}
use Rattle.fs_desk.specs.Updates.{Given, flow_left, is_rule}
use Rattle.fs_peering.specs.{Keeper.{change_text, fresh, gone, is_same, of_family, packs, texts, withdrawal, withdrawals}, KeeperLaws.{are_single, given_by}}
use Rattle.fs_peering.proofs.Words.{Bool, ComesBack, Config, IsSent, List, None, Ok, Option, Peer, Phase, Result, Sending, Sent, Some, Update, [], ap}
use Rattle.fs_peering.proofs.Words.{append_assoc, arith, at_most, at_start, body_by, body_long, cond, false, filter, find, flat_map, length, map}
use Rattle.fs_peering.proofs.Words.{message_text, not, option_map, receiver, refl, same_Some, subst, sym, terms_of, true, true≢false, update_fits, ℕ}
use Rattle.fs_peering.proofs.Words.{◌++◌, ◌+◌, ◌||◌, ◌∙◌, ◌∷◌, ◌≡◌, ◌≤◌}
use Rattle.fs_peering.proofs.Holding.{alone, announced_left, changed_left, fits, found_passes, given_last, gives, nowhere, single_first}
use Rattle.fs_peering.proofs.Leading.{IsRead, Leads, leads_each, leads_then, up}
use Rattle.fs_peering.proofs.Packing.{IsPack, has_room, packs_are, withdrawal_long, withdrawal_read, withdrawal_short}

-- TEXTS

abbrev body_in : Option (Message × List ℕ) → List ℕ
body_in None = []
body_in (Some found) = found.0.body

-- one message has one body
same_bodies : (a b : List ℕ) → 4 ≤ length a → 19 + length a ≤ 4096 → 4 ≤ length b → 19 + length b ≤ 4096 → message_text 2 a ≡ message_text 2 b → a ≡ b
same_bodies a b long short long' short' e =
    sym (ap body_in (text_first 2 a [] (omega arith) (omega arith) (update_fits (length a) long) short))
    ∙ ap (λ (z : List ℕ). body_in (first_message (z ++ []))) e
    ∙ ap body_in (text_first 2 b [] (omega arith) (omega arith) (update_fits (length b) long') short')

abbrev update_in : Update → Result Update UpdateFault → Update
update_in other (Ok update) = update
update_in other _ = other

abbrev path_in : Path → Update → Path
path_in other update = elim update.path [ Some path ↦ path | None ↦ other ]

abbrev first_rule : Ruled → List Ruled → Ruled
first_rule other [] = other
first_rule other (rule ∷ rules) = rule

abbrev rule_in : Ruled → Update → Ruled
rule_in other update = first_rule other (flows_in update.reach)

found_each : (P : Sent → Type 0) (p : Sent → Bool) (rules : List Sent) (sent : Sent) → AllByRecursion P rules → find p rules ≡ Some sent → P sent
found_each P p [] sent all e = absurd cc
found_each P p (other ∷ rules) sent all e = by (found_each P p rules sent all.1) (p other) e
  where
    by : (find p rules ≡ Some sent → P sent) → (b : Bool) → cond b (Some other) (find p rules) ≡ Some sent → P sent
    by rest true f = subst P (same_Some other sent f) all.0
    by rest false f = rest f

-- one of the texts is this one, and the first rule that fits is its rule
pub record Told (P : Sent → Type 0) (rule : Ruled) (said : List ℕ) (text : Sent → List ℕ) (rules : List Sent) : Type 0 where
  pub sent : Sent
  pub found : find (fits rule) rules ≡ Some sent
  pub same : said ≡ text sent
  pub holds : P sent

told_before : (P : Sent → Type 0) (rule : Ruled) (said : List ℕ) (text : Sent → List ℕ)
    → ((other : Sent) → P other → said ≡ text other → fits rule other ≡ true) → (rules : List Sent)
    → are_single rules ≡ true → AllByRecursion P rules → list_any (bytes_eq said) (map text rules) ≡ true → Told P rule said text rules
told_before P rule said text same [] e all h = absurd (true≢false (sym h))
told_before P rule said text same (other ∷ rules) e all h =
    by (told_before _ _ _ _ same _ (single_first other rules e).1 all.1) _ refl h
  where
    later : (b : Bool) → fits rule other ≡ b → (t : Told P rule said text rules) → find (fits rule) (other ∷ rules) ≡ Some t.sent
    later true f t = absurd (none_some t.sent (sym (nowhere (fits rule) rules (alone rule other rules e f)) ∙ t.found))
      where
        none_some : (s : Sent) → None ≡ Some s → ⊥
        none_some s g = cc
    later false f t = ap (λ (b : Bool). cond b (Some other) (find (fits rule) rules)) f ∙ t.found

    by : (list_any (bytes_eq said) (map text rules) ≡ true → Told P rule said text rules) → (b : Bool) → bytes_eq said (text other) ≡ b
        → (b || list_any (bytes_eq said) (map text rules)) ≡ true → Told P rule said text (other ∷ rules)
    by rest true f g =
        let is : said ≡ text other = (bytes_eq-Decides said (text other)).0 f in
        record { sent = other; found = ap (λ (b : Bool). cond b (Some other) (find (fits rule) rules)) (same other all.0 is); same = is; holds = all.0 }
    by rest false f g =
        let t = rest g in
        record { sent = t.sent; found = later _ refl t; same = t.same; holds = t.holds }

fresh_texts : (text : Sent → List ℕ) (old : List (List ℕ)) (rules : List Sent)
    → flat_map (λ (t : List ℕ). t) (fresh old (map text rules)) ≡ flat_map text (filter (λ (sent : Sent). not (list_any (bytes_eq (text sent)) old)) rules)
fresh_texts text old [] = refl
fresh_texts text old (sent ∷ rules) = by (fresh_texts text old rules) (not (list_any (bytes_eq (text sent)) old))
  where
    is_new : List ℕ → Bool
    is_new t = not (list_any (bytes_eq t) old)

    by : flat_map (λ (t : List ℕ). t) (filter is_new (map text rules)) ≡ flat_map text (filter (λ (s : Sent). is_new (text s)) rules) → (b : Bool)
        → flat_map (λ (t : List ℕ). t) (cond b (text sent ∷ filter is_new (map text rules)) (filter is_new (map text rules)))
        ≡ flat_map text (cond b (sent ∷ filter (λ (s : Sent). is_new (text s)) rules) (filter (λ (s : Sent). is_new (text s)) rules))
    by rest true = ap (λ (z : List ℕ). text sent ++ z) rest
    by rest false = rest

all_texts : (text : Sent → List ℕ) (rules : List Sent) → flat_map (λ (t : List ℕ). t) (map text rules) ≡ flat_map text rules
all_texts text [] = refl
all_texts text (sent ∷ rules) = ap (λ (z : List ℕ). text sent ++ z) (all_texts text rules)

module _ (config : Config) (peer : Peer) where
  abbrev terms : Terms
  terms = terms_of config peer true

  -- What the rules are to be: each as octets say it, its UPDATE is read so, and no two are one.
  pub record IsFit (sending : Sending) : Type 0 where
    pub rules : AllByRecursion IsSent sending.rules
    pub read : AllByRecursion (ComesBack config peer sending) sending.rules
    pub single : are_single sending.rules ≡ true

  abbrev body_of : Sending → Sent → List ℕ
  body_of sending sent = body_by (terms_of config peer true) sending.as_path sent

  abbrev text_of : Sending → Sent → List ℕ
  text_of sending sent = text_by (terms_of config peer true) sending.as_path sent

  abbrev update_by_it : Sending → Sent → Update
  update_by_it sending sent = update_by (terms_of config peer true) sending.as_path sent

  is_read : (sending : Sending) (sent : Sent) → ComesBack config peer sending sent
      → IsRead (terms_of config peer true) (body_of sending sent) (update_by_it sending sent)
  is_read sending sent c = record { long = body_long config peer sending sent; short = at_most (length (body_of sending sent)) c.short; read = c.read }

  -- the same text is the same update
  same_updates : (old new : Sending) (a b : Sent) → ComesBack config peer new a → ComesBack config peer old b → text_of new a ≡ text_of old b
      → update_by_it new a ≡ update_by_it old b
  same_updates old new a b c d e =
      let ra = is_read _ _ c in
      let rb = is_read _ _ d in
      let bodies : body_of new a ≡ body_of old b = same_bodies _ _ ra.long ra.short rb.long rb.short e in
      sym (ap (update_in (update_by_it new a)) ra.read) ∙ ap (λ (z : List ℕ). update_in (update_by_it new a) (update_of (terms_of config peer true) z)) bodies
      ∙ ap (update_in (update_by_it new a)) rb.read

  abbrev is_fresh : Sending → Sending → Sent → Bool
  is_fresh old new sent = not (list_any (bytes_eq (text_of new sent)) (texts (terms_of config peer true) old))

  -- a rule whose text was said already stays as it was
  known : (old new : Sending) → IsFit old → IsFit new → (rule : Ruled) (sent : Sent) → find (fits rule) new.rules ≡ Some sent → is_fresh old new sent ≡ false
      → given_by terms old rule ≡ given_by terms new rule
  known old new o n rule sent f e =
      ap (option_map (gives rule terms old.as_path)) told.found ∙ (λ i. Some (rule_is i, path_is i, actions_is i))
      ∙ sym (ap (option_map (gives rule terms new.as_path)) f)
    where
      back : ComesBack config peer new sent
      back = found_each _ _ _ _ n.read f

      one_rule : (other : Sent) → ComesBack config peer old other → text_of new sent ≡ text_of old other → other.rule ≡ sent.rule
      one_rule other c t = sym (ap (rule_in sent.rule) (same_updates _ _ _ _ back c t))

      told : Told (ComesBack config peer old) rule (text_of new sent) (text_of old) old.rules
      told =
          told_before _ _ _ _ (λ other c t. subst (λ (r : Ruled). is_rule rule r ≡ true) (sym (one_rule _ c t))
          (found_passes (fits rule) _ _ f)) _ o.single o.read
          (true_of_not (list_any (bytes_eq (text_of new sent)) (map (text_of old) old.rules)) e)

      both : update_by_it new sent ≡ update_by_it old told.sent
      both = same_updates _ _ _ _ back told.holds told.same

      rule_is : told.sent.rule ≡ sent.rule
      rule_is = one_rule _ told.holds told.same

      path_is : path_by terms old.as_path ≡ path_by terms new.as_path
      path_is = sym (ap (path_in (path_by terms new.as_path)) both)

      actions_is : told.sent.actions ≡ sent.actions
      actions_is = sym (ap (λ (u : Update). u.actions) both)

  -- WHAT IS TAKEN

  abbrev left : Sending → Sending → List Sent
  left old new = gone old.rules new.rules

  abbrev packs_of : Family → Sending → Sending → List (List Ruled)
  packs_of family old new = packs (of_family family (left old new))

  room_of : (sending : Sending) → IsFit sending → AllByRecursion (λ (sent : Sent). IsRule sent.rule × (length (canonical_frame sent.rule) ≤ 4066)) sending.rules
  room_of sending is =
      each_both IsSent (ComesBack config peer sending) (λ (sent : Sent). IsRule sent.rule × (length (canonical_frame sent.rule) ≤ 4066))
      (λ sent s c. has_room _ _ _ s.rule c.short) sending.rules is.rules is.read

  packs_fit : (family : Family) (old new : Sending) → IsFit old
      → AllByRecursion (IsPack family) (packs_of family old new)
      × (flat_map (λ (pack : List Ruled). pack) (packs_of family old new) ≡ of_family family (left old new))
  packs_fit family old new is =
      packs_are _ _ (each_filtered (λ (sent : Sent). IsRule sent.rule × (length (canonical_frame sent.rule) ≤ 4066))
      (λ (sent : Sent). not (list_any (is_same sent) new.rules)) old.rules (room_of _ is))

  withdrawals_lead : (family : Family) (old new : Sending) → IsFit old
      → Leads (receiver config peer) (up config peer) (withdrawals (terms_of config peer true) family (left old new))
      (map (withdrawal family) (packs_of family old new)) (up config peer)
  withdrawals_lead family old new is =
      leads_each config peer _ _ _ (each_weaker (IsPack family) (λ (pack : List Ruled).
      IsRead (terms_of config peer true) (update_text (terms_of config peer true) (withdrawal family pack)) (withdrawal family pack))
      (λ pack p. record {
        long = withdrawal_long terms family pack;
        short = withdrawal_short terms family pack p.small;
        read =
            withdrawal_read terms _ _ refl p;
      }) (packs_of family old new) (packs_fit _ _ new is).0)

  rules_lead : (sending : Sending) (rules : List Sent) → AllByRecursion (ComesBack config peer sending) rules
      → Leads (receiver config peer) (up config peer) (flat_map (text_of sending) rules) (map (update_by_it sending) rules) (up config peer)
  rules_lead sending rules all =
      leads_each config peer _ _ _ (each_weaker (ComesBack config peer sending)
      (λ (sent : Sent). IsRead (terms_of config peer true) (body_of sending sent) (update_by_it sending sent)) (is_read sending) rules all)

  -- what a peer holds of a rule that was told these, or nothing yet
  abbrev pub held_by : Option Sending → Ruled → Option Given
  held_by None rule = None
  held_by (Some told) rule = given_by (terms_of config peer true) told rule

  -- The end that hears these octets is Established, and holds what it was told.
  pub record Holds (told : Option Sending) (octets : List ℕ) : Type 0 where
    pub updates : List Update
    pub leads : Leads (receiver config peer) at_start octets updates (up config peer)
    pub leaves : (rule : Ruled) → flow_left rule updates ≡ held_by told rule

  first_told : (octets : List ℕ) (new : Sending) → IsFit new → Holds None octets → Holds (Some new) (octets ++ change_text (terms_of config peer true) None new)
  first_told octets new is h = record {
    updates = h.updates ++ map (update_by_it new) new.rules;
    leads =
        leads_then _ _ _ _ _ _ _ _ h.leads
        (subst (λ (z : List ℕ). Leads (receiver config peer) (up config peer) z (map (update_by_it new) new.rules) (up config peer))
        (sym (all_texts (text_of new) new.rules)) (rules_lead _ _ is.read));
    leaves = λ rule. announced_left rule terms new.as_path h.updates new.rules is.single
        ∙ ap (λ (o : Option Given). given_last rule terms new.as_path o (find (fits rule) new.rules)) (h.leaves rule) ∙ by rule _;
  }
    where
      by : (rule : Ruled) (o : Option Sent) → given_last rule terms new.as_path None o ≡ option_map (gives rule terms new.as_path) o
      by rule None = refl
      by rule (Some sent) = refl

  other_told : (octets : List ℕ) (old new : Sending) → IsFit old → IsFit new → Holds (Some old) octets
      → Holds (Some new) (octets ++ change_text (terms_of config peer true) (Some old) new)
  other_told octets old new o n h = record {
    updates = h.updates ++ (four ++ (six ++ news));
    leads =
        leads_then (receiver config peer) at_start now now octets (change_text (terms_of config peer true) (Some old) new) h.updates
        (four ++ (six ++ news)) h.leads
        (leads_then (receiver config peer) now now now (withdrawals terms V4 (left old new)) _ four (six ++ news) (withdrawals_lead V4 old new o)
        (leads_then (receiver config peer) now now now (withdrawals terms V6 (left old new)) _ six news (withdrawals_lead V6 old new o) news_lead));
    leaves = λ rule.
        ap (flow_left rule) regrouped
        ∙ changed_left rule terms old new (is_fresh old new) (packs_of V4 old new) (packs_of V6 old new) (packs_fit V4 old new o).1
        (packs_fit V6 old new o).1 n.single
        (known old new o n rule) h.updates (h.leaves rule);
  }
    where
      now : Phase
      now = up config peer

      four : List Update
      four = map (withdrawal V4) (packs_of V4 old new)

      six : List Update
      six = map (withdrawal V6) (packs_of V6 old new)

      news : List Update
      news = map (update_by_it new) (filter (is_fresh old new) new.rules)

      news_lead : Leads (receiver config peer) (up config peer)
          (flat_map (λ (t : List ℕ). t) (fresh (texts (terms_of config peer true) old) (texts (terms_of config peer true) new))) news (up config peer)
      news_lead =
          subst (λ (z : List ℕ). Leads (receiver config peer) (up config peer) z news (up config peer))
          (sym (fresh_texts (text_of new) (texts (terms_of config peer true) old) new.rules))
          (rules_lead new (filter (is_fresh old new) new.rules) (each_filtered (ComesBack config peer new) (is_fresh old new) new.rules n.read))

      regrouped : h.updates ++ (four ++ (six ++ news)) ≡ ((h.updates ++ four) ++ six) ++ news
      regrouped = sym (append_assoc h.updates four (six ++ news)) ∙ sym (append_assoc (h.updates ++ four) six news)

  -- what was told, if anything, can be told
  abbrev pub IsFitOr : Option Sending → Type 0
  IsFitOr None = Unit {0}
  IsFitOr (Some told) = IsFit told

  pub tells_change : (octets : List ℕ) (told : Option Sending) (new : Sending) → IsFitOr told → IsFit new → Holds told octets
      → Holds (Some new) (octets ++ change_text (terms_of config peer true) told new)
  tells_change octets None new o n h = first_told octets new n h
  tells_change octets (Some old) new o n h = other_told octets old new o n h
