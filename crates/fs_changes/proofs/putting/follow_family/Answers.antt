use Rattle.fs_changes.proofs.Words.{◌∙◌, ◌++◌, ap, sym, subst, List, FlowRoute, string_bytes, admitted, acts_of, changes, lines_text, next_of}
use Rattle.fs_changes.proofs.Words.{AreInOrder}
use Rattle.fs_changes.proofs.Following.{IsFollowed, Walks, followed_first, in_order_now, walk_last, walk_next, walk_places}
use Rattle.fs_changes.proofs.Noting.{IsNext, next_is}
use Rattle.fs_changes.proofs.putting.follow_family.Goals as goal

pub places-init : goal.places-init
places-init c = followed_first c.args.family c.args.moment c.args.rules.now.items (admitted c.args.family c.args.table.now) (string_bytes c.args.text.now)

pub put_at-requires : goal.put_at-requires
put_at-requires c = walk_places c.args.family c.args.moment c.args.noted.now.places c.args.rules.now.items c.places.rules.items c.requires.base.0
    c.args.table.now c.places.last c.in-Some.destination (string_bytes c.args.text.now) (string_bytes c.places.text)
    walks next (in_order_now c.args.family c.args.table.now (c.shared_to.ensures.rules c.args.family) (c.shared_to.ensures.admitted c.args.family))
    c.places.invariant where
      walks : Walks c.args.family c.args.noted.now.places c.args.rules.now.items c.requires.base.0 c.args.table.now
      walks = record {
        order = c.requires.order;
        are = c.requires.base.1;
        covers = c.requires.base.2 (sym c.are_all.ensures ∙ c.if-are_all.false);
        own = c.places-in-places.ensures.own;
      }

      next : IsNext c.args.family c.places.last c.args.noted.now.places c.in-Some.destination
      next = next_is c.args.family c.places.last c.args.noted.now.places c.in-Some.destination c.places-in-places.ensures.own
          (ap (next_of c.args.family c.places.last) (sym c.places-in-places.ensures.places) ∙ sym c.next_noted.ensures ∙ c.in-Some.is)

pub places-smaller : goal.places-smaller
places-smaller c = next.fewer where
  next : IsNext c.args.family c.places.last c.args.noted.now.places c.in-Some.destination
  next = next_is c.args.family c.places.last c.args.noted.now.places c.in-Some.destination c.places-in-places.ensures.own
      (ap (next_of c.args.family c.places.last) (sym c.places-in-places.ensures.places) ∙ sym c.next_noted.ensures ∙ c.in-Some.is)

pub places-preserved : goal.places-preserved
places-preserved c = walk_next c.args.family c.args.moment c.args.noted.now.places c.args.rules.now.items c.places.rules.items c.in_ok-news.news.items
    c.put_at.new.rules.items c.requires.base.0 c.args.table.now c.places.last c.in-Some.destination
    (string_bytes c.args.text.now) (string_bytes c.places.text) (string_bytes c.put_at.new.text)
    walks next (in_order_now c.args.family c.args.table.now (c.shared_to.ensures.rules c.args.family) (c.shared_to.ensures.admitted c.args.family))
    c.in_ok-news.ensures.list c.in_ok-put_at.ensures c.places.invariant where
      walks : Walks c.args.family c.args.noted.now.places c.args.rules.now.items c.requires.base.0 c.args.table.now
      walks = record {
        order = c.requires.order;
        are = c.requires.base.1;
        covers = c.requires.base.2 (sym c.are_all.ensures ∙ c.if-are_all.false);
        own = c.places-in-places.ensures.own;
      }

      next : IsNext c.args.family c.places.last c.args.noted.now.places c.in-Some.destination
      next = next_is c.args.family c.places.last c.args.noted.now.places c.in-Some.destination c.places-in-places.ensures.own
          (ap (next_of c.args.family c.places.last) (sym c.places-in-places.ensures.places) ∙ sym c.next_noted.ensures ∙ c.in-Some.is)

pub returns-clause-stands : goal.returns-clause-stands
returns-clause-stands c = followed.are where
  followed : IsFollowed c.args.family c.args.moment c.args.rules.now.items (admitted c.args.family c.args.table.now) c.places.rules.items
      (string_bytes c.args.text.now) (string_bytes c.places.text)
  followed = walk_last c.args.family c.args.moment c.args.noted.now.places c.args.rules.now.items c.places.rules.items c.requires.base.0
      c.args.table.now c.places.last (string_bytes c.args.text.now) (string_bytes c.places.text)
      (record {
        order = c.requires.order;
        are = c.requires.base.1;
        covers = c.requires.base.2 (sym c.are_all.ensures ∙ c.if-are_all.false);
        own =
            c.places-in-places.ensures.own;
      })
      (ap (next_of c.args.family c.places.last) (sym c.places-in-places.ensures.places) ∙ sym c.next_noted.ensures ∙ c.in_default.is) c.places.invariant

pub returns-clause-order : goal.returns-clause-order
returns-clause-order c = subst (AreInOrder c.args.family) (sym followed.are) followed.order where
  followed : IsFollowed c.args.family c.args.moment c.args.rules.now.items (admitted c.args.family c.args.table.now) c.places.rules.items
      (string_bytes c.args.text.now) (string_bytes c.places.text)
  followed = walk_last c.args.family c.args.moment c.args.noted.now.places c.args.rules.now.items c.places.rules.items c.requires.base.0
      c.args.table.now c.places.last (string_bytes c.args.text.now) (string_bytes c.places.text)
      (record {
        order = c.requires.order;
        are = c.requires.base.1;
        covers = c.requires.base.2 (sym c.are_all.ensures ∙ c.if-are_all.false);
        own =
            c.places-in-places.ensures.own;
      })
      (ap (next_of c.args.family c.places.last) (sym c.places-in-places.ensures.places) ∙ sym c.next_noted.ensures ∙ c.in_default.is) c.places.invariant

pub returns-clause-told : goal.returns-clause-told
returns-clause-told c = followed.told
    ∙ ap (λ (rs : List FlowRoute). string_bytes c.args.text.now ++ lines_text c.args.moment (changes 0 (acts_of c.args.rules.now.items) (acts_of rs)))
    (sym followed.are) where
      followed : IsFollowed c.args.family c.args.moment c.args.rules.now.items (admitted c.args.family c.args.table.now) c.places.rules.items
          (string_bytes c.args.text.now) (string_bytes c.places.text)
      followed = walk_last c.args.family c.args.moment c.args.noted.now.places c.args.rules.now.items c.places.rules.items c.requires.base.0
          c.args.table.now c.places.last (string_bytes c.args.text.now) (string_bytes c.places.text)
          (record {
            order = c.requires.order;
            are = c.requires.base.1;
            covers = c.requires.base.2 (sym c.are_all.ensures ∙ c.if-are_all.false);
            own =
                c.places-in-places.ensures.own;
          })
          (ap (next_of c.args.family c.places.last) (sym c.places-in-places.ensures.places) ∙ sym c.next_noted.ensures ∙ c.in_default.is) c.places.invariant
