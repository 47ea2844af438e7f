use Rattle.fs_ranges.proofs.Words.{◌≡◌, ◌∙◌, ◌&&◌, ◌++◌, ◌∷◌, [], Bool, List, ap, sym, list_all, list_all-append, and_true, Test, ranges_hold, passes}
use Rattle.fs_ranges.proofs.{Hulls.{pushed}, Placing.{put_free, put_placed}}
use Rattle.fs_ranges.proofs.fast.place.Goals as goal

pub returns-clause-placed : goal.returns-clause-placed
returns-clause-placed c =
    put_placed c.args.ranges.now c.put.new.self c.args.used c.in-Some.range c.args.tests.now.items c.args.test c.if-used-lt-PLACES.true c.requires
    (sym c.range.ensures ∙ c.in-Some.is) c.put.ensures

pub returns-2-clause-placed : goal.returns-2-clause-placed
returns-2-clause-placed c = λ facts none.
    ap (λ (all : List Test). ranges_hold facts c.place_hull-next.new.ranges && list_all (passes facts) all) items
    ∙ ap (λ (b : Bool). ranges_hold facts c.place_hull-next.new.ranges && b)
    (list_all-append (passes facts) c.args.tests.now.items (c.args.test ∷ [])
    ∙ ap (λ (b : Bool). list_all (passes facts) c.args.tests.now.items && b) (and_true (passes facts c.args.test)))
    ∙ pushed (ranges_hold facts c.place_hull-next.new.ranges) (ranges_hold facts c.args.ranges.now) (list_all (passes facts) c.args.tests.now.items)
    (passes facts c.args.test)
    (c.place_hull-next.ensures.same facts none) where
      items : c.push.new.self.items ≡ c.args.tests.now.items ++ c.args.test ∷ []
      items = c.in_ok-push.ensures.items ∙ ap (λ (all : List Test). all ++ c.args.test ∷ []) c.make_room.ensures

pub returns-clause-free : goal.returns-clause-free
returns-clause-free c = put_free c.args.ranges.now c.put.new.self c.args.used c.in-Some.range c.requires c.put.ensures
