use Rattle.fs_recorder.proofs.Words.{ap, arith, HandsPeer, RepliesBehind, drop, length, length-drop, on_err, part_whole, subst, ◌∙◌, ◌≤◌, ◌+◌, Plays}
use Rattle.fs_recorder.proofs.Words.{received, longer_by}
use Rattle.fs_recorder.proofs.{Doing.{handed_on, no_memory}, Telling.{part_as, payload_all, received_size, tells_as}}
use Rattle.fs_recorder.proofs.books.Books.octets.Goals as goal

pub returns-in_err-write-clause-err : goal.returns-in_err-write-clause-err
returns-in_err-write-clause-err g c =
    let short : length (drop 15 c.args.piece.now) ≤ 65536 = omega (arith, c.requires.long, length-drop 15 c.args.piece.now) in
    on_err c.from_residual.result
    (part_as (received c.args.peer (drop 15 c.args.piece.now)) (record { desk = c.self.inside.desk; scribe = c.self.inside.scribe }) c.args.self.now _
    _ c.self.view_is ((c.ranges.peer.fits, c.requires.known), short) c.in_err-write.ensures.err
    (λ limited. subst (λ n. c.self.inside.scribe.limit ≤ c.self.inside.scribe.written + n)
    (received_size c.args.piece.now c.args.peer c.self.inside.scribe.moment c.requires.head)
    (c.in_err-write.ensures.limit (handed_on c.in_err-write.field-0.0 c.from_residual.result c.from_residual.ensures.1 limited))))

pub returns-in_err-octets-clause-err : goal.returns-in_err-octets-clause-err
returns-in_err-octets-clause-err g c =
    let short : length (drop 15 c.args.piece.now) ≤ 65536 = omega (arith, c.requires.long, length-drop 15 c.args.piece.now) in
    on_err c.from_residual-in_err-octets.result
    (part_as (received c.args.peer (drop 15 c.args.piece.now)) (record { desk = c.self.inside.desk; scribe = c.self.inside.scribe }) c.args.self.now _
    _ c.self.view_is ((c.ranges.peer.fits, c.requires.known), short) (part_whole _ _ _ c.in_ok-write.ensures.written)
    (λ limited. absurd (no_memory c.from_residual-in_err-octets.result c.from_residual-in_err-octets.ensures.1 limited)))

pub returns-clause-told : goal.returns-clause-told
returns-clause-told g c =
    let short : length (drop 15 c.args.piece.now) ≤ 65536 = omega (arith, c.requires.long, length-drop 15 c.args.piece.now) in
    tells_as (received c.args.peer (drop 15 c.args.piece.now)) (record { desk = c.self.inside.desk; scribe = c.self.inside.scribe }) c.args.self.now _
    _ _ c.self.view_is ((c.ranges.peer.fits, c.requires.known), short)
    (subst (λ octets. Plays (received c.args.peer octets) c.self.inside.desk c.octets.new.self) (payload_all c.write.new.piece
    ∙ c.write.ensures.payload) c.in_ok-octets.ensures.played)
    c.octets.ensures.config (c.in_ok-write.ensures.longer
    ∙ ap (λ n. longer_by n c.self.inside.scribe) (received_size c.args.piece.now c.args.peer c.self.inside.scribe.moment c.requires.head))
    c.in_ok-write.ensures.room c.in_ok-write.ensures.written

pub returns-clause-handed : goal.returns-clause-handed
returns-clause-handed g c = rw (← c.self.view_is)
    (subst (λ octets. HandsPeer c.args.peer c.self.inside.desk c.octets.new.self octets c.args.replies.now.items c.octets.new.replies.items)
    (payload_all c.write.new.piece ∙ c.write.ensures.payload) c.in_ok-octets.ensures.handed)

pub returns-clause-others : goal.returns-clause-others
returns-clause-others g c = rw (← c.self.view_is) c.in_ok-octets.ensures.others

pub returns-clause-replied : goal.returns-clause-replied
returns-clause-replied g c = rw (← c.self.view_is)
    (subst (λ octets. RepliesBehind c.args.peer c.self.inside.desk octets c.args.replies.now.items c.octets.new.replies.items)
    (payload_all c.write.new.piece ∙ c.write.ensures.payload) c.in_ok-octets.ensures.replied)
