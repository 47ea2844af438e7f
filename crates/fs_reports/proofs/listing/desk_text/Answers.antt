use Rattle.fs_reports.proofs.{Words.{ℕ, List, ◌++◌, ap, ◌∙◌, desk_text}, PeerLines.{desk_lists}}
use Rattle.fs_reports.proofs.listing.desk_text.Goals as goal

pub returns-clause-text : goal.returns-clause-text
returns-clause-text c =
    c.in_ok-append_desk.ensures
    ∙ ap (λ (front : List ℕ). front ++ desk_text c.args.desk.now) c.new-text.ensures.items

pub returns-clause-told : goal.returns-clause-told
returns-clause-told c = λ config items played. returns-clause-text c ∙ desk_lists config items c.args.desk.now played
