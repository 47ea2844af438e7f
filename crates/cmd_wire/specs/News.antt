-- The lines of `keep`: a moment, in nanoseconds from 1970, and what there is to be told.
use Rattle.std.specs.Prelude.{ℕ, List, [], ◌++◌, codes, decimal, Option, Some, None}
use Rattle.fs_peering.specs.declared.keeper.News.{News, TheVariants.{Closed, Ended, Notified, Told, Unreached, Up}}

-- the code and the subcode of a NOTIFICATION (RFC 4271, section 4.5)
abbrev pub codes_text : (code subcode : ℕ) → List ℕ
codes_text code subcode = decimal code ++ (codes "/" ++ (decimal subcode ++ codes "\n"))

abbrev pub news_text : (moment : ℕ) → News → List ℕ
news_text moment Up = decimal moment ++ codes " up\n"
news_text moment (Told announced withdrawn) =
    decimal moment ++ (codes " sent " ++ (decimal announced ++ (codes " withdrawn " ++ (decimal withdrawn ++ codes "\n"))))
news_text moment (Closed code subcode) = decimal moment ++ (codes " closed " ++ codes_text code subcode)
news_text moment (Notified code subcode) = decimal moment ++ (codes " notified " ++ codes_text code subcode)
news_text moment Ended = decimal moment ++ codes " ended\n"
news_text moment Unreached = decimal moment ++ codes " unreached\n"

-- the line of what there is to be told, if there is anything
abbrev pub line_of : (moment : ℕ) → Option News → List ℕ
line_of moment None = []
line_of moment (Some news) = news_text moment news

-- the line of a rules file that isn't accepted
abbrev pub kept_text : (moment : ℕ) → (reason : List ℕ) → List ℕ
kept_text moment reason = decimal moment ++ (codes " kept " ++ (reason ++ codes "\n"))
