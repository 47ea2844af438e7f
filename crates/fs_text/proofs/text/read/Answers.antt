use Rattle.std.proofs.Common.{◌∙◌, Bor, List, ℕ, ap, map}
use Rattle.fs_text.proofs.Wholly.{text_exact, text_found}
use Rattle.fs_text.proofs.text.read.Goals as goal

pub returns-clause-found : goal.returns-clause-found
returns-clause-found c =
    text_found c.args.text.now (map (λ (w : Bor (List ℕ)). w.now) c.deref.result.now) c.read_words.result
    (ap (map (λ (w : Bor (List ℕ)). w.now)) c.deref.ensures.value ∙ c.in_ok-words.ensures) c.read_words.ensures

pub returns-clause-exact : goal.returns-clause-exact
returns-clause-exact c =
    text_exact c.args.text.now (map (λ (w : Bor (List ℕ)). w.now) c.deref.result.now) c.read_words.result
    (ap (map (λ (w : Bor (List ℕ)). w.now)) c.deref.ensures.value ∙ c.in_ok-words.ensures) c.read_words.ensures
