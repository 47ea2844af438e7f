use Rattle.fs_compile.proofs.Words.{◌≡◌, ℕ, List, sym, ap, subst, ◌∙◌, IsClass, key_of}
use Rattle.fs_compile.proofs.filters.Filter.rows.Goals as goal

class_at : (bounds : List ℕ) (n m class : ℕ) → n ≡ m → IsClass bounds n class → IsClass bounds m class
class_at bounds n m class same is = subst (λ (k : ℕ). IsClass bounds k class) same is

pub returns-clause-rows : goal.returns-clause-rows
returns-clause-rows c = record {
  source = c.row.ensures _ _ _ _ c.words_of-words.ensures (class_at _ _ _ _ c.key.ensures c.class-source.ensures) c.requires.filter.source;
  protocol = c.row-2.ensures _ _ _ _ c.words_of-words.ensures
      (class_at _ _ _ _ (c.number.ensures ∙ sym (ap (key_of c.args.tested.now.facts.now) c.requires.filter.fields.0)) c.class-protocol.ensures)
      c.requires.filter.protocol;
  destination_port = c.row-3.ensures _ _ _ _ c.words_of-words.ensures
      (class_at _ _ _ _ (c.number-2.ensures ∙ sym (ap (key_of c.args.tested.now.facts.now) c.requires.filter.fields.1)) c.class-into.ensures)
      c.requires.filter.destination_port;
  source_port = c.row-4.ensures _ _ _ _ c.words_of-words.ensures
      (class_at _ _ _ _ (c.number-3.ensures ∙ sym (ap (key_of c.args.tested.now.facts.now) c.requires.filter.fields.2)) c.class-out_of.ensures)
      c.requires.filter.source_port;
  length = c.row-5.ensures _ _ _ _ c.words_of-words.ensures
      (class_at _ _ _ _ (c.number-4.ensures ∙ sym (ap (key_of c.args.tested.now.facts.now) c.requires.filter.fields.3)) c.class-length.ensures)
      c.requires.filter.length;
  ports = c.rows.ensures _ _ _ _ _ _ c.words_of-words.ensures (class_at _ _ _ _ c.number-2.ensures c.class-into.ensures)
      (class_at _ _ _ _ c.number-3.ensures c.class-out_of.ensures) c.requires.filter.ports;
}
