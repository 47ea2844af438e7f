use Rattle.fs_attrs.proofs.Words.{◌≡◌, ℕ, Bool, true, false, not, ◌&&◌, if◌then◌else◌, List, Option, refl, Some, None, sym, subst, ap, ◌∙◌, Attribute}
use Rattle.fs_attrs.proofs.Words.{Valued, attributes_of, are_attributes, routes_doubled, values_of, lent, lent_values}
use Rattle.fs_attrs.proofs.AttributeScans.{SoFar, attributes_end, whole_more, whole_end, kept_next, kept_twice, kept_all, kept_once}
use Rattle.fs_attrs.proofs.attributes.read_values.Goals as goal

-- over the two tests
abbrev values_at : Bool → Bool → Valued → Option Valued
values_at whole doubled values = if whole && not doubled then Some values else None

none_doubled : (whole : Bool) (values : Valued) → None ≡ values_at whole true values
none_doubled true values = refl
none_doubled false values = refl

pub loop-attribute-preserved : goal.loop-attribute-preserved
loop-attribute-preserved c =
    let next : Attribute × List ℕ = (lent c.in-Some.attribute, c.in-Some.behind.now) in
    let all : List Attribute = attributes_of c.args.octets.now in
    record {
      whole = sym (whole_more c.loop-attribute.rest.now next (sym c.in-Some.ensures)) ∙ c.loop-attribute.invariant.whole;
      found =
          subst (λ (z : Valued). SoFar z (attributes_of next.1) all) (sym c.keep.ensures)
          (kept_next (lent_values c.loop-attribute.values) c.loop-attribute.rest.now next all (sym c.in-Some.ensures) (sym c.has_routes_of.ensures
          ∙ c.if-has_routes_of.false) c.loop-attribute.invariant.found);
    }

pub returns-then-has_routes_of : goal.returns-then-has_routes_of
returns-then-has_routes_of c =
    let all : List Attribute = attributes_of c.args.octets.now in
    let twice = kept_twice (lent_values c.loop-attribute.values) c.loop-attribute.rest.now (lent c.in-Some.attribute, c.in-Some.behind.now) all
    (sym c.in-Some.ensures)
    (sym c.has_routes_of.ensures ∙ c.if-has_routes_of.true) c.loop-attribute.invariant.found in
    none_doubled (are_attributes c.args.octets.now) (values_of all)
    ∙ ap (λ (b : Bool). values_at (are_attributes c.args.octets.now) b (values_of all)) (sym twice)

pub returns-then-is_empty : goal.returns-then-is_empty
returns-then-is_empty c =
    let octets : List ℕ = c.loop-attribute.rest.now in
    let all : List Attribute = attributes_of c.args.octets.now in
    let so = subst (λ (z : List Attribute). SoFar (lent_values c.loop-attribute.values) z all) (attributes_end octets (sym c.in_default.ensures))
    c.loop-attribute.invariant.found in
    let whole : true ≡ are_attributes c.args.octets.now =
    sym c.if-is_empty.true ∙ c.is_empty.ensures ∙ sym (whole_end octets (sym c.in_default.ensures)) ∙ c.loop-attribute.invariant.whole in
    ap (λ (z : Valued). Some z) (kept_all (lent_values c.loop-attribute.values) all so)
    ∙ ap (λ (b : Bool). values_at b false (values_of all)) whole
    ∙ ap (λ (b : Bool). values_at (are_attributes c.args.octets.now) b (values_of all)) (kept_once (lent_values c.loop-attribute.values) all so)

pub returns-else-is_empty : goal.returns-else-is_empty
returns-else-is_empty c =
    let all : List Attribute = attributes_of c.args.octets.now in
    let cut : false ≡ are_attributes c.args.octets.now =
    sym c.if-is_empty.false ∙ c.is_empty.ensures ∙ sym (whole_end c.loop-attribute.rest.now (sym c.in_default.ensures)) ∙ c.loop-attribute.invariant.whole in
    ap (λ (b : Bool). values_at b (routes_doubled all) (values_of all)) cut
