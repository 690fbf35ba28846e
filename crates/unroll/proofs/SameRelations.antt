-- Lists with the same relations.
use Rattle.std.proofs.Common.{◌≡◌, List, sym, ◌∙◌}
use Rattle.statement.specs.Clause.{Alternative, Relation, relation_of, atom_of}
use Rattle.statement.specs.Dependence.{is_among}
use Rattle.unroll_strata.specs.Founded.{StandAlone}

-- of two lists with the same relations the one stands alone if the other does
pub alone_as : (own list below : List Relation) (rules out : List Alternative) → ((p : Relation) → is_among p own ≡ is_among p list)
    → StandAlone list below rules out → StandAlone own below rules out
alone_as own list below rules out same a = record {
  own_asked = λ rule r o l in_body other.
      same (relation_of (atom_of l)) ∙ a.own_asked rule r (sym (same (relation_of rule.head)) ∙ o) l in_body other;
  below_asked = a.below_asked;
  own_below = λ p o. a.own_below p (sym (same p) ∙ o);
  own_still = λ p o. a.own_still p (sym (same p) ∙ o);
  own_other = λ p o. a.own_other p (sym (same p) ∙ o);
  own_constant = λ p o. a.own_constant p (sym (same p) ∙ o);
  no_base = a.no_base;
  no_next = a.no_next;
}
