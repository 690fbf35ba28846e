-- The fault that is found first, and the rule set where none is found.
use Rattle.std.proofs.Common.{ℕ, suc, ◌≡◌, ◌==◌, Bool, false, List, [], ◌∷◌, length, map, refl, sym, ◌∙◌, ap, subst, Option}
use Rattle.std.proofs.Common.{Some, None}
use Rattle.std.proofs.lemmas.List.{length-map}
use Rattle.statement.specs.Tree.{Tree, text}
use Rattle.statement.specs.declared.rule_fault.RuleFault.{RuleFault}
use Rattle.statement.specs.declared.rule_fault.RuleFault.TheVariants as errors
use Rattle.rules.specs.declared.rule_set.Keywords.{Keywords}
use Rattle.statement.specs.RuleFaults.{PassesFirstTests, IsRuleFault}
use Rattle.statement.specs.Clause as said
use Rattle.rules_clauses.specs.Adding.{AreDifferentSignatures, HaveNames, StandForEach}
use Rattle.statement.specs.Dependence.{dependences, is_fixed}
use Rattle.rules_clauses.specs.declared.numbered.Alternative.{Alternative}
use Rattle.rules_clauses.specs.declared.numbered.SharedAlternative.{SharedAlternative}
use Rattle.rules.specs.Drafts.{Numbered, numbered, shared, alternative_of, AlternativeStandsFor, StandForAlternatives}
use Rattle.statement.specs.Items.{alternatives}
use Rattle.rules.specs.Layout.{IsLayoutOf, IsDependenceFault}
use Rattle.statement.specs.Order.{relations_in_order}
use Rattle.statement.specs.Profile.{ItemFault, bad_keyword, not_safe, recursive, bad_dependence, or_item_fault, first_failing, first_too_many}
use Rattle.statement.specs.Profile.{misuses_word, is_unsafe, is_recursive, depends_badly, none_of, roles, item_fault_in}
use Rattle.rules.specs.RuleSets.{rules_of, AreWhole, AreKeywords, HasItems, IsSound}
use Rattle.rules_profile.specs.Stated.{AreRolePlaces, roles_at}
use Rattle.rules_clauses.specs.Numbers.{NamesDiffer}
use Rattle.rules_clauses.specs.Store.{Data, relation_at, stated_literal}
use Rattle.rules_clauses.proofs.Facts.{is_inside, are_inside}

-- The tests, each with those behind it.

abbrev from_bad : List Tree → Option ItemFault
from_bad items =
    or_item_fault (first_failing bad_dependence (depends_badly (dependences (alternatives items)) (alternatives items)) 1 items) (none_of (roles items))

abbrev from_recursive : List Tree → Option ItemFault
from_recursive items = or_item_fault (first_failing recursive (is_recursive (dependences (alternatives items))) 1 items) (from_bad items)

abbrev from_safety : List Tree → Option ItemFault
from_safety items = or_item_fault (first_failing not_safe is_unsafe 1 items) (from_recursive items)

abbrev from_limits : List Tree → Option ItemFault
from_limits items = or_item_fault (first_too_many 1 [] items) (from_safety items)

abbrev from_words : List Tree → Option ItemFault
from_words items = or_item_fault (first_failing bad_keyword misuses_word 1 items) (from_limits items)

past : (a b : Option ItemFault) → a ≡ None → or_item_fault a b ≡ b
past a b e = ap (λ (o : Option ItemFault). or_item_fault o b) e

here : (a b : Option ItemFault) (f : ItemFault) → a ≡ Some f → or_item_fault a b ≡ Some f
here a b f e = ap (λ (o : Option ItemFault). or_item_fault o b) e

past_first : (items : List Tree) → PassesFirstTests items → item_fault_in items ≡ from_safety items
past_first items p = past _ (from_words items) p.forms ∙ past _ (from_limits items) p.words ∙ past _ (from_safety items) p.limits

past_safety : (items : List Tree) → PassesFirstTests items → first_failing not_safe is_unsafe 1 items ≡ None → item_fault_in items ≡ from_recursive items
past_safety items p e = past_first items p ∙ past _ (from_recursive items) e

-- Faults.

pub dependence_fault : (items : List Tree) (fault : RuleFault) → PassesFirstTests items → first_failing not_safe is_unsafe 1 items ≡ None
    → IsDependenceFault items fault → IsRuleFault items fault
dependence_fault items (errors.Recursive n) p e s = past_safety items p e ∙ here _ (from_bad items) (recursive n) s
dependence_fault items (errors.BadDependence n) p e s = past_safety items p e ∙ past _ (from_bad items) s.0
    ∙ here _ (none_of (roles items)) (bad_dependence n) s.1
dependence_fault items errors.NoMemory p e s = p
dependence_fault items (errors.BadForm n) p e s = absurd s
dependence_fault items (errors.BadKeyword n) p e s = absurd s
dependence_fault items (errors.Unsafe n) p e s = absurd s
dependence_fault items errors.NoRole p e s = absurd s
dependence_fault items (errors.TooMany n excess) p e s = absurd s

-- only the roles are left to look at
roles_left : (items : List Tree) (d : Data) (fixed : List Bool) (order : List ℕ) → PassesFirstTests items
    → first_failing not_safe is_unsafe 1 items ≡ None → IsLayoutOf d items fixed order
    → item_fault_in items ≡ none_of (roles items)
roles_left items d fixed order p e l = past_safety items p e ∙ past _ (from_bad items) l.not_recursive ∙ past _ (none_of (roles items)) l.not_bad

-- Alternatives.

body_stands : (from : ℕ) (d : Data) (ns : List ℕ) (ls : List said.Literal) → StandForEach from d ns ls → map (stated_literal d from) ns ≡ ls
body_stands from d [] [] s = refl
body_stands from d [] (l ∷ ls) s = absurd s
body_stands from d (n ∷ ns) [] s = absurd s
body_stands from d (n ∷ ns) (l ∷ ls) s = ap (λ (k : said.Literal). k ∷ map (stated_literal d from) ns) s.0.same
    ∙ ap (λ (ks : List said.Literal). l ∷ ks) (body_stands from d ns ls s.1)

alternative_stands : (d : Data) (n : Numbered) (a : said.Alternative) → AlternativeStandsFor d n a → alternative_of d n ≡ a
alternative_stands d n a s =
    ap (λ (h : said.Atom). record { head = h; body = map (stated_literal d n.variables.from) n.body }) s.head.same
    ∙ ap (λ (ls : List said.Literal). record { head = a.head; body = ls }) (body_stands n.variables.from d n.body a.body s.body)

pub rules_stand : (d : Data) (ns : List Numbered) (rules : List said.Alternative) → StandForAlternatives d ns rules → rules_of d ns ≡ rules
rules_stand d [] [] s = refl
rules_stand d [] (a ∷ rules) s = absurd s
rules_stand d (n ∷ ns) [] s = absurd s
rules_stand d (n ∷ ns) (a ∷ rules) s = ap (λ (b : said.Alternative). b ∷ rules_of d ns) (alternative_stands d n a s.0)
    ∙ ap (λ (bs : List said.Alternative). a ∷ bs) (rules_stand d ns rules s.1)

pub whole_stand : (d : Data) (ns : List Numbered) (rules : List said.Alternative) → StandForAlternatives d ns rules → AreWhole d ns
whole_stand d [] [] s = tt
whole_stand d [] (a ∷ rules) s = absurd s
whole_stand d (n ∷ ns) [] s = absurd s
whole_stand d (n ∷ ns) (a ∷ rules) s = (
  (is_inside _ d n.head a.head s.0.head, are_inside _ d n.body a.body s.0.body, s.0.variables),
  whole_stand d ns rules s.1,
)

-- alternatives with literals of their own stand for what those with shared ones do
pub each_own : (d : Data) (all : List Alternative) (seen ones : List SharedAlternative) (rules : List said.Alternative)
    → map numbered all ≡ map shared seen → seen ≡ ones → StandForAlternatives d (map shared ones) rules → StandForAlternatives d (map numbered all) rules
each_own d all seen ones rules own same s =
    subst (λ (ns : List Numbered). StandForAlternatives d ns rules) (sym (own ∙ ap (λ (as' : List SharedAlternative). map shared as') same)) s

-- What is counted.

as_many : (d : Data) (ns : List Numbered) (rules : List said.Alternative) → StandForAlternatives d ns rules → length ns ≡ length rules
as_many d [] [] s = refl
as_many d [] (a ∷ rules) s = absurd s
as_many d (n ∷ ns) [] s = absurd s
as_many d (n ∷ ns) (a ∷ rules) s = ap (λ (k : ℕ). suc k) (as_many d ns rules s.1)

pub as_many_alternatives : (d : Data) (ones : List SharedAlternative) (items : List Tree) → StandForAlternatives d (map shared ones) (alternatives items)
    → length ones ≡ length (alternatives items)
as_many_alternatives d ones items s = sym (length-map ones shared) ∙ as_many d (map shared ones) (alternatives items) s

pub as_many_relations : (d : Data) (items : List Tree) (fixed : List Bool) (order : List ℕ) → IsLayoutOf d items fixed order
    → length order ≡ length (relations_in_order (alternatives items))
as_many_relations d items fixed order l =
    sym (length-map order (λ r. relation_at d r)) ∙ ap (λ (ps : List said.Relation). length ps) l.in_order

-- What is accepted.

role_there : (rs : List Tree) → (length rs == 0) ≡ false → none_of rs ≡ None
role_there [] e = absurd cc
role_there (r ∷ rs) e = refl

-- no fault is left where some item states a role
pub no_fault : (items : List Tree) (places : List ℕ) (d : Data) (fixed : List Bool) (order : List ℕ) → PassesFirstTests items
    → first_failing not_safe is_unsafe 1 items ≡ None
    → IsLayoutOf d items fixed order → roles_at items places ≡ roles items → AreRolePlaces items places → (length places == 0) ≡ false
    → item_fault_in items ≡ None
no_fault items places d fixed order p e l same are some =
    roles_left items d fixed order p e l
    ∙ role_there (roles items) (ap (λ (n : ℕ). n == 0) (sym (ap (λ (rs : List Tree). length rs) same) ∙ are.each_one) ∙ some)

-- the texts are those of the roles
pub texts_are : (items : List Tree) (places read : List ℕ) (texts : List (List ℕ)) → roles_at items places ≡ roles items → read ≡ places
    → texts ≡ map text (roles_at items read)
    → texts ≡ map text (roles items)
texts_are items places read texts same there e = e ∙ ap (λ (ks : List ℕ). map text (roles_at items ks)) there
    ∙ ap (λ (rs : List Tree). map text rs) same

pub has_items : (items : List Tree) (d : Data) (ns : List Numbered) (texts : List (List ℕ)) → item_fault_in items ≡ None
    → StandForAlternatives d ns (alternatives items) → texts ≡ map text (roles items)
    → HasItems (rules_of d ns) texts
has_items items d ns texts none s e = record { items = items; accepted = none; same = sym (rules_stand d ns (alternatives items) s); roles_are = e }

pub is_sound : (items : List Tree) (d : Data) (ns : List Numbered) (fixed : List Bool) (order : List ℕ) (k : Keywords) → NamesDiffer d.words
    → AreDifferentSignatures d.signatures → HaveNames d
    → StandForAlternatives d ns (alternatives items) → IsLayoutOf d items fixed order → AreKeywords d.words k → IsSound d ns fixed order k
is_sound items d ns fixed order k words signatures named s l keywords =
    let same = sym (rules_stand d ns (alternatives items) s) in
    record {
      words = words;
      signatures = signatures;
      named = named;
      whole = whole_stand d ns (alternatives items) s;
      each_fixed = l.each_fixed;
      fixed_are = λ r h. l.fixed_are r h ∙ ap (λ (rules : List said.Alternative). is_fixed rules (relation_at d r)) same;
      inside = l.inside;
      in_order = l.in_order ∙ ap (λ (rules : List said.Alternative). relations_in_order rules) same;
      keywords = keywords;
    }
