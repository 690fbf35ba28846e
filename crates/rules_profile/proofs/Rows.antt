-- Worked lists of items, by computation.
use Rattle.std.proofs.Common.{ℕ, ◌≡◌, List, [], length, refl, Some, None}
use Rattle.std.specs.Prelude.{codes}
use Rattle.kif.proofs.Facts.{items_in}
use Rattle.statement.specs.Items.{alternatives}
use Rattle.statement.specs.Order.{relations_in_order}
use Rattle.statement.specs.Profile.{item_fault_in, bad_form, bad_keyword, too_many, roles_limit, variables_limit, alternatives_limit, not_safe, recursive}
use Rattle.statement.specs.Profile.{bad_dependence, no_role}

empty : item_fault_in [] ≡ Some no_role
empty = refl

two_facts : item_fault_in (items_in (codes "(ROLE A)(role a)")) ≡ None
unfolding items_in
two_facts = refl

unsafe_negation : item_fault_in (items_in (codes "(<= (p ?x) (not (q ?x)))")) ≡ Some (not_safe 1)
unfolding items_in
unsafe_negation = refl

unsafe_or : item_fault_in (items_in (codes "(<= (p ?x) (or (q ?x) (q a)))")) ≡ Some (not_safe 1)
unfolding items_in
unsafe_or = refl

itself : item_fault_in (items_in (codes "(role a)(<= (p ?x) (p ?x))")) ≡ Some (recursive 2)
unfolding items_in
itself = refl

next_from_true : item_fault_in (items_in (codes "(role a)(base q)(<= (next q) (true q))")) ≡ None
unfolding items_in
next_from_true = refl

legal_from_does : item_fault_in (items_in (codes "(role a)(<= (legal a m) (does a m))")) ≡ Some (bad_dependence 2)
unfolding items_in
legal_from_does = refl

base_from_legal : item_fault_in (items_in (codes "(role a)(legal a go)(<= (base p) (legal a go))")) ≡ Some (bad_dependence 3)
unfolding items_in
base_from_legal = refl

true_heads : item_fault_in (items_in (codes "(<= (true x) (role a))")) ≡ Some (bad_keyword 1)
unfolding items_in
true_heads = refl

open_role : item_fault_in (items_in (codes "(role ?x)")) ≡ Some (bad_keyword 1)
unfolding items_in
open_role = refl

not_of_or : item_fault_in (items_in (codes "(<= (p a) (not (or (q a) (q b))))")) ≡ Some (bad_form 1)
unfolding items_in
not_of_or = refl

no_parts : item_fault_in (items_in (codes "()")) ≡ Some (bad_form 1)
unfolding items_in
no_parts = refl

sixteen_roles : item_fault_in
    (items_in (codes "(role r1)(role r2)(role r3)(role r4)(role r5)(role r6)(role r7)(role r8)(role r9)(role r10)(role r11)(role r12)(role r13)(role r14)(role r15)(role r16)")) ≡ None
unfolding items_in
sixteen_roles = refl

seventeen_roles : item_fault_in
    (items_in (codes "(role r1)(role r2)(role r3)(role r4)(role r5)(role r6)(role r7)(role r8)(role r9)(role r10)(role r11)(role r12)(role r13)(role r14)(role r15)(role r16)(role r17)")) ≡ Some (too_many 17 roles_limit)
unfolding items_in
seventeen_roles = refl

form_first : item_fault_in (items_in (codes "(<= (p ?x) (not (q ?x)))(not a)")) ≡ Some (bad_form 2)
unfolding items_in
form_first = refl

word_first : item_fault_in (items_in (codes "(role)(<= (p ?x) (p ?x))")) ≡ Some (bad_keyword 1)
unfolding items_in
word_first = refl

spread : List ℕ
spread = codes "(role a)(<= (p ?x) (q ?x) (or (r ?x) (and (s ?x) (or t u))))"

spread_fault : item_fault_in (items_in spread) ≡ None
unfolding items_in spread
spread_fault = refl

spread_count : length (alternatives (items_in spread)) ≡ 4
unfolding items_in spread
spread_count = refl

spread_relations : length (relations_in_order (alternatives (items_in spread))) ≡ 2
unfolding items_in spread
spread_relations = refl

-- limits of one item

many_variables : item_fault_in
    (items_in (codes "(role a)(<= p (q ?x0 ?x1 ?x2 ?x3 ?x4 ?x5 ?x6 ?x7 ?x8 ?x9 ?x10 ?x11 ?x12 ?x13 ?x14 ?x15 ?x16 ?x17 ?x18 ?x19 ?x20 ?x21 ?x22 ?x23 ?x24 ?x25 ?x26 ?x27 ?x28 ?x29 ?x30 ?x31 ?x32))")) ≡ Some (too_many 2 variables_limit)
unfolding items_in
many_variables = refl

variables_fit : item_fault_in
    (items_in (codes "(role a)(<= p (q ?x0 ?x1 ?x2 ?x3 ?x4 ?x5 ?x6 ?x7 ?x8 ?x9 ?x10 ?x11 ?x12 ?x13 ?x14 ?x15 ?x16 ?x17 ?x18 ?x19 ?x20 ?x21 ?x22 ?x23 ?x24 ?x25 ?x26 ?x27 ?x28 ?x29 ?x30 ?x31))")) ≡ None
unfolding items_in
variables_fit = refl

many_alternatives : item_fault_in (items_in (codes "(role a)(<= p (or a b c d) (or a b c d e) (or a b c d))")) ≡ Some (too_many 2 alternatives_limit)
unfolding items_in
many_alternatives = refl

alternatives_fit : item_fault_in (items_in (codes "(role a)(<= p (or a b c d) (or a b c d) (or a b c d))")) ≡ None
unfolding items_in
alternatives_fit = refl

-- `distinct` rests on nothing, and binds nothing

distinct_binds_nothing : item_fault_in (items_in (codes "(role a)(<= (p ?x) (distinct ?x a))")) ≡ Some (not_safe 2)
unfolding items_in
distinct_binds_nothing = refl

round_trip : item_fault_in (items_in (codes "(role a)(<= p q)(<= q r)(<= r p)")) ≡ Some (recursive 2)
unfolding items_in
round_trip = refl

through_another : item_fault_in (items_in (codes "(role a)(<= p (does a b))(<= terminal p)")) ≡ Some (bad_dependence 3)
unfolding items_in
through_another = refl
