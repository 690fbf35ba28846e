-- Limits of whole texts, by computation.
use Rattle.std.proofs.Common.{ℕ, ◌≡◌, List, refl, Some, None}
use Rattle.std.specs.Prelude.{codes}
use Rattle.kif.proofs.Facts.{items_in}
use Rattle.statement.specs.Items.{alternatives}
use Rattle.statement.specs.declared.excess.Excess.TheVariants.{Base, Inputs, Instances, Text}
use Rattle.statement.specs.declared.width.Width.TheVariants.{Plain}
use Rattle.statement.specs.Limits.{excess_by, excess_in}

doubled_nine : List ℕ
doubled_nine = codes "(role a)(p0 a)(<= (p1 (f ?x ?x)) (p0 ?x))(<= (p2 (f ?x ?x)) (p1 ?x))(<= (p3 (f ?x ?x)) (p2 ?x))(<= (p4 (f ?x ?x)) (p3 ?x))(<= (p5 (f ?x ?x)) (p4 ?x))(<= (p6 (f ?x ?x)) (p5 ?x))(<= (p7 (f ?x ?x)) (p6 ?x))(<= (p8 (f ?x ?x)) (p7 ?x))(<= (p9 (f ?x ?x)) (p8 ?x))"

nine_fit : excess_in Plain (alternatives (items_in doubled_nine)) ≡ None
unfolding items_in doubled_nine
nine_fit = refl

doubled_ten : List ℕ
doubled_ten = codes "(role a)(p0 a)(<= (p1 (f ?x ?x)) (p0 ?x))(<= (p2 (f ?x ?x)) (p1 ?x))(<= (p3 (f ?x ?x)) (p2 ?x))(<= (p4 (f ?x ?x)) (p3 ?x))(<= (p5 (f ?x ?x)) (p4 ?x))(<= (p6 (f ?x ?x)) (p5 ?x))(<= (p7 (f ?x ?x)) (p6 ?x))(<= (p8 (f ?x ?x)) (p7 ?x))(<= (p9 (f ?x ?x)) (p8 ?x))(<= (p10 (f ?x ?x)) (p9 ?x))"

ten_pass : excess_in Plain (alternatives (items_in doubled_ten)) ≡ Some Text
unfolding items_in doubled_ten
ten_pass = refl

-- The course, by small limits: base, input and role are fixed and have 2, 2 and 1 instances, and then
-- come 2 of legal and 1 of next; the heads of base and role have 8 bytes, those of input 11.

course_text : List ℕ
course_text = codes "(role a)(base p)(base q)(input a x)(input a y)(<= (legal a ?m) (input a ?m))(<= (next p) (true q))"

all_fit : excess_by (record { instances = 8; text = 11; base = 2; inputs = 2 }) (alternatives (items_in course_text)) ≡ None
unfolding items_in course_text
all_fit = refl

instances_before_text : excess_by (record { instances = 1; text = 7; base = 2; inputs = 2 }) (alternatives (items_in course_text)) ≡ Some Instances
unfolding items_in course_text
instances_before_text = refl

text_before_later_instances : excess_by (record { instances = 3; text = 7; base = 1; inputs = 1 }) (alternatives (items_in course_text)) ≡ Some Text
unfolding items_in course_text
text_before_later_instances = refl

instances_at_the_second : excess_by (record { instances = 3; text = 10; base = 1; inputs = 1 }) (alternatives (items_in course_text)) ≡ Some Instances
unfolding items_in course_text
instances_at_the_second = refl

fixed_text_before_base : excess_by (record { instances = 4; text = 10; base = 1; inputs = 1 }) (alternatives (items_in course_text)) ≡ Some Text
unfolding items_in course_text
fixed_text_before_base = refl

base_before_inputs : excess_by (record { instances = 5; text = 11; base = 1; inputs = 1 }) (alternatives (items_in course_text)) ≡ Some Base
unfolding items_in course_text
base_before_inputs = refl

inputs_before_the_others : excess_by (record { instances = 5; text = 11; base = 2; inputs = 1 }) (alternatives (items_in course_text)) ≡ Some Inputs
unfolding items_in course_text
inputs_before_the_others = refl

others_last : excess_by (record { instances = 7; text = 11; base = 2; inputs = 2 }) (alternatives (items_in course_text)) ≡ Some Instances
unfolding items_in course_text
others_last = refl
