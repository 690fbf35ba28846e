use Rattle.unroll.proofs.ByNumber.{all_reached}
use Rattle.unroll.proofs.laws.where_all_are_reached_by_number_all_terms_are.Goals as goal

pub returns : goal.returns
returns c = λ rules g is numbers t a. all_reached rules g is (c.what_is_reached_by_number_is_reached.ensures rules g is) numbers t a
