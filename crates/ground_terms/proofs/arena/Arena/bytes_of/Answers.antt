use Rattle.std.proofs.Common.{[], ◌∷◌, ◌≤◌, length, sym, subst, arith}
use Rattle.rules_clauses.specs.declared.numbered.Part.{Part}
use Rattle.ground_terms.specs.Building.{PartsPlaced, place_value}
use Rattle.ground_terms.specs.Keys.{trees}
use Rattle.ground_terms.specs.Measuring.{bytes_of}
use Rattle.ground_terms.proofs.Built.{below_at}
use Rattle.ground_terms.proofs.Measures.{constant_bytes}
use Rattle.ground_terms.proofs.arena.Arena.bytes_of.Goals as goal

pub length_of-requires : goal.length_of-requires
length_of-requires c =
    below_at _ c.args.values.now c.in-Variable.place
    (subst (λ (p : Part). PartsPlaced (length c.args.self.now.sizes) (length c.args.values.now) (p ∷ [])) c.in-Variable.is c.requires.placed).0
    c.requires.values

pub returns-in-Constant : goal.returns-in-Constant
returns-in-Constant c = λ words e.
    let placed = (subst (λ (p : Part). PartsPlaced (length c.args.self.now.sizes) (length c.args.values.now) (p ∷ [])) c.in-Constant.is c.requires.placed).0
    in
    subst (λ (p : Part). c.saturating_add-in-Constant.result ≤ bytes_of words (place_value (trees words c.args.self.now.keys) c.args.values.now) p)
    (sym c.in-Constant.is)
    (constant_bytes c.args.self.now c.in-Constant.symbol _ c.length_of-in-Constant.result c.saturating_add-in-Constant.result 1
    c.constant.ensures.numbered placed c.constant.ensures.same c.length_of-in-Constant.ensures (let s = c.saturating_add-in-Constant.ensures in omega (arith, s)) words e)

pub returns-in-List : goal.returns-in-List
returns-in-List c = λ words e.
    let placed = (subst (λ (p : Part). PartsPlaced (length c.args.self.now.sizes) (length c.args.values.now) (p ∷ [])) c.in-List.is c.requires.placed).0
    in
    subst (λ (p : Part). c.saturating_add-in-List.result ≤ bytes_of words (place_value (trees words c.args.self.now.keys) c.args.values.now) p)
    (sym c.in-List.is)
    (constant_bytes c.args.self.now c.in-List.symbol _ c.length_of-in-List.result c.saturating_add-in-List.result 3
    c.constant-in-List.ensures.numbered placed c.constant-in-List.ensures.same c.length_of-in-List.ensures (let s = c.saturating_add-in-List.ensures in omega (arith, s)) words e)
