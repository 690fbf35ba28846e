use Rattle.std.proofs.Common.{◌≡◌, ◌+◌, ℕ, suc, cond, length, get_or, ap, ◌∙◌, arith, Option, Some, None}
use Rattle.statement.specs.declared.kind.Kind.{Kind}
use Rattle.ground_instances.specs.GroundView.{kinds_of}
use Rattle.game_rules.specs.declared.naming.Naming.TheVariants.{ByLegal}
use Rattle.game_rules.specs.GroundFacts.{few_atoms}
use Rattle.game_rules.specs.RulePlay.{kind_at, names}
use Rattle.position.specs.LanePlans.{legal_named}
use Rattle.position.proofs.net_planning.find_legals.Goals as goal

pub overflow_cast-atom : goal.overflow_cast-atom
overflow_cast-atom c =
    let all = c.atoms-atom-end.ensures in
    let most = few_atoms c.args.ground.now in
    omega arith

pub loop-atom-preserved : goal.loop-atom-preserved
loop-atom-preserved c =
    let kinds = kinds_of c.args.ground.now in
    let role = c.args.role in
    let n = c.loop-atom.atom in
    let old = c.loop-atom.found.items in
    let size : length old ≡ c.args.moves = c.loop-atom.invariant.size in
    let more : suc n ≡ n + 1 = omega arith in
    record {
      size = c.note_legal.ensures.size ∙ size;
      each = λ m lt.
          c.note_legal.ensures.each m (omega arith)
          ∙ ap (λ (k : Kind). cond (names (ByLegal role) k m) (Some n) (get_or old m None)) c.kind_of.ensures
          ∙ ap (λ (o : Option ℕ). cond (names (ByLegal role) (kind_at kinds n) m) (Some n) o) (c.loop-atom.invariant.each m lt)
          ∙ ap (legal_named kinds role m) more;
    }
