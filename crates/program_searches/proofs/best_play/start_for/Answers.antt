use Rattle.std.proofs.Common.{ℕ, Some, None}
use Rattle.std.specs.Prelude.{Result, Ok, ◌≡◌}
use Rattle.statement.specs.Answers.{Reply}
use Rattle.statement.specs.Rules.{State}
use Rattle.statement.specs.declared.history_fault.HistoryFault.{HistoryFault}
use Rattle.statement.specs.Histories.{IsHistoryOf}
use Rattle.statement.specs.Moving.{history_reply}
use Rattle.statement.specs.Solving.{IsRoleNamed}
use Rattle.statement.specs.ForRole.{IsRoleReply}
use Rattle.program_searches.specs.Searching.{LinesOf}
use Rattle.program_searches.specs.Histories.{named}
use Rattle.program_searches.proofs.NoRole.{no_role_told, some_role}
use Rattle.program_searches.proofs.Searches.{still_started}
use Rattle.program_searches.proofs.best_play.start_for.Goals as goal

pub returns-in-Some : goal.returns-in-Some
returns-in-Some g c =
    let game = named (g.G.Game.rules c.args.game.now) (g.G.Game.role_name c.args.game.now) (g.G.Game.move_name c.args.game.now) in
    let sought = c.args.sought.now in
    let role : IsRoleNamed game sought.role.now (Some c.in-Some.role) = rw c.in-Some.is at c.in_ok-role.ensures.named in
    still_started g.G.Game c.args.game.now
    (λ (lines : LinesOf) (reply : Reply). (ended : Result State HistoryFault) × IsHistoryOf game sought.after.now ended
    × (reply ≡ history_reply game (lines game c.in-Some.role sought.depth sought.at_bound) ended))
    (λ (lines : LinesOf) (reply : Reply). IsRoleReply game sought.role.now (λ r. lines game r sought.depth sought.at_bound) sought.after.now reply)
    (λ lines reply h. some_role game sought.role.now (λ r. lines game r sought.depth sought.at_bound) sought.after.now c.in-Some.role role reply h)
    c.start_after.result c.start_after.ensures

pub returns-in_ok-refused-in-None : goal.returns-in_ok-refused-in-None
returns-in_ok-refused-in-None g c = λ lines.
    let game = named (g.G.Game.rules c.args.game.now) (g.G.Game.role_name c.args.game.now) (g.G.Game.move_name c.args.game.now) in
    let sought = c.args.sought.now in
    let none : IsRoleNamed game sought.role.now None = rw c.in-None.is at c.in_ok-role.ensures.named in
    no_role_told {E = ℕ} game sought.role.now (λ r. lines game r sought.depth sought.at_bound) sought.after.now (Ok c.in_ok-refused-in-None.field-0) none
    c.in_ok-refused-in-None.ensures.line c.in_ok-refused-in-None.ensures.status
