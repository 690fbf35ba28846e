-- What a command asks of the rules.
use Rattle.program_words.specs.declared.command.Command.{Command}
use Rattle.program_words.specs.declared.command.Command.TheVariants.{Show, Check, Ask}
use Rattle.program_words.specs.declared.command.Inquiry.{Inquiry}
use Rattle.program_words.specs.declared.command.Inquiry.TheVariants.{Net, Moves, State, Solve, SolveWithin, Values, ValuesWithLines, Deepen}
use Rattle.statement.specs.Queries.{Query, show, check, net, moves, state, solve, solve_within, values, values_with_lines, deepen, asked_in}

-- the cut is no part of it
abbrev pub query_about : Inquiry → Query
query_about Net = net
query_about (Moves after) = moves after.now
query_about (State after) = state after.now
query_about (Solve sought) = solve sought.role.now sought.depth sought.at_bound sought.after.now
query_about (SolveWithin sought window) = solve_within sought.role.now sought.depth sought.at_bound window sought.after.now
query_about (Values sought) = values sought.role.now sought.depth sought.at_bound sought.after.now
query_about (ValuesWithLines sought) = values_with_lines sought.role.now sought.depth sought.at_bound sought.after.now
query_about (Deepen sought) = deepen sought.role.now sought.depth sought.at_bound sought.after.now

abbrev pub query_of : Command → Query
query_of Show = show
query_of Check = check
query_of (Ask inquiry width) = asked_in width (query_about inquiry)
