-- Texts, the trees that they stand for, and their faults (GDL Specification LG-2006-01, prefix KIF)
pub mod Tree
pub mod Lexical
pub mod Reading
pub mod TextFaults
-- Terms, items, and the profile of the language (GDL Specification, syntax and restrictions)
pub mod Words
pub mod Clause
pub mod Items
pub mod Dependence
pub mod Safety
pub mod Order
pub mod RuleLimits
pub mod Profile
pub mod RuleFaults
pub mod RuleFaultTexts
-- Meaning by substitution (GDL Specification, semantics)
pub mod Substitution
pub mod Meaning
-- The kept instances in their order, and the limits of instantiation (ground instances)
pub mod Matching
pub mod Printed
pub mod Most
pub mod Listing
pub mod GoalsAndMoves
pub mod Limits
pub mod LimitTexts
-- The nodes of the network (propositional networks, Genesereth and Thielscher, General Game Playing)
pub mod Nodes
-- Play (game model of GDL; `base` and `input` after Genesereth and Thielscher)
pub mod Rules
pub mod NamedRules
pub mod Played
pub mod HistoryTexts
pub mod GameNumbers
pub mod GameOfRules
-- Value, choice and line (minimax with several opponents)
pub mod AtBound
pub mod Windows
pub mod Value
-- Replies
pub mod Queries
pub mod Answers
pub mod Checking
pub mod Games
pub mod Histories
pub mod Moving
pub mod Networks
pub mod Solving
pub mod ForRole
pub mod Within
pub mod MoveValues
pub mod MoveLines
pub mod Deepening
pub mod Holding
pub mod Replies
pub mod Input
pub mod Output
-- Beside the statement: kinds of atoms, and what and gates read, of which several crates speak
pub mod Kinds
pub mod Kept
