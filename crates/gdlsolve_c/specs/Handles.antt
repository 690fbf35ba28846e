-- This crate's own: what `run` promises does not rest on it.
-- What a handle stands for, and what a caller of the library owns of one.
use Rattle.std.specs.Prelude.{ℕ, zero, suc, ◌≡◌, ◌⊎◌, List, Option, IfSome}
use Rattle.std.specs.Box.Ownership.{box_owns}
use Rattle.std.specs.Ptr.{Ptr, null_ptr}
use Rattle.std.specs.declared.alloc.Global.{Global}
use Rattle.std.specs.contracts.impls.GlobalAllocator.TheImpl.{ghosts}
use base.Fml.{Fml, feq, fex, fsep, ftrue}
use Rattle.ground_instances.specs.Grounds.{text_at, texts_at}
use Rattle.ground_instances.specs.GroundView.{roles_of, inputs_of}
use Rattle.game_rules.specs.RuleState.{rules_of}
use Rattle.position.specs.declared.net_game.NetGame.{NetGame}
use Rattle.statement.specs.declared.width.Width.TheVariants.{Plain}
use Rattle.program_replies.specs.Playing.{PlaysText}
use Rattle.gdlsolve_c.specs.declared.handle.Handle.{Handle}
use Rattle.gdlsolve_c.specs.contracts.handle.Handle.{the_row}

-- the game plays the rules with these bytes
abbrev Plays : List ℕ → NetGame → Type 0
Plays rules g =
    PlaysText Plain rules g.played (rules_of g.played) (λ r. text_at (roles_of g.played) r) (λ r m. text_at (texts_at (inputs_of g.played) r) m)

-- no game is made yet, or it plays the rules with these bytes
abbrev pub IsMadeOf : Option NetGame → List ℕ → Type 0
IsMadeOf made rules = IfSome made (Plays rules)

-- the bytes of the rules are kept, and the game is theirs
abbrev pub StandsFor : Handle → List ℕ → Type 0
StandsFor handle rules = (handle.rules.items ≡ rules) × IsMadeOf handle.made handle.rules.items

-- a handle that stands for these rules lies here, with the right to free its block
abbrev pub LeadsTo : Ptr → List ℕ → Fml
LeadsTo p rules =
    fex Global (λ owner. fex Handle (λ handle. fsep (box_owns (ghosts.dealloc_token owner) the_row p handle) (fex (StandsFor handle rules) (λ _. ftrue))))

-- with status 0 the pointer leads to a handle that stands for the rules, and with any other it is null
abbrev pub OpensTo : ℕ → Ptr → List ℕ → Fml
OpensTo zero p rules = LeadsTo p rules
OpensTo (suc status) p rules = feq Ptr p null_ptr

-- opened, or want of memory
abbrev pub IsOpenStatus : ℕ → Type 0
IsOpenStatus status = (status ≡ 0) ⊎ (status ≡ 3)
