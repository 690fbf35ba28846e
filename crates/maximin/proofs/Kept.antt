-- What a search leaves as it was.
use Rattle.std.proofs.Common.{◌≡◌, ◌++◌, ◌∷◌, [], ℕ, List, length, map, refl, sym, ap, subst, ◌∙◌, get_or, arith}
use Rattle.std.proofs.lemmas.List.{length-map, take_all, with_items_is}
use Rattle.std.specs.Prelude.{All, vec_capacity}
use Rattle.std.specs.Vec.{with_items}
use Rattle.std.proofs.Math.ListN.{set}
use Rattle.statement.specs.Rules.{Rules}
use Rattle.game.specs.declared.game.Game.{Ghosts}
use Rattle.maximin.specs.declared.children.Children.{Children}
use Rattle.maximin.specs.declared.cursor.Cursor.{Cursor}
use Rattle.maximin.specs.declared.level.Level.{Level}
use Rattle.maximin.specs.declared.memory.Memory.{Memory}
use Rattle.maximin.specs.declared.moves.Moves.{Moves}
use Rattle.maximin.specs.declared.run.Run.{Run}
use Rattle.maximin.specs.declared.room.Room.{Room}
use Rattle.maximin.specs.declared.tools.Tools.{Tools}
use Rattle.maximin.specs.Children.{AreSameStates, children_capacities}
use Rattle.maximin.specs.Cursor.{cursor_capacities}
use Rattle.maximin.specs.Level.{IsLevelOf, level_capacities}
use Rattle.maximin.specs.Memory.{IsMemoryOf, memory_capacities}
use Rattle.maximin.specs.Moves.{AreLonger, HaveTurns, moves_capacities}
use Rattle.maximin.specs.Run.{turns_in, run_capacities}
use Rattle.maximin.specs.Room.{IsRoomKept}
use Rattle.maximin.specs.Tools.{AreFit, AreKept, tools_capacities}
use Rattle.maximin.proofs.Packs.{turns_count}
use Rattle.maximin.proofs.Parts.{All-first_and_rest, all_kept, both_joined}

kept_joined : (c : ℕ) (a b : List ℕ) (xs ys : List (List ℕ)) → a ≡ b → xs ≡ ys → (c ∷ []) ∷ a ∷ xs ≡ (c ∷ []) ∷ b ∷ ys
kept_joined c a b xs ys e h = cc

-- joint moves whose cursor and run have what they had
pub moves_kept : (m : Moves) (cursor : Cursor) (run : Run) → cursor_capacities cursor ≡ cursor_capacities m.cursor
    → run_capacities run ≡ run_capacities m.run → moves_capacities record { cursor = cursor; run = run } ≡ moves_capacities m
moves_kept m cursor run h k = both_joined (cursor_capacities cursor) (run_capacities run) (cursor_capacities m.cursor) (run_capacities m.run) h k

-- a run that grows from nothing added, and behind a cursor that was set up anew
pub longer_at_first : {g : Rules} {m : Moves} → HaveTurns g m → AreLonger g m m
longer_at_first {g} {m} h =
    let size : length (turns_in m.run) ≡ m.run.count = turns_count g.roles m.run h.moves.run in
    record {
      moves = h.moves;
      capacities = refl;
      known = h.known;
      count = omega arith;
      front = take_all m.run.count (turns_in m.run) (omega arith);
    }

pub longer_from : {g : Rules} {new : Moves} (m : Moves) (cursor : Cursor) → cursor_capacities cursor ≡ cursor_capacities m.cursor
    → AreLonger g record { cursor = cursor; run = m.run } new → AreLonger g m new
longer_from m cursor same h = record {
  moves = h.moves;
  capacities = h.capacities ∙ moves_kept m cursor m.run same refl;
  known = h.known;
  count = h.count;
  front = h.front;
}

module _ {G P W M : Type 0} (of : Ghosts G P W M) (game : G) where
  -- a level whose joint moves and states have what they had
  pub level_kept : (l : Level P M) (moves : Moves) (children : Children P M) → moves_capacities moves ≡ moves_capacities l.moves
      → children_capacities of game children ≡ children_capacities of game l.children
      → level_capacities of game record { moves = moves; children = children } ≡ level_capacities of game l
  level_kept l moves children h k = both_joined (moves_capacities moves) (children_capacities of game children) (moves_capacities l.moves)
      (children_capacities of game l.children) h k

  -- one of the states is another, and what is known of them too
  pub children_kept : (position old : P) (many new : M) → of.capacities game position ≡ of.capacities game old → new ≡ many
      → of.capacities game position ++ of.many_capacities game new ≡ of.capacities game old ++ of.many_capacities game many
  children_kept position old many new h k = both_joined (of.capacities game position) (of.many_capacities game new) (of.capacities game old)
      (of.many_capacities game many) h (ap (of.many_capacities game) k)

module _ {G P W M : Type 0} {of : Ghosts G P W M} {game : G} where
  pub same_states_then : {a b c : Children P M} → AreSameStates of game a b → AreSameStates of game b c → AreSameStates of game a c
  same_states_then h k = record { position = k.position; capacities = k.capacities ∙ h.capacities; many = k.many ∙ h.many }

  pub kept_at_first : {role depth : ℕ} {tools : Tools G P W M} {levels : List (Level P M)} → AreFit of game role depth tools levels
      → AreKept of game tools levels tools levels
  kept_at_first h = record { wide = h.wide; memory = h.memory; levels = h.levels; of_tools = refl; of_levels = refl }

  pub kept_then : {a b c : Tools G P W M} {xs ys zs : List (Level P M)} → AreKept of game a xs b ys → AreKept of game b ys c zs → AreKept of game a xs c zs
  kept_then h k = record {
    wide = k.wide;
    memory = k.memory;
    levels = k.levels;
    of_tools = k.of_tools ∙ h.of_tools;
    of_levels = k.of_levels ∙ h.of_levels;
  }

  -- what a search leaves that began with another memory, and to whose memory something was added
  pub memory_kept : (old new : Tools G P W M) (first last : Memory G P W M) (xs ys : List (Level P M)) → memory_capacities first ≡ memory_capacities old.memory
      → memory_capacities last ≡ memory_capacities new.memory → IsMemoryOf of game last
      → AreKept of game record { wide = old.wide; history = old.history; memory = first; sight = old.sight; judges = old.judges } xs new ys
      → AreKept of game old xs record { wide = new.wide; history = new.history; memory = last; sight = new.sight; judges = new.judges } ys
  memory_kept old new first last xs ys before after is h = record {
    wide = h.wide;
    memory = is;
    levels = h.levels;
    of_tools = ap (λ (m : List ℕ). m ++ of.wide_capacities game new.wide) after ∙ h.of_tools
        ∙ ap (λ (m : List ℕ). m ++ of.wide_capacities game old.wide) before;
    of_levels = h.of_levels;
  }

  -- the first level and the rest, each of which is kept
  pub all_levels_kept : {a b : Tools G P W M} (all front rest new_rest : List (Level P M)) (x d : Level P M) → all ≡ front ++ rest → length front ≡ 1
      → IsLevelOf of game x → level_capacities of game x ≡ level_capacities of game (get_or front 0 d) → AreKept of game a rest b new_rest
      → AreKept of game a all b (set front 0 x ++ new_rest)
  all_levels_kept all front rest new_rest x d whole one level same h = record {
    wide = h.wide;
    memory = h.memory;
    levels = All-first_and_rest (IsLevelOf of game) front new_rest x one level h.levels;
    of_tools = h.of_tools;
    of_levels = all_kept (level_capacities of game) all front rest new_rest x d whole one same h.of_levels;
  }

module _ {G P W M : Type 0} {of : Ghosts G P W M} {game : G} where
  -- what a search leaves of a room, whose levels it had as a slice
  pub room_kept : (old : Room G P W M) (tools : Tools G P W M) (levels new_levels : List (Level P M)) → levels ≡ old.levels.items
      → AreKept of game old.tools levels tools new_levels → IsRoomKept of game old record { tools = tools; levels = with_items old.levels new_levels }
  room_kept old tools levels new_levels same h =
      let f = level_capacities of game in
      let size : length new_levels ≡ length old.levels.items =
      sym (length-map new_levels f) ∙ ap length h.of_levels ∙ length-map levels f ∙ ap length same in
      let whole : (with_items old.levels new_levels).items ≡ new_levels = with_items_is old.levels new_levels (size ∙ sym old.levels.ok.0) in
      record {
        room = record { wide = h.wide; memory = h.memory; levels = subst (All (IsLevelOf of game)) (sym whole) h.levels };
        depth = ap length whole ∙ size;
        capacities = rw whole (kept_joined (vec_capacity old.levels) (tools_capacities of game tools) (tools_capacities of game old.tools)
            (map f new_levels) (map f old.levels.items) h.of_tools (h.of_levels ∙ ap (map f) same));
      }
