-- This crate's own: what `run` promises does not rest on it.
-- What a tape says of its gates is a proposition, so it may be a ghost field.
use Rattle.std.specs.Prelude.{ℕ, ◌+◌, List, [], ◌∷◌}
use denote.Struct.Props as logic
use Rattle.propnet_tape.specs.declared.gates.Gate.{Gate}
use Rattle.propnet_tape.specs.Values.{InOrder, IsTape}

pub InOrder-prop : (s : ℕ) (gates : List Gate) → IsProp (InOrder s gates)
InOrder-prop s [] = Prim.hlevel logic.props
InOrder-prop s (g ∷ gs) = Prim.hlevel (InOrder-prop (s + 2) gs, logic.props)

pub IsTape-prop : (first : ℕ) (gates : List Gate) → IsProp (IsTape first gates)
IsTape-prop first gates = Prim.hlevel (InOrder-prop, logic.props)

pub ruleset tape_props = (IsTape-prop, logic.props)
