use Rattle.ground_terms.proofs.KindTables.{known, kind_none, kind_one, kind_two, kind_other, third_below}
use Rattle.ground_terms.proofs.arena.Arena.kind_of.Goals as goal

pub returns-then-key-eq1 : goal.returns-then-key-eq1
returns-then-key-eq1 c =
    kind_none _ _ _ _ _ _ _ _ (known _ _ _ _ _ c.args.rules.now.sound.words c.args.rules.now.sound.keywords c.keywords-words.ensures
    c.requires.symbols c.key-key.ensures.numbered)
    c.requires.number c.key-key.ensures.is c.if-fixed.false c.if-key-eq1.true c.kind_without.ensures

pub returns-then-key-eq2 : goal.returns-then-key-eq2
returns-then-key-eq2 c =
    kind_one _ _ _ _ _ _ _ _ _ _ _ _ (known _ _ _ _ _ c.args.rules.now.sound.words c.args.rules.now.sound.keywords c.keywords-words.ensures
    c.requires.symbols c.key-key.ensures.numbered)
    c.requires.number c.key-key.ensures.is c.if-fixed.false c.requires.tables c.if-key-eq2.true c.place_of-place.ensures c.kind_with_one.ensures

pub goal_value-value-requires-clause-number : goal.goal_value-value-requires-clause-number
goal_value-value-requires-clause-number c = third_below _ _ _ _ c.key-key.ensures.numbered c.requires.number c.key-key.ensures.is c.if-key-eq3.true

pub returns-then-key-eq3 : goal.returns-then-key-eq3
returns-then-key-eq3 c =
    kind_two _ _ _ _ _ _ _ _ _ _ _ _ _ _ (known _ _ _ _ _ c.args.rules.now.sound.words c.args.rules.now.sound.keywords c.keywords-words.ensures
    c.requires.symbols c.key-key.ensures.numbered)
    c.requires.number c.key-key.ensures.is c.if-fixed.false c.requires.tables c.if-key-eq3.true c.place_of-role.ensures c.input_place-input.ensures
    c.goal_value-value.ensures c.kind_with_two.ensures

pub returns : goal.returns
returns c =
    kind_other _ _ _ _ _ _ _ (known _ _ _ _ _ c.args.rules.now.sound.words c.args.rules.now.sound.keywords c.keywords-words.ensures c.requires.symbols
    c.key-key.ensures.numbered)
    c.requires.number c.key-key.ensures.is c.if-fixed.false c.if-key-eq1.false c.if-key-eq2.false c.if-key-eq3.false
