use Rattle.std.proofs.Common.{◌∙◌, map, ap, length, subst, sym}
use Rattle.std.proofs.lemmas.List.{length-map}
use Rattle.rules.specs.RuleSets.{AreKeywords}
use Rattle.rules.specs.declared.rule_set.Keywords.{Keywords}
use Rattle.rules.specs.RuleSetView.{rules_in}
use Rattle.ground_terms.specs.Vectors.{items_of}
use Rattle.ground_instances.specs.Lists.{numbers_of_list}
use Rattle.ground_rows.specs.Contexts.{terms_named}
use Rattle.ground_rows.specs.SetWords.{words_of}
use Rattle.ground_rows.proofs.Facts.{below_is}
use Rattle.ground.proofs.GroundParts.{numbered_here, sizes_here, atoms_here, are_tables, each_role, parts_are}
use Rattle.ground.proofs.parts_of_ground.parts_of.Goals as goal

pub starts_of-requires-clause-numbered : goal.starts_of-requires-clause-numbered
starts_of-requires-clause-numbered c =
    numbered_here (rules_in c.args.rules.now) (words_of c.args.rules.now) c.args.listed.now.arena c.args.listed.now.atoms.keys
    (numbers_of_list c.args.listed.now.found) c.args.listed.now.fixed_atoms
    c.args.listed.now.context.roles.items c.args.listed.now.context.base.items (items_of c.args.listed.now.context.inputs.items) c.requires.listed

pub starts_of-requires-clause-atoms : goal.starts_of-requires-clause-atoms
starts_of-requires-clause-atoms c =
    atoms_here (rules_in c.args.rules.now) (words_of c.args.rules.now) c.args.listed.now.arena c.args.listed.now.atoms.keys
    (numbers_of_list c.args.listed.now.found) c.args.listed.now.fixed_atoms
    c.args.listed.now.context.roles.items c.args.listed.now.context.base.items (items_of c.args.listed.now.context.inputs.items) c.requires.listed

pub kinds_of_atoms-requires-clause-symbols : goal.kinds_of_atoms-requires-clause-symbols
kinds_of_atoms-requires-clause-symbols c =
    sizes_here (rules_in c.args.rules.now) (words_of c.args.rules.now) c.args.listed.now.arena c.args.listed.now.atoms.keys
    (numbers_of_list c.args.listed.now.found) c.args.listed.now.fixed_atoms
    c.args.listed.now.context.roles.items c.args.listed.now.context.base.items (items_of c.args.listed.now.context.inputs.items) c.requires.listed

pub kinds_of_atoms-requires-clause-within : goal.kinds_of_atoms-requires-clause-within
kinds_of_atoms-requires-clause-within c =
    below_is _ _ _ c.as_slice-atoms.ensures.keys
    (atoms_here (rules_in c.args.rules.now) (words_of c.args.rules.now) c.args.listed.now.arena c.args.listed.now.atoms.keys
    (numbers_of_list c.args.listed.now.found) c.args.listed.now.fixed_atoms
    c.args.listed.now.context.roles.items c.args.listed.now.context.base.items (items_of c.args.listed.now.context.inputs.items) c.requires.listed)

pub kinds_of_atoms-requires-clause-tables : goal.kinds_of_atoms-requires-clause-tables
kinds_of_atoms-requires-clause-tables c =
    are_tables (rules_in c.args.rules.now) (words_of c.args.rules.now) c.args.listed.now.arena c.args.listed.now.atoms.keys
    (numbers_of_list c.args.listed.now.found) c.args.listed.now.fixed_atoms
    c.args.listed.now.context.roles.items c.args.listed.now.context.base.items (items_of c.args.listed.now.context.inputs.items) c.requires.listed
    c.requires.within _ _ _ c.requires.roles c.requires.base c.requires.inputs

pub count_dropped-dropped-requires-clause-atoms : goal.count_dropped-dropped-requires-clause-atoms
count_dropped-dropped-requires-clause-atoms c =
    below_is _ _ _ c.as_slice-atoms.ensures.keys
    (atoms_here (rules_in c.args.rules.now) (words_of c.args.rules.now) c.args.listed.now.arena c.args.listed.now.atoms.keys
    (numbers_of_list c.args.listed.now.found) c.args.listed.now.fixed_atoms
    c.args.listed.now.context.roles.items c.args.listed.now.context.base.items (items_of c.args.listed.now.context.inputs.items) c.requires.listed)

pub count_dropped-dropped-requires-clause-beside :
    goal.count_dropped-dropped-requires-clause-beside
count_dropped-dropped-requires-clause-beside c =
    ap length c.deref.ensures.value ∙ sym (length-map c.args.tables.now.inputs.items _)
    ∙ each_role (rules_in c.args.rules.now) (words_of c.args.rules.now) c.args.listed.now.arena c.args.listed.now.atoms.keys
    (numbers_of_list c.args.listed.now.found) c.args.listed.now.fixed_atoms
    c.args.listed.now.context.roles.items c.args.listed.now.context.base.items (items_of c.args.listed.now.context.inputs.items) c.requires.listed _ _
    c.requires.roles c.requires.inputs

pub returns : goal.returns
returns c =
    parts_are (rules_in c.args.rules.now) (words_of c.args.rules.now) c.args.listed.now.arena c.args.listed.now.atoms.keys
    (numbers_of_list c.args.listed.now.found) c.args.listed.now.fixed_atoms
    c.args.listed.now.context.roles.items c.args.listed.now.context.base.items (items_of c.args.listed.now.context.inputs.items) c.requires.listed
    c.args.rules.now.sound.words c.keywords-words.result
    (subst (λ (k : Keywords). AreKeywords (words_of c.args.rules.now) k) (sym c.keywords-words.ensures) c.args.rules.now.sound.keywords) _ _ _
    c.requires.base c.requires.roles c.requires.inputs
    _ (c.as_slice-bases.ensures.value ∙ c.in_ok-terms.ensures ∙ ap terms_named c.as_slice-base.ensures.value ∙ sym c.requires.base) _ c.as_slice-atoms.ensures.keys _
    (ap (map (λ s. s.keys)) c.deref.ensures.value)
    _ c.in_ok-starts.ensures _ c.in_ok-kinds.ensures _ c.count_dropped-dropped.ensures
