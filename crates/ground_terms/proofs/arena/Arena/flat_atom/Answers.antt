use Rattle.std.proofs.Common.{refl, sym, ◌∙◌}
use Rattle.ground_terms.proofs.Built.{flat_key, flat_exact}
use Rattle.ground_terms.proofs.arena.Arena.flat_atom.Goals as goal

pub intern-requires : goal.intern-requires
intern-requires c =
    let flat = sym c.in_ok-push_key.ensures.flat ∙ c.if-not-branch.false in
    (flat_key c.args.self.now c.args.values.now c.args.parts.now c.args.word c.len-from.result c.args.stack.now.items c.push_key.new.stack.items
    c.deref.result.now _ c.requires.word c.requires.numbered c.requires.placed c.requires.values flat
    (c.len-from.ensures ∙ c.args.stack.now.ok.0) (c.in_ok-push_key.ensures.key c.if-not-branch.false) c.deref.ensures.value refl).1

pub returns-clause-exact : goal.returns-clause-exact
returns-clause-exact c =
    let flat = sym c.in_ok-push_key.ensures.flat ∙ c.if-not-branch.false in
    flat_exact c.args.self.now c.intern.new.self c.args.values.now c.args.parts.now c.args.word c.in_ok-number.number _
    (flat_key c.args.self.now c.args.values.now c.args.parts.now c.args.word c.len-from.result c.args.stack.now.items c.push_key.new.stack.items
    c.deref.result.now _ c.requires.word c.requires.numbered c.requires.placed c.requires.values flat
    (c.len-from.ensures ∙ c.args.stack.now.ok.0) (c.in_ok-push_key.ensures.key c.if-not-branch.false) c.deref.ensures.value refl).0
    c.intern.ensures.sizes c.intern.ensures.numbered c.requires.placed flat c.in_ok-number.ensures.kept c.in_ok-number.ensures.found.0
    c.in_ok-number.ensures.found.1
