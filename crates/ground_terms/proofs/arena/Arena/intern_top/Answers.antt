use Rattle.std.proofs.Common.{ℕ, ◌-◌, List, [], ◌∷◌, ◌++◌, length, reverse, take, drop, subst, sym, ap, ◌∙◌, arith}
use Rattle.ground_terms.specs.Keys.{IsKey}
use Rattle.ground_terms.proofs.Built.{below_reverse, key_on_top}
use Rattle.ground_terms.proofs.arena.Arena.intern_top.Goals as goal

pub intern_near-requires : goal.intern_near-requires
intern_near-requires c =
    subst (λ (key : List ℕ). IsKey (length c.args.self.now.sizes) (length c.args.self.now.keys) key)
    (sym (key_on_top c.args.stack.now.items _ _ c.args.symbol c.args.count (c.len.result - c.args.count) c.requires.count (omega arith)
    (c.turn_behind.ensures ∙ ap (λ (xs : List ℕ). take (c.len.result - c.args.count) xs ++ reverse (drop (c.len.result - c.args.count) xs))
    (c.in_ok-push.ensures.items ∙ ap (λ (w : ℕ). c.args.stack.now.items ++ w ∷ []) c.in_ok-word.ensures))
    c.deref.ensures.value))
    (c.requires.symbol, below_reverse _ _ c.requires.terms)
