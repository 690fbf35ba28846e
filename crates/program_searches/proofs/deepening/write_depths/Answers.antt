use Rattle.std.proofs.Common.{ℕ, suc, ◌≡◌, ◌+◌, ◌-◌, ◌∙◌, List, refl, sym, ap, subst, arith, true, false, codes, append-nil}
use Rattle.program_searches.proofs.Held.{Written, begun, further, ended, broken, on_err}
use Rattle.statement.specs.Deepening.{deepen_lines, is_settled}
use Rattle.program_searches.specs.Histories.{named}
use Rattle.program_searches.proofs.Errs.{on_ok_map, on_err_map}
use Rattle.program_searches.proofs.Deepened.{lines_from, all_depths, further_depths, last_depth}
use Rattle.program_searches.proofs.deepening.write_depths.Goals as goal

pub loop-depth-init : goal.loop-depth-init
loop-depth-init g c =
    let game = named (g.G.Game.rules c.args.game.now) (g.G.Game.role_name c.args.game.now) (g.G.Game.move_name c.args.game.now) in
    let state = g.G.Game.state c.args.game.now c.args.root.now in
    let asked = c.args.asked in
    let none : asked.depth - 0 ≡ asked.depth = omega arith in
    let start : deepen_lines game asked.role asked.depth asked.at state ≡ lines_from game asked.role asked.at state 1 (asked.depth - 0) =
    all_depths game asked.role asked.at state asked.depth ∙ ap (λ (n : ℕ). lines_from game asked.role asked.at state 1 n) (sym none) in
    record {
      within = omega arith;
      same = refl;
      ahead = c.requires.play;
      further = c.requires.settling;
      lines = subst (λ (xs : List ℕ). Written (g.W.Write.contents c.args.out.now) (g.W.Write.contents c.args.out.now)
          (deepen_lines game asked.role asked.depth asked.at state) xs) start (begun _ _);
      flushed = λ some. absurd (some refl);
    }

pub returns-in_err-worth-clause-front : goal.returns-in_err-worth-clause-front
returns-in_err-worth-clause-front g c =
    let game = named (g.G.Game.rules c.args.game.now) (g.G.Game.role_name c.args.game.now) (g.G.Game.move_name c.args.game.now) in
    let state = g.G.Game.state c.args.game.now c.args.root.now in
    let asked = c.args.asked in
    let first = c.loop-depth.depth + 1 in
    let more : asked.depth - c.loop-depth.depth ≡ suc (asked.depth - first) = omega arith in
    let lines = lines_from game asked.role asked.at state in
    let here : lines first (asked.depth - c.loop-depth.depth) ≡ lines first (suc (asked.depth - first)) = ap (λ (n : ℕ). lines first n) more in
    on_err c.from_residual.result _ (broken _ _ _ _ _ _ _ c.loop-depth.invariant.lines here c.in_err-worth.ensures.front)

pub returns-then-is_settled-clause-whole : goal.returns-then-is_settled-clause-whole
returns-then-is_settled-clause-whole g c =
    let game = named (g.G.Game.rules c.args.game.now) (g.G.Game.role_name c.args.game.now) (g.G.Game.move_name c.args.game.now) in
    let state = g.G.Game.state c.args.game.now c.args.root.now in
    let asked = c.args.asked in
    let first = c.loop-depth.depth + 1 in
    let more : asked.depth - c.loop-depth.depth ≡ suc (asked.depth - first) = omega arith in
    let lines = lines_from game asked.role asked.at state in
    let here : lines first (asked.depth - c.loop-depth.depth) ≡ lines first (suc (asked.depth - first)) = ap (λ (n : ℕ). lines first n) more in
    let settled : is_settled game.rules asked.role state first ≡ true = sym c.is_settled.ensures.settled ∙ c.if-is_settled.true in
    let depth = further _ _ _ _ _ _ _ c.loop-depth.invariant.lines (here ∙ last_depth game asked.role asked.at state first (asked.depth - first) settled)
    c.in_ok-worth.ensures.whole in
    on_ok_map c.write_settled.result _ _ (λ h. ended _ _ _ _ (further _ _ _ _ _ _ _ depth (sym (append-nil (codes "settled\n"))) h) refl)
    c.write_settled.ensures.whole

pub returns-then-is_settled-clause-front : goal.returns-then-is_settled-clause-front
returns-then-is_settled-clause-front g c =
    let game = named (g.G.Game.rules c.args.game.now) (g.G.Game.role_name c.args.game.now) (g.G.Game.move_name c.args.game.now) in
    let state = g.G.Game.state c.args.game.now c.args.root.now in
    let asked = c.args.asked in
    let first = c.loop-depth.depth + 1 in
    let more : asked.depth - c.loop-depth.depth ≡ suc (asked.depth - first) = omega arith in
    let lines = lines_from game asked.role asked.at state in
    let here : lines first (asked.depth - c.loop-depth.depth) ≡ lines first (suc (asked.depth - first)) = ap (λ (n : ℕ). lines first n) more in
    let settled : is_settled game.rules asked.role state first ≡ true = sym c.is_settled.ensures.settled ∙ c.if-is_settled.true in
    let depth = further _ _ _ _ _ _ _ c.loop-depth.invariant.lines (here ∙ last_depth game asked.role asked.at state first (asked.depth - first) settled)
    c.in_ok-worth.ensures.whole in
    on_err_map c.write_settled.result _ _ (λ h. broken _ _ _ _ _ _ _ depth (sym (append-nil (codes "settled\n"))) h) c.write_settled.ensures.front

pub returns-then-is_settled-clause-flushed : goal.returns-then-is_settled-clause-flushed
returns-then-is_settled-clause-flushed g c = on_ok_map c.write_settled.result _ _ (λ h _. h) c.write_settled.ensures.flushed

pub loop-depth-preserved : goal.loop-depth-preserved
loop-depth-preserved g c =
    let game = named (g.G.Game.rules c.args.game.now) (g.G.Game.role_name c.args.game.now) (g.G.Game.move_name c.args.game.now) in
    let state = g.G.Game.state c.args.game.now c.args.root.now in
    let asked = c.args.asked in
    let first = c.loop-depth.depth + 1 in
    let more : asked.depth - c.loop-depth.depth ≡ suc (asked.depth - first) = omega arith in
    let lines = lines_from game asked.role asked.at state in
    let here : lines first (asked.depth - c.loop-depth.depth) ≡ lines first (suc (asked.depth - first)) = ap (λ (n : ℕ). lines first n) more in
    let not : is_settled game.rules asked.role state first ≡ false = sym c.is_settled.ensures.settled ∙ c.if-is_settled.false in
    let kept = c.in_ok-worth.ensures.play in
    record {
      within = omega arith;
      same = kept.depth ∙ c.loop-depth.invariant.same;
      ahead = record {
        known = c.requires.play.known;
        play = kept.play;
        deep = omega (arith, kept.depth, c.loop-depth.invariant.ahead.deep);
      };
      further = c.is_settled.ensures.kept asked.depth c.loop-depth.invariant.further;
      lines = further _ _ _ _ _ _ _ c.loop-depth.invariant.lines (here ∙ further_depths game asked.role asked.at state first (asked.depth - first) not)
          c.in_ok-worth.ensures.whole;
      flushed = λ _. c.in_ok-worth.ensures.flushed;
    }

pub returns-clause-whole : goal.returns-clause-whole
returns-clause-whole g c =
    let game = named (g.G.Game.rules c.args.game.now) (g.G.Game.role_name c.args.game.now) (g.G.Game.move_name c.args.game.now) in
    let state = g.G.Game.state c.args.game.now c.args.root.now in
    let asked = c.args.asked in
    let none : asked.depth - c.loop-depth.depth ≡ 0 = omega (arith, c.loop-depth.invariant.within) in
    ended _ _ _ _ c.loop-depth.invariant.lines (ap (λ (n : ℕ). lines_from game asked.role asked.at state (c.loop-depth.depth + 1) n) none)

pub returns-clause-flushed : goal.returns-clause-flushed
returns-clause-flushed g c = λ some. c.loop-depth.invariant.flushed (λ none. some (omega (arith, none, c.loop-depth.invariant.within)))
