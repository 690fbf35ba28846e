-- `gdlsolve_close` makes the parts again, and hands them to what frees them. Assumes `Logic`.
use Rattle.std.proofs.Common.{List, [], ◌∷◌, refl, ap}
use Rattle.std.proofs.raw_atomic.Walks.{proved}
use base.Logic.{id⊢}
use base.Fml.{ftrue}
use mir.Val.{Val, vunit}
use contract.Running.{tables}
use types.Kit.{‵, raw, ◌⊛◌, some, later, ◌$◌, ◌∵◌, !, qed, done, move, drop, use1, use2, split, join, fsplit, fjoin, fpick, feq_i, feq_l, pick, await, suffices, group}
use types.Part.{agg}
use types.Run.{enter, of_opd, unit_lit, no_more, and_then, returns}
use types.ByLocal.{alloc_all, pass_all, free_all, look_at, get, sets, lands_as}
use denote.Builtin.{unit}
use denote.Exit.{yes}
use denote.RattleType.{owns}
use denote.RawPtr.{RawPtr, rawptr_vals, rawptr_Tells, rawptr_Lawful}
use denote.Signature.{plain}
use denote.Steps.{nothing, only}
use denote.Triple.Call.{calls_at}
use denote.Triple.Clauses.{lasts}
use denote.Triple.Spec.{triple_of}
use denote.Triple.Table.{framed}
use denote.Triple.Walked.{Stays, walk_of, stay_dropped, Goes-dropped, ends_at}
use Rattle.std.specs.contracts.alloc.Global as Heap
use Rattle.std.proofs.Handle.{heap_val, heap_Tells}
use Rattle.gdlsolve_c.specs.Handles.{LeadsTo}
use Rattle.gdlsolve_c.proofs.Handing.{word, heap_good, word_good, parts_in}
use Rattle.gdlsolve_c.specs.contracts.handle_calls.gdlsolve_close as f
use Rattle.gdlsolve_c.proofs.handle_calls.gdlsolve_close.Statement.{statement}
use Rattle.gdlsolve_c.proofs.handle_calls.gdlsolve_close.Code as code
use Rattle.gdlsolve_c.specs.contracts.opening.closed as g
use Rattle.gdlsolve_c.proofs.opening.closed.Met.{met}

abbrev stayed : Stays f.ended.signature.params f.ended.kept
stayed = (stay_dropped _ yes, (stay_dropped _ yes, tt))

pub gdlsolve_close_spec : {M : Type 1} → statement M
gdlsolve_close_spec 𝓤 𝓛 𝓜 𝓡 wired =
    let c = f.clauses 𝓛 𝓜.mem 𝓡.returns in
    proved 𝓛 f.ended stayed c 𝓜 𝓡
    (Goes-dropped 𝓛 0 (plain (λ _. Heap.the_row)) yes (λ κs x w. refl), (Goes-dropped 𝓛 0 (plain (λ _. RawPtr)) yes (λ κs x w. refl), tt))
    f.Key.name code.function (code.unfolded 𝓤 𝓛.H 𝓜 𝓡 wired)
    (λ κs. ((λ _. heap_val ∷ []), (rawptr_vals, tt))) (λ κs. (heap_Tells, (rawptr_Tells, tt))) (λ κs qs bounds a rules are.
    let h = a.0 in let p = a.1.0 in
    let W = walk_of 𝓛 f.ended stayed c in
    let y : W.Ghost = ((κs, qs, bounds, a, (heap_val ∷ [], (rawptr_vals p, tt))), rules) in
    let G = triple_of 𝓛 g.signature (g.spec 𝓛 𝓜.mem 𝓡.returns) in
    qed 𝓛 ((‵ ftrue ⊛ ‵ (owns (Heap.the_row ∷ RawPtr ∷ []) a (heap_val ∷ [], (rawptr_vals p, tt)))) ∷ ‵ (LeadsTo p rules) ∷ []) ∵
    split ! $ drop ! $ fsplit ! $ move ! (1 ∷ []) $ drop ! $ move ! (1 ∷ []) $ fpick ! (λ owner. fpick ! (λ k. fsplit ! $ move ! (1 ∷ []) $ drop ! $
    -- [the box; the handle of the heap]
    parts_in ! p h k $
    enter ! _ _ _ _ _ $ alloc_all ! (λ l. pass_all ! refl (heap_good, (rawptr_Lawful 𝓛).typed p _ refl) $
    sets ! (agg ! (and_then ! (get ! refl) (and_then ! (get ! refl) (no_more !)))) refl (word_good p) $
    let z : G.Ghost = ((tt, tt, tt, (record { ptr = p; alloc = h; value = k }, tt), (word p ∷ [], tt)), tt) in
    nothing ! $ move ! (1 ∷ 0 ∷ []) $ fjoin ! $ nothing ! $ join ! $ nothing ! $ move ! (1 ∷ 0 ∷ []) $ use2 𝓛 (raw (G.pre z)) (id⊢ 𝓤 _) $
    calls_at ! (framed 𝓤 𝓛.H 𝓜 (tables 𝓤 𝓛.H 𝓜 𝓡 𝓡.env)) G (met 𝓤 𝓛 𝓜 𝓡 (code.calls-gdlsolve_c::opening::closed 𝓡.env wired)) z (and_then ! (get ! refl) (no_more !)) (λ v.
    use1 𝓛 (later (some (λ (r : Unit {0}). (‵ ftrue ⊛ ‵ (unit.own_val r (v ∷ []))) ⊛ some (λ (ws : Unit {0} × Unit {0}). ‵ (lasts g.ended tt z.0.3 ws) ⊛ ‵ ftrue)))) (id⊢ 𝓤 _) $
    await ! tt $ pick ! (λ r. split ! $ split ! $ drop ! $ feq_l ! (λ is_unit. drop ! $
    lands_as ! (ap only is_unit) refl (tt, tt) $ sets ! (of_opd ! (unit_lit !)) refl (tt, tt) $
    returns ! (look_at ! 0 refl) $ free_all ! refl $
    suffices ! _ (ends_at 𝓛 f.ended stayed c y vunit tt (tt, (tt, tt)) (tt, (tt, tt))) $
    feq_i ! (List Val) (vunit ∷ []) (vunit ∷ []) refl $ nothing ! $ nothing ! $ join ! $ nothing ! $ join ! $ nothing ! $ group ! 3 $ nothing ! $ move ! (1 ∷ 0 ∷ []) $ done !)))))))
