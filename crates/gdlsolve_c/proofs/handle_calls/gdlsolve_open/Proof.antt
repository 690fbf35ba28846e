-- `gdlsolve_open` writes down where the handle is, and hands over what it owns. Assumes `Logic`.
use Rattle.std.proofs.Common.{◌≡◌, ℕ, zero, suc, List, [], ◌∷◌, refl, ap, subst, w32}
use Rattle.std.proofs.raw_atomic.Walks.{proved}
use seplogic.Ra.Ura.{Ura}
use base.Fraction.{full_share}
use base.Logic.{ent, id⊢}
use base.Fml.{ftrue, flft}
use mir.Syntax.{named}
use mir.Val.{Val, vint}
use contract.Monad.{fact}
use contract.Running.{tables}
use types.Logic.{Logic, sem}
use types.Kit.{‵, raw, ◌⊛◌, some, later, ◌$◌, ◌∵◌, !, qed, done, move, drop, use1, use2, rewrite, split, join, fsplit, fsplit3, fjoin, feq_i, feq_l, pick, await, suffices, frame, group}
use types.Part.{whole, sub}
use types.Run.{enter, of_opd, fld, stop, store, assigns, no_more, and_then, returns}
use types.ByLocal.{alloc_all, pass_all, free_all, look_at, get, get_in, through, sets, lands_as}
use denote.Builtin.{u8, u32, SliceRefOf}
use denote.Exit.{yes}
use denote.Laws.{Is}
use denote.Memory.{cell_at}
use denote.Plain.{uint_Makes}
use denote.RattleType.{owns}
use denote.RawPtr.{Ptr, RawPtr, ptr_val}
use denote.Ref.{MutRef, mut_vals, mut_Tells}
use denote.Signature.{plain}
use denote.Slice.{ShrSlice, shr_slice_vals, shr_slice_Tells}
use denote.Steps.{nothing, owned, heard, opens, closes, only}
use denote.Triple.Call.{calls_at}
use denote.Triple.Clauses.{lasts, Lasts}
use denote.Triple.Spec.{triple_of}
use denote.Triple.Table.{framed}
use denote.Triple.Walked.{says, Stays, walk_of, stay_dropped, stay_ref, Goes-dropped, Goes-ref, ends_at}
use Rattle.std.specs.contracts.alloc.Global as Heap
use Rattle.std.proofs.Handle.{heap_val, heap_Tells}
use Rattle.gdlsolve_c.specs.Handles.{OpensTo, IsOpenStatus}
use Rattle.gdlsolve_c.specs.declared.opening.Opened.{Opened}
use Rattle.gdlsolve_c.proofs.Handing.{Opening, heap_good, ptr_good, opened_good, opened_out}
use Rattle.gdlsolve_c.specs.contracts.handle_calls.gdlsolve_open as f
use Rattle.gdlsolve_c.proofs.handle_calls.gdlsolve_open.Statement.{statement}
use Rattle.gdlsolve_c.proofs.handle_calls.gdlsolve_open.Code as code
use Rattle.gdlsolve_c.specs.contracts.opening.open_over as g
use Rattle.gdlsolve_c.proofs.opening.open_over.Met.{met}

abbrev stayed : Stays f.ended.signature.params f.ended.kept
stayed = (stay_dropped _ yes, (stay_dropped _ yes, (stay_ref (1 ∷ []) tt (plain (λ _. RawPtr)), tt)))

-- where there is no handle, nothing is said of the rules
stands_for : {M : Type 1} {𝓤 : Ura M} (𝓛 : Logic 𝓤) (status : ℕ) (p : Ptr) (old new : List ℕ) → (status ≡ 0 → old ≡ new)
    → ent 𝓤 (sem 𝓛 (OpensTo status p old)) (sem 𝓛 (OpensTo status p new))
stands_for {𝓤 = 𝓤} 𝓛 zero p old new same = subst (λ (l : List ℕ). ent 𝓤 (sem 𝓛 (OpensTo 0 p old)) (sem 𝓛 (OpensTo 0 p l))) (same refl) (id⊢ 𝓤 _)
stands_for {𝓤 = 𝓤} 𝓛 (suc status) p old new same = id⊢ 𝓤 _

pub gdlsolve_open_spec : {M : Type 1} → statement M
gdlsolve_open_spec 𝓤 𝓛 𝓜 𝓡 wired =
    let c = f.clauses 𝓛 𝓜.mem 𝓡.returns in let W = walk_of 𝓛 f.ended stayed c in
    proved 𝓛 f.ended stayed c 𝓜 𝓡 (
      Goes-dropped 𝓛 2 (plain (λ _. Heap.the_row)) yes (λ κs x w. refl),
      (
        Goes-dropped 𝓛 2 (SliceRefOf (0 ∷ []) tt (plain (λ _. u8)) (λ κs. tt)) yes (λ κs x w. refl),
        (Goes-ref 𝓛 2 1 tt (plain (λ _. RawPtr)), tt),
      ),
    )
    f.Key.name code.function (code.unfolded 𝓤 𝓛.H 𝓜 𝓡 wired)
    (λ κs. ((λ _. heap_val ∷ []), (shr_slice_vals, (mut_vals, tt)))) (λ κs. (heap_Tells, (shr_slice_Tells (named 0) κs.0 u8, (mut_Tells (named 1) κs.1.0 RawPtr, tt)))) (λ κs qs bounds a _ are.
    let h = a.0 in let rules = a.1.0 in let handle = a.1.1.0 in let b = handle.ref_ptr.0 in let o = handle.ref_ptr.1 in
    let y : W.Ghost = ((κs, qs, bounds, a, (heap_val ∷ [], (shr_slice_vals rules, (mut_vals handle, tt)))), tt) in
    let G = triple_of 𝓛 g.signature (g.spec 𝓛 𝓜.mem 𝓡.returns) in
    let z : G.Ghost = (((κs.0, tt), (qs.0, tt), tt, (h, (rules, tt)), (heap_val ∷ [], (shr_slice_vals rules, tt))), tt) in
    qed 𝓛 (((‵ (flft κs.0 qs.0) ⊛ ‵ (flft κs.1.0 qs.1.0) ⊛ ‵ ftrue)
    ⊛ ‵ (owns (Heap.the_row ∷ ShrSlice (named 0) κs.0 u8 ∷ MutRef (named 1) κs.1.0 RawPtr ∷ []) a (heap_val ∷ [], (shr_slice_vals rules, (mut_vals handle, tt))))) ∷ ‵ ftrue ∷ []) ∵
    split ! $ move ! (2 ∷ []) $ drop ! $ split ! $ move ! (2 ∷ []) $ fsplit ! $ move ! (1 ∷ []) $ fsplit ! $ move ! (1 ∷ []) $ fsplit ! $ move ! (1 ∷ []) $ drop ! $
    -- [the place for the handle; the rules; the handle of the heap; a token; the other]
    enter ! _ _ _ _ _ $ alloc_all ! (λ l. pass_all ! refl (heap_good, ((tt, (tt, (record { fits = are.1.0.0.1.0 }, tt))), ((tt, tt), tt))) $
    nothing ! $ move ! (4 ∷ 0 ∷ []) $ join ! $ nothing ! $ move ! (3 ∷ 0 ∷ []) $ fjoin ! $ move ! (3 ∷ 0 ∷ []) $ fjoin ! $ move ! (1 ∷ 0 ∷ []) $ join ! $
    nothing ! $ move ! (1 ∷ 0 ∷ []) $ use2 𝓛 (raw (G.pre z)) (id⊢ 𝓤 _) $
    calls_at ! (framed 𝓤 𝓛.H 𝓜 (tables 𝓤 𝓛.H 𝓜 𝓡 𝓡.env)) G (met 𝓤 𝓛 𝓜 𝓡 (code.calls-gdlsolve_c::opening::open_over 𝓡.env wired)) z (and_then ! (get ! refl) (and_then ! (get ! refl) (no_more !))) (λ v.
    use1 𝓛 (later (some (λ (r : Opened). ((‵ (flft κs.0 qs.0) ⊛ ‵ ftrue) ⊛ ‵ (Opening.own_val r (v ∷ []))) ⊛ some (λ (ws : Lasts g.ended z.0.0 z.0.3). ‵ (lasts g.ended z.0.0 z.0.3 ws)
    ⊛ (raw (fact 𝓤 (r.status ≡ 0 → r.rules ≡ rules.now)) ⊛ raw (fact 𝓤 (IsOpenStatus r.status))))))) (id⊢ 𝓤 _) $
    await ! tt $ pick ! (λ r. split ! $ split ! $ move ! (1 ∷ []) $ opened_out ! r (v ∷ []) (λ ev fits.
    move ! (2 ∷ []) $ pick ! (λ ws. split ! $ drop ! $ split ! $ heard ! _ (λ same. heard ! _ (λ is_status.
    use1 𝓛 (‵ (OpensTo r.status r.at rules.now)) (stands_for 𝓛 r.status r.at r.rules rules.now same) $
    -- [the handle; a token; the place for the handle; the other token]
    lands_as ! (ap only ev) refl (opened_good r.at r.status fits) $
    sets ! (of_opd ! (get_in ! (fld ! refl (stop !)) (sub ! 0 refl (whole !)))) refl (ptr_good r.at) $
    sets ! (of_opd ! (get_in ! (fld ! refl (stop !)) (sub ! 1 refl (whole !)))) refl (tt, record { fits = fits }) $
    move ! (3 ∷ []) $ split ! $ move ! (1 ∷ []) $ drop ! $ move ! (3 ∷ []) $ fsplit3 ! $ move ! (1 ∷ 2 ∷ 3 ∷ []) $ opens ! tt RawPtr b o (λ us. move ! (1 ∷ []) $ feq_l ! (λ eu.
    rewrite ! 0 (λ (vs : List Val). ‵ (cell_at full_share RawPtr.mir vs b o)) eu refl $
    assigns ! (of_opd ! (get ! refl)) (through ! refl (stop !)) (store ! 0 refl (ptr_good r.at)) $
    feq_i ! (List Val) (ptr_val r.at ∷ []) (ptr_val r.at ∷ []) refl $ move ! (1 ∷ 0 ∷ []) $ closes ! tt RawPtr r.at (ptr_val r.at ∷ []) b o $
    sets ! (of_opd ! (get ! refl)) refl (tt, record { fits = fits }) $
    -- [two parts of the place; its token; its first part; the handle; the other token]
    returns ! (look_at ! 0 refl) $ free_all ! refl $
    suffices ! _ (ends_at 𝓛 f.ended stayed c y (vint w32 r.status) r.status (tt, (tt, (r.at, tt))) (tt, (tt, (tt, tt)))) $
    move ! (3 ∷ 0 ∷ 1 ∷ []) $ group ! 3 $ nothing ! $ move ! (1 ∷ 0 ∷ []) $ join ! $ nothing ! $ join ! $ nothing ! $ join ! $
    move ! (3 ∷ []) $ split ! $ move ! (3 ∷ 1 ∷ []) $ join ! $ move ! (1 ∷ 0 ∷ []) $ join ! $
    owned ! u32 (Is u32) (uint_Makes 𝓛 w32) r.status _ (refl, fits) $ move ! (1 ∷ 2 ∷ 0 ∷ []) $ group ! 3 $ frame ! $ says ! is_status $ done !))))))))))
