-- `gdlsolve_ask` lends what the pointer leads to for the call, and it is there again behind it. Assumes `Logic`.
use Rattle.std.proofs.Common.{◌≡◌, ◌≤◌, ℕ, List, [], ◌∷◌, refl, MutBor, w32}
use Rattle.std.proofs.raw_atomic.Walks.{proved}
use seplogic.Ra.Ura.{Ura}
use base.Fraction.{full_share}
use base.Logic.{SProp, sep, emp, id⊢, fst∗, never}
use base.Fml.{GName, ftrue, fsep, fex, flft, flent}
use mir.Raw.{raw as bare}
use mir.Syntax.{named}
use mir.Val.{Val, vptr}
use prog.Wp.{WpFn}
use contract.Monad.{fact, fact_i}
use contract.Running.{tables}
use types.Logic.{sem}
use types.SemTy.{Body}
use types.Tokens.{lft_new, lft_end}
use types.Kit.{‵, raw, ◌⊛◌, some, later, prop, ◌$◌, ◌∵◌, !, qed, done, move, keep, drop, use0, use1, use2, use3, split, join, fsplit, fjoin, fpick, fpack, feq_l, pick, await, regoal, suffices, frame, group}
use types.Part.{agg, whole, sub}
use types.Run.{enter, addr, from, fld, hop, stop, no_more, and_then, returns}
use types.ByLocal.{alloc_all, pass_all, free_all, look_at, look_in_at, get, get_in, through, sets, lands_as}
use denote.Builtin.{u8, u32, usize, SliceRefOf}
use denote.Exit.{yes}
use denote.Laws.{Is, shows}
use denote.Lend.{lends_ref, ref_back}
use denote.Memory.{mem, part_at, lone}
use denote.Plain.{uint_Lawful}
use denote.RattleType.{RattleType, flat, owns}
use denote.RawPtr.{Ptr, RawPtr, block_ptr, null_ptr, rawptr_vals, rawptr_Tells, in_a_block}
use denote.Ref.{MutRef, mut_vals, mut_Tells}
use denote.Signature.{plain}
use denote.Slice.{ShrSlice, MutSlice, shr_slice_vals, shr_slice_Tells, mut_slice_vals, mut_slice_Tells}
use denote.Steps.{nothing, peeks, heard}
use denote.Triple.Call.{calls_at}
use denote.Triple.Clauses.{lasts, Lasts}
use denote.Triple.Spec.{triple_of}
use denote.Triple.Table.{framed}
use denote.Triple.Walked.{says, Stays, walk_of, stay_dropped, gave_ref, gave_slice, Goes-dropped, Goes-gave_ref, Goes-gave_slice, ends_at}
use Rattle.std.specs.Box.Ownership.{box_owns}
use Rattle.std.specs.contracts.alloc.Global as Heap
use Rattle.std.specs.contracts.impls.GlobalAllocator.TheImpl.{ghosts}
use Rattle.std.proofs.Handle.{heap_val, heap_Tells}
use Rattle.statement.specs.declared.status.Status.TheVariants.{Answer, Refused}
use Rattle.gdlsolve_c.specs.Calls.{Fills, RoomReplied}
use Rattle.gdlsolve_c.specs.Handles.{StandsFor}
use Rattle.gdlsolve_c.specs.declared.handle.Handle.{Handle}
use Rattle.gdlsolve_c.specs.contracts.handle.Handle as handles
use Rattle.gdlsolve_c.specs.Handles.{LeadsTo}
use Rattle.gdlsolve_c.proofs.Handing.{heap_good}
use Rattle.gdlsolve_c.specs.contracts.handle_calls.gdlsolve_ask as f
use Rattle.gdlsolve_c.proofs.handle_calls.gdlsolve_ask.Statement.{statement}
use Rattle.gdlsolve_c.proofs.handle_calls.gdlsolve_ask.Code as code
use Rattle.gdlsolve_c.specs.contracts.asking.asked as g
use Rattle.gdlsolve_c.proofs.asking.asked.Met.{met}

abbrev stayed : Stays f.ended.signature.params f.ended.kept
stayed = (stay_dropped _ yes, (stay_dropped _ yes, (stay_dropped _ yes, (gave_slice (1 ∷ []) tt (plain (λ _. u8)), (gave_ref (2 ∷ []) tt (plain (λ _. usize)), tt)))))

-- what is told, by the clauses of the call
abbrev Tells : {M : Type 1} (𝓤 : Ura M) (rules old new : List ℕ) (size status : ℕ) → SProp 𝓤
Tells 𝓤 rules old new size status =
    sep 𝓤 (fact 𝓤 (status ≤ 3)) (sep 𝓤 (fact 𝓤 ((bytes : List ℕ) × Fills old new size bytes))
    (sep 𝓤 (fact 𝓤 (status ≡ 0 → RoomReplied Answer rules old new size)) (sep 𝓤 (fact 𝓤 (status ≡ 2 → RoomReplied Refused rules old new size))
    (fact 𝓤 (status ≡ 3 → Fills old new size [])))))

pub gdlsolve_ask_spec : {M : Type 1} → statement M
gdlsolve_ask_spec 𝓤 𝓛 𝓜 𝓡 wired =
    let c = f.clauses 𝓛 𝓜.mem 𝓡.returns in let W = walk_of 𝓛 f.ended stayed c in let 𝓣 = tables 𝓤 𝓛.H 𝓜 𝓡 𝓡.env in
    proved 𝓛 f.ended stayed c 𝓜 𝓡 (
      Goes-dropped 𝓛 3 (plain (λ _. Heap.the_row)) yes (λ κs x w. refl),
      (
        Goes-dropped 𝓛 3 (plain (λ _. RawPtr)) yes (λ κs x w. refl),
        (
          Goes-dropped 𝓛 3 (SliceRefOf (0 ∷ []) tt (plain (λ _. u8)) (λ κs. tt)) yes (λ κs x w. refl),
          (Goes-gave_slice 𝓛 3 1 tt (plain (λ _. u8)), (Goes-gave_ref 𝓛 3 2 tt (plain (λ _. usize)), tt)),
        ),
      ),
    )
    f.Key.name code.function (code.unfolded 𝓤 𝓛.H 𝓜 𝓡 wired)
    (λ κs. ((λ _. heap_val ∷ []), (rawptr_vals, (shr_slice_vals, (mut_slice_vals, (mut_vals, tt))))))
    (λ κs. (heap_Tells, (rawptr_Tells, (shr_slice_Tells (named 0) κs.0 u8, (mut_slice_Tells (named 1) κs.1.0 u8, (mut_Tells (named 2) κs.1.1.0 usize, tt))))))
    (λ κs qs bounds a rules are.
    let h = a.0 in let p = a.1.0 in let words = a.1.1.0 in let room = a.1.1.1.0 in let size = a.1.1.1.1.0 in
    let rest : List Val × (List Val × (List Val × Unit {0})) = (shr_slice_vals words, (mut_slice_vals room, (mut_vals size, tt))) in
    let Rs : List RattleType = Heap.the_row ∷ RawPtr ∷ ShrSlice (named 0) κs.0 u8 ∷ MutSlice (named 1) κs.1.0 u8 ∷ MutRef (named 2) κs.1.1.0 usize ∷ [] in
    let y : Ptr → W.Ghost = λ q. ((κs, qs, bounds, (h, (q, a.1.1)), (heap_val ∷ [], (rawptr_vals q, rest))), rules) in
    let G = triple_of 𝓛 g.signature (g.spec 𝓛 𝓜.mem 𝓡.returns) in
    let tok = ghosts.dealloc_token h in
    qed 𝓛 (((‵ (flft κs.0 qs.0) ⊛ ‵ (flft κs.1.0 qs.1.0) ⊛ ‵ (flft κs.1.1.0 qs.1.1.0) ⊛ ‵ ftrue) ⊛ ‵ (owns Rs a (heap_val ∷ [], (rawptr_vals p, rest))))
    ∷ ‵ (LeadsTo p rules) ∷ []) ∵
    move ! (1 ∷ []) $ fpick ! (λ owner. fpick ! (λ k. fsplit ! $ move ! (1 ∷ []) $ fpick ! (λ is_kept. drop ! $
    in_a_block ! p (λ q. box_owns tok handles.the_row q k) (fst∗ 𝓤 (never 𝓤) (sem 𝓛 (tok (bare (lone (handles.the_row).mir)) null_ptr))) (λ b o e.
    regoal ! (λ q. prop (WpFn 𝓤 𝓛.H 𝓣.C 𝓣.Λ code.function (flat Rs (heap_val ∷ [], (rawptr_vals q, rest))) (W.post (y q)))) e refl $
    fsplit ! $ move ! (2 ∷ []) $ split ! $
    -- [the tokens; what the parameters own; the value; the right to free it]
    enter ! _ _ _ _ _ $ alloc_all ! (λ l. pass_all ! refl (heap_good, ((tt, tt), ((tt, (tt, (record { fits = are.1.1.0.0.1.0 }, tt))), ((tt, (tt, (record { fits = are.1.1.1.0.0.1.0 }, tt))), ((tt, tt), tt))))) $
    sets ! (addr ! (through ! refl (stop !))) refl (tt, tt) $
    sets ! (addr ! (from ! (fld ! refl (hop ! (look_in_at ! 4 (sub ! 0 refl (whole !))) (stop !))))) refl (tt, tt) $
    sets ! (agg ! (and_then ! (get ! refl) (and_then ! (get_in ! (fld ! refl (stop !)) (sub ! 1 refl (whole !))) (no_more !)))) refl (tt, (tt, (record { fits = are.1.1.1.0.0.1.0 }, tt))) $
    sets ! (addr ! (through ! refl (stop !))) refl (tt, tt) $
    lft_new ! tt (λ α. move ! (3 ∷ []) $
    use1 𝓛 (later (some (λ (γ : GName). ‵ ((MutRef (named 0) (α ∷ []) handles.the_row).own_val (record { ref_ptr = (b, o); ghost_name = γ; now = k }) (vptr b o ∷ [])) ⊛ ‵ (flent (α ∷ []) (Body (mem handles.the_row) b o γ)))))
    (lends_ref 𝓛 handles.the_row (named 0) (α ∷ []) k b o) $ await ! tt $ pick ! (λ γ. split ! $
    let lent : MutBor Handle = record { ref_ptr = (b, o); ghost_name = γ; now = k } in
    let z : G.Ghost = (((α ∷ [], κs), (full_share, qs), tt, (h, (lent, a.1.1)), (heap_val ∷ [], (vptr b o ∷ [], rest))), rules) in
    -- [the loan; what the lender keeps; its token; the tokens; what the parameters own; the right to free it]
    move ! (2 ∷ 3 ∷ []) $ join ! $ move ! (3 ∷ []) $ fsplit ! $ move ! (1 ∷ []) $ fsplit ! $ drop ! $ move ! (3 ∷ 0 ∷ []) $ fjoin ! $ move ! (1 ∷ 0 ∷ []) $ fjoin ! $ move ! (1 ∷ 0 ∷ []) $ join ! $
    use0 𝓛 (raw (fact 𝓤 (StandsFor k rules))) (fact_i 𝓤 (StandsFor k rules) (emp 𝓤) is_kept) $ move ! (1 ∷ 0 ∷ []) $ use2 𝓛 (raw (G.pre z)) (id⊢ 𝓤 _) $
    calls_at ! (framed 𝓤 𝓛.H 𝓜 𝓣) G (met 𝓤 𝓛 𝓜 𝓡 (code.calls-gdlsolve_c::asking::asked 𝓡.env wired)) z
    (and_then ! (get ! refl) (and_then ! (get ! refl) (and_then ! (get ! refl) (and_then ! (get ! refl) (and_then ! (get ! refl) (no_more !)))))) (λ v.
    use1 𝓛 (later (some (λ (r : ℕ). ((‵ (flft (α ∷ []) full_share) ⊛ (‵ (flft κs.0 qs.0) ⊛ ‵ (flft κs.1.0 qs.1.0) ⊛ ‵ (flft κs.1.1.0 qs.1.1.0) ⊛ ‵ ftrue)) ⊛ ‵ (u32.own_val r (v ∷ [])))
    ⊛ some (λ (ws : Lasts g.ended z.0.0 z.0.3). ‵ (lasts g.ended z.0.0 z.0.3 ws) ⊛ (raw (fact 𝓤 (StandsFor ws.1.0 rules)) ⊛ raw (Tells 𝓤 rules room.now ws.1.1.1.0 ws.1.1.1.1.0 r)))))) (id⊢ 𝓤 _) $
    await ! tt $ pick ! (λ r. split ! $ split ! $ split ! $ lft_end ! tt $ move ! (2 ∷ []) $
    peeks ! u32 (Is u32) (shows 𝓛 u32) r (v ∷ []) (λ is. lands_as ! refl refl ((uint_Lawful 𝓛 w32).typed r _ is).0 $
    move ! (3 ∷ []) $ pick ! (λ ws. split ! $ move ! (1 ∷ []) $ split ! $ heard ! _ (λ kept_now. move ! (1 ∷ []) $
    -- [the last values; the result; the loan is over; the tokens; what the lender keeps; the right to free it]
    fsplit ! $ drop ! $ fsplit ! $ fsplit ! $ move ! (5 ∷ 7 ∷ 0 ∷ []) $
    use3 𝓛 (later (‵ (part_at handles.the_row full_share ws.1.0 b o))) (ref_back 𝓛 handles.the_row (α ∷ []) γ ws.1.0 b o) $ await ! tt $
    move ! (0 ∷ 6 ∷ []) $ fjoin ! $ nothing ! $ fpack ! (StandsFor ws.1.0 rules) (λ _. ftrue) kept_now $ move ! (1 ∷ 0 ∷ []) $ fjoin ! $
    fpack ! Handle (λ k'. fsep (box_owns tok handles.the_row (block_ptr b o) k') (fex (StandsFor k' rules) (λ _. ftrue))) ws.1.0 $
    fpack ! (Heap.the_row).Denot (λ owner'. fex Handle (λ k'. fsep (box_owns (ghosts.dealloc_token owner') handles.the_row (block_ptr b o) k') (fex (StandsFor k' rules) (λ _. ftrue)))) h $
    -- [the handle; a borrow that is over; the last values of the words, the room and the size; the result; the tokens]
    move ! (2 ∷ []) $ fsplit ! $ drop ! $ fsplit ! $ fsplit ! $ fsplit ! $ move ! (1 ∷ []) $ feq_l ! (λ same. fjoin ! $ move ! (1 ∷ []) $ fsplit ! $
    returns ! (look_at ! 0 refl) $ free_all ! refl $ keep ! (0 ∷ 2 ∷ 3 ∷ 5 ∷ 6 ∷ 7 ∷ []) $
    suffices ! _ (ends_at 𝓛 f.ended stayed c (y (block_ptr b o)) v r (tt, (tt, (tt, (ws.1.1.1.0, (ws.1.1.1.1.0, tt))))) (tt, (tt, (tt, (same, (tt, tt)))))) $
    nothing ! $ move ! (1 ∷ 0 ∷ []) $ fjoin ! $ move ! (1 ∷ 0 ∷ []) $ fjoin ! $ nothing ! $ fjoin ! $ nothing ! $ fjoin ! $ nothing ! $ fjoin ! $
    move ! (4 ∷ 0 ∷ 3 ∷ []) $ group ! 3 $ done !))))))))))))))
