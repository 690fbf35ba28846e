-- `with` hands over what the parts own. Assumes `Logic`.
use Rattle.std.proofs.Common.{List, [], ◌∷◌, ◌++◌, refl, lit<}
use Rattle.std.proofs.raw_atomic.Walks.{proved_at}
use base.Fml.{ftrue, fsep, fex}
use mir.Val.{Val}
use prog.Wp.{WpFn}
use contract.Monad.{fact}
use contract.Running.{tables}
use types.Kit.{‵, raw, ◌⊛◌, prop, ◌$◌, ◌∵◌, !, qed, done, move, keep, drop, split, join, fsplit, fjoin, fpack, regoal, suffices, group}
use types.Part.{agg, whole, sub}
use types.Run.{enter, of_opd, lit, fld, stop, no_more, and_then, returns}
use types.ByLocal.{alloc_all, pass_all, free_all, look_at, get, get_in, sets}
use denote.Exit.{yes}
use denote.RattleType.{owns}
use denote.Signature.{plain}
use denote.Steps.{nothing, heard}
use denote.Triple.Walked.{says, Stays, walk_of, stay_dropped, ends_at}
use Rattle.std.proofs.alloc.Calls.{Goes-blank}
use Rattle.std.specs.contracts.alloc.Global as Heap
use Rattle.std.specs.contracts.impls.GlobalAllocator.TheImpl.{ghosts}
use Rattle.std.specs.Box.Ownership.{box_owns}
use Rattle.gdlsolve_c.specs.Handles.{StandsFor}
use Rattle.gdlsolve_c.specs.declared.handle.Handle.{Handle}
use Rattle.gdlsolve_c.specs.contracts.handle.Handle as handles
use Rattle.gdlsolve_c.specs.declared.opening.Opened.{Opened}
use Rattle.gdlsolve_c.proofs.Handing.{Row, word_good, heap_good, ptr_good, parts_out, opened_word, opened_good, opened_in}
use Rattle.gdlsolve_c.specs.contracts.opening.Opened.with as f
use Rattle.gdlsolve_c.proofs.opening.Opened.with.Statement.{statement}
use Rattle.gdlsolve_c.proofs.opening.Opened.with.Code as code

abbrev stayed : Stays f.ended.signature.params f.ended.kept
stayed = (stay_dropped _ yes, tt)

pub with_spec : {M : Type 1} → statement M
with_spec 𝓤 𝓛 𝓜 𝓡 wired =
    let c = f.clauses 𝓛 𝓜.mem 𝓡.returns in let W = walk_of 𝓛 f.ended stayed c in let 𝓣 = tables 𝓤 𝓛.H 𝓜 𝓡 𝓡.env in
    proved_at 𝓛 f.ended stayed c 𝓜 𝓡 (Goes-blank 𝓛 0 (plain (λ _. Row)) yes (λ κs x w. tt), tt)
    f.Key.name code.function (code.unfolded 𝓤 𝓛.H 𝓜 𝓡 wired) (λ z are.
    let d = z.0.3.0 in let vs = z.0.4.0 in let rules = d.value.rules.items in
    let r : Opened = record { at = d.ptr; status = 0; rules = rules } in
    qed 𝓛 ((‵ ftrue ⊛ ‵ (owns (Row ∷ []) (d, tt) (vs, tt))) ∷ raw (fact 𝓤 (StandsFor d.value rules)) ∷ []) ∵
    move ! (1 ∷ []) $ heard ! _ (λ is_kept. split ! $ drop ! $ fsplit ! $ parts_out ! d vs (λ ev.
    regoal ! (λ (us : List Val). prop (WpFn 𝓤 𝓛.H 𝓣.C 𝓣.Λ code.function (us ++ []) (W.post z))) ev refl $
    -- [the box; the handle of the heap; nothing]
    enter ! _ _ _ _ _ $ alloc_all ! (λ l. pass_all ! refl (word_good d.ptr, tt) $
    sets ! (of_opd ! (get_in ! (fld ! refl (stop !)) (sub ! 0 refl (whole !)))) refl (ptr_good d.ptr) $
    sets ! (of_opd ! (get_in ! (fld ! refl (stop !)) (sub ! 1 refl (whole !)))) refl heap_good $
    sets ! (agg ! (and_then ! (get ! refl) (and_then ! (lit ! tt) (no_more !)))) refl (opened_good d.ptr 0 (lit< tt)) $
    returns ! (look_at ! 0 refl) $ free_all ! refl $ keep ! (0 ∷ []) $
    nothing ! $ fpack ! (StandsFor d.value rules) (λ _. ftrue) is_kept $ move ! (1 ∷ 0 ∷ []) $ fjoin ! $
    fpack ! Handle (λ k. fsep (box_owns (ghosts.dealloc_token d.alloc) handles.the_row d.ptr k) (fex (StandsFor k rules) (λ _. ftrue))) d.value $
    fpack ! (Heap.the_row).Denot (λ owner. fex Handle (λ k. fsep (box_owns (ghosts.dealloc_token owner) handles.the_row d.ptr k) (fex (StandsFor k rules) (λ _. ftrue)))) d.alloc $
    opened_in ! d.ptr 0 rules (lit< tt) $
    suffices ! _ (ends_at 𝓛 f.ended stayed c z (opened_word d.ptr 0) r (tt, tt) (tt, tt)) $ says ! (refl, refl) $
    nothing ! $ nothing ! $ join ! $ nothing ! $ group ! 3 $ done !))))
