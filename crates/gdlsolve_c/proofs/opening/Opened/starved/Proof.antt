-- `starved` owns nothing. Assumes `Logic`.
use Rattle.std.proofs.Common.{[], ◌∷◌, refl, lit<}
use Rattle.std.proofs.raw_atomic.Walks.{proved}
use base.Fml.{ftrue}
use types.Kit.{‵, ◌⊛◌, ◌$◌, ◌∵◌, !, qed, done, drop, feq_i, suffices, group}
use types.Part.{agg}
use types.Run.{enter, lit, no_more, and_then, returns}
use types.ByLocal.{alloc_all, pass_all, free_all, look_at, sets}
use denote.RawPtr.{Ptr, null_ptr}
use denote.Steps.{nothing}
use denote.Triple.Walked.{says, Stays, walk_of, ends_at}
use Rattle.gdlsolve_c.specs.declared.opening.Opened.{Opened}
use Rattle.gdlsolve_c.proofs.Handing.{opened_word, opened_good, opened_in}
use Rattle.gdlsolve_c.specs.contracts.opening.Opened.starved as f
use Rattle.gdlsolve_c.proofs.opening.Opened.starved.Statement.{statement}
use Rattle.gdlsolve_c.proofs.opening.Opened.starved.Code as code

abbrev stayed : Stays f.ended.signature.params f.ended.kept
stayed = tt

pub starved_spec : {M : Type 1} → statement M
starved_spec 𝓤 𝓛 𝓜 𝓡 wired =
    let c = f.clauses 𝓛 𝓜.mem 𝓡.returns in let W = walk_of 𝓛 f.ended stayed c in
    proved 𝓛 f.ended stayed c 𝓜 𝓡 tt f.Key.name code.function (code.unfolded 𝓤 𝓛.H 𝓜 𝓡 wired) (λ κs. tt) (λ κs. tt) (λ κs qs bounds a _ are.
    let y : W.Ghost = ((κs, qs, bounds, a, tt), tt) in
    let r : Opened = record { at = null_ptr; status = 3; rules = [] } in
    qed 𝓛 ((‵ ftrue ⊛ ‵ ftrue) ∷ ‵ ftrue ∷ []) ∵ drop ! $ drop ! $
    enter ! _ _ _ _ _ $ alloc_all ! (λ l. pass_all ! refl tt $
    sets ! (agg ! (and_then ! (lit ! tt) (and_then ! (lit ! tt) (no_more !)))) refl (opened_good null_ptr 3 (lit< tt)) $
    returns ! (look_at ! 0 refl) $ free_all ! refl $
    feq_i ! Ptr null_ptr null_ptr refl $ opened_in ! null_ptr 3 [] (lit< tt) $
    suffices ! _ (ends_at 𝓛 f.ended stayed c y (opened_word null_ptr 3) r tt tt) $ says ! refl $
    nothing ! $ nothing ! $ group ! 3 $ done !))
