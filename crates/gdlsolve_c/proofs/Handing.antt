-- The parts of a box of the heap, as what they own. Assumes `Logic`.
use Rattle.std.proofs.Common.{◌≡◌, ℕ, ◌^◌, ◌<◌, List, [], ◌∷◌, ◌++◌, refl, subst, lit<, w32}
use seplogic.Ra.Ura.{Ura}
use mir.Syntax.{ty_ptr}
use denote.Builtin.{u32}
use mir.Val.{Val, vint, vstruct, vnil, vcons, of_list}
use types.Logic.{Logic}
use types.Kit.{Goal, Seq, Step, step, Item, ‵, ◌$◌, move, drop, rewrite, fsplit, fjoin, fpick, fpack, feq_l, feq_i, flt_i, flt_l}
use denote.RattleType.{Valss}
use denote.Laws.{Is, shows}
use denote.RawPtr.{Ptr, RawPtr, block_ptr, null_ptr, ptr_val}
use denote.Steps.{peeks, nothing}
use denote.Struct.Struct.{within}
use denote.Struct.Owning.{Owning, shape}
use denote.RattleType.{RattleType}
use Rattle.std.specs.Box.Ownership.{box_owns}
use Rattle.std.specs.contracts.alloc.Global as Heap
use Rattle.std.specs.contracts.impls.GlobalAllocator.TheImpl.{ghosts}
use Rattle.std.proofs.Handle.{heap_val, heap_Tells}
use lib.Dec.{T}
use mir.Val.{has_ty, WT}
use denote.Memory.{lone}
use Rattle.std.proofs.alloc.Global.TheLaws as HP
use Rattle.gdlsolve_c.specs.declared.handle.Handle.{Handle}
use Rattle.gdlsolve_c.specs.contracts.handle.Handle as handles
use Rattle.gdlsolve_c.specs.contracts.parts.Parts as parts
use Rattle.gdlsolve_c.specs.contracts.opening.Opened as opening
use Rattle.gdlsolve_c.specs.declared.opening.Opened.{Opened}
use Rattle.gdlsolve_c.specs.Handles.{OpensTo}

abbrev pub Row : RattleType
Row = parts.the_row handles.the_row Heap.the_row ghosts

abbrev pub Shape : Owning
Shape = parts.the_type handles.the_row Heap.the_row ghosts

abbrev pub word : Ptr → Val
word p = vstruct (vcons (ptr_val p) (vcons heap_val vnil))

pub heap_good : T (has_ty HP.mir heap_val) × WT heap_val
heap_good = (tt, ((tt, tt), tt))

pub word_good : (p : Ptr) → T (has_ty (lone Row.mir) (word p)) × WT (word p)
word_good (block_ptr b o) = (tt, (tt, (heap_good.1, tt)))
word_good null_ptr = (tt, (record { fits = lit< tt }, (heap_good.1, tt)))

abbrev pub Opening : RattleType
Opening = opening.the_row

abbrev pub opened_word : Ptr → ℕ → Val
opened_word p status = vstruct (vcons (ptr_val p) (vcons (vint w32 status) vnil))

pub ptr_good : (p : Ptr) → T (has_ty ty_ptr (ptr_val p)) × WT (ptr_val p)
ptr_good (block_ptr b o) = (tt, tt)
ptr_good null_ptr = (tt, record { fits = lit< tt })

pub opened_good : (p : Ptr) (status : ℕ) → status < 2 ^ 32 → T (has_ty (lone Opening.mir) (opened_word p status)) × WT (opened_word p status)
opened_good (block_ptr b o) status fits = (tt, (tt, (record { fits = fits }, tt)))
opened_good null_ptr status fits = (tt, (record { fits = lit< tt }, (record { fits = fits }, tt)))

module _ {M : Type 1} {𝓤 : Ura M} {𝓛 : Logic 𝓤} {K : Type 0} {Γ : List (Item 𝓤)} {G : Goal 𝓤 𝓛.H} where
  pub parts_in : K → (p : Ptr) (h : (Heap.the_row).Denot) (x : Handle)
      → Step K 𝓛 (‵ ((Row).own_val (record { ptr = p; alloc = h; value = x }) (word p ∷ [])) ∷ Γ) G
      (‵ (box_owns (ghosts.dealloc_token h) handles.the_row p x) ∷ ‵ ((Heap.the_row).own_val h (heap_val ∷ [])) ∷ Γ) G
  parts_in t p h x = step (λ s.
      nothing t $ move t (2 ∷ 0 ∷ []) $ fjoin t $ feq_i t (List Val) (ptr_val p ∷ []) (ptr_val p ∷ []) refl $ fjoin t $
      feq_i t (List Val) (word p ∷ []) (word p ∷ []) refl $ fjoin t $
      fpack t (Valss (RawPtr ∷ Heap.the_row ∷ [])) (within (shape Shape) (p, (h, tt)) (word p ∷ [])) (ptr_val p ∷ [], (heap_val ∷ [], tt)) $ fjoin t $ s)

  pub parts_out : K → (d : (Row).Denot) (vs : List Val)
      → (vs ≡ word d.ptr ∷ [] → Seq K 𝓛 (‵ (box_owns (ghosts.dealloc_token d.alloc) handles.the_row d.ptr d.value) ∷ ‵ ((Heap.the_row).own_val d.alloc (heap_val ∷ [])) ∷ Γ) G)
      → Seq K 𝓛 (‵ ((Row).own_val d vs) ∷ Γ) G
  parts_out t d vs k =
      fsplit t $ fpick t (λ vss. fsplit t $ feq_l t (λ ev. fsplit t $ feq_l t (λ ep. fsplit t $ peeks t Heap.the_row (Is Heap.the_row) (shows 𝓛 Heap.the_row) d.alloc vss.1.0 (λ is.
      let ea : vss.1.0 ≡ heap_val ∷ [] = heap_Tells d.alloc vss.1.0 is in
      rewrite t 0 (λ (us : List Val). ‵ ((Heap.the_row).own_val d.alloc us)) ea refl $ move t (1 ∷ []) $ drop t $ move t (1 ∷ []) $
      k (subst (λ (ws : List Val). vs ≡ vstruct (of_list (ptr_val d.ptr ∷ (ws ++ []))) ∷ []) ea (subst (λ (ps : List Val). vs ≡ vstruct (of_list (ps ++ (vss.1.0 ++ []))) ∷ []) ep ev))))))

  pub opened_in : K → (p : Ptr) (status : ℕ) (rules : List ℕ) → status < 2 ^ 32
      → Step K 𝓛 (‵ (Opening.own_val (record { at = p; status = status; rules = rules }) (opened_word p status ∷ [])) ∷ Γ) G (‵ (OpensTo status p rules) ∷ Γ) G
  opened_in t p status rules fits = step (λ s.
      nothing t $ flt_i t status (2 ^ 32) fits $ feq_i t (List Val) (vint w32 status ∷ []) (vint w32 status ∷ []) refl $ fjoin t $ fjoin t $
      feq_i t (List Val) (ptr_val p ∷ []) (ptr_val p ∷ []) refl $ fjoin t $ feq_i t (List Val) (opened_word p status ∷ []) (opened_word p status ∷ []) refl $ fjoin t $
      fpack t (Valss (RawPtr ∷ u32 ∷ [])) (within (shape opening.the_type) (p, (status, tt)) (opened_word p status ∷ [])) (ptr_val p ∷ [], (vint w32 status ∷ [], tt)) $ fjoin t $ s)

  pub opened_out : K → (d : Opened) (vs : List Val)
      → (vs ≡ opened_word d.at d.status ∷ [] → d.status < 2 ^ 32 → Seq K 𝓛 (‵ (OpensTo d.status d.at d.rules) ∷ Γ) G)
      → Seq K 𝓛 (‵ (Opening.own_val d vs) ∷ Γ) G
  opened_out t d vs k =
      fsplit t $ fpick t (λ vss. fsplit t $ feq_l t (λ ev. fsplit t $ feq_l t (λ ep. fsplit t $ fsplit t $ feq_l t (λ es. flt_l t (λ fits. drop t $
      k (subst (λ (ws : List Val). vs ≡ vstruct (of_list (ptr_val d.at ∷ (ws ++ []))) ∷ []) es (subst (λ (ps : List Val). vs ≡ vstruct (of_list (ps ++ (vss.1.0 ++ []))) ∷ []) ep ev)) fits)))))
