-- What is told of heads without effect, one behind the other.
use Rattle.std.proofs.Common.{ℕ, ◌+◌, ◌<◌, ◌≡◌, List, [], ◌∷◌, ◌++◌, length, get_or, take, refl, sym, subst, ◌∙◌}
use Rattle.std.specs.List.{FoldsTo}
use Rattle.std.proofs.lemmas.List.{take_more}
use Rattle.std.proofs.lemmas.Fn.{FoldsTo-push}
use Rattle.statement.specs.Tree.{Tree}
use Rattle.diagnose_lint.specs.declared.pointer.Pointer.{Pointer}
use Rattle.diagnose_lint.specs.Pointing.{IsPointer}
use Rattle.diagnose_lint.specs.declared.dropped_finding.Dropped.{Dropped}
use Rattle.diagnose_lint.specs.Telling.{TellsOf}

-- the pointer is one over this text, and what was told is told of these
pub record IsTold (text : List ℕ) (ts : List Tree) (before behind old : List ℕ) (found : List Dropped) (p : Pointer) (new : List ℕ) : Type 0 where
  pub text_is : p.text.now ≡ text
  pub pointer : IsPointer ts p
  pub told : FoldsTo (TellsOf text ts before behind) old found new

pub told_none : (text : List ℕ) (ts : List Tree) (before behind old : List ℕ) (p : Pointer) → p.text.now ≡ text → IsPointer ts p
    → IsTold text ts before behind old [] p old
told_none text ts before behind old p e i = record { text_is = e; pointer = i; told = refl }

pub told_more : (text : List ℕ) (ts : List Tree) (before behind old : List ℕ) (found : List Dropped) (i : ℕ) (d : Dropped) (p q : Pointer)
    (mid new : List ℕ) → i < length found → d ≡ get_or found i d → IsTold text ts before behind old (take i found) p mid
    → q.text.now ≡ p.text.now → IsPointer ts q → TellsOf p.text.now ts before behind mid d new
    → IsTold text ts before behind old (take (i + 1) found) q new
told_more text ts before behind old found i d p q mid new h e is same pointer one = record {
  text_is = same ∙ is.text_is;
  pointer = pointer;
  told = subst (λ (ds : List Dropped). FoldsTo (TellsOf text ts before behind) old ds new) (sym more)
      (FoldsTo-push (TellsOf text ts before behind) old (take i found) mid d new is.told
      (subst (λ (t : List ℕ). TellsOf t ts before behind mid d new) is.text_is one));
}
  where
    more : take (i + 1) found ≡ take i found ++ d ∷ []
    more = take_more found i d h ∙ subst (λ (x : Dropped). take i found ++ get_or found i d ∷ [] ≡ take i found ++ x ∷ []) (sym e) refl
