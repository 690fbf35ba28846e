-- Findings, each of an item behind those of the ones before.
use Rattle.std.proofs.Common.{ℕ, ◌+◌, ◌<◌, ◌≤◌, ◌≡◌, List, [], ◌∷◌, ◌++◌, sym, subst, arith}
use Rattle.std.specs.List.{All}
use Rattle.std.proofs.lemmas.List.Elements.{All-nil, All-push}
use Rattle.std.proofs.lemmas.List.Quantifiers.{all_pairs_push}
use Rattle.statement.specs.Tree.{Tree}
use Rattle.statement.specs.Clause.{Alternative}
use Rattle.statement.specs.Items.{alternatives}
use Rattle.diagnose_lint.specs.declared.dropped_finding.Dropped.{Dropped}
use Rattle.diagnose_lint.specs.Effects.{IsTrueDropped, IsBefore}
use Rattle.diagnose_lint.specs.DroppedFindings.{IsTrueBy, AreFindings}
use Rattle.diagnose_lint.specs.Owners.{AreOwners}

pub no_findings : (rules : List Alternative) (owners : List ℕ) → AreFindings rules owners 0 []
no_findings rules owners = record {
  each = All-nil (IsTrueBy rules owners);
  once = λ i j d h k. absurd (let bad : ⊥ = omega (arith, h, k) in bad);
  below = All-nil (λ (d : Dropped). d.place < 0);
}

pub findings_more : (rules : List Alternative) (owners : List ℕ) (next later : ℕ) (found all : List Dropped) (d : Dropped)
    → AreFindings rules owners next found → IsTrueBy rules owners d → next ≤ d.place → later ≡ d.place + 1 → all ≡ found ++ d ∷ []
    → AreFindings rules owners later all
findings_more rules owners next later found all d are truth behind after is = subst (λ (ds : List Dropped). AreFindings rules owners later ds)
    (sym is) (record {
      each = All-push (IsTrueBy rules owners) found d are.each truth;
      once = all_pairs_push IsBefore found d are.once (λ k e h. let less = are.below k e h in omega (arith, less, behind));
      below = All-push (λ (e : Dropped). e.place < later) found d (λ k e h. let less = are.below k e h in omega (arith, less, behind, after))
          (omega (arith, after));
    })

-- of the items of the rules each is true
pub true_of : (rules : List Alternative) (owners : List ℕ) (next : ℕ) (found : List Dropped) → AreFindings rules owners next found
    → (ts : List Tree) → AreOwners ts owners → rules ≡ alternatives ts → All (IsTrueDropped ts) found
true_of rules owners next found are ts own same = λ k d h. are.each k d h ts own same
