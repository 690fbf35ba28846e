-- The lines that count what a description has.
use Rattle.std.proofs.Common.{ℕ, ◌≡◌, inr, List, [], ◌∷◌, ◌++◌, length, map, codes, ◌∙◌, ap}
use Rattle.statement.specs.Tree.{Tree, text}
use Rattle.statement.specs.Items.{alternatives}
use Rattle.statement.specs.Order.{relations_in_order}
use Rattle.statement.specs.Profile.{HasNoFault, roles}
use Rattle.statement.specs.declared.status.Status.{Status}
use Rattle.statement.specs.declared.status.Status.TheVariants.{Answer}
use Rattle.statement.specs.Checking.{count_line, spaced, check_lines, IsCheckReply}

-- the parts of the four lines, one behind the other
pub lines_are : (n a b r c : ℕ) (o0 o1 o2 o3 o4 o5 o6 : List ℕ) (texts : List (List ℕ)) → o0 ≡ [] → o1 ≡ o0 ++ count_line (codes "items") n
    → o2 ≡ o1 ++ count_line (codes "alternatives") a → a ≡ b → o3 ≡ o2 ++ count_line (codes "relations") r → r ≡ c
    → o4 ≡ o3 ++ codes "roles" → o5 ≡ o4 ++ spaced texts → o6 ≡ o5 ++ 10 ∷ [] → o6 ≡ check_lines n b c texts
lines_are n a b r c o0 o1 o2 o3 o4 o5 o6 texts e0 e1 e2 ab e3 rc e4 e5 e6 =
    e6 ∙ ap (λ (x : List ℕ). x ++ 10 ∷ [])
    (e5 ∙ ap (λ (x : List ℕ). x ++ spaced texts)
    (e4 ∙ ap (λ (x : List ℕ). x ++ codes "roles")
    (e3 ∙ ap (λ (k : ℕ). o2 ++ count_line (codes "relations") k) rc ∙ ap (λ (x : List ℕ). x ++ count_line (codes "relations") c)
    (e2 ∙ ap (λ (k : ℕ). o1 ++ count_line (codes "alternatives") k) ab ∙ ap (λ (x : List ℕ). x ++ count_line (codes "alternatives") b)
    (e1 ∙ ap (λ (x : List ℕ). x ++ count_line (codes "items") n) e0)))))

-- a description without a fault is counted
pub counts : (items : List Tree) (a r : ℕ) (texts : List (List ℕ)) (n : ℕ) (made output : List ℕ) (status : Status)
    → n ≡ length items → HasNoFault items → a ≡ length (alternatives items) → r ≡ length (relations_in_order (alternatives items))
    → texts ≡ map text (roles items) → made ≡ check_lines n a r texts → output ≡ made → status ≡ Answer
    → IsCheckReply items (record { output = output; status = status })
counts items a r texts n made output status many lawful as' rs said_roles lines is_output is_status =
    let all : output ≡ check_lines (length items) (length (alternatives items)) (length (relations_in_order (alternatives items)))
    (map text (roles items)) =
    is_output ∙ lines
    ∙ ap (λ (k : ℕ). check_lines k a r texts) many
    ∙ ap (λ (k : ℕ). check_lines (length items) k r texts) as'
    ∙ ap (λ (k : ℕ). check_lines (length items) (length (alternatives items)) k texts) rs
    ∙ ap (λ (ts : List (List ℕ)). check_lines (length items) (length (alternatives items)) (length (relations_in_order (alternatives items))) ts)
    said_roles in
    inr (lawful, cc (all, is_status))
