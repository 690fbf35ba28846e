-- Names that were given numbers.
use Rattle.std.proofs.Common.{ℕ, ◌≡◌, ◌<◌, List, [], length, ◌∙◌, subst}
use Rattle.rules.specs.declared.rule_set.Keywords.{Keywords}
use Rattle.rules.specs.declared.draft.Draft.{Draft}
use Rattle.rules_clauses.specs.declared.store.Store.{Store}
use Rattle.statement.specs.Tree.{Tree}
use Rattle.statement.specs.Words.{w_role, w_base, w_input, w_init, w_true, w_does, w_next, w_legal, w_goal, w_terminal, w_distinct}
use Rattle.rules_clauses.specs.Adding.{DataGrows}
use Rattle.rules.specs.Drafts.{IsDraftOf}
use Rattle.rules.specs.Naming.{NumbersName, NumbersKeywords}
use Rattle.rules_clauses.specs.Numbers.{word_at, with_word}
use Rattle.rules_clauses.specs.Store.{Data}
use Rattle.rules_clauses.specs.StoreView.{data_of}
use Rattle.rules_clauses.proofs.Facts.{begins_at, begins_less, extends_trans, grows_trans, grows_word}

numbers_name : (a b : Data) (n : ℕ) (w : List ℕ) → b ≡ record a { words = with_word a.words w } → (n < length b.words) × (word_at b.words n ≡ w)
    → NumbersName a b n w
numbers_name a b n w e (inside, same) =
    record {
      grows = grows_word 0 a b w e;
      named = λ later x. record {
        inside = begins_less b.words later.words n x.words inside;
        same = begins_at b.words later.words n [] x.words inside
            ∙ same;
      };
    }

-- the name is that of a word
pub numbers_word : (a b : Data) (n : ℕ) (name word : List ℕ) → name ≡ word → b ≡ record a { words = with_word a.words name }
    → (n < length b.words) × (word_at b.words n ≡ name) → NumbersName a b n word
numbers_word a b n name word same e found = subst (λ (w : List ℕ). NumbersName a b n w) same (numbers_name a b n name e found)

-- each name in turn
pub numbers_keywords : (a0 a1 a2 a3 a4 a5 a6 a7 a8 a9 a10 a11 : Data) (k : Keywords)
    → NumbersName a0 a1 k.role w_role
    → NumbersName a1 a2 k.base w_base
    → NumbersName a2 a3 k.input w_input
    → NumbersName a3 a4 k.init w_init
    → NumbersName a4 a5 k.now w_true
    → NumbersName a5 a6 k.does w_does
    → NumbersName a6 a7 k.next w_next
    → NumbersName a7 a8 k.legal w_legal
    → NumbersName a8 a9 k.goal w_goal
    → NumbersName a9 a10 k.terminal w_terminal
    → NumbersName a10 a11 k.distinct w_distinct
    → NumbersKeywords a0 a11 k
numbers_keywords a0 a1 a2 a3 a4 a5 a6 a7 a8 a9 a10 a11 k x1 x2 x3 x4 x5 x6 x7 x8 x9 x10 x11 =
    let g10 = x11.grows in
    let g9 = grows_trans 0 a9 a10 a11 x10.grows g10 in
    let g8 = grows_trans 0 a8 a9 a11 x9.grows g9 in
    let g7 = grows_trans 0 a7 a8 a11 x8.grows g8 in
    let g6 = grows_trans 0 a6 a7 a11 x7.grows g7 in
    let g5 = grows_trans 0 a5 a6 a11 x6.grows g6 in
    let g4 = grows_trans 0 a4 a5 a11 x5.grows g5 in
    let g3 = grows_trans 0 a3 a4 a11 x4.grows g4 in
    let g2 = grows_trans 0 a2 a3 a11 x3.grows g3 in
    let g1 = grows_trans 0 a1 a2 a11 x2.grows g2 in
    let g0 = grows_trans 0 a0 a1 a11 x1.grows g1 in
    record {
      grows = g0;
      named = λ later e. record {
        role = x1.named later (extends_trans a1 a11 later g1.extends e);
        base = x2.named later (extends_trans a2 a11 later g2.extends e);
        input = x3.named later (extends_trans a3 a11 later g3.extends e);
        init = x4.named later (extends_trans a4 a11 later g4.extends e);
        now = x5.named later (extends_trans a5 a11 later g5.extends e);
        does = x6.named later (extends_trans a6 a11 later g6.extends e);
        next = x7.named later (extends_trans a7 a11 later g7.extends e);
        legal = x8.named later (extends_trans a8 a11 later g8.extends e);
        goal = x9.named later (extends_trans a9 a11 later g9.extends e);
        terminal = x10.named later (extends_trans a10 a11 later g10.extends e);
        distinct = x11.named later e;
      };
    }

-- a draft stays one of the items where its lists grow
pub draft_grown : (draft : Draft) (s : Store) (items : List Tree) → IsDraftOf draft items → DataGrows 0 (data_of draft.store) (data_of s)
    → IsDraftOf (record draft { store = s }) items
draft_grown draft s items d g =
    record {
      words = g.words d.words;
      signatures = g.signatures d.signatures;
      named = g.named d.named;
      alternatives = λ later x. d.alternatives later (extends_trans (data_of draft.store) (data_of s) later g.extends x);
      links = λ later x. d.links later (extends_trans (data_of draft.store) (data_of s) later g.extends x);
      rests = d.rests;
    }
