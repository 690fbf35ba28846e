use Rattle.std.proofs.Common.{◌≡◌, ℕ, ◌+◌, ◌*◌, ◌++◌, List, length, replicate, take, drop, sym, subst, ap, ◌∙◌, length-append}
use Rattle.std.proofs.lemmas.List.{length-replicate}
use Rattle.search_table.specs.Rows.{RowsHold}
use Rattle.search_table.proofs.RowLemmas.{rows_added, written_over, twice_rows}
use Rattle.search_table.proofs.rows.double_rows.Goals as goal

pub spread_rows-requires-clause-size : goal.spread_rows-requires-clause-size
spread_rows-requires-clause-size c =
    let old = c.args.words.now.items in
    let size = c.len-size.result in
    let len : c.args.words.now.len ≡ length old = c.args.words.now.ok.0 in
    let whole : length c.deref_mut.result.now ≡ length old + size =
    ap length (c.deref_mut.ensures.value ∙ c.add_zeros.ensures.words) ∙ length-append old (replicate {A = ℕ} size 0)
    ∙ ap (λ (k : ℕ). length old + k) (length-replicate {A = ℕ} size 0) in
    let same : size ≡ length old = c.len-size.ensures ∙ len in
    twice_rows c.args.entries c.args.stride (length old) c.requires.size ∙ ap (λ (k : ℕ). length old + k) (sym same) ∙ sym whole

pub returns-clause-rows : goal.returns-clause-rows
returns-clause-rows c = λ worth before.
    let old = c.args.words.now.items in
    let size = c.len-size.result in
    let mid = c.add_zeros.new.words in
    let new = c.spread_rows.new.words in
    let entries = c.args.entries in
    let stride = c.args.stride in
    let same : take mid.len (new ++ drop (length new) mid.items) ≡ new =
    written_over new mid.items mid.len mid.ok.0 (c.spread_rows.auto.words ∙ ap length c.deref_mut.ensures.value) in
    subst (λ (ws : List ℕ). RowsHold worth ws stride (2 * entries)) (sym same)
    (c.spread_rows.ensures worth (subst (λ (ws : List ℕ). RowsHold worth ws stride (2 * entries))
    (sym (c.deref_mut.ensures.value ∙ c.add_zeros.ensures.words))
    (rows_added worth old stride entries size (2 * entries) c.requires.some_words c.requires.size before)))

pub returns-clause-size : goal.returns-clause-size
returns-clause-size c =
    let old = c.args.words.now.items in
    let size = c.len-size.result in
    let mid = c.add_zeros.new.words in
    let new = c.spread_rows.new.words in
    let len : c.args.words.now.len ≡ length old = c.args.words.now.ok.0 in
    let whole : length mid.items ≡ length old + size =
    ap length c.add_zeros.ensures.words ∙ length-append old (replicate {A = ℕ} size 0)
    ∙ ap (λ (k : ℕ). length old + k) (length-replicate {A = ℕ} size 0) in
    let same : size ≡ length old = c.len-size.ensures ∙ len in
    let kept : length new ≡ length mid.items = c.spread_rows.auto.words ∙ ap length c.deref_mut.ensures.value in
    twice_rows c.args.entries c.args.stride (length old) c.requires.size ∙ ap (λ (k : ℕ). length old + k) (sym same) ∙ sym whole ∙ sym kept
    ∙ sym (ap length (written_over new mid.items mid.len mid.ok.0 kept))
