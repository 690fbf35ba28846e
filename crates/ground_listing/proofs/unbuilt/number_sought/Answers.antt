use Rattle.std.proofs.Common.{ℕ, ◌≡◌, ◌<◌, ◌≢◌, IfSome, Option, List, [], length, get_or, subst}
use Rattle.std.specs.Prelude.{MatchOption, IfNone}
use Rattle.util_interner.specs.KeyLists.{key_at}
use Rattle.rules.specs.RuleSetView.{lists_of_set}
use Rattle.ground_terms.specs.Vectors.{items_of}
use Rattle.ground_rows.specs.declared.kept_keys.BlankKey.{BlankKey}
use Rattle.ground_rows.specs.SetWords.{words_of}
use Rattle.ground_rows.specs.Settled.{AreAbsent}
use Rattle.ground_rows.specs.Sought.{word_in, IsSettledKey}
use Rattle.ground_listing.proofs.SettledAtoms.{looked_up_settled, absent_atom, filled_is}
use Rattle.ground_listing.proofs.unbuilt.number_sought.Goals as goal

pub put_sought-requires : goal.put_sought-requires
put_sought-requires c =
    let n = c.args.planned.now.number in
    let parts = get_or (items_of c.args.rows.now.plan.now.body.items) c.args.planned.now.index [] in
    (subst (λ (o : Option BlankKey). IfSome o (λ b. IsSettledKey c.requires.planned.first (word_in (lists_of_set c.args.rows.now.set.now) n) parts b))
    c.in-Some.is (c.requires.planned.sought c.args.sought.now c.requires.kept).key).is.hashed

pub returns-in_default : goal.returns-in_default
returns-in_default c =
    let set = c.args.rows.now.set.now in
    let n = c.args.planned.now.number in
    let planned = c.requires.planned in
    let parts = get_or (items_of c.args.rows.now.plan.now.body.items) c.args.planned.now.index [] in
    absent_atom (lists_of_set set) set.sound.words c.args.rows.now.alternative.now.variables.from c.args.arena.now.keys c.requires.terms.numbered
    c.args.rows.now.places.now c.args.values.now c.requires.row n planned.atom.can planned.first c.args.rows.now.atoms.now.keys planned.since parts
    planned.atom.are
    (subst (λ (o : Option BlankKey). IfNone o ((words : List (List ℕ)) → AreAbsent words planned.first parts)) c.in_default.is
    (planned.sought c.args.sought.now c.requires.kept).absent (words_of set))

pub returns : goal.returns
returns c =
    let set = c.args.rows.now.set.now in
    let d = lists_of_set set in
    let keys = c.args.arena.now.keys in
    let o = c.number_by.result in
    let n = c.args.planned.now.number in
    let planned = c.requires.planned in
    let parts = get_or (items_of c.args.rows.now.plan.now.body.items) c.args.planned.now.index [] in
    let kept = subst (λ (o : Option BlankKey). IfSome o (λ b. IsSettledKey planned.first (word_in d n) parts b))
    c.in-Some.is (planned.sought c.args.sought.now c.requires.kept).key in
    looked_up_settled d set.sound.words c.args.rows.now.alternative.now.variables.from keys c.requires.terms.numbered
    c.args.rows.now.places.now c.args.values.now c.requires.row n planned.atom.can planned.first planned.since.front parts kept.settled
    c.put_sought.new.key.items c.args.rows.now.atoms.now.keys o planned.atom.are (kept.settles (words_of set))
    (filled_is c.in_ok-hash.field-0 c.in-Some-2.hash (word_in d n) kept.settled c.in-Some.blank c.args.values.now c.put_sought.new.key.items kept.is
    c.in-Some-2.is c.in_ok-hash.ensures.values c.in_ok-hash.ensures.key)
    (subst (λ (ks : List ℕ). MatchOption o ((k : ℕ) → k < length keys → key_at keys k ≢ ks) (λ k. (k < length keys) × (key_at keys k ≡ ks)))
    c.as_slice.ensures.value
    (subst (λ (all : List (List ℕ)). MatchOption o ((k : ℕ) → k < length all → key_at all k ≢ c.as_slice.result.now)
    (λ k. (k < length all) × (key_at all k ≡ c.as_slice.result.now))) c.terms.ensures c.number_by.ensures))
