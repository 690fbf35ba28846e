use Rattle.std.proofs.Common.{refl}
use Rattle.program_searches.proofs.Held.{begun, further, ended, broken, on_err}
use Rattle.program_searches.proofs.Errs.{on_ok_map, on_err_map}
use Rattle.program_searches.proofs.Pieces.{count_pieces}
use Rattle.program_searches.proofs.writing.write_count.Goals as goal

pub returns-in_err-write_bytes-clause-front : goal.returns-in_err-write_bytes-clause-front
returns-in_err-write_bytes-clause-front g c =
    on_err c.from_residual.result _
    (broken _ _ _ _ _ _ _ (begun _ _) (count_pieces c.args.word.now c.args.count) c.in_err-write_bytes.ensures.front)

pub returns-in_err-write_bytes-2-clause-front : goal.returns-in_err-write_bytes-2-clause-front
returns-in_err-write_bytes-2-clause-front g c =
    let word = further _ _ _ _ _ _ _ (begun _ _) (count_pieces c.args.word.now c.args.count) c.in_ok-write_bytes.ensures.whole in
    on_err c.from_residual-in_err-write_bytes-2.result _ (broken _ _ _ _ _ _ _ word refl c.in_err-write_bytes-2.ensures.front)

pub returns-in_err-write_number-clause-front : goal.returns-in_err-write_number-clause-front
returns-in_err-write_number-clause-front g c =
    let word = further _ _ _ _ _ _ _ (begun _ _) (count_pieces c.args.word.now c.args.count) c.in_ok-write_bytes.ensures.whole in
    let space = further _ _ _ _ _ _ _ word refl c.in_ok-write_bytes-2.ensures.whole in
    on_err c.from_residual-in_err-write_number.result _ (broken _ _ _ _ _ _ _ space refl c.in_err-write_number.ensures.front)

pub returns-clause-whole : goal.returns-clause-whole
returns-clause-whole g c =
    let word = further _ _ _ _ _ _ _ (begun _ _) (count_pieces c.args.word.now c.args.count) c.in_ok-write_bytes.ensures.whole in
    let space = further _ _ _ _ _ _ _ word refl c.in_ok-write_bytes-2.ensures.whole in
    let number = further _ _ _ _ _ _ _ space refl c.in_ok-write_number.ensures.whole in
    on_ok_map c.write_bytes-3.result _ _ (λ h. ended _ _ _ _ (further _ _ _ _ _ _ _ number refl h) refl) c.write_bytes-3.ensures.whole

pub returns-clause-front : goal.returns-clause-front
returns-clause-front g c =
    let word = further _ _ _ _ _ _ _ (begun _ _) (count_pieces c.args.word.now c.args.count) c.in_ok-write_bytes.ensures.whole in
    let space = further _ _ _ _ _ _ _ word refl c.in_ok-write_bytes-2.ensures.whole in
    let number = further _ _ _ _ _ _ _ space refl c.in_ok-write_number.ensures.whole in
    on_err_map c.write_bytes-3.result _ _ (λ h. broken _ _ _ _ _ _ _ number refl h) c.write_bytes-3.ensures.front
