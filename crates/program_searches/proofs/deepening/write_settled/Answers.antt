use Rattle.std.proofs.Common.{refl, sym, codes, append-nil, []}
use Rattle.program_searches.proofs.Held.{begun, further, ended, broken, on_err}
use Rattle.program_searches.proofs.Errs.{on_ok_map, on_err_map}
use Rattle.program_searches.proofs.deepening.write_settled.Goals as goal

pub returns-in_err-write_bytes-clause-front : goal.returns-in_err-write_bytes-clause-front
returns-in_err-write_bytes-clause-front g c =
    on_err c.from_residual.result _ (broken _ _ _ _ _ _ _ (begun _ _) (sym (append-nil (codes "settled\n"))) c.in_err-write_bytes.ensures.front)

pub returns-clause-whole : goal.returns-clause-whole
returns-clause-whole g c =
    let word = further _ _ _ _ _ _ _ (begun _ _) (sym (append-nil (codes "settled\n"))) c.in_ok-write_bytes.ensures.whole in
    on_ok_map c.flush.result _ _ (λ h. ended _ _ _ _ (further _ _ _ _ _ [] _ word refl h) refl) c.flush.ensures.whole

pub returns-clause-front : goal.returns-clause-front
returns-clause-front g c =
    let word = further _ _ _ _ _ _ _ (begun _ _) (sym (append-nil (codes "settled\n"))) c.in_ok-write_bytes.ensures.whole in
    on_err_map c.flush.result _ _ (λ h. broken _ _ _ _ _ [] _ word refl h) c.flush.ensures.front
