use Rattle.rules.proofs.TextLemmas.{one_text, no_text}
use Rattle.rules.proofs.role_texts.add_role_text.Goals as goal

pub returns : goal.returns
returns g c = one_text _ _ c.in_ok-bytes.bytes _ _ c.in_ok-push.ensures.items c.in_ok-bytes.ensures c.in-Some.ensures

pub returns-in_default : goal.returns-in_default
returns-in_default g c = no_text _ _ c.in_default.ensures
