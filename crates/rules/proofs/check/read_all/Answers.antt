use Rattle.rules_clauses.proofs.Facts.{extends_refl}
use Rattle.rules_profile.proofs.Facts.{are_items}
use Rattle.rules.proofs.NamingLemmas.{draft_grown}
use Rattle.rules.proofs.check.read_all.Goals as goal

pub read_items-requires : goal.read_items-requires
read_items-requires g c = are_items _ c.requires.forms

pub returns-clause-read : goal.returns-clause-read
returns-clause-read g c = draft_grown c.in_ok-draft.draft c.number_keywords.new.store _ c.in_ok-draft.ensures.read c.in_ok-keywords.ensures.grows

pub returns-clause-keywords : goal.returns-clause-keywords
returns-clause-keywords g c = c.in_ok-keywords.ensures.named _ (extends_refl _)
