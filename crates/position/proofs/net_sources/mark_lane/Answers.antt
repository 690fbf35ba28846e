use Rattle.position.proofs.SourceLemmas.{set_here, set_word, set_others}
use Rattle.position.proofs.net_sources.mark_lane.Goals as goal

pub returns-clause-here : goal.returns-clause-here
returns-clause-here c = set_here c.args.words.now c.args.place c.args.l c.requires.place c.requires.lane

pub returns-clause-word : goal.returns-clause-word
returns-clause-word c = λ k other. set_word c.args.words.now c.args.place c.args.l k _ other

pub returns-clause-others : goal.returns-clause-others
returns-clause-others c = λ j k other. set_others c.args.words.now c.args.place c.args.l j k c.requires.place c.requires.lane other
