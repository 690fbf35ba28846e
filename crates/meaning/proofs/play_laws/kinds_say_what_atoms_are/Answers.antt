use Rattle.meaning.proofs.AtomKinds.{kind_sound, kind_complete}
use Rattle.meaning.proofs.play_laws.kinds_say_what_atoms_are.Goals as goal

pub returns : goal.returns
returns c = record { sound = kind_sound; complete = kind_complete }
