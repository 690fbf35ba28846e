use Rattle.std.proofs.Common.{◌∙◌}
use Rattle.util_interner.proofs.ListLemmas.{many_lists}
use Rattle.util_interner.proofs.name_list.NameList.len.Goals as goal

pub returns : goal.returns
returns c = many_lists c.self.inside.ends.items c.self.inside.bytes.items _ _ c.self.view_is (c.len.ensures ∙ c.self.inside.ends.ok.0)
