use Rattle.content.specs.Clean.{mark_of}
use borrow.Author.Rules.{rules}
use Rattle.copying_parts.proofs.mark_of.Goals as goal

pub returns-in-Old : goal.returns-in-Old
unfolding mark_of
returns-in-Old c = search rules

pub returns-in-Wide : goal.returns-in-Wide
unfolding mark_of
returns-in-Wide c = search rules
