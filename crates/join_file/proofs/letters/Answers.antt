use Rattle.std.proofs.Common.{ap, take}
use Rattle.planfile_spec.specs.declared.Trailer.{Trailer}
use Rattle.content.specs.Content.{letters_of}
use Rattle.join_file.proofs.letters.Goals as goal

pub trailer-end-requires : goal.trailer-end-requires
trailer-end-requires c = c.requires.long

pub returns : goal.returns
unfolding letters_of
returns c = ap (λ (x : Trailer). take x.begin c.args.file.now) c.trailer-end.ensures
