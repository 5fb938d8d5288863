use Rattle.joining.proofs.settle_first.Goals as goal

pub returns : goal.returns
returns c = cc
