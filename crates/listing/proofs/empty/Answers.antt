use mathlib.Core.Path.{refl}
use Rattle.listing.proofs.Laws.Put.{put-none, line-is}
use native.Mathlib.Omega.{arith}
use Rattle.listing.proofs.empty.Goals as goal

pub returns : goal.returns
returns c = (line-is (put-none _ _) (omega arith) refl, refl)
