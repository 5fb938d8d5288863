use native.Mathlib.Omega.{arith}
use Rattle.printing.proofs.Laws.Taken.{listed_short, long-enough, listed-text}
use Rattle.printing.proofs.list.Goals as goal

pub returns-in_err-asked : goal.returns-in_err-asked
returns-in_err-asked c = listed_short _ _ _ _ (c.in_err-asked.ensures.numbered (omega arith)) c.from_residual.ensures.1

pub write_listing-requires : goal.write_listing-requires
write_listing-requires c = long-enough c.args.file.now _ _ (c.in_ok-asked.ensures.numbered (omega arith))

pub returns : goal.returns
returns c =
    let e = c.write_listing.ensures in
    listed-text _ _ _ (c.in_ok-asked.ensures.numbered (omega arith)) _ _ e.0 e.1
