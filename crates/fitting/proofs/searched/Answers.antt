use mathlib.Core.Path.{sym, ap, ◌∙◌}
use Prim.Native.Nat.{ℕ}
use lib.ListN.{replicate}
use Rattle.plan.specs.Columns.{table_of}
use Rattle.layout.specs.Laid.{Placeable}
use Rattle.fitting.proofs.Laws.Fitted.{again, holds, told-found, told_none}
use Rattle.fitting.proofs.searched.Goals as goal
use Rattle.fitting.proofs.searched.Goals.{After-tops_of-tops}

-- one clearing, for all sheets
placeable : (c : After-tops_of-tops) → Placeable c.args.t c.tops_of-tops.result c.fill.new.self
placeable c =
    record { fit = c.requires.0; rows = c.tops_of-tops.ensures; scratch = c.fill.ensures.after (λ y e. e) ∙ ap (λ (k : ℕ). replicate k 0) c.requires.1 }

pub fits-requires : goal.fits-requires
fits-requires c = placeable (goal.at.fits-requires c).After-tops_of-tops

pub returns-then-fits : goal.returns-then-fits
returns-then-fits c =
    let e = c.halved.ensures in
    (told-found _ _ e.0, e.1)

pub halved-requires : goal.halved-requires
halved-requires c =
    let e = c.fits.ensures in
    record { placeable = again _ _ _ _ (placeable (goal.at.halved-requires c).After-tops_of-tops) e.1; t = holds _ (sym e.0 ∙ c.if-fits.true) }

pub returns : goal.returns
returns c =
    let e = c.fits.ensures in
    (told_none (table_of c.args.t) c.args.squares c.requires.0 (sym e.0 ∙ c.if-fits.false), e.1)
