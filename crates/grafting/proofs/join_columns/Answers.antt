use mathlib.Core.Path.{◌∙◌}
use Rattle.grafting.proofs.Laws.Grafted.{graftable_hangs, columns_are, column-picked}
use Rattle.grafting.proofs.join_columns.Goals as goal

pub join_parents-requires : goal.join_parents-requires
join_parents-requires c = graftable_hangs _ _ _ c.requires

pub returns : goal.returns
returns c =
    let a = c.args in
    columns_are a.first.now a.second.now a.cell _ _ _ _ _ c.join_parents.ensures
    (c.join_values.ensures ∙ column-picked _ _ _ _)
    (c.join_values-2.ensures ∙ column-picked _ _ _ _)
    (c.join_values-3.ensures ∙ column-picked _ _ _ _)
    (c.join_values-4.ensures ∙ column-picked _ _ _ _)
