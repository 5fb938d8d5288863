use Rattle.strips.proofs.put_cell.Goals as goal

pub returns : goal.returns
returns c = rw (c.x_of.ensures.0, c.y_of-y.ensures.0, c.from-w.ensures, c.from-d.ensures) at c.put_box.ensures
